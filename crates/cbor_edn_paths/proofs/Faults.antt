-- What is read is a path, each path is read, and where a reader stops no path goes on.
use Rattle.std.proofs.Common.{arith, ◌≡◌, ℕ, zero, suc, ◌+◌, ◌-◌, ◌<◌, ◌≤◌, true, false, List, [], ◌∷◌, ◌++◌, Option, Some, None, refl, sym, ap, subst, ◌∙◌, length, take, drop, get_or, append_assoc, add-one}
use Rattle.std.specs.Prelude.{◌==◌, option_and_then}
use Rattle.std.proofs.Math.Seq.{take-suc, drop-cons}
use Rattle.std.proofs.lemmas.List.{take-append-drop, take-take, take_all, length-take-le, get_or-take}
use Rattle.std.proofs.lemmas.Bool.{eq-eqb}
use Rattle.std.proofs.Math.Dec.{eqb-suc-zero}
use Rattle.cbor_edn_parts.specs.string.Literal.{double_quote}
use Rattle.cbor_edn_paths.specs.Steps as spec
use Rattle.cbor_edn_paths.specs.Steps.{Path}
use Rattle.cbor_edn_paths.specs.Spelling.{path_text, Spells}
use Rattle.cbor_edn_paths.specs.Answers.{IsNone, Begins, IsFaultBehind}
use Rattle.cbor_edn_paths.specs.PathLaws.{PathsReadBack}
use Rattle.cbor_edn_paths.specs.internal.Places.{Place, Start, Root, Dot, InName, InQuotes, Escaped, InBraces, BehindKey, Tilde, Occurrence, StartSign, StartNumber, Opened, Digits, Plus, Closed, close_byte, Reading, begin, after, run, ended}
use Rattle.cbor_edn_paths.specs.declared.place.Inside.{Inside}
use Rattle.cbor_edn_paths.specs.declared.place.Inside.TheVariants as inside
use Rattle.cbor_edn_paths.specs.declared.place.Bracket.{Bracket}
use Rattle.cbor_edn_paths.specs.declared.place.Bracket.TheVariants as bracket
use Rattle.cbor_edn_paths.proofs.Insides.{if_true}
use Rattle.cbor_edn_paths.proofs.PlaceTexts.{nil_right}
use Rattle.cbor_edn_paths.proofs.Readings.{HasRead, HasReadIfAny, run_reads, begin_has_read, SpellsIfAny, ended_spells}
use Rattle.cbor_edn_paths.proofs.Runs.{at, run-append, then_run, byte_run, one_run, in_braces_run, with_step, PathRead, read_nothing, path_read}

pub spelled_read : (text : List ℕ) (p : Path) → Spells text p → PathRead text begin p
spelled_read text p h = subst (λ t. PathRead t begin p) (sym h.is_text) (path_read p h.is_path)

one_end : (p q : Path) (a b : Reading) (r s : Option Reading) → r ≡ s → r ≡ Some a → s ≡ Some b → ended a ≡ Some p → ended b ≡ Some q → q ≡ p
one_end p q a b r s same e f g h = let i : a ≡ b = cc in let j : ended a ≡ ended b = ap ended i in cc

pub paths_read_back : PathsReadBack
paths_read_back p q h g =
    let a = path_read p h in
    let b = spelled_read (path_text p) q g in
    one_end p q a.to b.to (run (path_text p) begin) (run (path_text p) begin) refl a.runs b.runs a.ends b.ends

-- ---- each place can be left for the end of a path

abbrev inside_rest : Inside → List ℕ
inside_rest inside.Plain = []
inside_rest (inside.Quoted q) = q ∷ []
inside_rest (inside.Escaped q) = q ∷ (q ∷ [])
inside_rest (inside.Comment e) = e ∷ []

abbrev closing : ℕ → List ℕ
closing zero = 125 ∷ []
closing (suc d) = 125 ∷ closing d

abbrev rest_of : Place → List ℕ
rest_of Start = 46 ∷ []
rest_of Dot = 97 ∷ []
rest_of (InQuotes x) = double_quote ∷ []
rest_of (Escaped x) = double_quote ∷ (double_quote ∷ [])
rest_of (InBraces x m d) = inside_rest m ++ closing d
rest_of (Tilde k) = 48 ∷ []
rest_of StartSign = 48 ∷ []
rest_of (Opened b) = 48 ∷ (close_byte b ∷ [])
rest_of (Digits b n) = close_byte b ∷ []
rest_of Plus = 93 ∷ []
rest_of q = []

abbrev Completed : List ℕ → Reading → Type 0
Completed x r = (p : Path) × PathRead x r p

no_zero : (d : ℕ) → (suc d == 0) ≡ false
no_zero d = eqb-suc-zero d

close_run : (d : ℕ) (x : List ℕ) (p : Path) → (y : List ℕ) × (run (closing d) (at p (InBraces x inside.Plain d)) ≡ Some (at p (BehindKey (spec.Braced y))))
close_run zero x p = (x, one_run 125 (at p (InBraces x inside.Plain 0)) _ refl)
close_run (suc d) x p =
    let less : suc d - 1 ≡ d = omega arith in
    let rest = close_run d (x ++ (125 ∷ [])) p in
    (rest.0, in_braces_run 125 (closing d) x inside.Plain inside.Plain (suc d) d p _ (no_zero d) (ap (λ n. (inside.Plain, n)) less) rest.1)

same_byte : (q : ℕ) → (q == q) ≡ true
same_byte q = eq-eqb q q refl

braces_done : (d : ℕ) (x : List ℕ) (p : Path) → Completed (closing d) (at p (InBraces x inside.Plain d))
braces_done d x p = let h = close_run d x p in (with_step p (spec.Value (spec.Braced h.0) None), record { to = at p (BehindKey (spec.Braced h.0)); runs = h.1; ends = refl })

before : (c : ℕ) (x : List ℕ) (r s : Reading) → after c r ≡ Some s → Completed x s → Completed (c ∷ x) r
before c x r s e h = (h.0, record { to = h.1.to; runs = byte_run c x r s (Some h.1.to) e h.1.runs; ends = h.1.ends })

quote_done : (q d : ℕ) (x : List ℕ) (p : Path) → Completed (q ∷ closing d) (at p (InBraces x (inside.Quoted q) d))
quote_done q d x p =
    let h = braces_done d (x ++ (q ∷ [])) p in
    (h.0, record { to = h.1.to; runs = in_braces_run q (closing d) x (inside.Quoted q) inside.Plain d d p _ refl (if_true (q == q) _ _ (same_byte q)) h.1.runs; ends = h.1.ends })

inside_done : (m : Inside) (d : ℕ) (x : List ℕ) (p : Path) → Completed (inside_rest m ++ closing d) (at p (InBraces x m d))
inside_done inside.Plain d x p = braces_done d x p
inside_done (inside.Quoted q) d x p = quote_done q d x p
inside_done (inside.Escaped q) d x p = before q (q ∷ closing d) (at p (InBraces x (inside.Escaped q) d)) (at p (InBraces (x ++ (q ∷ [])) (inside.Quoted q) d)) refl (quote_done q d (x ++ (q ∷ [])) p)
inside_done (inside.Comment e) d x p =
    let h = braces_done d (x ++ (e ∷ [])) p in
    (h.0, record { to = h.1.to; runs = in_braces_run e (closing d) x (inside.Comment e) inside.Plain d d p _ refl (if_true (e == e) _ _ (same_byte e)) h.1.runs; ends = h.1.ends })

done : (r : Reading) (p : Path) → ended r ≡ Some p → Completed [] r
done r p e = (p, read_nothing r p e)

bracket_done : (b : Bracket) (n : ℕ) (p : Path) → Completed (close_byte b ∷ []) (at p (Digits b n))
bracket_done bracket.Square n p = before 93 [] (at p (Digits bracket.Square n)) (at (with_step p (spec.Element n)) Closed) refl (done _ _ refl)
bracket_done bracket.Round n p = before 41 [] (at p (Digits bracket.Round n)) (at (with_step p (spec.Content (Some n))) Closed) refl (done _ _ refl)
bracket_done bracket.Angle n p = before 62 [] (at p (Digits bracket.Angle n)) (at (with_step p (spec.Embedded n)) Closed) refl (done _ _ refl)

completed : (p : Path) (q : Place) → Completed (rest_of q) (at p q)
completed p Start = before 46 [] (at p Start) (at p Root) refl (done _ _ refl)
completed p Root = done _ p refl
completed p Dot = before 97 [] (at p Dot) (at p (InName (97 ∷ []))) refl (done _ _ refl)
completed p (InName x) = done _ _ refl
completed p (InQuotes x) = before double_quote [] (at p (InQuotes x)) (at p (BehindKey (spec.Quoted x))) refl (done _ _ refl)
completed p (Escaped x) = before double_quote (double_quote ∷ []) (at p (Escaped x)) (at p (InQuotes (x ++ (double_quote ∷ [])))) refl (before double_quote [] _ (at p (BehindKey (spec.Quoted (x ++ (double_quote ∷ []))))) refl (done _ _ refl))
completed p (InBraces x m d) = inside_done m d x p
completed p (BehindKey k) = done _ _ refl
completed p (Tilde k) = before 48 [] (at p (Tilde k)) (at p (Occurrence k 0)) refl (done _ _ refl)
completed p (Occurrence k n) = done _ _ refl
completed p StartSign = before 48 [] (at p StartSign) (at p (StartNumber 0)) refl (done _ _ refl)
completed p (StartNumber n) = done _ _ refl
completed p (Opened b) = before 48 (close_byte b ∷ []) (at p (Opened b)) (at p (Digits b 0)) refl (bracket_done b 0 p)
completed p (Digits b n) = bracket_done b n p
completed p Plus = before 93 [] (at p Plus) (at (with_step p spec.PastLast) Closed) refl (done _ _ refl)
completed p Closed = done _ p refl

spells_end : (text : List ℕ) (r : Reading) (p : Path) → HasRead text r → ended r ≡ Some p → Spells text p
spells_end text r p h e = subst (SpellsIfAny text) e (ended_spells text r h)

pub whole_spells : (text : List ℕ) (r : Reading) (p : Path) → run text begin ≡ Some r → ended r ≡ Some p → Spells text p
whole_spells text r p e f = spells_end text r p (subst (HasReadIfAny text) e (run_reads text [] begin begin_has_read)) f

begins : (front : List ℕ) (r : Reading) → run front begin ≡ Some r → Begins front
begins front r e =
    let c = completed r.so_far r.place in
    (rest_of r.place, c.0, whole_spells (front ++ rest_of r.place) c.1.to c.0 (then_run front (rest_of r.place) begin r (Some c.1.to) e c.1.runs) c.1.ends)

-- ---- faults

stuck : (front : List ℕ) (c : ℕ) (y : List ℕ) (r : Reading) → run front begin ≡ Some r → after c r ≡ None → run (front ++ (c ∷ y)) begin ≡ None
unfolding run
stuck front c y r e f = run-append front (c ∷ y) begin ∙ ap (λ o. option_and_then (run (c ∷ y)) o) e ∙ ap (λ o. option_and_then (run y) o) f

no_path : (text : List ℕ) (o : Option Reading) → run text begin ≡ o → o ≡ None → IsNone text
no_path text o e f = λ p h. let g = spelled_read text p h in let i : run text begin ≡ Some g.to = g.runs in absurd (cc)

cut_there : (text : List ℕ) (at n : ℕ) → at < n → n ≤ length text → take n text ≡ take at text ++ (get_or text at 0 ∷ drop (suc at) (take n text))
cut_there text k n lt le =
    let short : k < length (take n text) = rw length-take-le lt in
    let front : take k (take n text) ≡ take k text = take-take k n text (omega arith) in
    let same : get_or (take n text) k 0 ≡ get_or text k 0 = get_or-take n text k 0 lt in
    sym (take-append-drop k (take n text)) ∙ ap (λ x. x ++ drop k (take n text)) front
    ∙ ap (λ x. take k text ++ x) (drop-cons (take n text) k 0 short ∙ ap (λ b. b ∷ drop (suc k) (take n text)) same)

stuck_front : (text : List ℕ) (k c n : ℕ) (r : Reading) → get_or text k 0 ≡ c → run (take k text) begin ≡ Some r → after c r ≡ None → k < n → n ≤ length text → Begins (take n text) → ⊥
stuck_front text k c n r is e f lt le b =
    let split : take n text ++ b.0 ≡ take k text ++ (c ∷ (drop (suc k) (take n text) ++ b.0)) =
    ap (λ x. x ++ b.0) (cut_there text k n lt le ∙ ap (λ i. take k text ++ (i ∷ drop (suc k) (take n text))) is)
    ∙ append_assoc (take k text) (c ∷ drop (suc k) (take n text)) b.0 in
    no_path (take n text ++ b.0) (run (take n text ++ b.0) begin) refl (ap (λ x. run x begin) split ∙ stuck (take k text) c (drop (suc k) (take n text) ++ b.0) r e f) b.1 b.2

-- A byte leads no further.
pub stopped : (text : List ℕ) (k c : ℕ) (r : Reading) → k < length text → get_or text k 0 ≡ c → run (take k text) begin ≡ Some r → after c r ≡ None → IsFaultBehind text k
stopped text k c r lt is e f =
    let all : take (length text) text ≡ text = take_all (length text) text (omega arith) in
    record {
      within = omega arith;
      begins = begins (take k text) r e;
      no_further = λ n less within b. stuck_front text k c n r is e f less within b;
      none = λ p h. stuck_front text k c (length text) r is e f lt (omega arith) ([], p, subst (λ t. Spells t p) (sym (nil_right _ ∙ all)) h);
    }

-- The text ends too early.
pub ended_early : (text : List ℕ) (r : Reading) → run text begin ≡ Some r → ended r ≡ None → IsFaultBehind text (length text)
ended_early text r e f =
    let all : take (length text) text ≡ text = take_all (length text) text (omega arith) in
    record {
      within = omega arith;
      begins = subst Begins (sym all) (begins text r e);
      no_further = λ n less within b. absurd (omega arith);
      none = λ p h. let g = spelled_read text p h in let i : run text begin ≡ Some g.to = g.runs in let j : ended g.to ≡ Some p = g.ends in let s : r ≡ g.to = cc in let t : ended r ≡ ended g.to = ap ended s in absurd (cc);
    }

-- One byte more is read.
pub read_on : (text : List ℕ) (k c : ℕ) (r s : Reading) → k < length text → get_or text k 0 ≡ c → run (take k text) begin ≡ Some r → after c r ≡ Some s → run (take (k + 1) text) begin ≡ Some s
read_on text k c r s lt is e f =
    let more : take (k + 1) text ≡ take k text ++ (c ∷ []) = rw add-one (take-suc text k 0 lt ∙ ap (λ b. take k text ++ (b ∷ [])) is) in
    ap (λ t. run t begin) more ∙ then_run (take k text) (c ∷ []) begin r (Some s) e (one_run c r (Some s) f)
