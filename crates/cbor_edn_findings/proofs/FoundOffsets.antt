-- The longest sound front ends where the walk does.
use Rattle.std.proofs.Common.{◌≡◌, ◌≢◌, ℕ, zero, suc, ◌+◌, ◌-◌, ◌≤◌, ◌<◌, Bool, true, false, cond, ltb, eqb, take, drop, List, [], ◌∷◌, ◌++◌, length, Option, Some, None, Result, Ok, Err, refl, sym, ap, subst, ◌∙◌, append_assoc, arith, inl, inr}
use Rattle.std.specs.Prelude.{option_map, reverse}
use Rattle.std.specs.List.{flat_map, AllByRecursion}
use Rattle.std.proofs.lemmas.Bool.{cases_lt, eqb-true, eqb-false, ltb-false, ne_eqb}
use Rattle.std.proofs.lemmas.List.{append-nil, length-append, length-take, take-append-drop, reverse-append}
use Rattle.std.proofs.lemmas.List.Elements.{All-from_get_or}
use Rattle.std.proofs.Math.Seq.{drop-append_seam}
use Rattle.cbor_edn_parts.specs.declared.string.StringKind.{StringKind}
use Rattle.cbor_edn_parts.specs.declared.string.StringKind.TheVariants.{Bytes, Text}
use Rattle.cbor_edn_model.specs.declared.cbor.heads.Width.{Width}
use Rattle.cbor_edn_model.specs.declared.cbor.decode.CborError.{CborError}
use Rattle.cbor_edn_model.specs.declared.cbor.decode.CborError.TheVariants.{OutOfData}
use Rattle.cbor_edn_model.specs.cbor.Value.{Chunk, head, open_head, string_major, is_content, ArgumentFits, AreBytes, chunk_encoding}
use Rattle.cbor_edn_parts.specs.declared.base.error.Fault.{Fault}
use Rattle.cbor_edn_parts.specs.declared.base.error.Fault.TheVariants.{Told}
use Rattle.cbor_edn_model.specs.internal.CborReading.{Argument, Head, DecoderResult, DecoderFails, head_at}
use Rattle.cbor_edn_model.proofs.lemmas.cbor.Nestings.{items_nest}
use Rattle.cbor_edn_model.proofs.lemmas.cbor.CborHeads.{IsBytes, IsBytes-take, IsBytes-drop, chosen, head_again, open_again, HeadIs, head_takes}
use Rattle.cbor_edn_findings.specs.declared.bytes.Open.{Open}
use Rattle.cbor_edn_findings.specs.FaultOffsets.{IsSequence, IsHead, with_argument, indefinite, of_string, AreHeads, IsSoundFront, IsFaultOffset}
use Rattle.cbor_edn_findings.specs.internal.Steps.{Opened, Content, closed, gone_closed, gone_behind, behind_content, step_behind, step_by, step}
use Rattle.cbor_edn_findings.proofs.Completions.{IsAll, Completes, can, close_off, closed_is, Goes, goes, goes_step}
use Rattle.cbor_edn_findings.proofs.Advances.{Leads, some_is, none_some, gone_with, gone_open, string_content, Advances, advances}

all_of : (limit : ℕ) (bytes : List ℕ) → IsSequence limit bytes → IsAll limit bytes
all_of limit bytes h = record { values = h.values; fits = h.encoded.0; within = omega (arith, h.within, items_nest h.values); parts = h.encoded.1 }

sequence_of : (limit : ℕ) (bytes : List ℕ) → IsAll limit bytes → IsSequence limit bytes
sequence_of limit bytes h = record { values = h.values; encoded = (h.fits, h.parts); within = omega (arith, h.within, items_nest h.values) }

-- ---- heads one behind the other

abbrev joined : List (List ℕ) → List ℕ
joined heads = flat_map (λ h. h) heads

one_more : (hs : List (List ℕ)) → AllByRecursion IsHead hs → (b : List ℕ) → IsHead b → (ks : List (List ℕ)) × AllByRecursion IsHead ks × (joined hs ++ b ≡ joined ks)
one_more [] all b h = (b ∷ [], (h, tt), sym (append-nil b))
one_more (a ∷ hs) all b h =
    let k = one_more hs all.1 b h in
    (a ∷ k.0, (all.0, k.1), append_assoc a (joined hs) b ∙ ap (λ (l : List ℕ). a ++ l) k.2)

heads_and : (a b : List ℕ) → AreHeads a → IsHead b → AreHeads (a ++ b)
heads_and a b h is =
    let k = one_more h.0 h.1 b is in
    (k.0, k.1, ap (λ (l : List ℕ). l ++ b) h.2 ∙ k.2)

abbrev content_len : ℕ → Argument → ℕ
content_len major None = 0
content_len major (Some (w, n)) = cond (eqb major 2) n (cond (eqb major 3) n 0)

abbrev after_by : DecoderResult Head → List ℕ
after_by (Err e) = []
after_by (Ok (h, rest)) = drop (content_len h.0 h.1) rest

-- what stands behind the first head
abbrev after : List ℕ → List ℕ
after bytes = after_by (head_at bytes)

no_content : (major n : ℕ) (x : List ℕ) → major ≢ 2 → major ≢ 3 → drop (cond (eqb major 2) n (cond (eqb major 3) n 0)) x ≡ x
no_content major n x not_bytes not_text =
    let a : eqb major 2 ≡ false = ne_eqb major 2 not_bytes in
    let b : eqb major 3 ≡ false = ne_eqb major 3 not_text in
    rw (a, b) refl

string_len : (k : StringKind) (w : Width) (n : ℕ) → content_len (string_major k) (Some (w, n)) ≡ n
string_len Bytes w n = refl
string_len Text w n = refl

string_read : (k : StringKind) (c : Chunk) (x : List ℕ) → ArgumentFits c.0 (length c.1) → head_at (chunk_encoding k c ++ x) ≡ Ok ((string_major k, Some (c.0, length c.1)), c.1 ++ x)
string_read k c x fits = ap head_at (append_assoc (head (string_major k) c.0 (length c.1)) c.1 x) ∙ head_again (string_major k) c.0 (length c.1) (c.1 ++ x) fits

after_head : (f x : List ℕ) → IsHead f → after (f ++ x) ≡ x
after_head f x (with_argument major w n lt not_bytes not_text fits is) = ap (λ (l : List ℕ). after (l ++ x)) is ∙ (ap after_by (head_again major w n x fits) ∙ no_content major n x not_bytes not_text)
after_head f x (indefinite major lt is) = ap (λ (l : List ℕ). after (l ++ x)) is ∙ ap after_by (open_again major x)
after_head f x (of_string k c fits is) =
    ap (λ (l : List ℕ). after (l ++ x)) is ∙ (ap after_by (string_read k c x fits.0) ∙ (ap (λ n. drop n (c.1 ++ x)) (string_len k c.0 (length c.1)) ∙ drop-append_seam c.1 x))

has_head : (f x : List ℕ) → IsHead f → (y : Head × List ℕ) × (head_at (f ++ x) ≡ Ok y)
has_head f x (with_argument major w n lt not_bytes not_text fits is) = (((major, Some (w, n)), x), ap (λ (l : List ℕ). head_at (l ++ x)) is ∙ head_again major w n x fits)
has_head f x (indefinite major lt is) = (((major, None), x), ap (λ (l : List ℕ). head_at (l ++ x)) is ∙ open_again major x)
has_head f x (of_string k c fits is) = (((string_major k, Some (c.0, length c.1)), c.1 ++ x), ap (λ (l : List ℕ). head_at (l ++ x)) is ∙ string_read k c x fits.0)

abbrev read_head : Head × List ℕ → DecoderResult Head
read_head y = Ok y

abbrev no_head : CborError → DecoderResult Head
no_head e = Err e

never_both : (y : Head × List ℕ) (e : CborError) → read_head y ≡ no_head e → ⊥
never_both y e is = cc

of_nothing : head_at [] ≡ no_head OutOfData
unfolding head_at
of_nothing = refl

not_empty : (f x : List ℕ) → IsHead f → f ++ x ≢ []
not_empty f x h e = let y = has_head f x h in never_both y.0 OutOfData (sym y.1 ∙ (ap head_at e ∙ of_nothing))

-- heads that begin with heads go on with heads
without_front : (hs : List (List ℕ)) → AllByRecursion IsHead hs → (ks : List (List ℕ)) → AllByRecursion IsHead ks → (ys : List ℕ) → joined ks ≡ joined hs ++ ys → (ls : List (List ℕ)) × AllByRecursion IsHead ls × (joined ls ≡ ys)
without_front [] hs_are ks ks_are ys e = (ks, ks_are, e)
without_front (h ∷ hs) hs_are [] ks_are ys e = absurd (not_empty h (joined hs ++ ys) hs_are.0 (sym (e ∙ append_assoc h (joined hs) ys)))
without_front (h ∷ hs) hs_are (k ∷ ks) ks_are ys e =
    without_front hs hs_are.1 ks ks_are.1 ys (sym (after_head k (joined ks) ks_are.0) ∙ (ap after (e ∙ append_assoc h (joined hs) ys) ∙ after_head h (joined hs ++ ys) hs_are.0))

first_of : (ls : List (List ℕ)) → AllByRecursion IsHead ls → (m : List ℕ) → joined ls ≡ m → 0 < length m → (f : List ℕ) × (more : List ℕ) × IsHead f × (m ≡ f ++ more)
first_of [] all m e lt = absurd (let none : 0 ≡ length m = ap length e in omega (arith, none, lt))
first_of (f ∷ fs) all m e lt = (f, joined fs, all.0, sym e)

-- ---- what a step takes

record Begins (bytes front behind : List ℕ) : Type 0 where
  parts : bytes ≡ front ++ behind
  is_head : IsHead front
  fits : IsBytes behind

mapped_is : (o : Option (List ℕ)) (u t : Opened) (b : List ℕ) → option_map {U = Opened × List ℕ} (λ (r : List ℕ). (u, r)) o ≡ Some (t, b) → o ≡ Some b
mapped_is None u t b e = absurd (none_some (t, b) e)
mapped_is (Some r) u t b e = ap (λ (q : Opened × List ℕ). Some q.1) (some_is (u, r) (t, b) e)

left_is : (p : Opened × Content) (c : Content) (rest : List ℕ) (t : Opened) (b : List ℕ) → p.1 ≡ c → step_behind rest (Some p) ≡ Some (t, b) → behind_content c rest ≡ Some b
left_is p c rest t b same e = ap (λ (d : Content). behind_content d rest) (sym same) ∙ mapped_is (behind_content p.1 rest) p.0 t b e

nothing_left : (rest b : List ℕ) → behind_content None rest ≡ Some b → rest ≡ b
nothing_left rest b e = some_is rest b e

string_begins : (k : StringKind) (w : Width) (n : ℕ) (bytes rest b : List ℕ) → HeadIs bytes (string_major k) (Some (w, n)) rest → behind_content (Some (k, n)) rest ≡ Some b → (front : List ℕ) × Begins bytes front b
string_begins k w n bytes rest b h e =
    elim (chosen (ltb (length rest) n) None (cond (is_content k (take n rest)) (Some (drop n rest)) None) (Some b) e) [
      | inl short ↦ absurd (none_some b short.1)
      | inr long ↦ elim (chosen (is_content k (take n rest)) (Some (drop n rest)) None (Some b) long.1) [
        | inr wrong ↦ absurd (none_some b wrong.1)
        | inl good ↦ (
            let enough : n ≤ length rest = ltb-false (length rest) n long.0 in
            let content : List ℕ = take n rest in
            let len : length (take n rest) ≡ n = omega (arith, length-take n rest, enough) in
            let same : drop n rest ≡ b = some_is (drop n rest) b good.1 in
            let are_bytes : AreBytes (take n rest) = All-from_get_or (λ c. c < 256) (take n rest) 0 (λ i lt. IsBytes-take n rest h.1.rest_fits i) in
            let major = string_major k in (
              chunk_encoding k (w, take n rest),
              record {
                parts = h.1.parts ∙ (ap (λ j. head (string_major k) w j ++ rest) (sym len) ∙ (ap (λ (l : List ℕ). head (string_major k) w (length (take n rest)) ++ l) (sym (take-append-drop n rest))
                    ∙ (sym (append_assoc (head (string_major k) w (length (take n rest))) (take n rest) (drop n rest)) ∙ ap (λ (l : List ℕ). (head (string_major k) w (length (take n rest)) ++ take n rest) ++ l) same)));
                is_head = of_string k (w, take n rest) (subst (ArgumentFits w) (sym len) h.0, are_bytes, good.0) refl;
                fits = subst IsBytes same (IsBytes-drop n rest h.1.rest_fits);
              },
            ))
      ]
    ]

module _ (limit : ℕ) (s : Opened) (bytes : List ℕ) (t : Opened) (b : List ℕ) where
  abbrev Front : Type 0
  Front = (front : List ℕ) × Begins bytes front b

  open_begins : (major : ℕ) (rest : List ℕ) → HeadIs bytes major None rest → major < 8 → (o : Option (Opened × Content)) → gone_behind limit s major None ≡ o → step_behind rest o ≡ Some (t, b) → Front
  open_begins major rest h lt None is e = absurd (none_some (t, b) e)
  open_begins major rest h lt (Some p) is e =
      let l = gone_open limit (closed s) (closed_is s) major lt p is in
      (open_head major ∷ [], subst (λ (c : List ℕ). Begins bytes (open_head major ∷ []) c) (nothing_left rest b (left_is p None rest t b l.content_is e)) (record { parts = h.parts; is_head = indefinite major lt refl; fits = h.rest_fits }))

  plain_begins : (major : ℕ) (w : Width) (n : ℕ) (rest : List ℕ) → major ≢ 2 → major ≢ 3 → HeadIs bytes major (Some (w, n)) rest → major < 8 → (p : Opened × Content) → gone_behind limit s major (Some (w, n)) ≡ Some p → step_behind rest (Some p) ≡ Some (t, b) → Front
  plain_begins major w n rest not_bytes not_text h lt p is e =
      let l = gone_with limit (closed s) (closed_is s) major w n lt not_bytes not_text h.0 p is in
      (head major w n, subst (λ (c : List ℕ). Begins bytes (head major w n) c) (nothing_left rest b (left_is p None rest t b l.content_is e)) (record { parts = h.1.parts; is_head = with_argument major w n lt not_bytes not_text h.0 refl; fits = h.1.rest_fits }))

  text_begins : (k : StringKind) (major : ℕ) (w : Width) (n : ℕ) (rest : List ℕ) → major ≡ string_major k → HeadIs bytes major (Some (w, n)) rest → (p : Opened × Content) → gone_behind limit s major (Some (w, n)) ≡ Some p → step_behind rest (Some p) ≡ Some (t, b) → Front
  text_begins k major w n rest same h p is e =
      string_begins k w n bytes rest b (subst (λ m. HeadIs bytes m (Some (w, n)) rest) same h)
      (left_is p (Some (k, n)) rest t b (string_content limit (closed s) k w n p (ap (λ m. gone_behind limit s m (Some (w, n))) (sym same) ∙ is)) e)

  with_begins : (major : ℕ) (w : Width) (n : ℕ) (rest : List ℕ) → HeadIs bytes major (Some (w, n)) rest → major < 8 → (o : Option (Opened × Content)) → gone_behind limit s major (Some (w, n)) ≡ o → step_behind rest o ≡ Some (t, b)
      → (x y : Bool) → eqb major 2 ≡ x → eqb major 3 ≡ y → Front
  with_begins major w n rest h lt None is e x y first second = absurd (none_some (t, b) e)
  with_begins major w n rest h lt (Some p) is e true y first second = text_begins Bytes major w n rest (eqb-true major 2 first) h p is e
  with_begins major w n rest h lt (Some p) is e false true first second = text_begins Text major w n rest (eqb-true major 3 second) h p is e
  with_begins major w n rest h lt (Some p) is e false false first second = plain_begins major w n rest (eqb-false major 2 first) (eqb-false major 3 second) h lt p is e

  head_begins : (major : ℕ) (argument : Argument) (rest : List ℕ) → HeadIs bytes major argument rest → major < 8 → step_behind rest (gone_behind limit s major argument) ≡ Some (t, b) → Front
  head_begins major None rest h lt e = open_begins major rest h lt (gone_behind limit s major None) refl e
  head_begins major (Some (w, n)) rest h lt e = with_begins major w n rest h lt (gone_behind limit s major (Some (w, n))) refl e (eqb major 2) (eqb major 3) refl refl

  read_begins : IsBytes bytes → (x : DecoderResult Head) → head_at bytes ≡ x → step_by limit s x ≡ Some (t, b) → Front
  read_begins fits (Err d) is e = absurd (none_some (t, b) e)
  read_begins fits (Ok (h, rest)) is e = let taken = head_takes bytes (h, rest) fits is in head_begins h.0 h.1 rest taken.0 taken.1 e

  begins : IsBytes bytes → step limit s bytes ≡ Some (t, b) → Front
  begins fits e = read_begins fits (head_at bytes) refl e

-- ---- the walk

-- The walk is there, with this open: what completes it completes with the bytes in front a sequence, and only that.
pub record Reached (limit : ℕ) (bytes rest : List ℕ) (s : Opened) : Type 0 where
  pub front : List ℕ
  pub parts : bytes ≡ front ++ rest
  pub heads : AreHeads front
  pub fits : IsBytes rest
  pub to : (y : List ℕ) → Completes limit s y → IsAll limit (front ++ y)
  pub from : (y : List ℕ) → IsAll limit (front ++ y) → Completes limit s y

pub start : (limit : ℕ) (bytes : List ℕ) → IsBytes bytes → Reached limit bytes bytes []
start limit bytes fits = record { front = []; parts = refl; heads = ([], tt, refl); fits = fits; to = λ y c. c; from = λ y c. c }

goes_on : (limit : ℕ) (s : Opened) (f y : List ℕ) → IsHead f → Completes limit s (f ++ y) → Goes limit (closed s) (f ++ y)
goes_on limit s f y h c = goes limit (closed s) (f ++ y) (closed_is s) (not_empty f y h) (close_off limit s (f ++ y) c)

advanced_from : (limit : ℕ) (s t : Opened) (f y : List ℕ) → IsHead f → Advances limit s t f → Completes limit s (f ++ y) → Completes limit t y
advanced_from limit s t f y h a c =
    let g = goes_on limit s f y h c in
    subst (λ (q : Opened × List ℕ). Completes limit q.0 q.1) (some_is (g.state, g.behind) (t, y) (sym (goes_step limit s (f ++ y) g) ∙ a.again y)) g.on

pub further_on : (limit : ℕ) (bytes rest : List ℕ) (s t : Opened) (b : List ℕ) → Reached limit bytes rest s → step limit s rest ≡ Some (t, b) → Reached limit bytes b t
further_on limit bytes rest s t b r e =
    let p = begins limit s rest t b r.fits e in
    let a = advances limit s p.0 p.1.is_head b b t (ap (step limit s) (sym p.1.parts) ∙ e) in
    record {
      front = r.front ++ p.0;
      parts = r.parts ∙ (ap (λ (l : List ℕ). r.front ++ l) p.1.parts ∙ sym (append_assoc r.front p.0 b));
      heads = heads_and r.front p.0 r.heads p.1.is_head;
      fits = p.1.fits;
      to = λ y c. subst (IsAll limit) (sym (append_assoc r.front p.0 y)) (r.to (p.0 ++ y) (a.completes y c));
      from = λ y c. advanced_from limit s t p.0 y p.1.is_head a (r.from (p.0 ++ y) (subst (IsAll limit) (append_assoc r.front p.0 y) c));
    }

abbrev tail_of : List ℕ → List ℕ
tail_of [] = []
tail_of (x ∷ xs) = xs

abbrev first_byte : List ℕ → ℕ
first_byte [] = 0
first_byte (x ∷ xs) = x

beyond : (a b c d : List ℕ) → a ++ b ≡ c ++ d → length a < length c → (m : List ℕ) × (c ≡ a ++ m) × (b ≡ m ++ d) × (0 < length m)
beyond [] b c d e lt = (c, refl, e, lt)
beyond (x ∷ a) b [] d e lt = absurd (omega (arith, lt))
beyond (x ∷ a) b (y ∷ c) d e lt =
    let h = beyond a b c d (ap tail_of e) (omega (arith, lt)) in
    (h.0, ap (λ z. z ∷ c) (sym (ap first_byte e)) ∙ ap (λ (l : List ℕ). x ∷ l) h.1, h.2, h.3)

module _ (limit : ℕ) (bytes rest : List ℕ) (s : Opened) (r : Reached limit bytes rest s) (stopped : step limit s rest ≡ None) where
  no_longer : (other : List ℕ) → IsSoundFront limit bytes other → length r.front < length other → ⊥
  no_longer other o lt =
      let m = beyond r.front rest other o.behind (sym r.parts ∙ o.parts) lt in
      let more = without_front r.heads.0 r.heads.1 o.heads.0 o.heads.1 m.0 (sym o.heads.2 ∙ (m.1 ∙ ap (λ (l : List ℕ). l ++ m.0) r.heads.2)) in
      let first = first_of more.0 more.1 m.0 more.2 m.3 in
      let f : List ℕ = first.0 in
      let behind : List ℕ = first.1 in
      let regroup : (z : List ℕ) → m.0 ++ z ≡ first.0 ++ (first.1 ++ z) = λ z. ap (λ (l : List ℕ). l ++ z) first.3 ∙ append_assoc first.0 first.1 z in
      let all : IsAll limit (r.front ++ (m.0 ++ o.others)) = subst (IsAll limit) (ap (λ (l : List ℕ). l ++ o.others) m.1 ∙ append_assoc r.front m.0 o.others) (all_of limit (other ++ o.others) o.begins) in
      let c : Completes limit s (first.0 ++ (first.1 ++ o.others)) = subst (Completes limit s) (regroup o.others) (r.from (m.0 ++ o.others) all) in
      let g = goes_on limit s first.0 (first.1 ++ o.others) first.2 c in
      let a = advances limit s first.0 first.2 (first.1 ++ o.others) g.behind g.state (goes_step limit s (first.0 ++ (first.1 ++ o.others)) g) in
      none_some (g.state, first.1 ++ o.behind) (sym stopped ∙ (ap (step limit s) (m.2 ∙ regroup o.behind) ∙ a.again (first.1 ++ o.behind)))

  longest : (other : List ℕ) → IsSoundFront limit bytes other → length other ≤ length r.front
  longest other o = elim (cases_lt (length r.front) (length other)) [ inl lt ↦ absurd (no_longer other o lt) | inr le ↦ le ]

  pub stops : (offset : ℕ) → offset + length rest ≡ length bytes → IsFaultOffset limit bytes offset
  stops offset e =
      let k = can limit s in
      let len : length r.front ≡ offset = omega (arith, e, ap length r.parts, length-append r.front rest) in (
        r.front,
        record { behind = rest; parts = r.parts; heads = r.heads; others = k.0; begins = sequence_of limit (r.front ++ k.0) (r.to k.0 k.1) },
        len,
        λ other o. omega (arith, longest other o, len),
      )

-- ---- the top of what is open

pub popped : (old new : List Open) (o : Open) → old ≡ new ++ (o ∷ []) → reverse old ≡ o ∷ reverse new
popped old new o e = ap reverse e ∙ reverse-append new (o ∷ [])

-- ---- what stops the walk, in the code's words

pub not_read : (f : Fault CborError) (d : CborError) (r : DecoderResult Head) (limit : ℕ) (s : Opened) → f ≡ Told d → DecoderFails f r → step_by limit s r ≡ None
not_read f d r limit s is fails = ap (step_by limit s) (subst (λ g. DecoderFails g r) is fails)
