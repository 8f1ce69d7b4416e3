-- Names of drafts.
use Rattle.std.proofs.Common.{◌≡◌, ◌≢◌, ℕ, zero, suc, ◌+◌, ◌-◌, ◌<◌, ◌≤◌, ◌^◌, List, ◌++◌, length, get_or, take, drop, Some, None, MatchOption, option_map, Option, Result, Ok, Err, IfOk, codes, string_bytes, refl, sym, ap, ◌∙◌, ⊎_elim, arith, Bor, eq-eqb, ne_eqb, lt-ltb, le-ltb, length-append, length-drop, get_or-drop, append_assoc}
use Rattle.std.specs.Fmt.{decimal}
use Rattle.std.specs.Path.{rfind_below, rsplit_once}
use Rattle.std.specs.Str.Pattern.{RFindsChar}
use Rattle.std.specs.declared.alloc.AllocError.{AllocError}
use Rattle.std.specs.declared.string.String.{String}
use Rattle.std.proofs.lemmas.Bool.{cases_eq, cond-true, cond-false}
use Rattle.std.proofs.lemmas.Fmt.{length-decimal-le}
use Rattle.std.proofs.lemmas.Str.{len_utf8_ascii}
use Rattle.std.proofs.lemmas.Str.Pattern.{NoCharPasses-char}
use Rattle.cbor_edn_files.specs.Moments.{draft_of}

-- ---- the last slash

none_below : (c : ℕ) (text : List ℕ) (n : ℕ) → ((i : ℕ) → i < n → get_or text i 0 ≡ c → ⊥) → rfind_below c text n ≡ None
none_below c text zero h = refl
none_below c text (suc n) h = cond-false _ _ _ (ne_eqb _ c (h n (omega arith))) ∙ none_below c text n (λ i l. h i (omega arith))

last_below : (c : ℕ) (text : List ℕ) (k n : ℕ) → k < n → get_or text k 0 ≡ c → ((i : ℕ) → k < i → i < n → get_or text i 0 ≡ c → ⊥) → rfind_below c text n ≡ Some k
last_below c text k zero l at h = absurd (omega arith)
last_below c text k (suc n) l at h =
    ⊎_elim
    (λ e. cond-true _ _ _ (eq-eqb _ c (ap (λ j. get_or text j 0) (sym e) ∙ at)) ∙ ap (λ j. Some j) (sym e))
    (λ other. cond-false _ _ _ (ne_eqb _ c (h n (omega arith) (omega arith))) ∙ last_below c text k n (omega arith) at (λ i a b. h i a (omega arith)))
    (cases_eq k n)

-- what std's call answers
abbrev pub IsSplit : List ℕ → Option (Bor (List ℕ) × Bor (List ℕ)) → Type 0
IsSplit text r = MatchOption r (RFindsChar 47 text None) (λ x. (i : ℕ) × (j : ℕ) × RFindsChar 47 text (Some (i, j)) × (x.0.now ≡ take i text) × (x.1.now ≡ drop j text) × (i ≤ j) × (length x.0.now ≡ i) × (length x.1.now + j ≡ length text))

pub split_at_slash : (text : List ℕ) (r : Option (Bor (List ℕ) × Bor (List ℕ))) → IsSplit text r → option_map (λ x. (x.0.now, x.1.now)) r ≡ rsplit_once 47 text
unfolding rsplit_once
split_at_slash text None h =
    sym (ap (option_map (λ i. (take i text, drop (i + 1) text))) (none_below 47 text (length text) (λ i. NoCharPasses-char 47 text i h (omega arith))))
split_at_slash text (Some x) h =
    let i = h.0 in
    let j = h.1 in
    let next : j ≡ i + 1 = omega (arith, h.2.1.ends, len_utf8_ascii 47 (omega arith)) in
    let later : (k : ℕ) → i < k → k < length text → get_or text k 0 ≡ 47 → ⊥ = λ k a l e.
    let back : j + (k - j) ≡ k = omega arith in
    NoCharPasses-char 47 (drop j text) (k - j) h.2.0 (omega arith) (omega (arith, length-drop j text)) (get_or-drop j text (k - j) 0 ∙ ap (λ n. get_or text n 0) back ∙ e) in
    let found = last_below 47 text i (length text) (omega (arith, h.7)) (h.2.1.byte (omega arith)) later in
    let second = h.4 ∙ ap (λ n. drop n text) next in
    (λ t. Some (h.3 t, second t)) ∙ sym (ap (option_map (λ k. (take k text, drop (k + 1) text))) found)

pub shorter_parts : (text : List ℕ) (x : Bor (List ℕ) × Bor (List ℕ)) → IsSplit text (Some x) → length x.0.now + length x.1.now ≤ length text
shorter_parts text x h = omega (arith, h.5, h.6, h.7)

-- ---- what is made

pub made_is : {A : Type 0} (r : Result (String A) AllocError) (made wanted : List ℕ) → IfOk r (λ s. string_bytes s ≡ made) → made ≡ wanted → IfOk r (λ s. string_bytes s ≡ wanted)
made_is (Err e) made wanted h is = tt
made_is (Ok s) made wanted h is = h ∙ is

pub made_apart : {A : Type 0} (r : Result (String A) AllocError) (made name : List ℕ) → IfOk r (λ s. string_bytes s ≡ made) → length made ≢ length name → IfOk r (λ s. string_bytes s ≢ name)
made_apart (Err e) made name h other = tt
made_apart (Ok s) made name h other = λ e. other (ap length (sym h ∙ e))

pub long_in_folder : (path folder name : List ℕ) (n : ℕ) → Some (folder, name) ≡ rsplit_once 47 path → 120 < length name → folder ++ (codes "/long-name.cbor-edn-" ++ decimal n) ≡ draft_of path n
long_in_folder path folder name n split long = rw (sym split) (rw (lt-ltb 120 (length name) long) (sym (append_assoc folder (codes "/long-name") (codes ".cbor-edn-" ++ decimal n))))

pub short_in_folder : (path folder name : List ℕ) (n : ℕ) → Some (folder, name) ≡ rsplit_once 47 path → length name ≤ 120 → path ++ (codes ".cbor-edn-" ++ decimal n) ≡ draft_of path n
short_in_folder path folder name n split short = rw (sym split) (rw (le-ltb 120 (length name) short) refl)

pub long_alone : (path : List ℕ) (n : ℕ) → None ≡ rsplit_once 47 path → 120 < length path → codes "long-name.cbor-edn-" ++ decimal n ≡ draft_of path n
long_alone path n split long = rw (sym split) (rw (lt-ltb 120 (length path) long) refl)

pub short_alone : (path : List ℕ) (n : ℕ) → None ≡ rsplit_once 47 path → length path ≤ 120 → path ++ (codes ".cbor-edn-" ++ decimal n) ≡ draft_of path n
short_alone path n split short = rw (sym split) (rw (le-ltb 120 (length path) short) refl)

pub length_long : (n : ℕ) → n < 2 ^ 32 → length (codes "long-name.cbor-edn-" ++ decimal n) ≤ 29
length_long n fits = omega (arith, length-append (codes "long-name.cbor-edn-") (decimal n), length-decimal-le 10 n (omega arith) (omega (arith, fits)) (omega (arith, fits)))

pub length_long_in : (folder : List ℕ) (n : ℕ) → n < 2 ^ 32 → length (folder ++ (codes "/long-name.cbor-edn-" ++ decimal n)) ≤ length folder + 30
length_long_in folder n fits =
    omega (arith, length-append folder (codes "/long-name.cbor-edn-" ++ decimal n), length-append (codes "/long-name.cbor-edn-") (decimal n), length-decimal-le 10 n (omega arith) (omega (arith, fits)) (omega (arith, fits)))

pub longer : (name : List ℕ) (n : ℕ) → length name < length (name ++ (codes ".cbor-edn-" ++ decimal n))
longer name n = omega (arith, length-append name (codes ".cbor-edn-" ++ decimal n), length-append (codes ".cbor-edn-") (decimal n))
