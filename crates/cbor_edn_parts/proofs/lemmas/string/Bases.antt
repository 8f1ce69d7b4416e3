-- Bytes by symbols.
use Rattle.std.proofs.Common.{ℕ, ◌+◌, ◌-◌, ◌*◌, ◌/◌, ◌%◌, ◌^◌, ◌<◌, ◌≤◌, ◌≡◌, ◌≢◌, Bool, true, false, List, [], ◌∷◌, ◌++◌, Option, Some, None, option_map, refl, sym, ap, ◌∙◌, eqb, eqb-true, ltb, ltb-true, length, zero-mul, append_assoc, subst, ⊎_elim, arith}
use Rattle.std.proofs.lemmas.Bool.Decides.{nat_tests}
use Rattle.std.proofs.lemmas.Nat.{shr_split, pow_pos, pow-add, shl_whole, or_shifted, one_shl, mod_below, mul-add-lt, shr_below}
use Rattle.std.proofs.lemmas.List.{length-append, append-nil}
use Rattle.std.proofs.lemmas.Bool.{and_parts, cases_lt, ne_eqb}
use Rattle.std.proofs.lemmas.List.Elements.{All-head, All-tail, All-cons}
use Rattle.std.specs.Prelude.{All, ◌↔◌, bit_or, if◌then◌else◌, ◌&&◌}
use Rattle.cbor_edn_parts.specs.string.Contents.{Alphabet, AreSymbols, end, IsBase, bits_of, base64_symbol, base32_symbol, base32hex_symbol}
use Rattle.cbor_edn_parts.specs.internal.ContentReading.{base_bytes}
use Rattle.cbor_edn_parts.specs.string.Contents.{joined_bits, ignored as ignored_symbol, symbol as a_symbol}
use Rattle.cbor_edn_parts.proofs.lemmas.string.Bits.{length-bits_of, bits_split, same_bits, zero_bits, no_bits}
use Rattle.cbor_edn_parts.specs.internal.Alphabets.{alphabet}
use Rattle.cbor_edn_parts.specs.declared.string.base.Alphabet as code
use Rattle.cbor_edn_parts.specs.declared.string.base.Alphabet.TheVariants.{Base64, Base32, Base32Hex}

pub small_base64 : (c s : ℕ) → base64_symbol c ≡ Some s → s < 64
small_base64 c s e = grind (arith, nat_tests)

pub small_base32 : (c s : ℕ) → base32_symbol c ≡ Some s → s < 32
small_base32 c s e = grind (arith, nat_tests)

pub small_base32hex : (c s : ℕ) → base32hex_symbol c ≡ Some s → s < 32
small_base32hex c s e = grind (arith, nat_tests)

pub small : (a : code.Alphabet) (c s : ℕ) → (alphabet a).symbol c ≡ Some s → s < 2 ^ (alphabet a).bits
small Base64 c s e = small_base64 c s e
small Base32 c s e = small_base32 c s e
small Base32Hex c s e = small_base32hex c s e

pub bits_bounds : (a : code.Alphabet) → (4 < (alphabet a).bits) × ((alphabet a).bits < 7)
bits_bounds Base64 = (omega arith, omega arith)
bits_bounds Base32 = (omega arith, omega arith)
bits_bounds Base32Hex = (omega arith, omega arith)

module _ (a : Alphabet) (n r c : ℕ) (t : List ℕ) where
  pub base_ignored : c ≡ 61 → base_bytes a n r (c ∷ t) ≡ base_bytes a n r t
  unfolding base_bytes
  base_ignored e = rw e

  pub base_no_symbol : eqb c 61 ≡ false → a.symbol c ≡ None → base_bytes a n r (c ∷ t) ≡ None
  unfolding base_bytes
  base_no_symbol e none = rw (e, none)

  pub base_fewer : (s : ℕ) → eqb c 61 ≡ false → a.symbol c ≡ Some s → n + a.bits < 8 → base_bytes a n r (c ∷ t) ≡ base_bytes a (n + a.bits) (r * 2 ^ a.bits + s) t
  unfolding base_bytes
  base_fewer s e some few = let lt : ltb (n + a.bits) 8 ≡ true = grind (arith, nat_tests) in rw (e, some, lt)

  pub base_byte : (s : ℕ) → eqb c 61 ≡ false → a.symbol c ≡ Some s → 8 ≤ n + a.bits
      → base_bytes a n r (c ∷ t) ≡ option_map (◌∷◌ ((r * 2 ^ a.bits + s) / 2 ^ (n + a.bits - 8))) (base_bytes a (n + a.bits - 8) ((r * 2 ^ a.bits + s) % 2 ^ (n + a.bits - 8)) t)
  unfolding base_bytes
  base_byte s e some enough = let lt : ltb (n + a.bits) 8 ≡ false = grind (arith, nat_tests) in rw (e, some, lt)

nothing : (few : Bool) → ◌≡◌ {A = Option (List ℕ)} (if few && false then Some [] else None) None
nothing true = refl
nothing false = refl

module _ (a : Alphabet) (n r : ℕ) where
  pub base_end : n < a.bits → r ≡ 0 → base_bytes a n r [] ≡ Some []
  unfolding base_bytes
  base_end few zero_is = let lt : ltb n a.bits ≡ true = grind (arith, nat_tests) in rw (zero_is, lt)

  pub base_too_many : a.bits ≤ n → base_bytes a n r [] ≡ None
  unfolding base_bytes
  base_too_many many = let lt : ltb n a.bits ≡ false = grind (arith, nat_tests) in rw lt

  pub base_left_over : r ≢ 0 → base_bytes a n r [] ≡ None
  unfolding base_bytes
  base_left_over some = let ne : eqb r 0 ≡ false = grind (arith, nat_tests) in rw ne (nothing (ltb n a.bits))

-- a symbol s of w bits behind n bits whose number is r, as the number of all of them
module _ (n r w s : ℕ) where
  abbrev all_bits : ℕ
  all_bits = r * 2 ^ w + s

  abbrev first : ℕ
  first = all_bits / 2 ^ (n + w - 8)

  abbrev rest : ℕ
  rest = all_bits % 2 ^ (n + w - 8)

module _ (n r w s : ℕ) (low : r < 2 ^ n) (small : s < 2 ^ w) where
  all_below : all_bits n r w s < 2 ^ (n + w)
  all_below = omega (arith, mul-add-lt r (2 ^ w) s (2 ^ n) low small, pow-add 2 n w)

  rest_below : rest n r w s < 2 ^ (n + w - 8)
  rest_below = mod_below (all_bits n r w s) (2 ^ (n + w - 8)) (pow_pos (n + w - 8))

  first_below : 8 ≤ n + w → first n r w s < 2 ^ 8
  first_below enough =
      let all : 8 + (n + w - 8) ≡ n + w = omega arith in
      shr_below (all_bits n r w s) 8 (n + w - 8) (rw all all_below)

-- One symbol of w bits behind n bits whose number is r, as the code computes it.
module _ (a : code.Alphabet) (n r w c s : ℕ) (few : n < 8) (below : r < 2 ^ n) (width : w ≡ (alphabet a).bits) (other : c ≢ 61) (some : Some s ≡ (alphabet a).symbol c) where
  abbrev pub joined : ℕ
  joined = bit_or (r * 2 ^ w % 2 ^ 32) s

  is_small : s < 2 ^ w
  is_small = rw width (small a c s (sym some))

  joined_is : joined ≡ r * 2 ^ w + s
  joined_is = ap (λ x. bit_or x s) (shl_whole r n w 32 below (omega (arith, bits_bounds a))) ∙ or_shifted r w s is_small

  pub joined_below : joined < 2 ^ (n + w)
  joined_below = rw joined_is (all_below n r w s below is_small)

  pub byte_fits : 8 ≤ n + w → joined / 2 ^ (n + w - 8) < 2 ^ 8
  byte_fits enough = rw joined_is (first_below n r w s below is_small enough)

  abbrev pub left : ℕ
  left = joined % (1 * 2 ^ (n + w - 8) % 2 ^ 32)

  left_is : left ≡ joined % 2 ^ (n + w - 8)
  left_is = ap (λ x. joined % x) (one_shl (n + w - 8) 32 (omega (arith, bits_bounds a)))

  pub left_below : left < 2 ^ (n + w - 8)
  left_below = rw (left_is, joined_is) (rest_below n r w s below is_small)

  is_other : eqb c 61 ≡ false
  is_other = grind (arith, nat_tests)

  pub fewer : (t : List ℕ) → n + w < 8 → base_bytes (alphabet a) n r (c ∷ t) ≡ base_bytes (alphabet a) (n + w) joined t
  fewer t lt = rw (joined_is, width) (base_fewer (alphabet a) n r c t s is_other (sym some) (rw width at lt))

  pub byte : (t : List ℕ) → 8 ≤ n + w → base_bytes (alphabet a) n r (c ∷ t) ≡ option_map (◌∷◌ (joined / 2 ^ (n + w - 8))) (base_bytes (alphabet a) (n + w - 8) left t)
  byte t enough = rw (left_is, joined_is, width) (base_byte (alphabet a) n r c t s is_other (sym some) (rw width at enough))

-- ---- the bits of symbols and of bytes

length-joined : (k : ℕ) (ns : List ℕ) → length (joined_bits k ns) ≡ length ns * k
length-joined k [] = sym (zero-mul k)
length-joined k (n ∷ ns) = length-append (bits_of k n) (joined_bits k ns) ∙ omega (arith, length-bits_of k n, length-joined k ns)

module _ (n r w s : ℕ) (low : r < 2 ^ n) (small : s < 2 ^ w) where
  first_bits : 8 ≤ n + w → bits_of 8 (first n r w s) ++ bits_of (n + w - 8) (rest n r w s) ≡ bits_of n r ++ bits_of w s
  first_bits enough =
      let all : 8 + (n + w - 8) ≡ n + w = omega arith in
      sym (bits_split 8 (n + w - 8) (first n r w s) (rest n r w s) (rest_below n r w s low small))
      ∙ ap (bits_of (8 + (n + w - 8))) (shr_split (all_bits n r w s) (n + w - 8)) ∙ ap (λ k. bits_of k (all_bits n r w s)) all ∙ bits_split n w r s small

  -- the first byte in front of the bits that are left
  joined_first : 8 ≤ n + w → (more : List Bool) → bits_of 8 (first n r w s) ++ (bits_of (n + w - 8) (rest n r w s) ++ more) ≡ bits_of n r ++ (bits_of w s ++ more)
  joined_first enough more =
      sym (append_assoc (bits_of 8 (first n r w s)) (bits_of (n + w - 8) (rest n r w s)) more)
      ∙ ap (λ x. x ++ more) (first_bits enough) ∙ append_assoc (bits_of n r) (bits_of w s) more

pub mapped : (x : ℕ) (o : Option (List ℕ)) (bs : List ℕ) → option_map (◌∷◌ x) o ≡ Some bs → (ys : List ℕ) × (o ≡ Some ys) × (x ∷ ys ≡ bs)
mapped x None bs e = absurd (cc)
mapped x (Some ys) bs e = (ys, refl, cc)

-- two fronts of one length
fronts : {x y : List Bool} (p q : List Bool) → length p ≡ length q → p ++ x ≡ q ++ y → (p ≡ q) × (x ≡ y)
fronts [] [] l e = (refl, e)
fronts [] (c ∷ q) l e = absurd (omega arith)
fronts (b ∷ p) [] l e = absurd (omega arith)
fronts {x} {y} (b ∷ p) (c ∷ q) l e =
    let head : b ≡ c = cc in
    let tail : p ++ x ≡ q ++ y = cc in
    let h = fronts p q (omega arith) tail in
    let front = h.0 in
    (cc, h.1)

module _ (a : Alphabet) (narrow : a.bits ≤ 8) (wide : 0 < a.bits) (ignored : a.symbol 61 ≡ None) (below : (c s : ℕ) → a.symbol c ≡ Some s → s < 2 ^ a.bits) where
  -- n bits, whose number is r, and those of the symbols of t are the bits of bs and a rest of zeros
  abbrev Reads : ℕ → ℕ → List ℕ → List ℕ → Type 0
  Reads n r t bs = (ss : List ℕ) × (z : List Bool) × AreSymbols a t ss × All (λ b. b < 256) bs × (bits_of n r ++ joined_bits a.bits ss ≡ joined_bits 8 bs ++ z) × (length z < a.bits) × All (λ b. b ≡ false) z

  abbrev Found : List ℕ → Type 0
  Found t = (n r : ℕ) (bs : List ℕ) → n < 8 → r < 2 ^ n → base_bytes a n r t ≡ Some bs → Reads n r t bs

  found_end : (n r : ℕ) (bs : List ℕ) (b : Bool) → (ltb n a.bits && eqb r 0) ≡ b → ◌≡◌ {A = Option (List ℕ)} (if b then Some [] else None) (Some bs) → Reads n r [] bs
  found_end n r bs false e f = absurd (cc)
  found_end n r bs true e f =
      let h = and_parts (ltb n a.bits) (eqb r 0) e in
      let none : [] ≡ bs = cc in
      let few = ltb-true n a.bits h.0 in
      rw (← none) ([], bits_of n r, end, λ k d lt. absurd (omega arith), append-nil (bits_of n r), omega (arith, length-bits_of n r), rw (eqb-true r 0 h.1) (zero_bits n))

  found_fewer : (c s : ℕ) (t : List ℕ) (n r : ℕ) (bs : List ℕ) → a.symbol c ≡ Some s → r < 2 ^ n → Reads (n + a.bits) (all_bits n r a.bits s) t bs → Reads n r (c ∷ t) bs
  found_fewer c s t n r bs some low h =
      (s ∷ h.0, h.1, a_symbol some h.2, h.3, sym (append_assoc (bits_of n r) (bits_of a.bits s) (joined_bits a.bits h.0)) ∙ ap (λ x. x ++ joined_bits a.bits h.0) (sym (bits_split n a.bits r s (below c s some))) ∙ h.4, h.5, h.6)

  found_byte : (c s : ℕ) (t : List ℕ) (n r : ℕ) (ys : List ℕ) → a.symbol c ≡ Some s → r < 2 ^ n → 8 ≤ n + a.bits → Reads (n + a.bits - 8) (rest n r a.bits s) t ys → Reads n r (c ∷ t) (first n r a.bits s ∷ ys)
  found_byte c s t n r ys some low enough h =
      let joined_is = joined_first n r a.bits s low (below c s some) enough (joined_bits a.bits h.0) in
      let byte = first_below n r a.bits s low (below c s some) enough in (
        s ∷ h.0,
        h.1,
        a_symbol some h.2,
        All-cons (λ b. b < 256) (first n r a.bits s) ys byte h.3,
        sym joined_is ∙ ap (λ x. bits_of 8 (first n r a.bits s) ++ x) h.4 ∙ sym (append_assoc (bits_of 8 (first n r a.bits s)) (joined_bits 8 ys) h.1),
        h.5,
        h.6,
      )

  found_symbol : (c s : ℕ) (t : List ℕ) (n r : ℕ) (bs : List ℕ) → n < 8 → r < 2 ^ n → eqb c 61 ≡ false → a.symbol c ≡ Some s → Found t → base_bytes a n r (c ∷ t) ≡ Some bs → Reads n r (c ∷ t) bs
  found_symbol c s t n r bs few low other some ih e = ⊎_elim
      (λ lt. found_fewer c s t n r bs some low (ih (n + a.bits) (all_bits n r a.bits s) bs lt (all_below n r a.bits s low (below c s some)) (sym (base_fewer a n r c t s other some lt) ∙ e)))
      (λ enough.
      let m = mapped (first n r a.bits s) (base_bytes a (n + a.bits - 8) (rest n r a.bits s) t) bs (sym (base_byte a n r c t s other some enough) ∙ e) in
      subst (Reads n r (c ∷ t)) m.2 (found_byte c s t n r m.0 some low enough
      (ih (n + a.bits - 8) (rest n r a.bits s) m.0 (omega arith) (rest_below n r a.bits s low (below c s some)) m.1)))
      (cases_lt (n + a.bits) 8)

  found_at : (c : ℕ) (t : List ℕ) (n r : ℕ) (bs : List ℕ) → n < 8 → r < 2 ^ n → Found t → base_bytes a n r (c ∷ t) ≡ Some bs → (b : Bool) → eqb c 61 ≡ b → (o : Option ℕ) → a.symbol c ≡ o → Reads n r (c ∷ t) bs
  found_at c t n r bs few low ih e true is o some =
      let at = eqb-true c 61 is in
      let h = ih n r bs few low (sym (base_ignored a n r c t at) ∙ e) in
      (h.0, h.1, subst (λ d. AreSymbols a (d ∷ t) h.0) (sym at) (ignored_symbol h.2), h.3, h.4, h.5, h.6)
  found_at c t n r bs few low ih e false other None none = let refused = base_no_symbol a n r c t other none in absurd (cc)
  found_at c t n r bs few low ih e false other (Some s) some = found_symbol c s t n r bs few low other some ih e

  found : (t : List ℕ) → Found t
  unfolding base_bytes
  found [] n r bs few low e = found_end n r bs (ltb n a.bits && eqb r 0) refl e
  found (c ∷ t) n r bs few low e = found_at c t n r bs few low (found t) e (eqb c 61) refl (a.symbol c) refl

  not_ignored : (c s : ℕ) → a.symbol c ≡ Some s → eqb c 61 ≡ false
  not_ignored c s some = ne_eqb c 61 (λ at. let here : a.symbol 61 ≡ Some s = rw at at some in absurd (cc))

  read_bytes : (c s : ℕ) (t ss : List ℕ) (n r : ℕ) (bs : List ℕ) (z : List Bool) → r < 2 ^ n → 8 ≤ n + a.bits → a.symbol c ≡ Some s → All (λ b. b < 256) bs
      → bits_of n r ++ (bits_of a.bits s ++ joined_bits a.bits ss) ≡ joined_bits 8 bs ++ z → length z < a.bits
      → ((ys : List ℕ) → All (λ b. b < 256) ys → bits_of (n + a.bits - 8) (rest n r a.bits s) ++ joined_bits a.bits ss ≡ joined_bits 8 ys ++ z → base_bytes a (n + a.bits - 8) (rest n r a.bits s) t ≡ Some ys)
      → base_bytes a n r (c ∷ t) ≡ Some bs
  read_bytes c s t ss n r [] z low enough some all e short ih =
      let long = simp length-append at (ap length e) in
      absurd (omega (arith, length-bits_of n r, length-bits_of a.bits s, long))
  read_bytes c s t ss n r (b ∷ ys) z low enough some all e short ih =
      let small = below c s some in
      let x = first n r a.bits s in
      let both = fronts (bits_of 8 x) (bits_of 8 b) (length-bits_of 8 x ∙ sym (length-bits_of 8 b))
      (joined_first n r a.bits s low small enough (joined_bits a.bits ss) ∙ e ∙ append_assoc (bits_of 8 b) (joined_bits 8 ys) z) in
      let same = same_bits 8 x b (first_below n r a.bits s low small enough) (All-head (λ b. b < 256) b ys all) both.0 in
      base_byte a n r c t s (not_ignored c s some) some enough ∙ ap (option_map (◌∷◌ x)) (ih ys (All-tail (λ b. b < 256) b ys all) both.1) ∙ ap (λ y. Some (y ∷ ys)) same

  read : {t ss : List ℕ} → AreSymbols a t ss → (n r : ℕ) (bs : List ℕ) (z : List Bool) → n < 8 → r < 2 ^ n → All (λ b. b < 256) bs
      → bits_of n r ++ joined_bits a.bits ss ≡ joined_bits 8 bs ++ z → length z < a.bits → All (λ b. b ≡ false) z → base_bytes a n r t ≡ Some bs
  read end n r [] z few low all e short none =
      let left : bits_of n r ≡ z = sym (append-nil (bits_of n r)) ∙ e in
      base_end a n r (omega (arith, length-bits_of n r, ap length left)) (no_bits n r low (rw (← left) at none))
  read end n r (b ∷ bs) z few low all e short none =
      let long = simp length-append at (ap length e) in
      absurd (omega (arith, length-bits_of n r, length-bits_of 8 b, long))
  read (ignored_symbol y) n r bs z few low all e short none = base_ignored a n r 61 _ refl ∙ read y n r bs z few low all e short none
  read (a_symbol {c} {s} {t} {ss} some y) n r bs z few low all e short none = ⊎_elim
      (λ lt. base_fewer a n r c t s (not_ignored c s some) some lt
      ∙ read y (n + a.bits) (all_bits n r a.bits s) bs z lt (all_below n r a.bits s low (below c s some)) all
      (ap (λ x. x ++ joined_bits a.bits ss) (bits_split n a.bits r s (below c s some)) ∙ append_assoc (bits_of n r) (bits_of a.bits s) (joined_bits a.bits ss) ∙ e) short none)
      (λ enough. read_bytes c s t ss n r bs z low enough some all e short
      (λ ys all e. read y (n + a.bits - 8) (rest n r a.bits s) ys z (omega arith) (rest_below n r a.bits s low (below c s some)) all e short none))
      (cases_lt (n + a.bits) 8)

  pub base_texts : (t bs : List ℕ) → IsBase a t bs ↔ (base_bytes a 0 0 t ≡ Some bs)
  base_texts t bs = (λ h. read h.2 0 0 bs h.1 (omega arith) (omega arith) h.3 h.4 h.5 h.6, found t 0 0 bs (omega arith) (omega arith))
