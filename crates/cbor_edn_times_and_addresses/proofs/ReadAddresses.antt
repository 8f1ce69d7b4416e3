-- The reader that computes gives what `Reads` tells.
use Rattle.std.proofs.Common.{◌≡◌, ◌≢◌, ◌∙◌, ℕ, true, false, List, [], ◌∷◌, ◌++◌, All, Option, Some, None, Result, Ok, Err, MatchResult, refl, sym, ap, subst, inl, inr, length, arith, append-nil, lit≤, ne_eqb, eq-eqb, lt-ltb, le-ltb, le-leb}
use Rattle.std.proofs.lemmas.Bool.{cases_eq, cases_lt, cases_Bool, and_parts, false≢true, leb-true, ltb-true}
use Rattle.std.proofs.lemmas.List.Elements.{All-nil, All-cons, All-head, All-tail}
use Rattle.std.proofs.lemmas.Str.Parse.{IsNumeralModel, numerals_by_value, tells_all_ascii_digits}
use Rattle.std.specs.Str.{all_ascii_digits}
use Rattle.std.specs.Str.Parse.{digits_value}
use Rattle.std.specs.Net.Grammar.{IsIpText, IsDotted, IsColonHex}
use Rattle.std.specs.Net.Reader.{Read, whole_value, read_ipv4, read_ipv6}
use Rattle.std.proofs.lemmas.Option.{none-some}
use Rattle.std.proofs.NetLemmas.Ipv4.{read_ipv4_sound, read_ipv4_complete}
use Rattle.std.proofs.NetLemmas.Ipv6.{read_ipv6_sound, read_ipv6_complete, EndsGroups-nil}
use Rattle.std.proofs.NetLemmas.Theorems.{IsIpText_unique}
use Rattle.std.specs.declared.net.ip_addr.IpAddr.{IpAddr}
use Rattle.std.specs.declared.net.ip_addr.IpAddr.TheVariants.{V4, V6}
use Rattle.cbor_edn_times_and_addresses.specs.declared.address.AddressError.{AddressError}
use Rattle.cbor_edn_times_and_addresses.specs.declared.address.AddressError.TheVariants.{NoLength, UnknownFormat, LengthTooLarge, BitsOutside}
use Rattle.cbor_edn_times_and_addresses.specs.Address.{slash, IsCut, IsLength, HasLength, FitsLength, SpellsAddress, IsTooLarge, LeavesBits, Refuses, Reads, address_bits, address_bytes}
use Rattle.cbor_edn_times_and_addresses.proofs.BitsBehind.{zero_behind, zero_behind_true, zero_behind_false, not_zero_behind}
use Rattle.cbor_edn_times_and_addresses.specs.internal.AddressReading.{cut, is_length, length_of, ip_from, ip_of, is_zero_behind, fitted, onto, address_of}

-- ---- the cut

abbrev pub NoSlash : ℕ → Type 0
NoSlash b = b ≢ slash

cut_plain : (front : List ℕ) → All NoSlash front → cut front ≡ (front, None)
cut_plain [] h = refl
cut_plain (c ∷ t) h = rw (ne_eqb c slash (All-head NoSlash c t h), cut_plain t (All-tail NoSlash c t h)) refl

cut_at_slash : (front back : List ℕ) → All NoSlash front → cut (front ++ slash ∷ back) ≡ (front, Some back)
cut_at_slash [] back h = refl
cut_at_slash (c ∷ t) back h = rw (ne_eqb c slash (All-head NoSlash c t h), cut_at_slash t back (All-tail NoSlash c t h)) refl

pub cut_is : (text front : List ℕ) (back : Option (List ℕ)) → IsCut text front back → cut text ≡ (front, back)
cut_is text front None h = ap cut h.0 ∙ cut_plain front h.1
cut_is text front (Some back) h = ap cut h.0 ∙ cut_at_slash front back h.1

cut_more : (c : ℕ) (t front : List ℕ) (back : Option (List ℕ)) → c ≢ slash → IsCut t front back → IsCut (c ∷ t) (c ∷ front) back
cut_more c t front None ne h = (ap (λ x. c ∷ x) h.0, All-cons NoSlash c front ne h.1)
cut_more c t front (Some back) ne h = (ap (λ x. c ∷ x) h.0, All-cons NoSlash c front ne h.1)

pub cuts : (text : List ℕ) → IsCut text (cut text).0 (cut text).1
cuts [] = (refl, All-nil NoSlash)
cuts (c ∷ t) =
    elim (cases_eq c slash) [
      | inl same ↦ rw (eq-eqb c slash same) (ap (λ x. x ∷ t) same, All-nil NoSlash)
      | inr other ↦ rw (ne_eqb c slash other) (cut_more c t (cut t).0 (cut t).1 other (cuts t))
    ]

-- ---- answers of a stage

-- The answer is one of which P holds, or this refusal, where P holds of none.
abbrev Tells : {A : Type 0} → (A → Type 0) → AddressError → Result A AddressError → Type 0
Tells {A} P refused r = MatchResult r P (λ e. (e ≡ refused) × ((x : A) → ¬ (P x)))

tells_ok : {A : Type 0} (P : A → Type 0) (refused : AddressError) (r : Result A AddressError) → Tells P refused r → ((x y : A) → P x → P y → x ≡ y) → (x : A) → P x → r ≡ Ok x
tells_ok P refused (Ok y) h one x p = ap Ok (one y x h p)
tells_ok P refused (Err e) h one x p = absurd (h.1 x p)

tells_err : {A : Type 0} (P : A → Type 0) (refused : AddressError) (r : Result A AddressError) → Tells P refused r → ((x : A) → ¬ (P x)) → r ≡ Err refused
tells_err P refused (Ok y) h none = absurd (none y h)
tells_err P refused (Err e) h none = ap Err h.0

-- ---- the length

own : IsNumeralModel (λ ds. all_ascii_digits ds ≡ true) (digits_value 10)
own = numerals_by_value _ tells_all_ascii_digits

length_back : (ds : List ℕ) (n : ℕ) → IsLength ds n → is_length ds ≡ true
length_back ds n h =
    let some = lt-ltb 0 (length ds) h.0.0.0 in
    let digits = own.from ds h.0.0.1 in
    let short = le-leb (length ds) 3 h.1 in
    let small = le-leb (digits_value 10 ds) 255 (omega (arith, h.0.1, h.2)) in
    rw (some, digits, short, small) refl

length_true : (ds : List ℕ) → is_length ds ≡ true → IsLength ds (digits_value 10 ds)
length_true ds h =
    let (three, small) = and_parts _ _ h in
    let (two, short) = and_parts _ _ three in
    let (some, digits) = and_parts _ _ two in
    (((ltb-true 0 (length ds) some, own.to ds digits), refl), leb-true (length ds) 3 short, leb-true (digits_value 10 ds) 255 small)

length_false : (ds : List ℕ) → is_length ds ≡ false → (n : Option ℕ) → ¬ (HasLength (Some ds) n)
length_false ds h None = λ never. never
length_false ds h (Some n) = λ is. false≢true (sym h ∙ length_back ds n is)

length_tells : (back : Option (List ℕ)) → Tells (HasLength back) NoLength (length_of back)
length_tells None = tt
length_tells (Some ds) =
    elim (cases_Bool (is_length ds)) [
      | inl is ↦ rw is (length_true ds is)
      | inr is_not ↦ rw is_not (refl, length_false ds is_not)
    ]

length_one : (back : Option (List ℕ)) (m n : Option ℕ) → HasLength back m → HasLength back n → m ≡ n
length_one None None None h k = refl
length_one None None (Some n) h k = absurd k
length_one None (Some m) n h k = absurd h
length_one (Some ds) None n h k = absurd h
length_one (Some ds) (Some m) None h k = absurd k
length_one (Some ds) (Some m) (Some n) h k = ap Some (sym h.0.1 ∙ k.0.1)

-- ---- the address

whole_at : {A : Type 0} (y : A) (rest : List ℕ) (x : A) → whole_value (Some (y, rest)) ≡ Some x → ◌≡◌ {A = Option (A × List ℕ)} (Some (y, rest)) (Some (x, []))
whole_at {A} y [] x h = let e : y ≡ x = cc in ap (λ (z : A). Some (z, [])) e
whole_at y (c ∷ rest) x h = absurd (none-some _ (rw (ne_eqb (length (c ∷ rest)) 0 (omega arith)) at h))

whole_some : {A : Type 0} (r : Read A) (x : A) → whole_value r ≡ Some x → r ≡ Some (x, [])
whole_some None x h = absurd (none-some _ h)
whole_some (Some p) x h = whole_at p.0 p.1 x h

whole4 : (t o : List ℕ) → IsDotted t o → whole_value (read_ipv4 t) ≡ Some o
whole4 t o h = ap whole_value (rw append-nil at (read_ipv4_complete t o [] h (lit≤ tt)))

whole4_back : (t o : List ℕ) → whole_value (read_ipv4 t) ≡ Some o → IsDotted t o
whole4_back t o h =
    let (front, split, is) = read_ipv4_sound t o [] (whole_some _ o h) in
    subst (λ x. IsDotted x o) (sym (split ∙ append-nil front)) is

whole6 : (t o : List ℕ) → IsColonHex t o → whole_value (read_ipv6 t) ≡ Some o
whole6 t o h = ap whole_value (rw append-nil at (read_ipv6_complete t o [] h EndsGroups-nil))

whole6_back : (t o : List ℕ) → whole_value (read_ipv6 t) ≡ Some o → IsColonHex t o
whole6_back t o h =
    let (front, split, is) = read_ipv6_sound t o [] (whole_some _ o h) in
    subst (λ x. IsColonHex x o) (sym (split ∙ append-nil front)) is

ip_none : (t : List ℕ) → whole_value (read_ipv4 t) ≡ None → whole_value (read_ipv6 t) ≡ None → (a : IpAddr) → ¬ (IsIpText t a)
ip_none t four six (V4 a) = λ h. none-some _ (sym four ∙ whole4 t a.octets h)
ip_none t four six (V6 a) = λ h. none-some _ (sym six ∙ whole6 t a.segments h)

ip_tells_at : (t : List ℕ) (four six : Option (List ℕ)) → whole_value (read_ipv4 t) ≡ four → whole_value (read_ipv6 t) ≡ six → Tells (IsIpText t) UnknownFormat (ip_from four six)
ip_tells_at t (Some o) six e f = whole4_back t o e
ip_tells_at t None (Some s) e f = whole6_back t s f
ip_tells_at t None None e f = (refl, ip_none t e f)

ip_tells : (t : List ℕ) → Tells (IsIpText t) UnknownFormat (ip_of t)
ip_tells t = ip_tells_at t _ _ refl refl

-- ---- the bits behind the length

pub fits_ok : (a : IpAddr) (n : Option ℕ) → FitsLength a n → fitted a n ≡ Ok (a, n)
fits_ok a None h = refl
fits_ok a (Some n) h = rw (le-ltb (address_bits a) n h.0, zero_behind_true n (address_bytes a) h.1) refl

too_large : (a : IpAddr) (n : Option ℕ) → IsTooLarge a n → fitted a n ≡ Err LengthTooLarge
too_large a None h = absurd h
too_large a (Some n) h = rw (lt-ltb (address_bits a) n h) refl

leaves_bits : (a : IpAddr) (n : Option ℕ) → LeavesBits a n → fitted a n ≡ Err BitsOutside
leaves_bits a None h = absurd h
leaves_bits a (Some n) h = rw (le-ltb (address_bits a) n h.0, zero_behind_false n (address_bytes a) h.1) refl

-- ---- the whole

fit_reads : (text : List ℕ) (a : IpAddr) (n : Option ℕ) → SpellsAddress text a n → Reads text (fitted a n)
fit_reads text a None spells = (spells, tt)
fit_reads text a (Some n) spells =
    elim (cases_lt (address_bits a) n) [
      | inl large ↦ rw (lt-ltb (address_bits a) n large) (a, Some n, spells, large)
      | inr within ↦ rw (le-ltb (address_bits a) n within) (elim (cases_Bool (is_zero_behind n (address_bytes a))) [
        | inl zeros ↦ rw zeros (spells, (within, zero_behind n (address_bytes a) zeros))
        | inr other ↦ rw other (a, Some n, spells, (within, not_zero_behind n (address_bytes a) other))
      ])
    ]

module _ (text front : List ℕ) (back : Option (List ℕ)) (cut : IsCut text front back) where
  ip_reads : (n : Option ℕ) → HasLength back n → (r : Result IpAddr AddressError) → Tells (IsIpText front) UnknownFormat r → Reads text (onto r (λ a. fitted a n))
  ip_reads n read (Ok a) spelled =
      fit_reads text a n (record { front = front; back = back; cut = cut; read = read; spelled = spelled })
  ip_reads n read (Err e) h =
      subst (Refuses text) (sym h.0) (record { front = front; back = back; n = n; cut = cut; read = read; unspelled = h.1 })

  length_reads : (r : Result (Option ℕ) AddressError) → Tells (HasLength back) NoLength r → (s : Result IpAddr AddressError) → Tells (IsIpText front) UnknownFormat s → Reads text (onto r (λ n. onto s (λ a. fitted a n)))
  length_reads (Ok n) read s h = ip_reads n read s h
  length_reads (Err e) h s k = subst (Refuses text) (sym h.0) (record { front = front; back = back; cut = cut; unread = h.1 })

reads : (text : List ℕ) → Reads text (address_of text)
unfolding address_of
reads text = length_reads text (cut text).0 (cut text).1 (cuts text) _ (length_tells (cut text).1) _ (ip_tells (cut text).0)

length_is : (back : Option (List ℕ)) (n : Option ℕ) → HasLength back n → length_of back ≡ Ok n
length_is back n h = tells_ok (HasLength back) NoLength _ (length_tells back) (length_one back) n h

spelled_reads : (text : List ℕ) (a : IpAddr) (n : Option ℕ) → SpellsAddress text a n → address_of text ≡ fitted a n
unfolding address_of
spelled_reads text a n h =
    let ip = tells_ok (IsIpText h.front) UnknownFormat _ (ip_tells h.front) (IsIpText_unique h.front) a h.spelled in
    rw (cut_is text h.front h.back h.cut, length_is h.back n h.read, ip) refl

refused_reads : (text : List ℕ) (e : AddressError) → Refuses text e → address_of text ≡ Err e
unfolding address_of
refused_reads text NoLength h =
    rw (cut_is text h.front h.back h.cut, tells_err (HasLength h.back) NoLength _ (length_tells h.back) h.unread) refl
refused_reads text UnknownFormat h =
    rw (cut_is text h.front h.back h.cut, length_is h.back h.n h.read, tells_err (IsIpText h.front) UnknownFormat _ (ip_tells h.front) h.unspelled) refl
refused_reads text LengthTooLarge (a, n, spells, large) = spelled_reads text a n spells ∙ too_large a n large
refused_reads text BitsOutside (a, n, spells, leaves) = spelled_reads text a n spells ∙ leaves_bits a n leaves

pub computed : (text : List ℕ) (r : Result (IpAddr × Option ℕ) AddressError) → Reads text r → address_of text ≡ r
computed text (Ok p) h = spelled_reads text p.0 p.1 h.0 ∙ fits_ok p.0 p.1 h.1
computed text (Err e) h = refused_reads text e h

pub one_answer : (text : List ℕ) (r s : Result (IpAddr × Option ℕ) AddressError) → Reads text r → Reads text s → r ≡ s
one_answer text r s h k = sym (computed text r h) ∙ computed text s k

pub reads_computed : (text : List ℕ) (r : Result (IpAddr × Option ℕ) AddressError) → address_of text ≡ r → Reads text r
reads_computed text r e = subst (Reads text) e (reads text)

pub spelled_one : (text : List ℕ) (a b : IpAddr) (m n : Option ℕ) → SpellsAddress text a m → SpellsAddress text b n → (a ≡ b) × (m ≡ n)
spelled_one text a b m n h k =
    let same = sym (cut_is text h.front h.back h.cut) ∙ cut_is text k.front k.back k.cut in
    let front : h.front ≡ k.front = ap (λ (p : List ℕ × Option (List ℕ)). p.0) same in
    let back : h.back ≡ k.back = ap (λ (p : List ℕ × Option (List ℕ)). p.1) same in (
      IsIpText_unique k.front a b (subst (λ t. IsIpText t a) front h.spelled) k.spelled,
      length_one k.back m n (subst (λ t. HasLength t m) back h.read) k.read,
    )
