-- A text that is escaped in parts: bytes that stand for themselves wait for the next that doesn't.
use Rattle.std.proofs.Common.{ℕ, ◌+◌, ◌-◌, ◌<◌, ◌≤◌, ◌≡◌, List, [], ◌∷◌, ◌++◌, length, get_or, take, drop, sym, ap, ◌∙◌, subst, append_assoc, ⊎_elim, arith}
use Rattle.std.specs.Prelude.{encode_utf8}
use Rattle.std.proofs.lemmas.Bool.{cases_lt}
use Rattle.std.proofs.lemmas.List.{append-nil, drop_all, drop-take, drop-append-le, length-take-le, take_more}
use Rattle.std.proofs.lemmas.Str.{encode_ascii}
use Rattle.cbor_edn_parts.specs.string.Contents.{escaped, all_escaped}
use Rattle.cbor_edn_parts.proofs.lemmas.string.Escapes.{all_escaped-append, escaped_plain}

-- what is escaped is an ASCII character
pub escaped_small : (c : ℕ) → (escaped c ≡ c ∷ [] → ⊥) → c < 128
escaped_small c other = ⊎_elim
    (λ small. small)
    (λ large. absurd (other (escaped_plain c (omega (arith, large)) (λ e. omega arith) (λ e. omega arith) (λ e. omega arith))))
    (cases_lt c 128)

-- what waits is what stands between two places
pub between_places : (t : List ℕ) (from at : ℕ) → from ≤ at → take (at - from) (drop from t) ≡ drop from (take at t)
between_places t from at order = sym (drop-take from (at - from) t) ∙ ap (λ n. drop from (take n t)) (omega (arith, order))

module _ (t : List ℕ) (from at : ℕ) (order : from ≤ at) (within : at < length t) where
  abbrev byte : ℕ
  byte = get_or t at 0

  waits : drop from (take (at + 1) t) ≡ drop from (take at t) ++ (byte ∷ [])
  waits =
      let le : at ≤ length t = omega (arith, within) in
      ap (drop from) (take_more t at 0 within) ∙ drop-append-le from (take at t) (byte ∷ []) (subst (λ n. from ≤ n) (sym (length-take-le at t le)) order)

  escaped_on : all_escaped (take (at + 1) t) ≡ all_escaped (take at t) ++ escaped byte
  escaped_on = ap all_escaped (take_more t at 0 within) ∙ (all_escaped-append (take at t) (byte ∷ []) ∙ ap (λ xs. all_escaped (take at t) ++ xs) (append-nil (escaped byte)))

  module _ (old now : List ℕ) (written : now ++ drop from (take at t) ≡ old ++ all_escaped (take at t)) where
    -- a byte that stands for itself waits
    pub plain_waits : escaped byte ≡ byte ∷ [] → now ++ drop from (take (at + 1) t) ≡ old ++ all_escaped (take (at + 1) t)
    plain_waits plain =
        ap (λ xs. now ++ xs) waits
        ∙ (sym (append_assoc now (drop from (take at t)) (byte ∷ []))
        ∙ (ap (λ xs. xs ++ (byte ∷ [])) written
        ∙ (append_assoc old (all_escaped (take at t)) (byte ∷ [])
        ∙ ap (λ xs. old ++ xs) (ap (λ xs. all_escaped (take at t) ++ xs) (sym plain) ∙ sym escaped_on))))

    -- another is written, behind what waits
    pub other_written : (next : List ℕ) → byte < 128 → next ≡ (now ++ take (at - from) (drop from t)) ++ all_escaped (encode_utf8 byte)
        → next ++ drop (at + 1) (take (at + 1) t) ≡ old ++ all_escaped (take (at + 1) t)
    other_written next small is =
        let le : at + 1 ≤ length t = omega (arith, within) in
        let none : drop (at + 1) (take (at + 1) t) ≡ [] = drop_all (at + 1) (take (at + 1) t) (subst (λ n. n ≤ at + 1) (sym (length-take-le (at + 1) t le)) (omega arith)) in
        let one : all_escaped (encode_utf8 byte) ≡ escaped byte = ap all_escaped (encode_ascii byte small) ∙ append-nil (escaped byte) in
        ap (λ xs. next ++ xs) none
        ∙ (append-nil next
        ∙ (is
        ∙ (ap (λ xs. (now ++ xs) ++ all_escaped (encode_utf8 byte)) (between_places t from at order)
        ∙ (ap (λ xs. xs ++ all_escaped (encode_utf8 byte)) written
        ∙ (append_assoc old (all_escaped (take at t)) (all_escaped (encode_utf8 byte))
        ∙ ap (λ xs. old ++ xs) (ap (λ xs. all_escaped (take at t) ++ xs) one ∙ sym escaped_on))))))
