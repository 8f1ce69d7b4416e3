-- The lines that tell of a finding act on nothing.
use Rattle.std.proofs.Common.{◌≡◌, ℕ, List, [], ◌∷◌, ◌++◌, zero, suc, refl, sym, ap, subst, ◌∙◌, arith}
use Rattle.std.specs.Prelude.{codes, replicate}
use Rattle.std.specs.Fmt.{decimal}
use Rattle.std.proofs.lemmas.Grind.{flat_map-append}
use Rattle.std.proofs.lemmas.List.{append-nil}
use Rattle.std.proofs.lemmas.Str.{NoCharPasses-nil, NoCharPasses-append}
use Rattle.cbor_edn_terminal.specs.Terminal.{acts_on_terminal, acts_in_lines, shown_character, shown_text, IsHarmless, IsHarmlessInLines}
use Rattle.cbor_edn_terminal.proofs.Harmless.{in_lines, harmless_byte, harmless_more, harmless_decimal, line_feed, shown_is_harmless}
use Rattle.cbor_edn_findings.specs.Shown.{AreShown, IsMarked, IsTold}
use Rattle.cbor_edn_findings.specs.declared.finding.Finding.{Finding}
use Rattle.cbor_edn_findings.specs.declared.finding.Finding.TheVariants.{InText, InBytes, Nowhere}

-- ---- shown texts in a row

shown_append : (cs ds : List ℕ) → shown_text cs ++ shown_text ds ≡ shown_text (cs ++ ds)
unfolding shown_text
shown_append cs ds = sym (flat_map-append shown_character cs ds)

shown_one : (c : ℕ) → shown_character c ≡ shown_text (c ∷ [])
unfolding shown_text
shown_one c = sym (append-nil (shown_character c))

pub are_shown : (a b t : List ℕ) → t ≡ a ++ b → AreShown a → AreShown b → AreShown t
are_shown a b t e (cs, is) (ds, too) = (cs ++ ds, e ∙ (ap (λ l. l ++ b) is ∙ (ap (λ l. shown_text cs ++ l) too ∙ shown_append cs ds)))

pub one_shown : (a t : List ℕ) (c : ℕ) → t ≡ a ++ shown_character c → AreShown a → AreShown t
one_shown a t c e h = are_shown a (shown_character c) t e h (c ∷ [], shown_one c)

-- ---- the lines

both : (a b : List ℕ) → IsHarmlessInLines a → IsHarmlessInLines b → IsHarmlessInLines (a ++ b)
both a b x y = NoCharPasses-append acts_in_lines a b x y

next : (c : ℕ) (t : List ℕ) → IsHarmlessInLines (c ∷ []) → IsHarmlessInLines t → IsHarmlessInLines (c ∷ t)
next c t x y = both (c ∷ []) t x y

byte : (c : ℕ) → IsHarmless (c ∷ []) → IsHarmlessInLines (c ∷ [])
byte c h = in_lines (c ∷ []) h

nothing : IsHarmlessInLines []
nothing = NoCharPasses-nil acts_in_lines

blanks : (n : ℕ) → IsHarmless (replicate n 32)
blanks zero = NoCharPasses-nil acts_on_terminal
blanks (suc n) = harmless_more 32 (replicate n 32) (omega arith) (omega arith) (blanks n)

shown : (t : List ℕ) → AreShown t → IsHarmlessInLines t
shown t (cs, is) = subst IsHarmlessInLines (sym is) (in_lines (shown_text cs) (shown_is_harmless cs))

marked_acts_on_nothing : (m : List ℕ) → IsMarked m → IsHarmlessInLines m
marked_acts_on_nothing m (near, n, are, is) =
    subst IsHarmlessInLines (sym is) (both near _ (shown near are) (next 10 _ line_feed (both (replicate n 32) _ (in_lines (replicate n 32) (blanks n))
    (next 94 _ (byte 94 (harmless_byte 94 (omega arith) (omega arith))) line_feed))))

-- the bytes that a text written out has
plain : (c : ℕ) (t : List ℕ) → IsHarmless (c ∷ []) → IsHarmlessInLines t → IsHarmlessInLines (c ∷ t)
plain c t h more = next c t (byte c h) more

number : (n : ℕ) → IsHarmlessInLines (decimal n)
number n = in_lines (decimal n) (harmless_decimal n)

pub told_acts_on_nothing : (name : List ℕ) (f : Finding) (told : List ℕ) → AreShown name → IsTold name f told → IsHarmlessInLines told
told_acts_on_nothing name (InText words offset line column) told named (marked, is_marked, is) =
    subst IsHarmlessInLines (sym is)
    (both name _ (shown name named) (plain 58 _ (harmless_byte 58 (omega arith) (omega arith)) (both (decimal line) _ (number line)
    (plain 58 _ (harmless_byte 58 (omega arith) (omega arith)) (both (decimal column) _ (number column)
    (plain 58 _ (harmless_byte 58 (omega arith) (omega arith)) (plain 32 _ (harmless_byte 32 (omega arith) (omega arith))
    (both _ (10 ∷ marked) (shown _ (_, refl)) (next 10 marked line_feed (marked_acts_on_nothing marked is_marked))))))))))
told_acts_on_nothing name (InBytes words offset) told named is =
    subst IsHarmlessInLines (sym is)
    (both name _ (shown name named) (plain 58 _ (harmless_byte 58 (omega arith) (omega arith)) (plain 32 _ (harmless_byte 32 (omega arith) (omega arith))
    (both _ _ (shown _ (_, refl)) (both (codes " (byte ") _ (in_lines (codes " (byte ") behind) (both (decimal offset) _ (number offset)
    (plain 41 _ (harmless_byte 41 (omega arith) (omega arith)) line_feed)))))))
  where
    behind : IsHarmless (codes " (byte ")
    behind =
        harmless_more 32 _ (omega arith) (omega arith) (harmless_more 40 _ (omega arith) (omega arith) (harmless_more 98 _ (omega arith) (omega arith)
        (harmless_more 121 _ (omega arith) (omega arith) (harmless_more 116 _ (omega arith) (omega arith) (harmless_more 101 _ (omega arith) (omega arith)
        (harmless_byte 32 (omega arith) (omega arith)))))))
told_acts_on_nothing name (Nowhere words) told named is =
    subst IsHarmlessInLines (sym is)
    (both name _ (shown name named) (plain 58 _ (harmless_byte 58 (omega arith) (omega arith)) (plain 32 _ (harmless_byte 32 (omega arith) (omega arith))
    (both _ (10 ∷ []) (shown _ (_, refl)) line_feed))))
