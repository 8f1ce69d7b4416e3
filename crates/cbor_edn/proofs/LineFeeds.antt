-- A text of items stays one with a line feed at its end.
use Rattle.std.proofs.Common.{◌≡◌, ℕ, List, [], ◌∷◌, ◌++◌, Bool, true, false, sym, ap, subst, ◌∙◌, append_assoc, inl, inr, refl}
use Rattle.std.specs.Prelude.{if◌then◌else◌}
use Rattle.std.specs.Str.{IsUtf8}
use Rattle.std.specs.Char.{encode_utf8}
use Rattle.std.proofs.lemmas.Str.{IsUtf8-append, IsUtf8-encode}
use Rattle.cbor_edn_parts.specs.space.Space.{IsSpace, blank, empty, IsListEnd, space, comma}
use Rattle.cbor_edn_parts.proofs.lemmas.space.CommentTexts.{spaces_append}
use Rattle.cbor_edn_model.specs.text.Spelling.{Spells, SpellsSequence}
use Rattle.cbor_edn_model.specs.tree.Items.{Items, End, Then}

space_ended : (s : List ℕ) → IsSpace s → IsSpace (s ++ (10 ∷ []))
space_ended s is = spaces_append is (blank (inr (inl refl)) empty)

at_end_ended : (s : List ℕ) → IsListEnd s → IsListEnd (s ++ (10 ∷ []))
at_end_ended s (space is) = space (space_ended s is)
at_end_ended s (comma {x = x} {y = y} is too) = subst IsListEnd (sym (append_assoc x (44 ∷ y) (10 ∷ []))) (comma is (space_ended y too))

-- one part more at the end
behind : (t a b : List ℕ) → t ≡ a ++ b → t ++ (10 ∷ []) ≡ a ++ (b ++ (10 ∷ []))
behind t a b is = ap (λ l. l ++ (10 ∷ [])) is ∙ append_assoc a b (10 ∷ [])

behind_two : (t a b c : List ℕ) → t ≡ a ++ (b ++ c) → t ++ (10 ∷ []) ≡ a ++ (b ++ (c ++ (10 ∷ [])))
behind_two t a b c is = behind t a (b ++ c) is ∙ ap (λ l. a ++ l) (append_assoc b c (10 ∷ []))

rest_ended : (m : Items) (t : List ℕ) → Spells m t → Spells m (t ++ (10 ∷ []))
unfolding Spells
rest_ended End t is = at_end_ended t is
rest_ended (Then e m) t (c, a, b, between, entry, rest, is) = (c, a, b ++ (10 ∷ []), between, entry, rest_ended m b rest, behind_two t c a b is)

sequence_ended : (m : Items) (t : List ℕ) → SpellsSequence m t → SpellsSequence m (t ++ (10 ∷ []))
unfolding SpellsSequence
sequence_ended End t is = space_ended t is
sequence_ended (Then e m) t (s, a, b, before, entry, rest, is) = (s, a, b ++ (10 ∷ []), before, entry, rest_ended m b rest, behind_two t s a b is)

pub spelled_ended : (b : Bool) (m : Items) (t : List ℕ) → SpellsSequence m t → SpellsSequence m (if b then t else t ++ (10 ∷ []))
spelled_ended true m t is = is
spelled_ended false m t is = sequence_ended m t is

line_feed : encode_utf8 10 ≡ 10 ∷ []
unfolding encode_utf8
line_feed = refl

pub utf8_ended : (b : Bool) (t : List ℕ) → IsUtf8 t → IsUtf8 (if b then t else t ++ (10 ∷ []))
utf8_ended true t is = is
utf8_ended false t is = IsUtf8-append t (10 ∷ []) is (subst IsUtf8 line_feed (IsUtf8-encode 10 refl))
