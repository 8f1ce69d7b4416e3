-- A whole sequence that is printed while it is read.
use Rattle.std.proofs.Common.{◌≡◌, ◌≢◌, ℕ, suc, List, [], ◌∷◌, ◌++◌, length, map, Option, Some, None, Ok, refl, sym, ap, subst, ◌∙◌, arith}
use Rattle.std.proofs.lemmas.List.{append-nil}
use Rattle.cbor_edn_parts.specs.declared.base.error.Fault.{Fault}
use Rattle.cbor_edn_parts.specs.space.Spacing.{Optional, indented}
use Rattle.cbor_edn_parts.specs.internal.CommentReading.{from_first, to_last}
use Rattle.cbor_edn_model.specs.declared.cbor.decode.CborError.{CborError}
use Rattle.cbor_edn_model.specs.declared.cbor.decode.head.Stop.TheVariants.{EndOfData}
use Rattle.cbor_edn_model.specs.cbor.Decoded.{IsDecodedSequence}
use Rattle.cbor_edn_model.specs.tree.Items.{Elements, Array}
use Rattle.cbor_edn_model.specs.tree.Trees.{Tree, OneEntry, Rest, Seq, NothingTree, ElementTree, text}
use Rattle.cbor_edn_model.specs.layout.Layout.{Layout, Elsewhere, layout, respaced, laid, laid_out}
use Rattle.cbor_edn_model.specs.internal.Regular.{sequence_tree_of}
use Rattle.cbor_edn_model.specs.internal.CborReading.{DecoderResult, DecoderFails, shown, item_at, until, past_stop, trees, row_of, sequence_at}
use Rattle.cbor_edn_model.proofs.lemmas.cbor.CborHeads.{IsBytes}
use Rattle.cbor_edn_model.proofs.lemmas.cbor.CborTrees.{until_shown}
use Rattle.cbor_edn_model.proofs.lemmas.layout.LaidTexts.{text_laid_nothing, text_laid_sequence}
use Rattle.cbor_edn_model.proofs.lemmas.cbor.CborTurns.{shown_ok, fails_shown}
use Rattle.cbor_edn_core.proofs.lemmas.cbor.Decodes.{sequence_decoded}
use Rattle.cbor_edn_stream.specs.Printed.{Prints, WritesRow, entry_at}

-- the elements of a sequence, as they are read
abbrev pub elements_at : ℕ → List ℕ → DecoderResult (List (Tree (OneEntry Elements)))
elements_at limit bytes = until EndOfData (entry_at Array limit) (suc (length bytes)) bytes

elements_shown : (limit : ℕ) (bytes : List ℕ) → elements_at limit bytes ≡ shown (map ElementTree) (sequence_at trees limit bytes)
elements_shown limit bytes = until_shown ElementTree EndOfData (entry_at Array limit) (item_at trees limit) (λ b. refl) (suc (length bytes)) bytes

pub elements_fail : (limit : ℕ) (bytes : List ℕ) (f : Fault CborError) → DecoderFails f (elements_at limit bytes) → DecoderFails f (sequence_at trees limit bytes)
elements_fail limit bytes f h = fails_shown (map ElementTree) f (sequence_at trees limit bytes) (subst (λ (r : DecoderResult (List (Tree (OneEntry Elements)))). DecoderFails f r) (elements_shown limit bytes) h)

-- a sequence, and its text
abbrev pub IsPrinted : ℕ → List ℕ → List ℕ → List ℕ → Type 0
IsPrinted limit bytes old new = (v : Tree Seq) × IsDecodedSequence limit bytes v × (new ≡ old ++ text (laid_out indented v))

-- where nothing stands, nothing is printed in front of a sequence
bare : respaced Optional Elsewhere (layout indented) [] ≡ []
unfolding from_first to_last
bare = refl

of_row : (old new : List ℕ) (o : Option (Tree (Rest Elements))) → WritesRow (layout indented) o old new → new ≡ old ++ text (laid_out indented (sequence_tree_of o))
of_row old new None is = absurd is
of_row old new (Some m) is = is ∙ ap (λ (t : List ℕ). old ++ t) (sym (text_laid_sequence (layout indented) [] m ∙ ap (λ (t : List ℕ). t ++ text (laid (layout indented) m)) bare))

of_elements : (limit : ℕ) (bytes rest old new : List ℕ) (es : List (Tree (OneEntry Elements))) → IsBytes bytes → elements_at limit bytes ≡ Ok (es, rest) → WritesRow (layout indented) (row_of es) old new → IsPrinted limit bytes old new
of_elements limit bytes rest old new es fits read is =
    let s = shown_ok (map ElementTree) (sequence_at trees limit bytes) (es, rest) (sym (elements_shown limit bytes) ∙ read) in
    let row : row_of es ≡ row_of (map ElementTree s.0.0) = ap (λ (p : List (Tree (OneEntry Elements)) × List ℕ). row_of p.0) (sym s.2) in
    (sequence_tree_of (row_of es), sequence_decoded limit bytes (sequence_tree_of (row_of es)) (row_of es) s.0.0 s.0.1 fits s.1 refl row, of_row old new (row_of es) is)

pub sequence_printed : {X : Type 0} (view : X → List ℕ) (limit : ℕ) (bytes : List ℕ) (l : Layout) (old new : List ℕ) (x : X) → IsBytes bytes → l ≡ layout indented → Prints (λ es. WritesRow l (row_of es)) view old new (Ok x) (elements_at limit bytes) → IsPrinted limit bytes old new
sequence_printed view limit bytes l old new x fits same p = of_elements limit bytes (view x) old new p.0 fits p.1 (subst (λ (m : Layout). WritesRow m (row_of p.0) old new) same p.2)

-- no bytes are a sequence without items, which has no text
pub nothing_printed : (limit : ℕ) (bytes old : List ℕ) → bytes ≡ [] → IsPrinted limit bytes old old
unfolding until
nothing_printed limit bytes old is = subst (λ (l : List ℕ). IsPrinted limit l old old) (sym is)
    (NothingTree [], sequence_decoded limit [] (NothingTree []) None [] [] (λ i. omega arith) refl refl refl, sym (ap (λ (t : List ℕ). old ++ t) (text_laid_nothing (layout indented) [] ∙ bare) ∙ append-nil old))

-- bytes of which none stands at the end are none
pub goes_on : (bytes : List ℕ) → length bytes ≢ 0 → past_stop EndOfData bytes ≡ None
goes_on [] some = absurd (some refl)
goes_on (b ∷ bytes) some = refl
