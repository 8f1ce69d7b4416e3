-- The fold over a front, byte by byte.
use Rattle.std.proofs.Common.{◌≡◌, ◌<◌, ◌+◌, ℕ, suc, List, [], ◌∷◌, length, get_or, drop, refl, sym, ap, ◌∙◌, add-one}
use Rattle.std.proofs.Math.Seq.{drop-cons, drop-length}
use Rattle.cbor_edn_explain.specs.declared.state.Reading.{Reading}
use Rattle.cbor_edn_explain.specs.State.{Opened, step, read, behind, at_start}

pub reads_first : (front : List ℕ) → read 0 (at_start, []) (drop 0 front) ≡ behind front
unfolding behind
reads_first front = refl

one_more : (at : ℕ) (s : Reading × Opened) (c : ℕ) (rest : List ℕ) → read (at + 1) (step at s c) rest ≡ read at s (c ∷ rest)
unfolding read
one_more at s c rest = refl

pub reads_on : (front : List ℕ) (at : ℕ) (s n : Reading × Opened) → at < length front → n ≡ step at s (get_or front at 0) → read at s (drop at front) ≡ behind front → read (at + 1) n (drop (at + 1) front) ≡ behind front
reads_on front at s n lt e h =
    ap (λ (k : ℕ). read (at + 1) n (drop k front)) (add-one at)
    ∙ ap (λ (m : Reading × Opened). read (at + 1) m (drop (suc at) front)) e
    ∙ one_more at s (get_or front at 0) (drop (suc at) front)
    ∙ ap (λ (l : List ℕ). read at s l) (sym (drop-cons front at 0 lt))
    ∙ h

nothing_left : (at : ℕ) (s : Reading × Opened) → s ≡ read at s []
unfolding read
nothing_left at s = refl

pub reads_all : (front : List ℕ) (at : ℕ) (s : Reading × Opened) → at ≡ length front → read at s (drop at front) ≡ behind front → s ≡ behind front
reads_all front at s e h =
    nothing_left at s
    ∙ ap (λ (l : List ℕ). read at s l) (sym (ap (λ (k : ℕ). drop k front) e ∙ drop-length front))
    ∙ h
