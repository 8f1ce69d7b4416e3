-- A scan that comes to a place goes on from there: what is read from there on is read from where it began.
use Rattle.std.proofs.Common.{ℕ, ◌+◌, ◌-◌, ◌≤◌, ◌≡◌, List, [], ◌∷◌, ◌++◌, drop, take-add, Option, Some, None, Result, Ok, Err, refl, sym, ap, ◌∙◌, append_assoc, arith}
use Rattle.std.specs.Prelude.{slice_range}
use Rattle.std.proofs.lemmas.List.{drop-drop}
use Rattle.cbor_edn_parts.specs.declared.base.error.Refusal.{Refusal}
use Rattle.cbor_edn_parts.specs.internal.Lex.{Automaton, front, munch}
use Rattle.cbor_edn_parts.specs.internal.Scans.{IsRead, Comes, Ends, ScanLands, Costs}
use Rattle.cbor_edn_parts.proofs.lemmas.base.ScanLoops.{Stands, begun, going, piece_none}

-- A scan stands where it begins.
pub standing : {State : Type 0} (T : Automaton State) (m : State) (text : List ℕ) (from old count : ℕ) (byte : Option ℕ) → IsRead text from byte → count ≡ old → Stands T m text from old m from byte count
standing T m text from old count byte read same = record {
  order = omega arith;
  within = read.place.0;
  here = read.here;
  behind = read.behind;
  place = λ d long e. read.place;
  reads = begun T m text from;
  cost = omega (arith, same);
}

pub comes_nowhere : {State : Type 0} (T : Automaton State) (text : List ℕ) (m : State) (from : ℕ) → Comes T text m from m from
comes_nowhere T text m from = record { order = omega arith; reads = begun T m text from }

pub comes_byte : {State : Type 0} (T : Automaton State) (text : List ℕ) (m n : State) (from c : ℕ) → drop from text ≡ c ∷ drop (from + 1) text → T.step c m ≡ Some n → Comes T text m from n (from + 1)
comes_byte T text m n from c here some = record {
  order = omega arith;
  reads = going T (munch T m (drop from text)) text from from c m n (omega arith) here some (begun T m text from);
}

front_front : (x y : List ℕ) (o : Option (List ℕ × List ℕ)) → front x (front y o) ≡ front (x ++ y) o
unfolding front
front_front x y None = refl
front_front x y (Some p) = rw append_assoc

-- two pieces, one behind the other
pieces : (text : List ℕ) (from at to : ℕ) → from ≤ at → at ≤ to → slice_range text from at ++ slice_range text at to ≡ slice_range text from to
pieces text from at to first then =
    let size : to - from ≡ (at - from) + (to - at) = omega arith in
    let whole : from + (at - from) ≡ at = omega arith in
    rw (size, take-add (at - from) (to - at) (drop from text), drop-drop (at - from) from text, whole) refl

pub comes_on : {State : Type 0} (T : Automaton State) (text : List ℕ) (m n o : State) (from at to : ℕ) → Comes T text m from n at → Comes T text n at o to → Comes T text m from o to
comes_on T text m n o from at to first then = record {
  order = omega (arith, first.order, then.order);
  reads = first.reads ∙ (ap (front (slice_range text from at)) then.reads
      ∙ (front_front (slice_range text from at) (slice_range text at to) (munch T o (drop to text))
      ∙ ap (λ (x : List ℕ). front x (munch T o (drop to text))) (pieces text from at to first.order then.order)));
}

pub comes_some : {State : Type 0} (T : Automaton State) (text : List ℕ) (m n : State) (from at to : ℕ) → Comes T text m from n at → at ≤ to → munch T n (drop at text) ≡ Some (slice_range text at to, drop to text) → munch T m (drop from text) ≡ Some (slice_range text from to, drop to text)
unfolding front
comes_some T text m n from at to comes order some =
    comes.reads ∙ (ap (front (slice_range text from at)) some ∙ ap (λ (x : List ℕ). Some (x, drop to text)) (pieces text from at to comes.order order))

-- where its token ends, it is read up to there
pub comes_done : {State : Type 0} (T : Automaton State) (text : List ℕ) (m n : State) (from at : ℕ) → Comes T text m from n at → munch T n (drop at text) ≡ Some ([], drop at text) → munch T m (drop from text) ≡ Some (slice_range text from at, drop at text)
comes_done T text m n from at comes done = comes_some T text m n from at at comes (omega arith) (done ∙ ap (λ (x : List ℕ). Some (x, drop at text)) (sym (piece_none text at)))

pub comes_none : {State : Type 0} (T : Automaton State) (text : List ℕ) (m n : State) (from at : ℕ) → Comes T text m from n at → munch T n (drop at text) ≡ None → munch T m (drop from text) ≡ None
unfolding front
comes_none T text m n from at comes none = comes.reads ∙ ap (front (slice_range text from at)) none

-- what a scan finds from a place that another one came to
pub ends_before : {State : Type 0} (T : Automaton State) (text : List ℕ) (m n : State) (from at : ℕ) (r : Result (Option ℕ × ℕ) Refusal) → Comes T text m from n at → ScanLands text at r → Ends text at r (munch T n (drop at text)) → Ends text from r (munch T m (drop from text))
ends_before T text m n from at (Ok p) comes lands ends = (ends.0, comes_some T text m n from at p.1 comes lands.0 ends.1)
ends_before T text m n from at (Err e) comes lands ends = (comes_none T text m n from at comes ends.0, ends.1)

pub lands_before : {X : Type 0} (text : List ℕ) (from at : ℕ) (r : Result (X × ℕ) Refusal) → from ≤ at → ScanLands text at r → ScanLands text from r
lands_before text from at (Ok p) order lands = (omega (arith, order, lands.0), lands.1)
lands_before text from at (Err e) order lands = lands

-- Between the two places each byte took one read, and j more were taken.
pub costs_before : {X E : Type 0} (j k failed : ℕ) (text : List ℕ) (from at old now new : ℕ) (r : Result (X × ℕ) E) → from ≤ at → now + from ≡ old + at + j → Costs 1 k failed text at now new r → Costs 1 (k + j) (failed + j) text from old new r
costs_before j k failed text from at old now new (Ok p) order looked costs = (omega (arith, order, looked, costs.0), omega (arith, order, looked, costs.1))
costs_before j k failed text from at old now new (Err e) order looked costs = (omega (arith, order, looked, costs.0), omega (arith, order, looked, costs.1))
