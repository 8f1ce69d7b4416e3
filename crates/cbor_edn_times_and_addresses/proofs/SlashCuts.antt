-- Cuts at a slash, as `split_once` tells of them.
use Rattle.std.proofs.Common.{◌≡◌, ◌≢◌, ℕ, List, ◌∷◌, ◌++◌, Some, None, refl, length, get_or, ◌<◌}
use Rattle.std.proofs.lemmas.List.Elements.{All-from_get_or}
use Rattle.cbor_edn_times_and_addresses.specs.Address.{slash, IsCut}

pub cut_nowhere : (text : List ℕ) → ((i : ℕ) → i < length text → get_or text i 0 ≢ slash) → IsCut text text None
cut_nowhere text none = (refl, All-from_get_or (λ b. b ≢ slash) text 0 none)

pub cut_at : (text front back : List ℕ) → text ≡ front ++ (slash ∷ back) → ((i : ℕ) → i < length front → get_or front i 0 ≢ slash) → IsCut text front (Some back)
cut_at text front back e none = (e, All-from_get_or (λ b. b ≢ slash) front 0 none)
