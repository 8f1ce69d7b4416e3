-- Where the parts of a time text stand.
use Rattle.std.specs.Prelude.{ℕ, ℤ, ◌≡◌, ◌++◌, ◌-◌, ◌==◌, ◌||◌, if◌then◌else◌, List, length, slice_index}
use Rattle.cbor_edn_times_and_addresses.specs.Time.{IsFraction, IsOffset}

abbrev pub last : List ℕ → ℕ
last t = slice_index t (length t - 1)

-- the length of the offset at the end of a time text, by its last byte
unfoldable pub offset_length : List ℕ → ℕ
offset_length t = if (last t == 90) || (last t == 122) then 1 else 6

-- what stands behind the seconds of a clock
pub record IsTail (text : List ℕ) (nanoseconds : ℕ) (ahead : ℤ) : Type 0 where
  pub fraction : List ℕ
  pub offset : List ℕ
  pub fraction_is : IsFraction fraction nanoseconds
  pub offset_is : IsOffset offset ahead
  pub spelled : text ≡ fraction ++ offset
