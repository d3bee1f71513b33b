-- What a read gives from the bytes and the mark before it, and where the mark stands after.
use Rattle.std.specs.Prelude.{◌≡◌, ℕ, ◌+◌, ◌<◌, ◌≤◌, List, length, take, drop, Some, None, Option, slice_index}
use Rattle.std.specs.Borrow.{Bor}

-- one byte: the one at the mark, which goes behind it, or none where all are read
abbrev pub Next : List ℕ → ℕ → Option ℕ → ℕ → Type 0
Next bytes mark (Some byte) after = (mark < length bytes) × (byte ≡ slice_index bytes mark) × (after ≡ mark + 1)
Next bytes mark None after = (length bytes ≤ mark) × (after ≡ mark)

-- the next count bytes, all of them or none
abbrev pub NextMany : List ℕ → ℕ → ℕ → Option (Bor (List ℕ)) → ℕ → Type 0
NextMany bytes mark count (Some part) after = (mark + count ≤ length bytes) × (part.now ≡ take count (drop mark bytes)) × (after ≡ mark + count)
NextMany bytes mark count None after = (length bytes < mark + count) × (after ≡ mark)
