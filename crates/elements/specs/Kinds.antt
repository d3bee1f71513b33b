-- The numbers of the three groups. Assumes nothing.
use Rattle.std.specs.Prelude.{ℕ, cond, Some, None, Option, Result, ◌==◌}
use Rattle.std.specs.Option.{ok_or}
use Rattle.elements.specs.declared.kind.GroupKind.{GroupKind}
use Rattle.elements.specs.declared.kind.GroupKind.TheVariants.{Sums, Clock, Curve}
use Rattle.elements.specs.declared.kind.NoSuchGroup.{NoSuchGroup}

-- the group of a number, if there is one
abbrev pub kind_numbered : ℕ → Option GroupKind
kind_numbered n = cond (n == 1) (Some Sums) (cond (n == 2) (Some Clock) (cond (n == 3) (Some Curve) None))

-- the group of a number, or that no group has it
abbrev pub numbered : ℕ → Result GroupKind NoSuchGroup
numbered n = ok_or (kind_numbered n) (record { number = n })
