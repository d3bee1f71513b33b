-- The value of each sign and of each carry.
use Rattle.std.specs.Prelude.{ℤ, pos, negsuc, ◌*ℤ◌}
use Rattle.inputs.specs.declared.sign.Sign.{Sign}
use Rattle.inputs.specs.declared.sign.Sign.TheVariants.{Plus, Minus}
use Rattle.inputs.specs.declared.sign.Carry.{Carry}
use Rattle.inputs.specs.declared.sign.Carry.TheVariants.{Down, Zero, Up}

-- +1 or -1
abbrev pub sign_value : Sign → ℤ
sign_value Plus = pos 1
sign_value Minus = negsuc 0

-- -1, 0 or +1
abbrev pub carry_value : Carry → ℤ
carry_value Down = negsuc 0
carry_value Zero = pos 0
carry_value Up = pos 1

-- a number with a sign
abbrev pub signed : Sign → ℤ → ℤ
signed g z = sign_value g *ℤ z
