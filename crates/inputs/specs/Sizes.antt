-- The limits of the sizes, and which refusal meets three numbers that miss them.
use Rattle.std.specs.Prelude.{◌≡◌, ℕ, ◌+◌, ◌*◌, ◌≤◌, Bool, cond, ◌||◌, Some, None, Ok, Err, Option, Result, nat_lt}
use Rattle.common.specs.declared.refusal.Refusal.{Refusal}
use Rattle.common.specs.declared.refusal.Refusal.TheVariants.{WindowWidth, DrawWidth, WindowCount}
use Rattle.inputs.specs.declared.sizes.Sizes.{Sizes}

-- n is not from least to most
abbrev pub outside : (n least most : ℕ) → Bool
outside n least most = nat_lt n least || nat_lt most n

-- the refusal of k, b and m, or none: the window width is tested first, then the draw width, then the count and the bits of a key
abbrev pub sizes_refusal : (k b m : ℕ) → Option Refusal
sizes_refusal k b m =
    cond (outside k 2 6) (Some WindowWidth)
    (cond (outside b 1 30) (Some DrawWidth)
    (cond (outside m 1 255) (Some WindowCount)
    (cond (nat_lt 512 (m * k + b)) (Some WindowCount) None)))

-- sizes are made of k, b and m exactly where nothing is refused
abbrev pub Made : (k b m : ℕ) → Result Sizes Refusal → Type 0
Made k b m (Ok z) = (sizes_refusal k b m ≡ None) × (z.k ≡ k) × (z.b ≡ b) × (z.m ≡ m)
Made k b m (Err e) = sizes_refusal k b m ≡ Some e

-- how many bits a key may have
abbrev pub key_bits : Sizes → ℕ
key_bits z = z.m * z.k + z.b

-- the widths that sizes can have
abbrev pub Widths : (k b : ℕ) → Type 0
Widths k b = (2 ≤ k) × (k ≤ 6) × (1 ≤ b) × (b ≤ 30)
