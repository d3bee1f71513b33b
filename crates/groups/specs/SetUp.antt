-- What set-up gives for each modulus. Assumes nothing.
use Rattle.std.specs.Prelude.{◌≡◌, ℕ, ◌^◌, Bool, true, false, ◌&&◌, Ok, Err, Result, nat_le}
use Rattle.common.specs.declared.refusal.Refusal.{Refusal}
use Rattle.common.specs.declared.refusal.Refusal.TheVariants.{Modulus}
use Rattle.groups.specs.declared.tally.Tally.{Tally}
use Rattle.groups.specs.Groups.{Group}
use Rattle.groups.specs.Tally.{zero_tally}

-- the moduli of sums and of the clock: 2 to 2^31
abbrev pub in_range : ℕ → Bool
in_range n = nat_le 2 n && nat_le n (2 ^ 31)

-- a modulus that fits gives a device whose group is exactly g and whose tally is zero
pub record Accepted {D E : Type 0} (group : D → Group E) (tally : D → Tally) (fits : Bool) (g : Group E) (device : D) : Type 0 where
  pub fitting : fits ≡ true
  pub meaning : group device ≡ g
  pub untouched : tally device ≡ zero_tally

-- any other is refused as a modulus
pub record Declined (fits : Bool) (refusal : Refusal) : Type 0 where
  pub unfit : fits ≡ false
  pub modulus : refusal ≡ Modulus

-- what set-up gives, by whether the modulus fits
abbrev pub SetUp : {D E : Type 0} → (D → Group E) → (D → Tally) → Bool → Group E → Result D Refusal → Type 0
SetUp group tally fits g (Ok device) = Accepted group tally fits g device
SetUp group tally fits g (Err refusal) = Declined fits refusal
