-- Keys: the number in words of 32 bits, lowest first, and which keys the sizes refuse.
use Rattle.std.specs.Prelude.{◌≡◌, ℕ, zero, suc, ◌+◌, ◌*◌, ◌/◌, ◌%◌, ◌^◌, ◌<◌, ◌≤◌, cond, List, [], ◌∷◌, length, Some, None, Option, nat_le, slice_index}
use Rattle.common.specs.declared.refusal.Refusal.{Refusal}
use Rattle.common.specs.declared.refusal.Refusal.TheVariants.{KeyLength, KeyTooLarge}
use Rattle.inputs.specs.declared.sizes.Sizes.{Sizes}
use Rattle.inputs.specs.Sizes.{key_bits, outside}

-- the number in the words
abbrev pub scalar : List ℕ → ℕ
scalar [] = 0
scalar (w ∷ ws) = scalar ws * 2 ^ 32 + w

-- the half of a key, rounded down: what is recoded
abbrev pub half : List ℕ → ℕ
half key = scalar key / 2

-- the place of the highest set bit of x below bit n, counted from 0
abbrev pub highest_bit : (n x : ℕ) → ℕ
highest_bit zero x = 0
highest_bit (suc n) x = cond (nat_le (2 ^ n) x) n (highest_bit n x)

-- no bit of x is set, or bit h is and none above it
abbrev pub Highest : ℕ → Option ℕ → Type 0
Highest x None = x ≡ 0
Highest x (Some h) = (2 ^ h ≤ x) × (x < 2 ^ suc h)

-- no word is above 0, or the word at i is and none behind it
abbrev pub TopWord : List ℕ → Option ℕ → Type 0
TopWord ws None = (j : ℕ) → j < length ws → slice_index ws j ≡ 0
TopWord ws (Some i) = (i < length ws) × (0 < slice_index ws i) × ((j : ℕ) → i < j → j < length ws → slice_index ws j ≡ 0)

-- the refusal of a key, or none: its words are counted first, then its bits
abbrev pub key_refusal : Sizes → List ℕ → Option Refusal
key_refusal z key =
    cond (outside (length key) 1 16) (Some (KeyLength (length key)))
    (cond (nat_le (2 ^ key_bits z) (scalar key)) (Some (KeyTooLarge (highest_bit 512 (scalar key)))) None)

-- the k bits of e from bit p up
abbrev pub bits_at : (e k p : ℕ) → ℕ
bits_at e k p = e / 2 ^ p % 2 ^ k
