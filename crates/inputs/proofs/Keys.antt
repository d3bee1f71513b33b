-- Which keys are refused.
use Rattle.std.proofs.Common.{◌≡◌, ℕ, zero, suc, ◌^◌, ◌<◌, ◌≤◌, true, false, List, length, get_or, take, Some, None, sym, ap, subst, arith, pow_mono}
use native.Mathlib.Decide.{dec_lt, dec_le}
use Rattle.common.specs.declared.refusal.Refusal.TheVariants.{KeyLength, KeyTooLarge}
use Rattle.std.proofs.lemmas.List.{take_all}
use Rattle.std.proofs.lemmas.Bool.{le-leb, lt-leb, le-ltb}
use Rattle.inputs.specs.declared.sizes.Sizes.{Sizes}
use Rattle.inputs.specs.Keys.{scalar, highest_bit, key_refusal}
use Rattle.inputs.specs.Sizes.{key_bits, outside}
use Rattle.inputs.proofs.Words.{scalar_below}

highest_is : (n x h : ℕ) → h < n → 2 ^ h ≤ x → x < 2 ^ suc h → highest_bit n x ≡ h
highest_is zero x h p a b = elim p [ ]
highest_is (suc n) x h p a b = elim (dec_lt h n) [ yes q ↦ further q (highest_is n x h q a b) | no q ↦ here (omega arith) ]
  where
    further : h < n → highest_bit n x ≡ h → highest_bit (suc n) x ≡ h
    further q r = let w : 2 ^ suc h ≤ 2 ^ n = pow_mono q in rw (lt-leb (2 ^ n) x (omega arith)) r

    here : n ≡ h → highest_bit (suc n) x ≡ h
    here e = rw (le-leb (2 ^ n) x (subst (λ (y : ℕ). 2 ^ y ≤ x) (sym e) a)) e

bit_below : (h n x : ℕ) → 2 ^ h ≤ x → x < 2 ^ n → h < n
bit_below h n x a b = elim (dec_le n h) [ yes p ↦ absurd (let w : 2 ^ n ≤ 2 ^ h = pow_mono p in omega arith) | no p ↦ omega arith ]

module _ (z : Sizes) (key : List ℕ) where
  pub length_refused : outside (length key) 1 16 ≡ true → key_refusal z key ≡ Some (KeyLength (length key))
  length_refused e = rw e

  module _ (short : length key ≤ 16) (some : 1 ≤ length key) where
    counted : outside (length key) 1 16 ≡ false
    counted = rw (le-ltb (length key) 1 some, le-ltb 16 (length key) short)

    pub size_refused : (h : ℕ) → ((i : ℕ) → get_or key i 0 < 2 ^ 32) → 2 ^ h ≤ scalar key → scalar key < 2 ^ suc h → key_bits z ≤ h → key_refusal z key ≡ Some (KeyTooLarge h)
    size_refused h fits a b large =
        let p : 2 ^ key_bits z ≤ 2 ^ h = pow_mono large in
        let e : take 16 key ≡ key = take_all 16 key short in
        let q : scalar key < 2 ^ 512 = subst (λ (ws : List ℕ). scalar ws < 2 ^ 512) e (scalar_below key 16 fits) in
        rw counted (rw (le-leb (2 ^ key_bits z) (scalar key) (omega arith)) (ap (λ (y : ℕ). Some (KeyTooLarge y)) (highest_is 512 (scalar key) h (bit_below h 512 (scalar key) a q) a b)))

    pub size_taken : (h : ℕ) → scalar key < 2 ^ h → h ≤ key_bits z → key_refusal z key ≡ None
    size_taken h b small = let p : 2 ^ h ≤ 2 ^ key_bits z = pow_mono small in rw counted (rw (lt-leb (2 ^ key_bits z) (scalar key) (omega arith)))
