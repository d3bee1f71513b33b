-- What the tests of a call leave to be taken. Assumes nothing.
use Rattle.std.proofs.Common.{◌≡◌, ℕ, ◌+◌, ◌^◌, ◌≤◌, Bool, true, false, cond, ◌||◌, ltb, leb, List, ◌++◌, map, length, take, drop, ℤ, Some, None, Option, refl, ap, ◌∙◌, arith}
use Rattle.std.proofs.lemmas.List.{length-append, length-drop, take_at}
use Rattle.std.proofs.lemmas.Bool.{ltb-false}
use Rattle.common.specs.declared.refusal.Refusal.{Refusal}
use Rattle.common.specs.declared.refusal.Refusal.TheVariants.{KeyLength, KeyTooLarge}
use Rattle.inputs.specs.declared.sizes.Sizes.{Sizes}
use Rattle.inputs.specs.Keys.{highest_bit, key_refusal, scalar}
use Rattle.inputs.specs.Sizes.{key_bits}
use Rattle.recoding.specs.declared.digit.Digit.{Digit}
use Rattle.recoding.specs.Codings.{digits_in}
use Rattle.recoding.specs.Digits.{decoded, encoded}
use Rattle.recoding.proofs.Loop.{decode_all}

pub some_none : {X : Type 0} {x : X} → Some x ≡ None → ⊥
some_none p = let z : ◌≡◌ {A = ℕ} 0 1 = cc in omega arith

-- the words that a recoding wrote hold its digits
pub digits_held : (z : Sizes) (ds : List Digit) (before after : List ℤ) → after ≡ map encoded ds ++ drop z.m before → length after ≡ length before → z.m ≤ length before → digits_in z after ≡ ds
digits_held z ds before after e long enough =
    let total : length after ≡ length (map encoded ds) + length (drop z.m before) = ap length e ∙ length-append (map encoded ds) (drop z.m before) in
    let count : length (map encoded ds) ≡ z.m = omega (arith, total, long, length-drop z.m before) in
    ap (λ (ws : List ℤ). map decoded (take z.m ws)) e ∙ ap (map decoded) (take_at (map encoded ds) (drop z.m before) z.m count) ∙ decode_all ds
