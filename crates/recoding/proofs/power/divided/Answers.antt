use Rattle.std.proofs.Common.{◌≡◌, ◌^◌, ◌≤◌, ℤ, pos, negsuc, ◌*ℤ◌, ◌≤ℤ◌, Some, None, sym, ap, ◌∙◌, subst, ap₂, arith, w64, SFits, to_z, of_z}
use lib.Signed.{quot_z, rem_z}
use Rattle.std.proofs.lemmas.Int.{ints, to_z-of_z}
use Rattle.inputs.specs.Quotients.{exact, inexact, quot_quarter, rem_small}
use Rattle.recoding.specs.Powers.{Divided}
use Rattle.recoding.proofs.Machine.{About}
use Rattle.recoding.proofs.power.divided.Goals as goal

-- a quotient that leaves nothing, and one that leaves something, of the words x and u
even : (u x : ℤ) → pos 4 ≤ℤ u → SFits w64 u → SFits w64 x → of_z w64 (rem_z (to_z w64 (of_z w64 x)) (to_z w64 (of_z w64 u))) ≡ 0 →
    let q : ℤ = to_z w64 (of_z w64 (quot_z (to_z w64 (of_z w64 x)) (to_z w64 (of_z w64 u)))) in Divided u x (Some q) × About (2 ^ 61) q
even (negsuc n) x l f g h = absurd (omega (arith, ints))
even (pos n) x l f g h =
    let p : 4 ≤ n = omega (arith, ints) in
    let t = quot_quarter x n p g in
    let s = rem_small x n (omega arith) in
    let e0 = to_z-of_z w64 x g in
    let e1 = to_z-of_z w64 (pos n) f in
    let r : of_z w64 (rem_z x (pos n)) ≡ 0 = ap₂ (λ (a b : ℤ). of_z w64 (rem_z a b)) (sym e0) (sym e1) ∙ h in
    let z : rem_z x (pos n) ≡ pos 0 = sym (to_z-of_z w64 (rem_z x (pos n)) (omega (arith, ints, s, f))) ∙ ap (to_z w64) r in
    let q = ap₂ (λ (a b : ℤ). to_z w64 (of_z w64 (quot_z a b))) e0 e1 ∙ to_z-of_z w64 (quot_z x (pos n)) (omega (arith, ints, t)) in
    (ap (λ (y : ℤ). pos n *ℤ y) q ∙ exact x n z, subst (About (2 ^ 61)) (sym q) t)

odd : (u x : ℤ) → pos 4 ≤ℤ u → SFits w64 u → SFits w64 x → (of_z w64 (rem_z (to_z w64 (of_z w64 x)) (to_z w64 (of_z w64 u))) ≡ 0 → ⊥) → Divided u x None
odd (negsuc n) x l f g h = absurd (omega (arith, ints))
odd (pos n) x l f g h = inexact x n (λ z. h (ap₂ (λ (a b : ℤ). of_z w64 (rem_z a b)) (to_z-of_z w64 x g) (to_z-of_z w64 (pos n) f) ∙ ap (of_z w64) z))

pub returns-then-x-divisor-eq0 : goal.returns-then-x-divisor-eq0
returns-then-x-divisor-eq0 c =
    let t = even c.args.divisor c.args.x c.requires c.ranges.divisor c.ranges.x c.if-x-divisor-eq0.true in
    record { divided = t.0; small = t.1 }

pub returns-else-x-divisor-eq0 : goal.returns-else-x-divisor-eq0
returns-else-x-divisor-eq0 c = record { divided = odd c.args.divisor c.args.x c.requires c.ranges.divisor c.ranges.x c.if-x-divisor-eq0.false; small = tt }
