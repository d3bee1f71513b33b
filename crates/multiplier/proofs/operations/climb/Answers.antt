use Rattle.std.proofs.Common.{◌≡◌, ℕ, suc, ◌-◌, ◌/◌, ◌%◌, ◌^◌, ap, ◌∙◌, arith}
use Rattle.groups.specs.Groups.{added}
use Rattle.groups.specs.Tally.{one_addition, one_doubling}
use Rattle.steps.specs.Operations.{chosen, climbed, doublings}
use Rattle.multiplier.proofs.Climbing.{climbed_more}
use Rattle.multiplier.proofs.operations.climb.Goals as goal

pub loop-i-preserved : goal.loop-i-preserved
loop-i-preserved g c =
    let d = g.D.GroupDevice in
    let G = d.group c.args.device.now in
    let inv = c.loop-i.invariant in
    let more = c.round-result.ensures in
    let n : ℕ = c.args.bits - c.loop-i.i in
    let j : ℕ = c.loop-i.i - 1 in
    let one_more : c.args.bits - j ≡ suc n = omega (arith, c.loop-i.auto.i, c.loop-i-test.true) in
    let index : c.loop-i.i ≡ suc j = omega (arith, c.loop-i-test.true) in
    rw one_more (
      climbed_more G c.args.base c.loop-i.result c.choose-addend.result c.round-result.result n c.args.s j
          (inv.0 ∙ ap (λ k. climbed G c.args.base n (c.args.s / 2 ^ k)) index)
          (c.choose-addend.ensures ∙ ap (λ h. chosen h c.args.base (c.args.s / 2 ^ j % 2)) inv.1)
          (more.value ∙ ap (λ h. added h (doublings h 1 c.loop-i.result) c.choose-addend.result) inv.1),
      more.same ∙ inv.1,
      more.counted ∙ ap (λ t. one_addition (one_doubling t)) inv.2,
    )
