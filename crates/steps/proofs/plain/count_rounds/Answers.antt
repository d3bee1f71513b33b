use Rattle.std.proofs.Common.{ap, ◌∙◌, add-one}
use Rattle.groups.specs.Tally.{one_addition}
use Rattle.steps.specs.Work.{many_doublings}
use Rattle.steps.proofs.plain.count_rounds.Goals as goal

pub loop-preserved : goal.loop-preserved
loop-preserved c = rw add-one (c.count_addition.ensures ∙ ap one_addition (c.count_doublings-counted.ensures ∙ ap (many_doublings c.args.doublings) c.loop.invariant))
