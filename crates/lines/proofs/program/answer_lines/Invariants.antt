use Rattle.std.proofs.Common.{length, vec_items}
use Rattle.lines.proofs.Progress.{Progress}
use Rattle.lines.proofs.program.answer_lines.Given as goal

abbrev pub invariant-loop-rest : goal.invariant-loop-rest
invariant-loop-rest g l = Progress g.P.Program.answers (g.W.Write.contents l.fn.output) (g.W.Write.contents l.output) l.text (vec_items l.out) l.rest l.summary

abbrev pub decreases-loop-rest : goal.decreases-loop-rest
decreases-loop-rest g l = length l.rest
