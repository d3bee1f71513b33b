use Rattle.std.proofs.Common.{vec_items, arith, true-eqb, false-eqb}
use Rattle.lines.proofs.Progress.{progress_more, progress_all}
use Rattle.lines.proofs.program.answer_lines.Goals as goal

pub loop-rest-preserved : goal.loop-rest-preserved
loop-rest-preserved g c =
    let answer = c.in_ok-kind.ensures in
    let full = c.in_ok-write_full.ensures in
    rw c.count-summary.ensures
    (progress_more g.P.Program.answers _ _ _ _ _ _ c.loop-rest.invariant c.next_line.result.0.now _ answer.0 (vec_items c.answer_line.new.out) _ full.0 c.in_ok-kind.kind _
    (omega (arith, false-eqb _ 0 c.loop-rest-test.ensures)) c.next_line.ensures.line c.next_line.ensures.rest answer.1 answer.2 full.1 full.2)

pub returns : goal.returns
returns g c =
    let p = c.loop-rest.invariant in
    (p.done, p.written, progress_all g.P.Program.answers _ _ _ _ _ _ p (true-eqb _ 0 c.loop-rest-test.ensures))
