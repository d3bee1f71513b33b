use Rattle.std.proofs.Common.{vec_items}
use Rattle.lines.proofs.Progress.{printed}
use Rattle.lines.proofs.program.answer_all.Goals as goal

pub returns : goal.returns
returns g c =
    rw (← c.words.ensures) (printed g.P.Program.answers c.write_all.result (g.R.Read.remaining c.args.input.now) (vec_items c.new-text.result) (vec_items c.read_to_end.new.buf) c.as_slice.result.now c.words.result.now
    (vec_items c.answer_lines.new.out) (vec_items c.write.new.out) c.as_slice-2.result.now c.in_ok-summary.summary _ (g.W.Write.contents c.answer_lines.new.output) _
    c.new-text.ensures.items c.in_ok-read_to_end.ensures.bytes c.as_slice.ensures.value c.in_ok-summary.ensures c.in_ok-write.ensures c.as_slice-2.ensures.value c.write_all.ensures.bytes)
