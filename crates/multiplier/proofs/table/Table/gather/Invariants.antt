use Rattle.std.proofs.Common.{◌≡◌, ◌++◌, map, length, reverse}
use Rattle.std.specs.Iterator.Adapters.{rev_source}
use Rattle.std.specs.Slice.Iter.{iter_rest}
use Rattle.steps.specs.Operations.{gathered}
use Rattle.steps.specs.Work.{many_rounds}
use Rattle.multiplier.specs.Tables.{read_digit}
use Rattle.multiplier.proofs.table.Table.gather.Given as goal

abbrev pub invariant-loop-word : goal.invariant-loop-word
invariant-loop-word g l =
    let d = g.D.GroupDevice in
    let G = d.group l.initial.device in
    (iter_rest (rev_source l.word-iterator) ++ map (λ w. w.now) (reverse l.yielded) ≡ l.words)
    × (l.result ≡ gathered G l.width (read_digit G l.self.cells.now l.origin) (map (λ w. g.W.Word.digit w.now) (reverse l.yielded)))
    × (d.group l.device ≡ G)
    × (d.tally l.device ≡ many_rounds (length l.yielded) l.width (d.tally l.initial.device))
