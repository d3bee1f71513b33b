use Rattle.std.proofs.Common.{vec_items}
use Rattle.std.specs.Slice.Iter.{rchunks_rest, rchunks_size}
use Rattle.text.proofs.Grouping.{WordsLeft}
use Rattle.text.proofs.hex.hex_words.Given as goal

abbrev pub invariant-loop-group : goal.invariant-loop-group
invariant-loop-group l = WordsLeft l.text (vec_items l.words) (rchunks_rest l.group-iterator) (rchunks_size l.group-iterator)
