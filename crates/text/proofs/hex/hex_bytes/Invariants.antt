use Rattle.std.proofs.Common.{vec_items}
use Rattle.std.specs.Slice.Iter.{chunks_exact_rest, chunks_exact_size}
use Rattle.text.proofs.Grouping.{BytesLeft}
use Rattle.text.proofs.hex.hex_bytes.Given as goal

abbrev pub invariant-loop-pair : goal.invariant-loop-pair
invariant-loop-pair l = BytesLeft l.text (vec_items l.bytes) (chunks_exact_rest l.pair-iterator) (chunks_exact_size l.pair-iterator)
