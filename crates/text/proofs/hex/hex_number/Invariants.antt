use Rattle.text.proofs.HexReading.{Reading}
use Rattle.text.proofs.hex.hex_number.Given as goal

abbrev pub invariant-loop-byte : goal.invariant-loop-byte
invariant-loop-byte l = Reading l.text l.byte-index l.number
