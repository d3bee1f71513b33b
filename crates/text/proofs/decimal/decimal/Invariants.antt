use Rattle.text.proofs.DecimalReading.{Reading}
use Rattle.text.proofs.decimal.decimal.Given as goal

abbrev pub invariant-loop-byte : goal.invariant-loop-byte
invariant-loop-byte l = Reading l.text l.byte-index l.number
