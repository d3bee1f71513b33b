use Rattle.std.proofs.Common.{◌^◌, map, drop}
use Rattle.recoding.specs.Digits.{decoded}
use Rattle.inputs.specs.Keys.{half}
use Rattle.recoding.proofs.Checking.{Equation, Rest}
use Rattle.recoding.proofs.Machine.{About}
use Rattle.recoding.proofs.check.equation_holds.Given as goal

abbrev pub invariant-loop-i : goal.invariant-loop-i
invariant-loop-i l =
    About (2 ^ 61) l.carried
    × (Equation l.sizes.k l.sizes.b l.s (half l.key) l.correction (map decoded l.words) → Rest l.sizes.k l.sizes.b l.s (half l.key) l.i l.carried (map decoded (drop l.i l.words)))
    × (Rest l.sizes.k l.sizes.b l.s (half l.key) l.i l.carried (map decoded (drop l.i l.words)) → Equation l.sizes.k l.sizes.b l.s (half l.key) l.correction (map decoded l.words))
