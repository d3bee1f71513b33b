use Rattle.std.proofs.Common.{◌≡◌, ◌≤◌, map, drop}
use Rattle.recoding.specs.Digits.{encoded}
use Rattle.inputs.specs.Keys.{half}
use Rattle.recoding.proofs.Loop.{standing}
use Rattle.recoding.proofs.recode.recode_windows.Given as goal

abbrev pub invariant-loop-i : goal.invariant-loop-i
invariant-loop-i g l =
    (l.i ≤ l.sizes.m)
    × (drop l.i l.words ≡ map encoded (standing (g.R.SignRule.rule l.rule) l.sizes l.s (half l.key) l.i).digits)
    × (l.left ≡ (standing (g.R.SignRule.rule l.rule) l.sizes l.s (half l.key) l.i).left)
