use Rattle.std.proofs.Common.{List, map, get_or, ℤ, pos, refl, subst, w32, SFits, rules}
use Rattle.std.proofs.lemmas.List.{take_all}
use Rattle.std.proofs.lemmas.Int.{to_z-of_z}
use Rattle.recoding.specs.Codings.{Within}
use Rattle.recoding.specs.Digits.{decoded}
use Rattle.recoding.proofs.Limits.{within_more, within_at, not_true}
use Rattle.recoding.proofs.check.within_limits.Goals as goal

pub returns-then-not-digit_within : goal.returns-then-not-digit_within
returns-then-not-digit_within c =
    let f : SFits w32 c.args.lo = c.ranges.lo in
    let g : SFits w32 c.args.hi = c.ranges.hi in
    let e : SFits w32 (get_or c.args.words.now c.loop-word.word-index (pos 0)) = search rules in
    let t = simp to_z-of_z at c.if-not-digit_within.ensures.1 in
    (not_true, λ p. t (within_at c.args.lo c.args.hi c.args.words.now c.loop-word.word-index c.loop-word-test.true p))

pub loop-word-preserved : goal.loop-word-preserved
loop-word-preserved c =
    let f : SFits w32 c.args.lo = c.ranges.lo in
    let g : SFits w32 c.args.hi = c.ranges.hi in
    let e : SFits w32 (get_or c.args.words.now c.loop-word.word-index (pos 0)) = search rules in
    let t = simp to_z-of_z at (c.if-not-digit_within.ensures.0 refl) in
    let i = simp to_z-of_z at c.loop-word.invariant in
    simp to_z-of_z (within_more c.args.lo c.args.hi c.args.words.now c.loop-word.word-index c.loop-word-test.true i t)

pub returns : goal.returns
returns c =
    let f : SFits w32 c.args.lo = c.ranges.lo in
    let g : SFits w32 c.args.hi = c.ranges.hi in
    let i = simp to_z-of_z at c.loop-word.invariant in
    (λ _. subst (λ (ws : List ℤ). Within c.args.lo c.args.hi (map decoded ws)) (take_all c.loop-word.word-index c.args.words.now c.loop-word-test.false) i, λ _. refl)
