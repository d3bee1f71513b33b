use Rattle.std.proofs.Common.{◌≡◌, ℕ, ◌+◌, ◌-◌, ◌/◌, ◌^◌, map, get_or, ℤ, pos, sym, ap, ◌∙◌, subst, arith, w32, w64, SFits, to_z, rules}
use Rattle.std.proofs.lemmas.List.{drop_all}
use Rattle.std.proofs.lemmas.Int.{ints, to_z-of_z}
use Rattle.recoding.specs.Digits.{encoded}
use Rattle.inputs.specs.Keys.{scalar}
use Rattle.inputs.specs.Rules.{Rule, Reached, digit}
use Rattle.recoding.proofs.Loop.{standing, start, top_field, left_about, number_is, reached_at, digit_about, above_about, again, finish}
use Rattle.recoding.proofs.Machine.{About}
use Rattle.recoding.proofs.recode.recode_windows.Goals as goal

pub loop-i-init : goal.loop-i-init
loop-i-init g c =
    let R : Rule = g.R.SignRule.rule c.args.rule.now in
    let d : ℕ = scalar c.args.key.now in
    let t = start R c.args.sizes c.args.s d (g.met.R.SignRule.lawful c.args.rule.now) c.requires.admitted c.requires.key in
    let r : to_z w64 c.top_bits-left.result ≡ pos c.top_bits-left.result = omega (arith, ints) in
    let n = c.windows-i.ensures in
    let f = c.top_bits-left.ensures ∙ top_field d c.args.sizes.k c.args.sizes.b c.args.sizes.m c.requires.key in (
      omega arith,
      drop_all c.windows-i.result c.args.words.now (omega arith) ∙ sym (ap (λ (m : ℕ). map encoded (standing R c.args.sizes c.args.s (d / 2) m).digits) n ∙ ap (map encoded) t.0),
      r ∙ ap pos f ∙ sym (ap (λ (m : ℕ). (standing R c.args.sizes c.args.s (d / 2) m).left) n ∙ t.1),
    )

pub join-requires : goal.join-requires
join-requires g c =
    let t = left_about (g.R.SignRule.rule c.args.rule.now) c.args.sizes c.args.s (scalar c.args.key.now) (g.met.R.SignRule.lawful c.args.rule.now) c.requires.admitted c.requires.key c.loop-i.i c.loop-i.invariant.0 in
    subst (About (2 ^ 30)) (sym c.loop-i.invariant.2) t

pub cut-window-requires : goal.cut-window-requires
cut-window-requires g c =
    let R : Rule = g.R.SignRule.rule c.args.rule.now in
    let h = number_is R c.args.sizes c.args.s (scalar c.args.key.now) (g.met.R.SignRule.lawful c.args.rule.now) c.requires.admitted c.requires.key c.loop-i.i c.window_bits-bits.result c.join.result _ c.loop-i.invariant.2 c.window_bits-bits.ensures c.join.ensures in
    let f : SFits w64 c.join.result = search rules in
    let t = reached_at (g.R.SignRule.rule c.args.rule.now) c.args.sizes c.args.s (scalar c.args.key.now) (g.met.R.SignRule.lawful c.args.rule.now) c.requires.admitted c.requires.key c.loop-i.i c.loop-i.invariant.0 in
    record {
      reached = simp to_z-of_z (subst (Reached c.args.sizes.k c.args.sizes.b) (sym h) t);
      admitted = c.requires.admitted;
    }

pub encode-requires : goal.encode-requires
encode-requires g c =
    let R : Rule = g.R.SignRule.rule c.args.rule.now in
    let z = c.args.sizes in
    let f : SFits w64 c.join.result = search rules in
    let t = digit_about R z c.args.s (scalar c.args.key.now) (g.met.R.SignRule.lawful c.args.rule.now) c.requires.admitted c.requires.key c.loop-i.i c.loop-i.invariant.0 in
    let e = to_z-of_z w64 c.join.result f ∙ number_is R c.args.sizes c.args.s (scalar c.args.key.now) (g.met.R.SignRule.lawful c.args.rule.now) c.requires.admitted c.requires.key c.loop-i.i c.window_bits-bits.result c.join.result _ c.loop-i.invariant.2 c.window_bits-bits.ensures c.join.ensures in
    subst (About (2 ^ 20)) (sym (c.cut-window.ensures.value ∙ ap (λ (h : ℤ). digit z.k z.b h c.args.s (R.choose z.k z.b h c.args.s)) e)) t

pub place-requires : goal.place-requires
place-requires g c =
    let back : c.loop-i.i - 1 + 1 ≡ c.loop-i.i = omega arith in
    let t = above_about (g.R.SignRule.rule c.args.rule.now) c.args.sizes c.args.s (scalar c.args.key.now) (g.met.R.SignRule.lawful c.args.rule.now) c.requires.admitted c.requires.key c.loop-i.i c.loop-i.words c.loop-i.invariant.0 c.loop-i.invariant.1 in
    record {
      inside = omega arith;
      above = subst (λ (n : ℕ). About (2 ^ 22) (get_or c.loop-i.words n (pos 0))) (sym back) t;
    }

pub loop-i-preserved : goal.loop-i-preserved
loop-i-preserved g c =
    let R : Rule = g.R.SignRule.rule c.args.rule.now in
    let f : SFits w64 c.join.result = search rules in
    let f1 : SFits w32 c.encode.result = search rules in
    let f2 : SFits w64 c.cut-window.result.left = search rules in
    let e = to_z-of_z w64 c.join.result f ∙ number_is R c.args.sizes c.args.s (scalar c.args.key.now) (g.met.R.SignRule.lawful c.args.rule.now) c.requires.admitted c.requires.key c.loop-i.i c.window_bits-bits.result c.join.result _ c.loop-i.invariant.2 c.window_bits-bits.ensures c.join.ensures in
    let t = again R c.args.sizes c.args.s (scalar c.args.key.now) (g.met.R.SignRule.lawful c.args.rule.now) c.requires.admitted c.requires.key
    c.loop-i.i c.loop-i-test.true c.loop-i.invariant.0 c.loop-i.words c.place.new.words _ c.cut-window.result.left _ c.cut-window.result.digit c.cut-window.result.carry
    e c.cut-window.ensures.value c.cut-window.ensures.sign c.cut-window.ensures.carry c.cut-window.ensures.left (to_z-of_z w32 _ f1 ∙ c.encode.ensures) c.loop-i.invariant.1 c.place.ensures in
    (omega arith, t.0, to_z-of_z w64 _ f2 ∙ t.1)

pub overflow_cast-result : goal.overflow_cast-result
overflow_cast-result g c =
    let t = left_about (g.R.SignRule.rule c.args.rule.now) c.args.sizes c.args.s (scalar c.args.key.now) (g.met.R.SignRule.lawful c.args.rule.now) c.requires.admitted c.requires.key c.loop-i.i c.loop-i.invariant.0 in
    omega (arith, ints, c.loop-i.invariant.2, c.loop-i.left-is, t)

pub returns : goal.returns
returns g c =
    let R : Rule = g.R.SignRule.rule c.args.rule.now in
    let L = g.met.R.SignRule.lawful c.args.rule.now in
    let t = finish R c.args.sizes c.args.s (scalar c.args.key.now) L c.requires.admitted c.requires.key c.loop-i.i c.loop-i.words _ c.loop-i-test.false c.loop-i.invariant.1 c.loop-i.invariant.2 in
    let q = left_about R c.args.sizes c.args.s (scalar c.args.key.now) L c.requires.admitted c.requires.key c.loop-i.i c.loop-i.invariant.0 in
    record {
      words = t.0;
      correction = to_z-of_z w32 _ (omega (arith, ints, c.loop-i.invariant.2, q)) ∙ t.1;
    }
