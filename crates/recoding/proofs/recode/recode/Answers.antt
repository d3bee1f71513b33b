use borrow.Rule.Slice.PartMut.{Post-is}
use Rattle.std.proofs.Common.{◌≡◌, ℕ, ◌/◌, ◌≤◌, ◌++◌, map, length, drop, sym, refl, ap, ◌∙◌, subst, ap₂, zero-le, arith, w32, SFits, rules}
use Rattle.std.proofs.lemmas.List.{length-take}
use Rattle.std.proofs.lemmas.Int.{to_z-of_z}
use Rattle.recoding.specs.Digits.{encoded}
use Rattle.inputs.specs.Keys.{scalar}
use Rattle.inputs.specs.Rules.{Rule, Admitted}
use Rattle.recoding.specs.Windows.{recoding}
use Rattle.recoding.proofs.Loop.{coding_in}
use Rattle.recoding.proofs.Tests.{lent}
use Rattle.recoding.proofs.recode.recode.Goals as goal

pub slice_bounds-recode_windows-end : goal.slice_bounds-recode_windows-end
slice_bounds-recode_windows-end g c =
    let l = lent (g.R.SignRule.rule c.args.rule.now) c.args.sizes c.args.key.now (length c.args.words.now) c.args.draw c.in_default.ensures in
    let h : c.windows-count.result ≤ length c.args.words.now = omega (arith, l.enough) in
    search rules

pub recode_windows-correction-requires : goal.recode_windows-correction-requires
recode_windows-correction-requires g c =
    let R : Rule = g.R.SignRule.rule c.args.rule.now in
    let l = lent R c.args.sizes c.args.key.now (length c.args.words.now) c.args.draw c.in_default.ensures in
    record {
      count = simp length-take (omega (arith, l.enough));
      admitted = subst (Admitted R c.args.sizes.k c.args.sizes.b) (sym c.value.ensures) l.admitted;
      key = l.below;
    }

pub returns : goal.returns
returns g c =
    let R : Rule = g.R.SignRule.rule c.args.rule.now in
    let z = c.args.sizes in
    let d : ℕ = scalar c.args.key.now in
    let s : ℕ = c.args.draw.value in
    let l = lent R z c.args.key.now (length c.args.words.now) c.args.draw c.in_default.ensures in
    let L = g.met.R.SignRule.lawful c.args.rule.now in
    let f : SFits w32 c.recode_windows-correction.result = search rules in
    let ew = c.recode_windows-correction.ensures.words ∙ ap (λ (x : ℕ). map encoded (recoding R z x (d / 2)).digits) c.value.ensures in
    let ec = to_z-of_z w32 _ f ∙ c.recode_windows-correction.ensures.correction ∙ ap (λ (x : ℕ). (recoding R z x (d / 2)).left) c.value.ensures in
    let n : length c.recode_windows-correction.new.words ≡ z.m = c.recode_windows-correction.auto.words ∙ simp length-take (omega (arith, l.enough)) in
    let p = Post-is 0 c.windows-count.result c.args.words.now zero-le ∙ ap (λ (x : ℕ). drop x c.args.words.now) c.windows-count.ensures in
    record {
      untested = c.in_default.ensures;
      draw = refl;
      correction = ec;
      words = ap₂ ◌++◌ ew p;
      coding = coding_in R z s d L l.admitted l.below c.recode_windows-correction.new.words _ _ n ew ec;
    }
