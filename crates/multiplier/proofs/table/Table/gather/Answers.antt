use Rattle.std.proofs.Common.{◌≡◌, ℕ, suc, [], ◌∷◌, ◌++◌, length, sym, ap, ◌∙◌, subst, arith}
use Rattle.std.proofs.lemmas.List.{length-append}
use Rattle.groups.specs.Groups.{added}
use Rattle.groups.specs.Tally.{one_addition}
use Rattle.multiplier.specs.Tables.{Reaches, read_digit}
use Rattle.steps.specs.Operations.{doublings, gathered}
use Rattle.steps.specs.Work.{many_doublings, many_rounds}
use Rattle.multiplier.proofs.Gathering.{all_done, gathered_more, has_last, left_and_done}
use Rattle.multiplier.proofs.table.Table.gather.Goals as goal

pub read-addend-requires : goal.read-addend-requires
read-addend-requires g c =
    let P = Reaches (length c.args.self.now.cells.now) c.args.origin in
    subst P (sym c.digit.ensures) (has_last P g.W.Word.digit _ _ _ c.args.words.now c.in-Some.word.now c.requires c.loop-word.invariant.0 c.in-Some.ensures.steps)

pub loop-word-preserved : goal.loop-word-preserved
loop-word-preserved g c =
    let d = g.D.GroupDevice in
    let G = d.group c.args.device.now in
    let t = d.tally c.args.device.now in
    let cells = c.args.self.now.cells.now in
    let k : ℕ = c.args.width in
    let inv = c.loop-word.invariant in
    let more = c.round-result.ensures in
    let ys = c.loop-word.yielded in
    let w = c.in-Some.word in
    let long : length (ys ++ w ∷ []) ≡ suc (length ys) = omega (arith, length-append ys (w ∷ [])) in
    let f = read_digit G cells c.args.origin in
    let addend = c.read-addend.ensures ∙ ap (λ h. read_digit h cells c.args.origin c.digit.result) inv.2 ∙ ap f c.digit.ensures in
    let sum = more.value ∙ ap (λ h. added h (doublings h k c.loop-word.result) c.read-addend.result) inv.2 in (
      left_and_done (λ v. v.now) _ _ _ ys w inv.0 c.in-Some.ensures.steps,
      gathered_more G k f (λ v. g.W.Word.digit v.now) ys w c.loop-word.result c.read-addend.result c.round-result.result inv.1 addend sum,
      more.same ∙ inv.2,
      more.counted ∙ ap (λ u. one_addition (many_doublings k u)) inv.3 ∙ ap (λ (n : ℕ). many_rounds n k t) (sym long),
    )

pub returns-clause-value : goal.returns-clause-value
returns-clause-value g c =
    let G = g.D.GroupDevice.group c.args.device.now in
    let inv = c.loop-word.invariant in
    let f = read_digit G c.args.self.now.cells.now c.args.origin in
    inv.1 ∙ ap (gathered G c.args.width f) (all_done (λ v. v.now) g.W.Word.digit _ c.args.words.now c.loop-word.yielded inv.0 c.in-None.ensures.steps.0)
