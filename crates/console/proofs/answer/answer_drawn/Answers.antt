use Rattle.std.proofs.Common.{◌≡◌, Some, Ok, Err, length, refl, ◌∙◌, w32, SFits, rules}
use Rattle.std.proofs.lemmas.List.{with_items_is}
use Rattle.std.proofs.lemmas.Int.{to_z-of_z}
use Rattle.console.specs.Requests.{view}
use Rattle.inputs.specs.Rules.{rule_of}
use Rattle.recoding.specs.Codings.{recode_refusal}
use Rattle.console.proofs.Answering.{recoded, refused}
use Rattle.console.proofs.answer.answer_drawn.Goals as goal

pub returns : goal.returns
returns c =
    let f : SFits w32 c.end-draw.result.1 = search rules in
    let held = with_items_is c.args.words c.recode.new.words (c.recode.auto.words ∙ c.as_mut_slice.ensures.len) in
    let is : c.recode.result ≡ Ok c.in_ok-coded.coded = search rules in
    recoded c.args.sizes (view c.args.request.now) c.args.draw
    c.as_slice-key.result.now c.as_slice-key.result.now c.in_ok-coded.coded c.as_mut_slice.result.now c.recode.new.words c.as_slice.result.now
    c.as_slice-key.ensures.value c.as_slice-key.ensures.value (c.as_mut_slice.ensures.value ∙ c.requires.room) (c.as_slice.ensures.value ∙ held) (rw is at c.recode.ensures)
    _ c.end-draw.result.0 _ c.in_ok-verdict.verdict c.end-draw.ensures.draw (to_z-of_z w32 _ f ∙ c.end-draw.ensures.correction) c.in_ok-verdict.ensures.1
    refl refl held refl

pub returns-in_err-coded : goal.returns-in_err-coded
returns-in_err-coded c =
    let is : c.from_residual.result ≡ Err c.in_err-coded.field-0.0 = search rules in
    let told : recode_refusal (rule_of c.args.request.now.rule) c.args.sizes c.as_slice-key.result.now (length c.as_mut_slice.result.now) c.args.draw ≡ Some c.in_err-coded.field-0.0 = search rules in
    rw is
    (refused c.args.sizes (view c.args.request.now) c.args.draw c.in_err-coded.field-0.0 c.as_slice-key.result.now c.as_mut_slice.result.now
    c.as_slice-key.ensures.value (c.as_mut_slice.ensures.value ∙ c.requires.room) c.requires.fit told)
