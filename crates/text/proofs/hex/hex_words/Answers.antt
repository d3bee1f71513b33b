use Rattle.std.proofs.Common.{is_ok, Some, None, sym, ap, ◌∙◌}
use Rattle.std.specs.Option.{option_map}
use Rattle.std.specs.Slice.Iter.{rchunks_rest, rchunks_size}
use Rattle.std.proofs.ResultArms.{chosen}
use Rattle.text.specs.Hex.{words_number}
use Rattle.text.proofs.Grouping.{left_start, left_more, left_none, words_group, words_left}
use Rattle.text.proofs.WordsNumber.{words_number_lem}
use Rattle.text.proofs.hex.hex_words.Goals as goal

pub loop-group-init : goal.loop-group-init
loop-group-init c =
    let it = c.into_iter-group-iterator.ensures.into_iter_gives in
    let rest = ap rchunks_rest it ∙ c.rchunks-group-items.ensures.rest in
    rw rest (words_left (left_start _ _ _ c.new-words.ensures.items) (ap rchunks_size it ∙ c.rchunks-group-items.ensures.size))

pub loop-group-preserved : goal.loop-group-preserved
loop-group-preserved c =
    let p = c.loop-group.invariant in
    let step = c.in-Some.ensures.steps in
    words_left
    (left_more _ _ _ _ p.left c.in-Some-hex_number.word _ _
    (words_group _ c.in-Some.group.now _ _ (Some c.in-Some-hex_number.word) p.eight step.1.0 step.1.1 step.1.2 (sym c.in-Some-hex_number.ensures.value))
    (chosen _ _ _ _ c.push.ensures.items (ap is_ok c.in_ok-push.was)))
    (step.0 ∙ p.eight)

pub returns-in_default : goal.returns-in_default
returns-in_default c =
    let p = c.loop-group.invariant in
    let step = c.in-Some.ensures.steps in
    let none = left_none _ _ _ _ p.left (words_group _ c.in-Some.group.now _ _ None p.eight step.1.0 step.1.1 step.1.2 (sym c.in_default.ensures.value)) in
    record { value = none; number = ap (option_map words_number) none ∙ words_number_lem c.args.text.now }
