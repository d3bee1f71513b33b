use Rattle.std.proofs.Common.{length, vec_items, ap, ◌∙◌}
use Rattle.std.proofs.lemmas.List.{length-replicate}
use Rattle.exchange.specs.Exchanges.{brought}
use Rattle.exchange.proofs.Rounds.{lent_enough}
use Rattle.exchange.proofs.exchange.task.Goals as goal

pub returns : goal.returns
returns g c =
    lent_enough (brought c.args.side) c.args.base (length (vec_items c.in_ok-cells.cells)) (length (vec_items c.in_ok-words.words))
    (c.in_ok-cells.ensures ∙ c.cells_needed.ensures)
    (ap length (c.in_ok-words.ensures.items_if_clones_equal (λ y e. e)) ∙ length-replicate _ _ ∙ c.windows.ensures)
