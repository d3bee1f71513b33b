use Rattle.std.proofs.lemmas.Result.{IfOk-from_err}
use Rattle.std.proofs.Common.{[], ◌∷◌, ◌++◌, vec_items, sym, ap, ◌∙◌}
use Rattle.std.specs.Option.{option_to_list}
use Rattle.std.proofs.lemmas.List.{with_items_is}
use Rattle.exchange.proofs.Rounds.{ran}
use Rattle.exchange.proofs.exchange.run_round.Goals as goal

pub returns-in_err-push : goal.returns-in_err-push
returns-in_err-push g c = record { first = IfOk-from_err _ _ c.from_residual.ensures.0; second = IfOk-from_err _ _ c.from_residual.ensures.0 }

pub returns-in_err-push-2 : goal.returns-in_err-push-2
returns-in_err-push-2 g c = record { first = IfOk-from_err _ _ c.from_residual-in_err-push-2.ensures.0; second = IfOk-from_err _ _ c.from_residual-in_err-push-2.ensures.0 }

pub returns : goal.returns
returns g c =
    let d = g.D.GroupDevice in
    let runs = c.run_both.ensures in
    record {
      first = ran d.group d.tally c.args.first.now c.args.tasks.first c.run_both.new.first c.unwrap-first_task.result c.as_mut_slice.result.now c.run_both.new.first_tasks (vec_items c.pop.new.self)
          (c.as_mut_slice.ensures.value ∙ c.in_ok-push.ensures.items ∙ ap (λ l. l ++ c.args.tasks.first ∷ []) c.new-first_tasks.ensures.items)
          runs.first
          (sym (with_items_is c.push.new.self c.run_both.new.first_tasks (c.run_both.auto.first_tasks ∙ c.as_mut_slice.ensures.len)) ∙ c.pop.ensures.items ∙ ap (λ o. vec_items c.pop.new.self ++ option_to_list o) c.unwrap-first_task.ensures);
      second = ran d.group d.tally c.args.second.now c.args.tasks.second c.run_both.new.second c.unwrap-second_task.result c.as_mut_slice-2.result.now c.run_both.new.second_tasks (vec_items c.pop-2.new.self)
          (c.as_mut_slice-2.ensures.value ∙ c.in_ok-push-2.ensures.items ∙ ap (λ l. l ++ c.args.tasks.second ∷ []) c.new-second_tasks.ensures.items)
          runs.second
          (sym (with_items_is c.push-2.new.self c.run_both.new.second_tasks (c.run_both.auto.second_tasks ∙ c.as_mut_slice-2.ensures.len)) ∙ c.pop-2.ensures.items ∙ ap (λ o. vec_items c.pop-2.new.self ++ option_to_list o) c.unwrap-second_task.ensures);
    }
