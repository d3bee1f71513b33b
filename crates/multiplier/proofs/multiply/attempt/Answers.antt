use Rattle.std.proofs.Common.{◌≡◌, ℕ, ◌-◌, ◌≤◌, length, take, replicate, Some, None, Err, Option, sym, refl, ap, ◌∙◌, arith, length-take, rules}
use Rattle.common.specs.declared.refusal.Refusal.{Refusal}
use Rattle.inputs.specs.Draws.{Found}
use Rattle.inputs.specs.Rules.{Rule}
use Rattle.recoding.specs.Codings.{check_refusal}
use Rattle.recoding.proofs.Tests.{both_pass}
use Rattle.multiplier.specs.Calls.{asked, cells_needed, drawn_mark, drawn_value, draws_refusal, keyed, refusal_of}
use Rattle.multiplier.proofs.Answering.{cells_accepted, cells_refused, draw_taken_here, made_accepted, made_refused, refused_early, room, then_draws}
use Rattle.multiplier.proofs.multiply.attempt.Goals as goal

pub returns-in_err-check_call : goal.returns-in_err-check_call
returns-in_err-check_call g c =
    let d = g.D.GroupDevice in
    let s = c.args.device.now in
    let w = c.args.draws.now in
    let e : Refusal = c.in_err-check_call.field-0.0 in
    let is : c.from_residual.result ≡ Err e = search rules in
    let call = asked (g.R.SignRule.rule c.args.rule.now) c.args.sizes c.args.key.now c.args.base w.bytes.now w.mark (length c.args.cells.now) (length c.args.words.now) c.from_residual.result w.mark in
    let refused = refused_early (d.group s) call e c.in_err-check_call.ensures in
    record {
      source = refl;
      made = made_refused d.group d.tally s (g.met.D.GroupDevice.lawful s) call (g.met.R.SignRule.lawful c.args.rule.now) e (ap Some is) refused refl;
      cells = cells_refused (d.group s) call c.args.cells.now e refused;
    }

pub returns-in_err-draw : goal.returns-in_err-draw
returns-in_err-draw g c =
    let d = g.D.GroupDevice in
    let s = c.args.device.now in
    let w = c.args.draws.now in
    let e : Refusal = c.in_err-draw.field-0.0 in
    let is : c.from_residual-in_err-draw.result ≡ Err e = search rules in
    let drawn = c.in_err-draw.ensures.drawn in
    let call = asked (g.R.SignRule.rule c.args.rule.now) c.args.sizes c.args.key.now c.args.base w.bytes.now w.mark (length c.args.cells.now) (length c.args.words.now) c.from_residual-in_err-draw.result c.from_stream.new.stream.mark in
    let refused : refusal_of (d.group s) call ≡ Some e = then_draws (d.group s) call c.in_ok-check_call.ensures ∙ ap (draws_refusal w.mark) drawn.0 ∙ ap Some (sym drawn.1) in
    record {
      source = c.from_stream.ensures.source;
      made = made_refused d.group d.tally s (g.met.D.GroupDevice.lawful s) call (g.met.R.SignRule.lawful c.args.rule.now) e (ap Some is) refused drawn.2;
      cells = cells_refused (d.group s) call c.args.cells.now e refused;
    }

pub slice_bounds-multiply_drawn-end : goal.slice_bounds-multiply_drawn-end
slice_bounds-multiply_drawn-end g c =
    let enough = room _ _ (g.R.SignRule.rule c.args.rule.now) c.args.sizes (length c.args.cells.now) c.in_ok-check_call.ensures in
    let h : c.cells_needed-used.result ≤ length c.args.cells.now = omega (arith, c.cells_needed-used.ensures, enough) in
    search (rules, h)

pub multiply_drawn-requires-clause-untested : goal.multiply_drawn-requires-clause-untested
multiply_drawn-requires-clause-untested g c =
    let z = c.args.sizes in
    let w = c.args.draws.now in
    let first = both_pass (check_refusal z c.args.key.now (length c.args.words.now)) _ c.in_ok-check_call.ensures in
    let drawn = c.in_ok-draw.ensures.drawn in
    draw_taken_here (g.R.SignRule.rule c.args.rule.now) z c.args.key.now w.bytes.now (length c.args.words.now) w.mark c.from_stream.new.stream.mark c.in_ok-draw.draw first.0 drawn.0 drawn.1

pub returns : goal.returns
returns g c =
    let d = g.D.GroupDevice in
    let s = c.args.device.now in
    let G = d.group s in
    let R : Rule = g.R.SignRule.rule c.args.rule.now in
    let z = c.args.sizes in
    let w = c.args.draws.now in
    let cells = c.args.cells.now in
    let drawn = c.in_ok-draw.ensures.drawn in
    let all = c.multiply_drawn.ensures in
    let used : ℕ = c.cells_needed-used.result in
    let v = keyed G R z c.args.key.now c.args.base c.in_ok-draw.draw.value in
    let call = asked R z c.args.key.now c.args.base w.bytes.now w.mark (length cells) (length c.args.words.now) c.multiply_drawn.result c.from_stream.new.stream.mark in
    let enough = room _ _ R z (length cells) c.in_ok-check_call.ensures in
    let part : length (take (used - 0) cells) ≡ cells_needed R z = omega (arith, length-take (used - 0) cells, c.cells_needed-used.ensures, enough) in
    let passed : refusal_of G call ≡ None = then_draws G call c.in_ok-check_call.ensures ∙ ap (draws_refusal w.mark) drawn.0 in
    record {
      source = c.from_stream.ensures.source;
      made = made_accepted d.group d.tally s (g.met.D.GroupDevice.lawful s) call (g.met.R.SignRule.lawful c.args.rule.now) v c.multiply_drawn.new.device (ap Some all.value) passed
          (ap (λ (o : Option Found). keyed G R z c.args.key.now c.args.base (drawn_value o)) (sym drawn.0)) (ap (drawn_mark w.mark) (sym drawn.0)) all.same all.counted;
      cells = cells_accepted G call cells c.multiply_drawn.new.cells used passed c.cells_needed-used.ensures (all.cells ∙ ap (λ (n : ℕ). replicate n G.neutral) part);
    }
