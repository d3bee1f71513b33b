use Rattle.std.proofs.Common.{◌≡◌, ℕ, List, vec_items, Option, sym, ap, ◌∙◌, subst}
use Rattle.std.specs.Option.{option_map}
use Rattle.lines.specs.Lines.{trimmed}
use Rattle.console.specs.declared.request.Request.{Request}
use Rattle.console.specs.Lines.{Said}
use Rattle.console.specs.Requests.{Asked, view, requested}
use Rattle.console.proofs.line.answer_line.Goals as goal

-- what was read of the trimmed line is what the line asks for
asks : (line trim : List ℕ) (o : Option Request) → trim ≡ trimmed line → option_map view o ≡ requested trim → requested (trimmed line) ≡ option_map view o
asks line trim o e r = ap requested (sym e) ∙ sym r

pub returns : goal.returns
returns c =
    let e = asks c.args.line.now c.trim.result.now c.in_ok-request.field-0 c.trim.ensures c.in_ok-request.ensures ∙ ap (option_map view) c.in-Some.is in
    subst (λ (o : Option Asked). Said o c.kind_of.result (vec_items c.args.out.now) (vec_items c.write_answer.new.out)) (sym e)
    (c.in_ok-answer.answer, c.in_ok-answer.ensures, c.kind_of.ensures, c.in_ok-write_answer.ensures)
