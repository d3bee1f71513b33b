use Rattle.std.proofs.Common.{◌≡◌, ℕ, List, [], ◌++◌, IfOk, Some, None, Ok, Err, codes, Option, Result, refl, ◌∙◌, append_assoc}
use Rattle.lines.specs.declared.summary.Kind.{Kind}
use Rattle.lines.specs.Lines.{trimmed}
use Rattle.console.specs.Lines.{LineAnswered, Said, answer_text}
use Rattle.console.specs.Requests.{Asked, requested}
use Rattle.console.proofs.program.RecodeProgram.answer_line.Goals as goal

-- what a line adds, whatever stands before it
added : (o : Option Asked) (kind : Kind) (before after : List ℕ) → Said o kind before after → (said : List ℕ) × (after ≡ before ++ said) × Said o kind [] said
added None kind before after s = (codes "unreadable\n", s.1, (s.0, refl))
added (Some q) kind before after s = (answer_text s.0 ++ codes "\n", s.3 ∙ append_assoc before (answer_text s.0) (codes "\n"), (s.0, s.1, s.2, refl))

answered : {E : Type 0} (r : Result Kind E) (line before after : List ℕ) → IfOk r (LineAnswered line before after) → IfOk r (λ kind. (said : List ℕ) × (after ≡ before ++ said) × LineAnswered line [] said kind)
answered (Ok kind) line before after s = added (requested (trimmed line)) kind before after s
answered (Err e) line before after s = s

pub returns : goal.returns
returns c = answered c.answer_line.result c.args.line.now c.args.out.now.items c.answer_line.new.out.items c.answer_line.ensures
