use Rattle.std.proofs.Common.{◌<◌, List, ◌∷◌, length, ℤ, ap, ◌∙◌, arith, w32, SFits}
use Rattle.std.proofs.lemmas.List.{drop-set}
use Rattle.std.proofs.lemmas.Int.{to_z-of_z}
use Rattle.recoding.proofs.recode.place.Goals as goal

pub returns : goal.returns
returns c =
    let f : SFits w32 c.args.word = c.ranges.word in
    let l : c.args.i < length c.raise.new.words = omega arith in
    simp to_z-of_z (drop-set c.raise.new.words c.args.i c.args.word l ∙ ap (λ (r : List ℤ). c.args.word ∷ r) c.raise.ensures)
