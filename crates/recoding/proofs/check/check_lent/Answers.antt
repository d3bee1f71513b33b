use Rattle.std.proofs.Common.{◌∙◌, arith}
use Rattle.recoding.specs.Codings.{digits_refusal}
use Rattle.inputs.specs.Keys.{key_refusal}
use Rattle.recoding.proofs.Tests.{first_passes, words_refused, words_taken}
use Rattle.recoding.proofs.check.check_lent.Goals as goal

pub returns-then-words-windows : goal.returns-then-words-windows
returns-then-words-windows c =
    first_passes (key_refusal c.args.sizes c.args.key.now) (digits_refusal c.args.sizes c.args.words) c.in_ok-check_key.ensures ∙ words_refused c.args.sizes c.args.words (omega arith)

pub returns : goal.returns
returns c =
    first_passes (key_refusal c.args.sizes c.args.key.now) (digits_refusal c.args.sizes c.args.words) c.in_ok-check_key.ensures ∙ words_taken c.args.sizes c.args.words (omega arith)
