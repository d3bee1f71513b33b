use Rattle.std.proofs.Common.{ℕ, ◌+◌, ◌*◌, ◌/◌, ◌%◌, ◌^◌, ap, ◌∙◌}
use Rattle.inputs.specs.Keys.{scalar}
use Rattle.inputs.proofs.Words.{half_field}
use Rattle.inputs.proofs.key.window_bits.Goals as goal

pub returns : goal.returns
returns c =
    c.bits_from.ensures
    ∙ ap (λ (w : ℕ). scalar c.args.key.now / 2 ^ (w * c.args.i + 1) % 2 ^ w) c.window_width-width.ensures
    ∙ half_field (scalar c.args.key.now) (c.args.sizes.k * c.args.i) c.args.sizes.k
