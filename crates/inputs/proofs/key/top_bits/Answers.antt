use Rattle.std.proofs.Common.{ℕ, ◌+◌, ◌*◌, ◌/◌, ◌%◌, ◌^◌, ◌∙◌, ap₂}
use Rattle.inputs.specs.Keys.{scalar}
use Rattle.inputs.proofs.Words.{half_field}
use Rattle.inputs.proofs.key.top_bits.Goals as goal

pub returns : goal.returns
returns c =
    c.bits_from.ensures
    ∙ ap₂ (λ (p b : ℕ). scalar c.args.key.now / 2 ^ (p + 1) % 2 ^ b) (ap₂ ◌*◌ c.window_width.ensures c.windows.ensures) c.draw_width.ensures
    ∙ half_field (scalar c.args.key.now) (c.args.sizes.k * c.args.sizes.m) c.args.sizes.b
