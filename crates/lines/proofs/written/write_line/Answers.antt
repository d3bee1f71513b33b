use Rattle.std.proofs.Common.{◌≡◌, ◌++◌, ap, subst, IfSome, codes, vec_items}
use Rattle.lines.proofs.Writing.{line_written, on_both}
use Rattle.lines.proofs.written.write_line.Goals as goal

pub returns : goal.returns
returns g c =
    on_both c.writeln-result.result c.map_err.result _ _ c.map_err.ensures.variant
    (λ wrote. subst (λ l. IfSome (g.D.Display.output c.args.value) (λ text. c.writeln-result.new.self.bytes.items ≡ l ++ text ++ codes "\n")) (ap vec_items c.replace.ensures.value)
    (line_written _ (λ s. s.bytes.items) (λ w text v took. took) _ c.writeln-result.new.self (g.D.Display.output c.args.value) wrote))
    c.writeln-result.ensures.writes
