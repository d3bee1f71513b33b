-- What a line asks for: six fields with single spaces between them.
use Rattle.std.specs.Prelude.{ℕ, List, Some, vec_items, Option}
use Rattle.std.specs.Borrow.{Bor}
use Rattle.console.specs.declared.request.KeyDraws.{KeyDraws}
use Rattle.console.specs.declared.request.Request.{Request}
use Rattle.inputs.specs.declared.window_rule.WindowRule.{WindowRule}
use Rattle.inputs.specs.Rules.{numbered}
use Rattle.lines.specs.Fields.{number_then, key_text, draws_text}
use Rattle.text.specs.Fields.{before, behind}
use Rattle.text.specs.Numerals.{and_then}

-- a rule, sizes, a key and random bytes, as they stand in a line
pub record Asked : Type 0 where
  pub rule : WindowRule
  pub k : ℕ
  pub b : ℕ
  pub m : ℕ
  pub key : List ℕ
  pub draws : List ℕ

-- what a request holds, as plain values
abbrev pub view : Request → Asked
view r = record { rule = r.rule; k = r.window_width; b = r.draw_width; m = r.windows; key = vec_items r.key; draws = vec_items r.draws }

-- the rule of the number that a text begins with
pub record RuleThen : Type 0 where
  pub rule : WindowRule
  pub rest : List ℕ

-- such a rule at the beginning of a text, if there is one
abbrev pub rule_then : List ℕ → Option RuleThen
rule_then text = and_then (number_then text) (λ a. and_then (numbered a.number) (λ x. Some (record { rule = x; rest = a.rest })))

-- a rule and a rest that a function returned
abbrev pub ruled : WindowRule × Bor (List ℕ) → RuleThen
ruled p = record { rule = p.0; rest = p.1.now }

-- the key and the random bytes at a line's end
pub record KeyThen : Type 0 where
  pub key : List ℕ
  pub draws : List ℕ

-- a key, a space and random bytes to the end of a text, if it has them
abbrev pub key_draws : List ℕ → Option KeyThen
key_draws text = and_then (behind 32 text) (λ rest. and_then (key_text (before 32 text)) (λ key. and_then (draws_text rest) (λ draws. Some (record { key = key; draws = draws }))))

-- a key and random bytes that a function returned
abbrev pub keyed : KeyDraws → KeyThen
keyed p = record { key = vec_items p.key; draws = vec_items p.draws }

-- what a line asks for, if it can be read
abbrev pub requested : List ℕ → Option Asked
requested line =
    and_then (rule_then line) (λ x.
    and_then (number_then x.rest) (λ k.
    and_then (number_then k.rest) (λ b.
    and_then (number_then b.rest) (λ m.
    and_then (key_draws m.rest) (λ d.
    Some (record { rule = x.rule; k = k.number; b = b.number; m = m.number; key = d.key; draws = d.draws }))))))
