-- What a line asks for: eight fields with single spaces between them. Assumes nothing.
use Rattle.std.specs.Prelude.{ℕ, List, Some, Vec, vec_items, Option}
use Rattle.std.specs.declared.alloc.Global.{Global}
use Rattle.lines.specs.Fields.{draws_text, key_text, number_then}
use Rattle.elements.specs.declared.element.Pair.{Pair}
use Rattle.elements.specs.declared.kind.GroupKind.{GroupKind}
use Rattle.elements.specs.Kinds.{kind_numbered}
use Rattle.exchange.specs.declared.exchange.Both.{Both}
use Rattle.exchange_lines.specs.declared.request.Place.{Place}
use Rattle.exchange_lines.specs.declared.request.Request.{Request}
use Rattle.exchange_lines.specs.declared.request.Secrets.{Secrets}
use Rattle.elements.specs.Elements.{pair_of}
use Rattle.text.specs.Fields.{before, behind}
use Rattle.text.specs.Numerals.{and_then}

-- a group with its modulus, a base, and the key's words and the random bytes of each side, as they stand in a line
pub record Asked : Type 0 where
  pub kind : GroupKind
  pub modulus : ℕ
  pub base : Pair
  pub first_key : List ℕ
  pub second_key : List ℕ
  pub first_draws : List ℕ
  pub second_draws : List ℕ

-- what a request holds, as plain values
abbrev pub view : Request → Asked
view r = record {
  kind = r.kind;
  modulus = r.modulus;
  base = r.base;
  first_key = vec_items r.keys.first;
  second_key = vec_items r.keys.second;
  first_draws = vec_items r.draws.first;
  second_draws = vec_items r.draws.second;
}

-- a group with its modulus and a base, which a text begins with, and what comes behind them
pub record PlaceThen : Type 0 where
  pub kind : GroupKind
  pub modulus : ℕ
  pub base : Pair
  pub rest : List ℕ

-- those at the beginning of a text, if it has them
abbrev pub place_then : List ℕ → Option PlaceThen
place_then text =
    and_then (number_then text) (λ a.
    and_then (kind_numbered a.number) (λ kind.
    and_then (number_then a.rest) (λ n.
    and_then (number_then n.rest) (λ x.
    and_then (number_then x.rest) (λ y.
    Some (record { kind = kind; modulus = n.number; base = pair_of x.number y.number; rest = y.rest }))))))

-- a place that a function returned
abbrev pub placed : Place → PlaceThen
placed p = record { kind = p.kind; modulus = p.modulus; base = p.base; rest = p.rest.now }

-- the random bytes of both sides
pub record DrawsThen : Type 0 where
  pub first : List ℕ
  pub second : List ℕ

-- random bytes, a space and random bytes to the end of a text, if it has them
abbrev pub draws_both : List ℕ → Option DrawsThen
draws_both text = and_then (behind 32 text) (λ rest. and_then (draws_text (before 32 text)) (λ a. and_then (draws_text rest) (λ b. Some (record { first = a; second = b }))))

-- random bytes that a function returned
abbrev pub draws_view : Both (Vec ℕ Global) → DrawsThen
draws_view d = record { first = vec_items d.first; second = vec_items d.second }

-- a key and the random bytes of both sides
pub record KeyThen : Type 0 where
  pub key : List ℕ
  pub first_draws : List ℕ
  pub second_draws : List ℕ

-- a key, a space and then those, if a text has them
abbrev pub key_draws : List ℕ → Option KeyThen
key_draws text = and_then (behind 32 text) (λ rest. and_then (key_text (before 32 text)) (λ key. and_then (draws_both rest) (λ d. Some (record { key = key; first_draws = d.first; second_draws = d.second }))))

-- a key and random bytes that a function returned
abbrev pub key_view : Vec ℕ Global × Both (Vec ℕ Global) → KeyThen
key_view d = record { key = vec_items d.0; first_draws = vec_items d.1.first; second_draws = vec_items d.1.second }

-- both keys and the random bytes of both sides
pub record SecretsThen : Type 0 where
  pub first_key : List ℕ
  pub second_key : List ℕ
  pub first_draws : List ℕ
  pub second_draws : List ℕ

-- a key, a space and then those, if a text has them
abbrev pub secrets : List ℕ → Option SecretsThen
secrets text =
    and_then (behind 32 text) (λ rest. and_then (key_text (before 32 text)) (λ key. and_then (key_draws rest) (λ d. Some (record { first_key = key; second_key = d.key; first_draws = d.first_draws; second_draws = d.second_draws }))))

-- keys and random bytes that a function returned
abbrev pub secrets_view : Secrets → SecretsThen
secrets_view d = record { first_key = vec_items d.keys.first; second_key = vec_items d.keys.second; first_draws = vec_items d.draws.first; second_draws = vec_items d.draws.second }

-- what a line asks for, if it can be read
abbrev pub requested : List ℕ → Option Asked
requested line =
    and_then (place_then line) (λ at.
    and_then (secrets at.rest) (λ d.
    Some (record {
      kind = at.kind;
      modulus = at.modulus;
      base = at.base;
      first_key = d.first_key;
      second_key = d.second_key;
      first_draws = d.first_draws;
      second_draws = d.second_draws;
    })))
