-- What a line asks: six decimal numbers with blanks between them. Assumes nothing.
use Rattle.std.specs.Prelude.{ℕ, not, List, [], ◌∷◌, drop, position, Some, None, Option, ◌==◌}
use Rattle.std.specs.Borrow.{Bor}
use Rattle.std.specs.Option.{option_map_or, unwrap_or}
use Rattle.elements.specs.declared.element.Pair.{Pair}
use Rattle.elements.specs.Elements.{pair_of}
use Rattle.groupcalc.specs.declared.query.Query.{Query}
use Rattle.text.specs.Decimal.{decimal_of}
use Rattle.text.specs.Fields.{before, behind}
use Rattle.text.specs.Numerals.{and_then}

-- where the first byte stands that is no blank, if there is one
abbrev pub first_other : List ℕ → Option ℕ
first_other = position (λ c. not (c == 32))

-- a text without the blanks that it begins with
abbrev pub unblanked : List ℕ → List ℕ
unblanked text = option_map_or (λ i. drop i text) (first_other text) []

-- a value that is read, and the text behind it
pub record Then (A : Type 0) : Type 0 where
  pub value : A
  pub rest : List ℕ

-- the decimal number of 32 bits that a text begins with behind any blanks, up to a blank or the end, if there is one
abbrev pub number_then : List ℕ → Option (Then ℕ)
number_then text = and_then (decimal_of (before 32 (unblanked text))) (λ n. Some (record { value = n; rest = unwrap_or (behind 32 (unblanked text)) [] }))

-- two such numbers
abbrev pub pair_then : List ℕ → Option (Then Pair)
pair_then text = and_then (number_then text) (λ x. and_then (number_then x.rest) (λ y. Some (record { value = pair_of x.value y.value; rest = y.rest })))

-- the query, if nothing but blanks comes behind it
abbrev pub at_end : List ℕ → Query → Option Query
at_end [] q = Some q
at_end (c ∷ cs) q = None

-- what a line asks, if it is the six numbers of a query
abbrev pub asked_in : List ℕ → Option Query
asked_in line =
    and_then (number_then line) (λ g.
    and_then (number_then g.rest) (λ m.
    and_then (pair_then m.rest) (λ p.
    and_then (pair_then p.rest) (λ q.
    at_end (unblanked q.rest) (record { group = g.value; modulus = m.value; first = p.value; second = q.value })))))

-- a value and a rest that a function returned
abbrev pub returned : {A : Type 0} → A × Bor (List ℕ) → Then A
returned p = record { value = p.0; rest = p.1.now }
