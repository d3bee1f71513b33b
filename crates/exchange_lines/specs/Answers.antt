-- How a request is answered: by the refusal of its modulus, or by the exchange on two new devices of its group. Assumes nothing.
use Rattle.std.specs.Prelude.{◌≡◌, ℕ, ◌*◌, Bool, false, cond, Ok, Err, Result, ◌==◌}
use Rattle.common.specs.declared.refusal.Refusal.TheVariants.{Modulus}
use Rattle.exchange_lines.specs.declared.answer.Account.{Account}
use Rattle.exchange_lines.specs.declared.answer.Told.{Told}
use Rattle.elements.specs.declared.element.Pair.{Pair}
use Rattle.exchange.specs.declared.exchange.Agreement.{Agreement}
use Rattle.exchange.specs.declared.exchange.Party.TheVariants.{First}
use Rattle.exchange.specs.declared.exchange.Refused.{Refused}
use Rattle.elements.specs.declared.kind.GroupKind.{GroupKind}
use Rattle.elements.specs.declared.kind.GroupKind.TheVariants.{Sums, Clock, Curve}
use Rattle.exchange.specs.declared.exchange.Both.{Both}
use Rattle.elements.specs.Elements.{clock_element, coordinates, curve_element, sums_element}
use Rattle.exchange.specs.Exchanges.{Agrees, Brought, exchanged, worked}
use Rattle.exchange_lines.specs.Requests.{Asked}
use Rattle.groups.specs.Clock.{clock}
use Rattle.groups.specs.Curve.{curve}
use Rattle.groups.specs.declared.tally.Tally.{Tally}
use Rattle.groups.specs.Groups.{Group}
use Rattle.groups.specs.Multiples.{times}
use Rattle.groups.specs.SetUp.{Accepted, in_range}
use Rattle.groups.specs.Sums.{sums}
use Rattle.groups.specs.Tally.{zero_tally}
use Rattle.inputs.specs.declared.sizes.Sizes.{Sizes}
use Rattle.inputs.specs.declared.window_rule.WindowRule.TheVariants.{Shifted, Nonzero}
use Rattle.inputs.specs.Keys.{scalar}
use Rattle.inputs.specs.Rules.{rule_of}

-- the sizes of k, b and m
pub record SizedAs (k b m : ℕ) (z : Sizes) : Type 0 where
  pub k_is : z.k ≡ k
  pub b_is : z.b ≡ b
  pub m_is : z.m ≡ m

-- what the first side brings: rule 1
abbrev pub first_side : Sizes → Asked → Brought
first_side z q = record { rule = rule_of Shifted; sizes = z; key = q.first_key; draws = q.first_draws }

-- what the second side brings: rule 3
abbrev pub second_side : Sizes → Asked → Brought
second_side z q = record { rule = rule_of Nonzero; sizes = z; key = q.second_key; draws = q.second_draws }

-- an answer: what is told of an agreement, or a refusal and whose it is
abbrev pub Answer : Type 0
Answer = Result (Told Pair) Refused

module _ {E : Type 0} where
  -- a side that handed an element over and counted two multiplications from t on, and the plain tally of two
  abbrev pub account_of : Brought → Tally → E → Account E
  account_of p t handed = record { handed = handed; tally = worked p (worked p t); plain = worked p (worked p zero_tally) }

  -- what is told of an exchange
  abbrev pub told_of : Brought → Brought → (t u : Tally) → Result (Agreement E) Refused → Result (Told E) Refused
  told_of p q t u (Err x) = Err x
  told_of p q t u (Ok a) = Ok (record { agreed = a.agreed.first; accounts = record { first = account_of p t a.handed.first; second = account_of q u a.handed.second } })

  -- what is told with some tallies, those that were counted and the plain ones
  abbrev pub told_with : (counted plain : Both Tally) → Result (Agreement E) Refused → Result (Told E) Refused
  told_with counted plain (Err x) = Err x
  told_with counted plain (Ok a) =
      Ok (record {
        agreed = a.agreed.first;
        accounts = record {
          first = record { handed = a.handed.first; tally = counted.first; plain = plain.first };
          second = record { handed = a.handed.second; tally = counted.second; plain = plain.second };
        };
      })

  -- an account with two numbers in place of its element
  abbrev pub account_at : Account E → Pair → Account Pair
  account_at a handed = record { handed = handed; tally = a.tally; plain = a.plain }

  -- what is told, its elements as two numbers
  abbrev pub in_pairs : (E → Pair) → Told E → Told Pair
  in_pairs pair t = record {
    agreed = pair t.agreed;
    accounts = record { first = account_at t.accounts.first (pair t.accounts.first.handed); second = account_at t.accounts.second (pair t.accounts.second.handed) };
  }

  -- the same of an answer
  abbrev pub answer_from : (E → Pair) → Result (Told E) Refused → Answer
  answer_from pair (Ok t) = Ok (in_pairs pair t)
  answer_from pair (Err x) = Err x

  -- the answer in a group: the modulus is refused by the first side, or the exchange is told by codes
  abbrev pub answer_in : Bool → Group E → Brought → Brought → E → Answer
  answer_in fits g p q base = cond fits (answer_from (λ e. coordinates (g.code e)) (told_of p q zero_tally zero_tally (exchanged g g p q base))) (Err (record { party = First; refusal = Modulus }))

  -- the law of what is told: each side handed over its key times the base, they agree on the product of the keys times the base, and each device has counted the plain tally
  pub record Tells (g : Group E) (p q : Brought) (base : E) (t : Told Pair) : Type 0 where
    pub first_handed : t.accounts.first.handed ≡ coordinates (g.code (times g (scalar p.key) base))
    pub second_handed : t.accounts.second.handed ≡ coordinates (g.code (times g (scalar q.key) base))
    pub agreed : t.agreed ≡ coordinates (g.code (times g (scalar p.key * scalar q.key) base))
    pub first_tally : t.accounts.first.tally ≡ t.accounts.first.plain
    pub second_tally : t.accounts.second.tally ≡ t.accounts.second.plain

  -- an answer in a group
  pub record InGroup (fits : Bool) (g : Group E) (p q : Brought) (base : E) (a : Answer) : Type 0 where
    pub is : a ≡ answer_in fits g p q base
    pub law : (t : Told Pair) → a ≡ Ok t → Tells g p q base t

  -- what is told of the exchange on the devices s and u
  pub record ToldBy {S : Type 0} (group : S → Group E) (tally : S → Tally) (s u : S) (p q : Brought) (base : E) (r : Result (Told E) Refused) : Type 0 where
    pub result : r ≡ told_of p q (tally s) (tally u) (exchanged (group s) (group u) p q base)
    pub agrees : group u ≡ group s → (a : Agreement E) → exchanged (group s) (group u) p q base ≡ Ok a → Agrees (group s) p q base a

-- what setting up a device for a side, and one for each, gives: a modulus that does not fit is refused by the first side
module _ {S E : Type 0} (group : S → Group E) (tally : S → Tally) (fits : Bool) (g : Group E) where
  abbrev pub OneNew : Result S Refused → Type 0
  OneNew (Ok s) = Accepted group tally fits g s
  OneNew (Err x) = (fits ≡ false) × (x ≡ record { party = First; refusal = Modulus })

  abbrev pub BothNew : Result (Both S) Refused → Type 0
  BothNew (Ok b) = Accepted group tally fits g b.first × Accepted group tally fits g b.second
  BothNew (Err x) = (fits ≡ false) × (x ≡ record { party = First; refusal = Modulus })

-- an answer in the group that a request names
abbrev pub InKind : GroupKind → Brought → Brought → Asked → Answer → Type 0
InKind Sums p y q = InGroup (in_range q.modulus) (sums q.modulus) p y (sums_element q.base)
InKind Clock p y q = InGroup (in_range q.modulus) (clock q.modulus) p y (clock_element q.base)
InKind Curve p y q = InGroup (q.modulus == 11) curve p y (curve_element q.base)

-- the answer to a request: the first side has windows of 5 bits, draws of 12 and 100 windows, the second windows of 3 bits, draws of 6 and 160 windows
abbrev pub Answered : Asked → Answer → Type 0
Answered q a = (z : Sizes) × (y : Sizes) × SizedAs 5 12 100 z × SizedAs 3 6 160 y × InKind q.kind (first_side z q) (second_side y q) q a
