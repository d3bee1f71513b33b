-- An exchange of two sides, each on a device of its own: what both bring, the calls that they make, what it comes to, and its laws. Assumes nothing.
use Rattle.std.specs.Prelude.{◌≡◌, ℕ, ◌*◌, min, true, List, [], ◌∷◌, map, length, Some, None, Ok, Err, vec_items, Result}
use Rattle.common.specs.declared.refusal.Refusal.{Refusal}
use Rattle.exchange.specs.declared.exchange.Agreement.{Agreement}
use Rattle.exchange.specs.declared.exchange.Both.{Both}
use Rattle.exchange.specs.declared.exchange.Party.TheVariants.{First, Second}
use Rattle.exchange.specs.declared.exchange.Refused.{Refused}
use Rattle.exchange.specs.declared.exchange.Side.{Side}
use Rattle.groups.specs.declared.tally.Tally.{Tally}
use Rattle.groups.specs.Groups.{Group}
use Rattle.groups.specs.Multiples.{times}
use Rattle.inputs.specs.declared.sizes.Sizes.{Sizes}
use Rattle.inputs.specs.declared.window_rule.WindowRule.{WindowRule}
use Rattle.inputs.specs.Keys.{scalar}
use Rattle.inputs.specs.Rules.{Rule, rule_of}
use Rattle.multiplier.specs.Calls.{Answered, Call, answer_of, cells_needed, counted, entry, mark_after}
use Rattle.multiplier.specs.Runs.{plain}
use Rattle.runs.specs.declared.task.Task.{Task}
use Rattle.runs.specs.Tasks.{call}
use Rattle.steps.specs.Work.{work}

-- what a side brings: its rule, its sizes, its key's words, and the random bytes of both of its multiplications
pub record Brought : Type 0 where
  pub rule : Rule
  pub sizes : Sizes
  pub key : List ℕ
  pub draws : List ℕ

-- what a side holds, as plain values
abbrev pub brought : Side → Brought
brought s = record { rule = rule_of s.rule; sizes = s.sizes; key = vec_items s.key; draws = vec_items s.draws }

-- the plain tally after one accepted multiplication of a side
abbrev pub worked : Brought → Tally → Tally
worked p t = work (p.rule.lo p.sizes.k p.sizes.b) (p.rule.hi p.sizes.k p.sizes.b) p.sizes.k p.sizes.b p.sizes.m t

module _ {E : Type 0} where
  -- a call that has no answer yet
  abbrev pub posed : Call E → Call E
  posed c = record { rule = c.rule; sizes = c.sizes; key = c.key; base = c.base; bytes = c.bytes; mark = c.mark; cells = c.cells; words = c.words; answer = None; after = 0 }

  -- the call that a side asks for: on a base, with its draws from a mark on, or from their end where that is less, and with cells and words as many as it needs
  abbrev pub asking : Brought → E → (mark : ℕ) → Call E
  asking p base mark = record {
    rule = p.rule;
    sizes = p.sizes;
    key = p.key;
    base = base;
    bytes = p.draws;
    mark = min mark (length p.draws);
    cells = cells_needed p.rule p.sizes;
    words = p.sizes.m;
    answer = None;
    after = 0;
  }

  -- the call that goes on behind another one's draw, on another base
  abbrev pub going_on : Call E → E → Call E
  going_on c base = record { rule = c.rule; sizes = c.sizes; key = c.key; base = base; bytes = c.bytes; mark = min c.after (length c.bytes); cells = c.cells; words = c.words; answer = None; after = 0 }

  -- a call with its answer
  abbrev pub answered : Group E → Call E → Call E
  answered g c = record { rule = c.rule; sizes = c.sizes; key = c.key; base = c.base; bytes = c.bytes; mark = c.mark; cells = c.cells; words = c.words; answer = Some (answer_of g c); after = mark_after g c }

  -- the answers of a round, or whose call was refused, the first side's refusal before the other's
  abbrev pub both_of : Result E Refusal → Result E Refusal → Result (Both E) Refused
  both_of (Err e) r = Err (record { party = First; refusal = e })
  both_of (Ok a) (Err e) = Err (record { party = Second; refusal = e })
  both_of (Ok a) (Ok b) = Ok (record { first = a; second = b })

  -- what was handed over, with the answers of the second round
  abbrev pub joined : Both E → Result (Both E) Refused → Result (Agreement E) Refused
  joined handed (Err x) = Err x
  joined handed (Ok agreed) = Ok (record { handed = handed; agreed = agreed })

  -- one side's first call, and the second one if there is a second round
  abbrev pub side_calls : Call E → (Both E → Call E) → Result (Both E) Refused → List (Call E)
  side_calls c again (Err x) = c ∷ []
  side_calls c again (Ok b) = c ∷ again b ∷ []

-- the exchange of p, whose device has the group g, with q, whose device has the group h
module _ {E : Type 0} (g h : Group E) (p q : Brought) (base : E) where
  -- the first call of each side
  abbrev pub first_call : Call E
  first_call = answered g (asking p base 0)

  abbrev pub second_call : Call E
  second_call = answered h (asking q base 0)

  -- what the first round comes to
  abbrev pub handed_over : Result (Both E) Refused
  handed_over = both_of (answer_of g (asking p base 0)) (answer_of h (asking q base 0))

  -- the second call of each side: on what the other one handed over, and behind its own first draw
  abbrev pub first_again : Both E → Call E
  first_again b = answered g (asking p b.second first_call.after)

  abbrev pub second_again : Both E → Call E
  second_again b = answered h (asking q b.first second_call.after)

  -- what the second round comes to, if there is one
  abbrev pub agreed_by : Result (Both E) Refused → Result (Agreement E) Refused
  agreed_by (Err x) = Err x
  agreed_by (Ok b) = joined b (both_of (answer_of g (asking p b.second first_call.after)) (answer_of h (asking q b.first second_call.after)))

  -- what both rounds come to
  abbrev pub exchanged : Result (Agreement E) Refused
  exchanged = agreed_by handed_over

  -- all calls of each side
  abbrev pub first_calls : List (Call E)
  first_calls = side_calls first_call first_again handed_over

  abbrev pub second_calls : List (Call E)
  second_calls = side_calls second_call second_again handed_over

-- the law of an agreement in one group, by codes: each side handed over its key times the base, and both hold one element, the product of the keys times the base
pub record Agrees {E : Type 0} (g : Group E) (p q : Brought) (base : E) (a : Agreement E) : Type 0 where
  pub base_in : g.member base ≡ true
  pub first_in : g.member a.agreed.first ≡ true
  pub second_in : g.member a.agreed.second ≡ true
  pub first_handed : g.code a.handed.first ≡ g.code (times g (scalar p.key) base)
  pub second_handed : g.code a.handed.second ≡ g.code (times g (scalar q.key) base)
  pub agree : g.code a.agreed.first ≡ g.code a.agreed.second
  pub product : g.code a.agreed.first ≡ g.code (times g (scalar p.key * scalar q.key) base)

-- an exchange took the devices s and u to s' and u' and answered r
pub record Exchanged {S E : Type 0} (group : S → Group E) (tally : S → Tally) (s u : S) (p q : Brought) (base : E) (s' u' : S) (r : Result (Agreement E) Refused) : Type 0 where
  pub first_group : group s' ≡ group s
  pub second_group : group u' ≡ group u
  -- the very result, also which refusal it is and whose
  pub result : r ≡ exchanged (group s) (group u) p q base
  -- each tally is the plain tally of the side's calls; where they agree, that of two accepted ones
  pub first_tally : tally s' ≡ plain (tally s) (map entry (first_calls (group s) (group u) p q base))
  pub second_tally : tally u' ≡ plain (tally u) (map entry (second_calls (group s) (group u) p q base))
  pub first_work : (a : Agreement E) → r ≡ Ok a → tally s' ≡ worked p (worked p (tally s))
  pub second_work : (a : Agreement E) → r ≡ Ok a → tally u' ≡ worked q (worked q (tally u))
  -- on two devices of one group they agree
  pub agrees : group u ≡ group s → (a : Agreement E) → r ≡ Ok a → Agrees (group s) p q base a

-- a run took the device s and the task o to s' and o'
pub record Ran {S E : Type 0} (group : S → Group E) (tally : S → Tally) (s : S) (o : Task E WindowRule) (s' : S) (o' : Task E WindowRule) : Type 0 where
  pub same_group : group s' ≡ group s
  pub done : call rule_of o' ≡ answered (group s) (posed (call rule_of o))
  pub right : Answered (group s) (answered (group s) (posed (call rule_of o)))
  pub told : tally s' ≡ counted (tally s) (entry (answered (group s) (posed (call rule_of o))))
