-- What both rounds of an exchange come to. Assumes nothing.
use Rattle.std.proofs.Common.{◌≡◌, ℕ, cond, map, Some, Ok, Err, Result, sym, refl, ap, ◌∙◌, subst, ap₂, arith}
use Rattle.common.specs.declared.refusal.Refusal.{Refusal}
use Rattle.exchange.specs.declared.exchange.Agreement.{Agreement}
use Rattle.exchange.specs.declared.exchange.Both.{Both}
use Rattle.exchange.specs.declared.exchange.Refused.{Refused}
use Rattle.exchange.specs.Exchanges.{Agrees, Brought, Exchanged, Ran, agreed_by, answered, asking, both_of, first_again, first_call, going_on, handed_over, joined, posed, second_again, second_call, side_calls, worked}
use Rattle.groups.specs.declared.tally.Tally.{Tally}
use Rattle.groups.specs.Groups.{Group, Lawful}
use Rattle.inputs.specs.declared.window_rule.WindowRule.{WindowRule}
use Rattle.inputs.specs.Rules.{rule_of}
use Rattle.multiplier.proofs.Agreeing.{agreed, twice}
use Rattle.multiplier.specs.Calls.{Answered, Call, answer_of, counted, entry, is_accepted, mark_after}
use Rattle.multiplier.specs.Runs.{Crossed, plain}
use Rattle.runs.specs.declared.task.Task.{Task}
use Rattle.runs.specs.Tasks.{call}

-- a task was run as the call c, from the tally t on
record Did {E : Type 0} (g : Group E) (t : Tally) (c : Call E) (t' : Tally) (o' : Task E WindowRule) : Type 0 where
  done : call rule_of o' ≡ answered g c
  right : Answered g (answered g c)
  told : t' ≡ counted t (entry (answered g c))

module _ {S E : Type 0} (group : S → Group E) (tally : S → Tally) where
  did : (g : Group E) (s : S) (o : Task E WindowRule) (s' : S) (o' : Task E WindowRule) (c : Call E) → Ran group tally s o s' o' → group s ≡ g → posed (call rule_of o) ≡ c → Did g (tally s) c (tally s') o'
  did g s o s' o' c ran e asks =
      subst (λ (x : Group E). Did x (tally s) c (tally s') o') e
      (subst (λ (x : Call E). Did (group s) (tally s) x (tally s') o') asks (record { done = ran.done; right = ran.right; told = ran.told }))

module _ {E : Type 0} where
  -- the answer of a task that was run
  answer_of_lem : (g : Group E) (t : Tally) (c : Call E) (t' : Tally) (o' : Task E WindowRule) (r : Result E Refusal) → Did g t c t' o' → o'.outcome ≡ Some r → r ≡ answer_of g c
  answer_of_lem g t c t' o' r d e = let h : Some r ≡ Some (answer_of g c) = sym e ∙ ap (λ (x : Call E). x.answer) d.done in cc

  -- the call that goes on behind it
  goes_on : (g : Group E) (t : Tally) (p : Brought) (base : E) (mark : ℕ) (t' : Tally) (o' : Task E WindowRule) (other : E) (next : Call E) → Did g t (asking p base mark) t' o' → next ≡ going_on (call rule_of o') other →
      next ≡ asking p other (mark_after g (asking p base mark))
  goes_on g t p base mark t' o' other next d e = e ∙ ap (λ (x : Call E). going_on x other) d.done

  -- both answers were accepted
  both_ok : (x y : Result E Refusal) (b : Both E) → both_of x y ≡ Ok b → (x ≡ Ok b.first) × (y ≡ Ok b.second)
  both_ok (Err e) y b h = absurd (let z : ◌≡◌ {A = ℕ} 0 1 = cc in omega arith)
  both_ok (Ok a) (Err e) b h = absurd (let z : ◌≡◌ {A = ℕ} 0 1 = cc in omega arith)
  both_ok (Ok a) (Ok c) b h = let k : record { first = a; second = c } ≡ b = cc in (ap (λ (x : Both E). Ok x.first) k, ap (λ (x : Both E). Ok x.second) k)

  joined_ok : (b : Both E) (y : Result (Both E) Refused) (a : Agreement E) → joined b y ≡ Ok a → (y ≡ Ok a.agreed) × (a.handed ≡ b)
  joined_ok b (Err x) a h = absurd (let z : ◌≡◌ {A = ℕ} 0 1 = cc in omega arith)
  joined_ok b (Ok c) a h = let k : record { handed = b; agreed = c } ≡ a = cc in (ap (λ (x : Agreement E). Ok x.agreed) k, sym (ap (λ (x : Agreement E). x.handed) k))

  -- an accepted call is counted by its work
  accepted_work : (g : Group E) (p : Brought) (base : E) (mark : ℕ) (v : E) (t : Tally) → answer_of g (asking p base mark) ≡ Ok v → counted t (entry (answered g (asking p base mark))) ≡ worked p t
  accepted_work g p base mark v t e = ap (λ (r : Result E Refusal). cond (is_accepted (Some r)) (worked p t) t) e

-- an answer that there is
ok : {E : Type 0} {x : Result E Refusal} {v : E} → x ≡ Ok v → Some x ≡ Some (Ok v)
ok {E} e = ap (λ (y : Result E Refusal). Some y) e

-- the four calls of an exchange that agrees
module _ {E : Type 0} (p q : Brought) (base : E) (g : Group E) (b : Both E) (a : Both E) where
  record Four (h : Group E) : Type 0 where
    first_right : Answered g (first_call g h p q base)
    second_right : Answered h (second_call g h p q base)
    first_again_lem : Answered g (first_again g h p q base b)
    second_again_lem : Answered h (second_again g h p q base b)
    first_handed : answer_of g (asking p base 0) ≡ Ok b.first
    second_handed : answer_of h (asking q base 0) ≡ Ok b.second
    first_agreed : answer_of g (asking p b.second (mark_after g (asking p base 0))) ≡ Ok a.first
    second_agreed : answer_of h (asking q b.first (mark_after h (asking q base 0))) ≡ Ok a.second

  agrees_in : Lawful g → Four g → Agrees g p q base (record { handed = b; agreed = a })
  agrees_in law f =
      let A : Call E = first_call g g p q base in
      let B : Call E = second_again g g p q base b in
      let C : Call E = second_call g g p q base in
      let D : Call E = first_again g g p q base b in
      let x : Crossed g A B C D a.second a.first = record {
        a_answer = ok f.first_handed;
        b_answer = ok f.second_agreed;
        c_answer = ok f.second_handed;
        d_answer = ok f.first_agreed;
        one_base = refl;
        first_key = refl;
        second_key = refl;
      } in
      record {
        base_in = (f.first_right.multiple b.first x.a_answer).base_in;
        first_in = (f.first_again_lem.multiple a.first x.d_answer).member;
        second_in = (f.second_again_lem.multiple a.second x.b_answer).member;
        first_handed = (f.first_right.multiple b.first x.a_answer).code;
        second_handed = (f.second_right.multiple b.second x.c_answer).code;
        agree = sym (agreed g law A B C D a.second a.first f.first_right f.second_again_lem f.second_right f.first_again_lem x);
        product = twice g law C D a.first f.second_right f.first_again_lem x.c_answer x.d_answer;
      }

module _ {S E : Type 0} (group : S → Group E) (tally : S → Tally) (s u : S) (p q : Brought) (base : E) (s₁ u₁ : S) (o₁ v₁ : Task E WindowRule) where
  abbrev g : Group E
  g = group s

  abbrev h : Group E
  h = group u

  module _ (first : Did g (tally s) (asking p base 0) (tally s₁) o₁) (second : Did h (tally u) (asking q base 0) (tally u₁) v₁) where
    -- a refusal in the first round ends the exchange
    refused_first : group s₁ ≡ group s → group u₁ ≡ group u → (x : Refused) → handed_over g h p q base ≡ Err x → Exchanged group tally s u p q base s₁ u₁ (Err x)
    refused_first eg eh x e = record {
      first_group = eg;
      second_group = eh;
      result = sym (ap (agreed_by g h p q base) e);
      first_tally = first.told ∙ sym (ap (λ (r : Result (Both E) Refused). plain (tally s) (map entry (side_calls (first_call g h p q base) (first_again g h p q base) r))) e);
      second_tally = second.told ∙ sym (ap (λ (r : Result (Both E) Refused). plain (tally u) (map entry (side_calls (second_call g h p q base) (second_again g h p q base) r))) e);
      first_work = λ a no. absurd (let z : ◌≡◌ {A = ℕ} 0 1 = cc in omega arith);
      second_work = λ a no. absurd (let z : ◌≡◌ {A = ℕ} 0 1 = cc in omega arith);
      agrees = λ same a no. absurd (let z : ◌≡◌ {A = ℕ} 0 1 = cc in omega arith);
    }

    -- a second round answers, whatever it comes to
    module _ (law : Lawful g) (b : Both E) (e : handed_over g h p q base ≡ Ok b) (s₂ u₂ : S) (o₂ v₂ : Task E WindowRule)
        (first_again_lem : Did g (tally s₁) (asking p b.second (mark_after g (asking p base 0))) (tally s₂) o₂) (second_again_lem : Did h (tally u₁) (asking q b.first (mark_after h (asking q base 0))) (tally u₂) v₂) where
      abbrev round : Result (Both E) Refused
      round = both_of (answer_of g (asking p b.second (mark_after g (asking p base 0)))) (answer_of h (asking q b.first (mark_after h (asking q base 0))))

      second_round : group s₂ ≡ group s → group u₂ ≡ group u → (r : Result (Agreement E) Refused) → r ≡ joined b round → Exchanged group tally s u p q base s₂ u₂ r
      second_round eg eh r er =
          let handed = both_ok (answer_of g (asking p base 0)) (answer_of h (asking q base 0)) b e in
          let both : (a : Agreement E) → r ≡ Ok a → (answer_of g (asking p b.second (mark_after g (asking p base 0))) ≡ Ok a.agreed.first) × (answer_of h (asking q b.first (mark_after h (asking q base 0))) ≡ Ok a.agreed.second) =
          λ a k. both_ok _ _ a.agreed (joined_ok b round a (sym er ∙ k)).0 in
          record {
            first_group = eg;
            second_group = eh;
            result = er ∙ sym (ap (agreed_by g h p q base) e);
            first_tally = first_again_lem.told ∙ ap (λ (t : Tally). counted t (entry (first_again g h p q base b))) first.told
                ∙ sym (ap (λ (x : Result (Both E) Refused). plain (tally s) (map entry (side_calls (first_call g h p q base) (first_again g h p q base) x))) e);
            second_tally = second_again_lem.told ∙ ap (λ (t : Tally). counted t (entry (second_again g h p q base b))) second.told
                ∙ sym (ap (λ (x : Result (Both E) Refused). plain (tally u) (map entry (side_calls (second_call g h p q base) (second_again g h p q base) x))) e);
            first_work = λ a k.
                first_again_lem.told ∙ accepted_work g p b.second (mark_after g (asking p base 0)) a.agreed.first (tally s₁) (both a k).0
                ∙ ap (worked p) (first.told ∙ accepted_work g p base 0 b.first (tally s) handed.0);
            second_work = λ a k.
                second_again_lem.told ∙ accepted_work h q b.first (mark_after h (asking q base 0)) a.agreed.second (tally u₁) (both a k).1
                ∙ ap (worked q) (second.told ∙ accepted_work h q base 0 b.second (tally u) handed.1);
            agrees = λ same a k.
                let four : Four p q base g b a.agreed g = subst (Four p q base g b a.agreed) same (record {
                  first_right = first.right;
                  second_right = second.right;
                  first_again_lem = first_again_lem.right;
                  second_again_lem = second_again_lem.right;
                  first_handed = handed.0;
                  second_handed = handed.1;
                  first_agreed = (both a k).0;
                  second_agreed = (both a k).1;
                }) in
                subst (λ (x : Both E). Agrees g p q base (record { handed = x; agreed = a.agreed })) (sym (joined_ok b round a (sym er ∙ k)).1) (agrees_in p q base g b a.agreed law four);
          }

-- the exchange from its runs: the tasks o and v of both sides were run once, and answered x and y
module _ {S E : Type 0} (group : S → Group E) (tally : S → Tally) (s u : S) (p q : Brought) (base : E) (o v : Task E WindowRule) (s₁ u₁ : S) (o₁ v₁ : Task E WindowRule)
    (run : Ran group tally s o s₁ o₁) (run' : Ran group tally u v u₁ v₁) (asks : posed (call rule_of o) ≡ asking p base 0) (asks' : posed (call rule_of v) ≡ asking q base 0)
    (x y : Result E Refusal) (outcome : o₁.outcome ≡ Some x) (outcome' : v₁.outcome ≡ Some y) where
  first : Did (group s) (tally s) (asking p base 0) (tally s₁) o₁
  first = did group tally (group s) s o s₁ o₁ (asking p base 0) run refl asks

  second : Did (group u) (tally u) (asking q base 0) (tally u₁) v₁
  second = did group tally (group u) u v u₁ v₁ (asking q base 0) run' refl asks'

  handed : (r : Result (Both E) Refused) → r ≡ both_of x y → handed_over (group s) (group u) p q base ≡ r
  handed r e =
      sym (ap₂ both_of (answer_of_lem (group s) (tally s) (asking p base 0) (tally s₁) o₁ x first outcome) (answer_of_lem (group u) (tally u) (asking q base 0) (tally u₁) v₁ y second outcome')) ∙ sym e

  -- one of them was refused
  pub ends : (e : Refused) → Err e ≡ both_of x y → Exchanged group tally s u p q base s₁ u₁ (Err e)
  ends e h = refused_first group tally s u p q base s₁ u₁ o₁ v₁ first second run.same_group run'.same_group e (handed (Err e) h)

  -- both were accepted, and the tasks o' and v' were run behind them on what was handed over
  module _ (law : Lawful (group s)) (b : Both E) (h : Ok b ≡ both_of x y) (o' v' : Task E WindowRule) (s₂ u₂ : S) (o₂ v₂ : Task E WindowRule)
      (again : Ran group tally s₁ o' s₂ o₂) (again' : Ran group tally u₁ v' u₂ v₂)
      (goes : posed (call rule_of o') ≡ going_on (call rule_of o₁) b.second) (goes' : posed (call rule_of v') ≡ going_on (call rule_of v₁) b.first)
      (x₂ y₂ : Result E Refusal) (outcome₂ : o₂.outcome ≡ Some x₂) (outcome₂' : v₂.outcome ≡ Some y₂) where
    pub goes_through : (r : Result (Agreement E) Refused) → r ≡ joined b (both_of x₂ y₂) → Exchanged group tally s u p q base s₂ u₂ r
    goes_through r e =
        let one = did group tally (group s) s₁ o' s₂ o₂ (asking p b.second (mark_after (group s) (asking p base 0))) again run.same_group (goes_on (group s) (tally s) p base 0 (tally s₁) o₁ b.second (posed (call rule_of o')) first goes) in
        let two = did group tally (group u) u₁ v' u₂ v₂ (asking q b.first (mark_after (group u) (asking q base 0))) again' run'.same_group (goes_on (group u) (tally u) q base 0 (tally u₁) v₁ b.first (posed (call rule_of v')) second goes') in
        second_round group tally s u p q base s₁ u₁ o₁ v₁ first second law b (handed (Ok b) h) s₂ u₂ o₂ v₂ one two (again.same_group ∙ run.same_group) (again'.same_group ∙ run'.same_group) r
        (e ∙ ap (joined b) (ap₂ both_of
        (answer_of_lem (group s) (tally s₁) (asking p b.second (mark_after (group s) (asking p base 0))) (tally s₂) o₂ x₂ one outcome₂)
        (answer_of_lem (group u) (tally u₁) (asking q b.first (mark_after (group u) (asking q base 0))) (tally u₂) v₂ y₂ two outcome₂')))
