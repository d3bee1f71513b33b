-- Four calls that cross agree. Assumes nothing.
use Rattle.std.proofs.Common.{◌≡◌, ℕ, ◌*◌, sym, ap, ◌∙◌, mul_comm}
use Rattle.inputs.specs.Keys.{scalar}
use Rattle.groups.specs.Groups.{Group, Lawful}
use Rattle.groups.specs.Multiples.{MultipleLaws, times}
use Rattle.groups.proofs.Times.{multiple_laws}
use Rattle.multiplier.specs.Calls.{Call, Accepted, Multiple, Answered}
use Rattle.multiplier.specs.Runs.{Crossed}

module _ {E : Type 0} (g : Group E) (law : Lawful g) where
  -- a call on the answer of another gives both keys times the first base
  pub twice : (a b : Call E) (v : E) → Answered g a → Answered g b → Accepted a b.base → Accepted b v → g.code v ≡ g.code (times g (scalar b.key * scalar a.key) a.base)
  twice a b v p q r s =
      let laws : MultipleLaws g = multiple_laws g law in
      let first : Multiple g a b.base = p.multiple b.base r in
      let second : Multiple g b v = q.multiple v s in
      let m : ℕ = scalar b.key in
      let n : ℕ = scalar a.key in
      second.code
      ∙ laws.times_same b.base (times g n a.base) first.member (laws.times_in a.base first.base_in n) first.code m
      ∙ laws.times_product a.base first.base_in m n

  pub agreed : (a b c d : Call E) (v w : E) → Answered g a → Answered g b → Answered g c → Answered g d → Crossed g a b c d v w → g.code v ≡ g.code w
  agreed a b c d v w pa pb pc pd x =
      let laws : MultipleLaws g = multiple_laws g law in
      let A-in = (pa.multiple b.base x.a_answer).base_in in
      let C-in = (pc.multiple d.base x.c_answer).base_in in
      let swap : scalar b.key * scalar a.key ≡ scalar d.key * scalar c.key =
      ap (λ n. scalar b.key * n) x.first_key ∙ ap (λ n. n * scalar d.key) x.second_key ∙ mul_comm (scalar c.key) (scalar d.key) in
      twice a b v pa pb x.a_answer x.b_answer
      ∙ laws.times_same a.base c.base A-in C-in x.one_base (scalar b.key * scalar a.key)
      ∙ ap (λ n. g.code (times g n c.base)) swap
      ∙ sym (twice c d w pc pd x.c_answer x.d_answer)
