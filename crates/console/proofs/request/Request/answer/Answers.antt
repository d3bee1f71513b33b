use Rattle.std.proofs.Common.{◌≡◌, None, Option, sym, subst}
use Rattle.common.specs.declared.refusal.Refusal.{Refusal}
use Rattle.console.specs.Answers.{Answer, Answered, Sized, Unless}
use Rattle.console.specs.Requests.{Asked, view}
use Rattle.inputs.specs.declared.sizes.Sizes.{Sizes}
use Rattle.inputs.specs.Sizes.{sizes_refusal}
use Rattle.console.proofs.request.Request.answer.Goals as goal

-- an answer for the sizes is one for the request that they were made of
answered : (z : Sizes) (q : Asked) (a : Answer) → (sizes_refusal q.k q.b q.m ≡ None) × (z.k ≡ q.k) × (z.b ≡ q.b) × (z.m ≡ q.m) → Sized z q a → Answered q a
answered z q a m s =
    subst (λ (o : Option Refusal). Unless o (λ x. (y : Sizes) × (y.k ≡ q.k) × (y.b ≡ q.b) × (y.m ≡ q.m) × Sized y q x) a) (sym m.0) (z, m.1, m.2, m.3, s)

pub returns-in_ok-words-in-Ok : goal.returns-in_ok-words-in-Ok
returns-in_ok-words-in-Ok c = answered c.in-Ok.sizes (view c.args.self.now) c.answer_sized.result c.in-Ok.ensures c.answer_sized.ensures
