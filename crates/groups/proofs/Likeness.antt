-- Members of equal codes in a lawful group, as a small algebra. Assumes nothing.
use Rattle.std.proofs.Common.{◌≡◌, true, sym, refl, ◌∙◌}
use Rattle.groups.specs.Groups.{Group, Lawful}

infixr 30 ◌⟫◌
-- two members of equal code
pub record Like {E : Type 0} (g : Group E) (a b : E) : Type 0 where
  pub first : g.member a ≡ true
  pub second : g.member b ≡ true
  pub codes : g.code a ≡ g.code b

pub it : {E : Type 0} {g : Group E} {a : E} → g.member a ≡ true → Like g a a
it h = record { first = h; second = h; codes = refl }

pub back : {E : Type 0} {g : Group E} {a b : E} → Like g a b → Like g b a
back p = record { first = p.second; second = p.first; codes = sym p.codes }

pub ◌⟫◌ : {E : Type 0} {g : Group E} {a b c : E} → Like g a b → Like g b c → Like g a c
p ⟫ q = record { first = p.first; second = q.second; codes = p.codes ∙ q.codes }

module _ {E : Type 0} {g : Group E} (law : Lawful g) where
  pub sums : {a b c d : E} → Like g a c → Like g b d → Like g (g.sum a b) (g.sum c d)
  sums {a} {b} {c} {d} p q = record {
    first = law.sum_in a b p.first q.first;
    second = law.sum_in c d p.second q.second;
    codes = law.sum_same a b c d p.first q.first p.second q.second p.codes q.codes;
  }

  pub negatives : {a b : E} → Like g a b → Like g (g.negative a) (g.negative b)
  negatives {a} {b} p = record {
    first = law.negative_in a p.first;
    second = law.negative_in b p.second;
    codes = law.negative_same a b p.first p.second p.codes;
  }

  pub doubles : {a b : E} → Like g a b → Like g (g.double a) (g.sum b b)
  doubles {a} {b} p = record {
    first = law.double_in a p.first;
    second = law.sum_in b b p.second p.second;
    codes = law.double_same a b p.first p.second p.codes ∙ law.twice b p.second;
  }

  pub regroup : {a b c : E} → g.member a ≡ true → g.member b ≡ true → g.member c ≡ true → Like g (g.sum (g.sum a b) c) (g.sum a (g.sum b c))
  regroup {a} {b} {c} f h k = record {
    first = law.sum_in (g.sum a b) c (law.sum_in a b f h) k;
    second = law.sum_in a (g.sum b c) f (law.sum_in b c h k);
    codes = law.assoc a b c f h k;
  }

  pub no_left : {a : E} → g.member a ≡ true → Like g (g.sum g.neutral a) a
  no_left {a} h = record { first = law.sum_in g.neutral a law.neutral_in h; second = h; codes = law.left a h }

  pub no_right : {a : E} → g.member a ≡ true → Like g (g.sum a g.neutral) a
  no_right {a} h = record { first = law.sum_in a g.neutral h law.neutral_in; second = h; codes = law.right a h }

  pub off_left : {a : E} → g.member a ≡ true → Like g (g.sum (g.negative a) a) g.neutral
  off_left {a} h = record { first = law.sum_in (g.negative a) a (law.negative_in a h) h; second = law.neutral_in; codes = law.left_inverse a h }

  pub off_right : {a : E} → g.member a ≡ true → Like g (g.sum a (g.negative a)) g.neutral
  off_right {a} h = record { first = law.sum_in a (g.negative a) h (law.negative_in a h); second = law.neutral_in; codes = law.right_inverse a h }

  -- -a + (a + b) and (b + a) - a come to b
  pub undo_left : {a b : E} → g.member a ≡ true → g.member b ≡ true → Like g (g.sum (g.negative a) (g.sum a b)) b
  undo_left {a} h k = back (regroup (law.negative_in a h) h k) ⟫ sums (off_left h) (it k) ⟫ no_left k

  pub undo_right : {a b : E} → g.member a ≡ true → g.member b ≡ true → Like g (g.sum (g.sum b a) (g.negative a)) b
  undo_right {a} h k = regroup k h (law.negative_in a h) ⟫ sums (it k) (off_right h) ⟫ no_right k

  -- what adds to the same sum on the left of c is alike
  pub cancel : {a b c : E} → g.member a ≡ true → g.member b ≡ true → g.member c ≡ true → Like g (g.sum a c) (g.sum b c) → Like g a b
  cancel {a} {b} {c} f h k e = back (undo_right k f) ⟫ sums e (it (law.negative_in c k)) ⟫ undo_right k h

  -- what adds to neutral with a is the negative of a
  pub the_negative : {a b : E} → g.member a ≡ true → g.member b ≡ true → Like g (g.sum b a) g.neutral → Like g b (g.negative a)
  the_negative {a} {b} f h e = cancel h (law.negative_in a f) f (e ⟫ back (off_left f))

  pub negative_twice : {a : E} → g.member a ≡ true → Like g (g.negative (g.negative a)) a
  negative_twice {a} h = back (the_negative (law.negative_in a h) h (off_right h))

  pub negative_neutral : Like g (g.negative g.neutral) g.neutral
  negative_neutral = back (the_negative law.neutral_in law.neutral_in (no_left law.neutral_in))
