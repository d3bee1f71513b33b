-- The laws of multiples, from the laws of a group alone. Assumes nothing.
use Rattle.std.proofs.Common.{◌≡◌, ℕ, zero, suc, ◌+◌, ◌*◌, true, ℤ, pos, negsuc, ◌+ℤ◌, ◌*ℤ◌, neg_ℤ, sym, ap, ◌∙◌, add-zero, add-suc, suc-mul, zero-mul, arith}
use lib.IntN.{zero-*ℤ, suc_ℤ-*ℤ, *ℤ_comm, *ℤ-negsuc}
use Rattle.std.proofs.lemmas.Int.{ints}
use Rattle.groups.specs.Groups.{Group, Lawful}
use Rattle.groups.specs.Multiples.{MultipleLaws, multiple, times}
use Rattle.groups.proofs.Likeness.{Like, it, back, ◌⟫◌, sums, negatives, doubles, regroup, no_left, no_right, undo_left, undo_right, cancel, the_negative, negative_twice, negative_neutral}

module _ {E : Type 0} (g : Group E) (law : Lawful g) where
  pub times_in : (a : E) → g.member a ≡ true → (n : ℕ) → g.member (times g n a) ≡ true
  times_in a h zero = law.neutral_in
  times_in a h (suc n) = law.sum_in (times g n a) a (times_in a h n) h

  -- equal factors give one multiple
  factor : (a : E) → g.member a ≡ true → {m n : ℕ} → m ≡ n → Like g (times g m a) (times g n a)
  factor a h {m} {n} e = record { first = times_in a h m; second = times_in a h n; codes = ap (λ k. g.code (times g k a)) e }

  -- m a + n a = (m + n) a
  pub times_sum : (a : E) → g.member a ≡ true → (m n : ℕ) → Like g (g.sum (times g m a) (times g n a)) (times g (m + n) a)
  times_sum a h m zero = no_right law (times_in a h m) ⟫ factor a h (sym (add-zero m))
  times_sum a h m (suc n) =
      back (regroup law (times_in a h m) (times_in a h n) h) ⟫ sums law (times_sum a h m n) (it h) ⟫ factor a h (sym (add-suc m n))

  -- m (n a) = (m n) a
  pub times_product : (a : E) → g.member a ≡ true → (m n : ℕ) → Like g (times g m (times g n a)) (times g (m * n) a)
  times_product a h zero n = factor a h (sym (zero-mul n))
  times_product a h (suc m) n =
      sums law (times_product a h m n) (it (times_in a h n)) ⟫ times_sum a h (m * n) n ⟫ factor a h (sym (suc-mul m n))

  -- (m + n) a - n a = m a
  pub times_difference : (a : E) → g.member a ≡ true → (m n : ℕ) → Like g (g.sum (times g (m + n) a) (g.negative (times g n a))) (times g m a)
  times_difference a h m n =
      sums law (back (times_sum a h m n)) (it (law.negative_in (times g n a) (times_in a h n))) ⟫ undo_right law (times_in a h n) (times_in a h m)

  -- a = b in codes gives n a = n b
  pub times_same : {a b : E} → Like g a b → (n : ℕ) → Like g (times g n a) (times g n b)
  times_same e zero = it law.neutral_in
  times_same e (suc n) = sums law (times_same e n) e

  -- a + n a = n a + a
  first_last : (a : E) → g.member a ≡ true → (n : ℕ) → Like g (g.sum a (times g n a)) (times g (suc n) a)
  first_last a h n =
      let one : 1 + n ≡ suc n = omega arith in
      sums law (back (no_left law h)) (it (times_in a h n)) ⟫ times_sum a h 1 n ⟫ factor a h one

  -- -(n a) = n (-a)
  pub times_negative : (a : E) → g.member a ≡ true → (n : ℕ) → Like g (g.negative (times g n a)) (times g n (g.negative a))
  times_negative a h n = back (the_negative law (times_in a h n) (times_in (g.negative a) (law.negative_in a h) n) (undone n))
    where
      undone : (n : ℕ) → Like g (g.sum (times g n (g.negative a)) (times g n a)) g.neutral
      undone zero = no_left law law.neutral_in
      undone (suc n) =
          let b-in = law.negative_in a h in
          let N-in = times_in (g.negative a) b-in n in
          sums law (it (times_in (g.negative a) b-in (suc n))) (back (first_last a h n))
          ⟫ regroup law N-in b-in (law.sum_in a (times g n a) h (times_in a h n))
          ⟫ sums law (it N-in) (undo_left law h (times_in a h n))
          ⟫ undone n

  pub multiple_in : (a : E) → g.member a ≡ true → (z : ℤ) → g.member (multiple g z a) ≡ true
  multiple_in a h (pos n) = times_in a h n
  multiple_in a h (negsuc n) = law.negative_in (times g (suc n) a) (times_in a h (suc n))

  -- equal integers give one multiple
  integer : (a : E) → g.member a ≡ true → {y z : ℤ} → y ≡ z → Like g (multiple g y a) (multiple g z a)
  integer a h {y} {z} e = record { first = multiple_in a h y; second = multiple_in a h z; codes = ap (λ k. g.code (multiple g k a)) e }

  -- z a + k a = j a where z + k = j
  shifted : (a : E) → g.member a ≡ true → (z : ℤ) (k j : ℕ) → z +ℤ pos k ≡ pos j → Like g (g.sum (multiple g z a) (times g k a)) (times g j a)
  shifted a h (pos m) k j e = let whole : m + k ≡ j = cc in times_sum a h m k ⟫ factor a h whole
  shifted a h (negsuc n) k j e =
      let whole : k ≡ suc n + j = omega (arith, ints) in
      sums law (it (multiple_in a h (negsuc n))) (factor a h whole ⟫ back (times_sum a h (suc n) j))
      ⟫ undo_left law (times_in a h (suc n)) (times_in a h j)

  -- every integer comes to a natural number with some natural number added
  lifted : (z : ℤ) → (k : ℕ) × (j : ℕ) × (z +ℤ pos k ≡ pos j)
  lifted (pos m) = (0, m, omega (arith, ints))
  lifted (negsuc n) = (suc n, 0, omega (arith, ints))

  -- y a + z a = (y + z) a, since both come to the same natural multiple with k a + l a added
  pub multiple_sum : (a : E) → g.member a ≡ true → (y z : ℤ) → Like g (g.sum (multiple g y a) (multiple g z a)) (multiple g (y +ℤ z) a)
  multiple_sum a h y z =
      let lift-y = lifted y in
      let lift-z = lifted z in
      let k : ℕ = lift-y.0 in
      let i : ℕ = lift-y.1 in
      let l : ℕ = lift-z.0 in
      let j : ℕ = lift-z.1 in
      let p : y +ℤ pos k ≡ pos i = lift-y.2 in
      let q : z +ℤ pos l ≡ pos j = lift-z.2 in
      let apart : y +ℤ pos (j + k) ≡ pos (i + j) = omega (arith, ints) in
      let joined : (y +ℤ z) +ℤ pos (l + k) ≡ pos (i + j) = omega (arith, ints) in
      let Y-in = multiple_in a h y in
      let Z-in = multiple_in a h z in
      let S-in = law.sum_in (multiple g y a) (multiple g z a) Y-in Z-in in
      let K-in = times_in a h k in
      let L-in = times_in a h l in
      cancel law S-in (multiple_in a h (y +ℤ z)) (times_in a h (l + k)) (
      sums law (it S-in) (back (times_sum a h l k))
      ⟫ regroup law Y-in Z-in (law.sum_in (times g l a) (times g k a) L-in K-in)
      ⟫ sums law (it Y-in) (back (regroup law Z-in L-in K-in) ⟫ sums law (shifted a h z l j q) (it K-in) ⟫ times_sum a h j k)
      ⟫ shifted a h y (j + k) (i + j) apart
      ⟫ back (shifted a h (y +ℤ z) (l + k) (i + j) joined)
      )

  -- -(z a) = (-z) a
  pub multiple_negative : (a : E) → g.member a ≡ true → (z : ℤ) → Like g (g.negative (multiple g z a)) (multiple g (neg_ℤ z) a)
  multiple_negative a h (pos zero) = negative_neutral law
  multiple_negative a h (pos (suc n)) = it (multiple_in a h (negsuc n))
  multiple_negative a h (negsuc n) = negative_twice law (times_in a h (suc n))

  pub multiple_double : (a : E) → g.member a ≡ true → (z : ℤ) → Like g (g.double (multiple g z a)) (multiple g (z +ℤ z) a)
  multiple_double a h z = doubles law (it (multiple_in a h z)) ⟫ multiple_sum a h z z

  -- m (z a) = (m z) a for a natural number m
  scaled : (a : E) → g.member a ≡ true → (m : ℕ) (z : ℤ) → Like g (times g m (multiple g z a)) (multiple g (pos m *ℤ z) a)
  scaled a h zero z = integer a h (sym (zero-*ℤ z))
  scaled a h (suc m) z =
      sums law (scaled a h m z) (it (multiple_in a h z)) ⟫ multiple_sum a h (pos m *ℤ z) z ⟫ integer a h (sym (suc_ℤ-*ℤ (pos m) z))

  -- y (z a) = (y z) a
  pub multiple_product : (a : E) → g.member a ≡ true → (y z : ℤ) → Like g (multiple g y (multiple g z a)) (multiple g (y *ℤ z) a)
  multiple_product a h (pos m) z = scaled a h m z
  multiple_product a h (negsuc m) z =
      let turned : neg_ℤ (pos (suc m) *ℤ z) ≡ negsuc m *ℤ z = ap neg_ℤ (*ℤ_comm (pos (suc m)) z) ∙ sym (*ℤ-negsuc z m) ∙ *ℤ_comm z (negsuc m) in
      negatives law (scaled a h (suc m) z) ⟫ multiple_negative a h (pos (suc m) *ℤ z) ⟫ integer a h turned

  pub multiple_same : {a b : E} → Like g a b → (z : ℤ) → Like g (multiple g z a) (multiple g z b)
  multiple_same e (pos n) = times_same e n
  multiple_same e (negsuc n) = negatives law (times_same e (suc n))

  pub multiple_laws : MultipleLaws g
  multiple_laws = record {
    times_in = times_in;
    times_sum = λ a h m n. (times_sum a h m n).codes;
    times_product = λ a h m n. (times_product a h m n).codes;
    times_difference = λ a h m n. (times_difference a h m n).codes;
    times_negative = λ a h n. (times_negative a h n).codes;
    times_same = λ a b f h e n. (times_same (record { first = f; second = h; codes = e }) n).codes;
    multiple_in = multiple_in;
    multiple_sum = λ a h y z. (multiple_sum a h y z).codes;
    multiple_product = λ a h y z. (multiple_product a h y z).codes;
    multiple_negative = λ a h z. (multiple_negative a h z).codes;
    multiple_double = λ a h z. (multiple_double a h z).codes;
    multiple_same = λ a b f h e z. (multiple_same (record { first = f; second = h; codes = e }) z).codes;
  }
