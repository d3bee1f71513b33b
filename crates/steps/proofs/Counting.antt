-- How many operations the steps of a multiplication are. Assumes nothing.
use Rattle.std.proofs.Common.{◌≡◌, ℕ, zero, suc, ◌+◌, ◌-◌, ◌*◌, ◌%◌, ◌^◌, ◌≤◌, ℤ, pos, negsuc, ◌-ℤ◌, nat_abs, ◌≤ℤ◌, sym, refl, ap, ◌∙◌, add-zero, arith, pow_pos}
use native.Mathlib.Nat.{mod-add-mod, mod-mod}
use Rattle.std.proofs.lemmas.Int.{ints}
use Rattle.groups.specs.declared.tally.Tally.{Tally}
use Rattle.groups.specs.Tally.{one_addition, one_doubling}
use Rattle.steps.specs.Corrections.{correction_count}
use Rattle.steps.specs.Work.{Counts, many_additions, many_doublings, many_rounds, sums_work, table_work, work}

-- so many doublings and additions were counted from t to t', modulo 2 ^ 64
record Moved (doublings additions : ℕ) (t t' : Tally) : Type 0 where
  twice : t'.doublings % 2 ^ 64 ≡ (t.doublings + doublings) % 2 ^ 64
  plus : t'.additions % 2 ^ 64 ≡ (t.additions + additions) % 2 ^ 64

-- counts add up modulo n
moved_on : (n x i y j z : ℕ) → y % n ≡ (x + i) % n → z % n ≡ (y + j) % n → z % n ≡ (x + (i + j)) % n
moved_on n x i y j z p q =
    let sum : (x + i) + j ≡ x + (i + j) = omega arith in
    q ∙ sym (mod-add-mod y n j) ∙ ap (λ (r : ℕ). (r + j) % n) p ∙ mod-add-mod (x + i) n j ∙ ap (λ (r : ℕ). r % n) sum

then : {d a d' a' : ℕ} {t t' t'' : Tally} → Moved d a t t' → Moved d' a' t' t'' → Moved (d + d') (a + a') t t''
then {d} {a} {d'} {a'} {t} {t'} {t''} p q = record {
  twice = moved_on (2 ^ 64) t.doublings d t'.doublings d' t''.doublings p.twice q.twice;
  plus = moved_on (2 ^ 64) t.additions a t'.additions a' t''.additions p.plus q.plus;
}

-- the same counts, written another way
same_counts : {d a d' a' : ℕ} {t t' : Tally} → d ≡ d' → a ≡ a' → Moved d a t t' → Moved d' a' t t'
same_counts {d} {a} {d'} {a'} {t} {t'} e f p = record {
  twice = p.twice ∙ ap (λ (n : ℕ). (t.doublings + n) % 2 ^ 64) e;
  plus = p.plus ∙ ap (λ (n : ℕ). (t.additions + n) % 2 ^ 64) f;
}

unmoved : (t : Tally) → Moved 0 0 t t
unmoved t = record { twice = ap (λ (n : ℕ). n % 2 ^ 64) (sym (add-zero t.doublings)); plus = ap (λ (n : ℕ). n % 2 ^ 64) (sym (add-zero t.additions)) }

one_doubling_moves : (t : Tally) → Moved 1 0 t (one_doubling t)
one_doubling_moves t = record { twice = mod-mod (t.doublings + 1) (2 ^ 64); plus = (unmoved t).plus }

one_addition_moves : (t : Tally) → Moved 0 1 t (one_addition t)
one_addition_moves t = record { twice = (unmoved t).twice; plus = mod-mod (t.additions + 1) (2 ^ 64) }

doublings_move : (n : ℕ) (t : Tally) → Moved n 0 t (many_doublings n t)
doublings_move zero t = unmoved t
doublings_move (suc n) t =
    let count : n + 1 ≡ suc n = omega arith in
    same_counts count refl (then (doublings_move n t) (one_doubling_moves (many_doublings n t)))

additions_move : (n : ℕ) (t : Tally) → Moved 0 n t (many_additions n t)
additions_move zero t = unmoved t
additions_move (suc n) t =
    let count : n + 1 ≡ suc n = omega arith in
    same_counts refl count (then (additions_move n t) (one_addition_moves (many_additions n t)))

rounds_move : (n k : ℕ) (t : Tally) → Moved (k * n) n t (many_rounds n k t)
rounds_move zero k t = let none : 0 ≡ k * 0 = omega arith in same_counts none refl (unmoved t)
rounds_move (suc n) k t =
    let rounds = many_rounds n k t in
    let doubled : (k * n + k) + 0 ≡ k * suc n = omega arith in
    let added : (n + 0) + 1 ≡ suc n = omega arith in
    same_counts doubled added (then (then (rounds_move n k t) (doublings_move k rounds)) (one_addition_moves (many_doublings k rounds)))

table_moves : (lo hi : ℤ) (k b : ℕ) (t : Tally) → Moved (2 * b) (b + nat_abs hi + nat_abs lo + (2 ^ (k - 1) - 1)) t (table_work lo hi k b t)
table_moves lo hi k b t =
    let unit : Tally = many_doublings b t in
    let climbed : Tally = many_rounds b 1 unit in
    let upward : Tally = many_additions (nat_abs hi) climbed in
    let downward : Tally = many_additions (nat_abs lo) upward in
    same_counts (doubled b) (added b (nat_abs hi) (nat_abs lo) (2 ^ (k - 1) - 1))
    (then (then (then (then (doublings_move b t) (rounds_move b 1 unit)) (additions_move (nat_abs hi) climbed)) (additions_move (nat_abs lo) upward)) (additions_move (2 ^ (k - 1) - 1) downward))
  where
    doubled : (b : ℕ) → (((b + 1 * b) + 0) + 0) + 0 ≡ 2 * b
    doubled b = omega arith

    added : (b h l s : ℕ) → (((0 + b) + h) + l) + s ≡ b + h + l + s
    added b h l s = omega arith

sums_move : (k b m : ℕ) (t : Tally) → Moved (k * (m + correction_count k b) + 1) (m + correction_count k b + 2) t (sums_work k b m t)
sums_move k b m t =
    let windows : Tally = many_rounds m k t in
    let corrections : Tally = many_rounds (correction_count k b) k windows in
    same_counts (doubled k m (correction_count k b)) (added m (correction_count k b))
    (then (then (then (then (rounds_move m k t) (rounds_move (correction_count k b) k windows)) (one_addition_moves corrections)) (one_doubling_moves (one_addition corrections))) (one_addition_moves (one_doubling (one_addition corrections))))
  where
    doubled : (k m n : ℕ) → (((k * m + k * n) + 0) + 1) + 0 ≡ k * (m + n) + 1
    doubled k m n = omega arith

    added : (m n : ℕ) → (((m + n) + 1) + 0) + 1 ≡ m + n + 2
    added m n = omega arith

-- the limits lie on both sides of 0, so the entries upward and downward are as many as from lo to hi
limits_apart : (lo hi : ℤ) → lo ≤ℤ negsuc 0 → pos 1 ≤ℤ hi → nat_abs (hi -ℤ lo) ≡ nat_abs hi + nat_abs lo
limits_apart (pos l) hi p q = absurd (omega (arith, ints))
limits_apart (negsuc l) (pos h) p q = refl
limits_apart (negsuc l) (negsuc h) p q = absurd (omega (arith, ints))

-- the tally of the steps has so many more of each
pub work_counts : (lo hi : ℤ) (k b m : ℕ) → lo ≤ℤ negsuc 0 → pos 1 ≤ℤ hi → (t : Tally) → Counts lo hi k b m t (work lo hi k b m t)
work_counts lo hi k b m low high t = record {
  doublings = sym (mod-mod (rounds.doublings + 1) (2 ^ 64)) ∙ all.twice;
  additions = sym (mod-mod ((one_addition rounds).additions + 1) (2 ^ 64)) ∙ all.plus;
}
  where
    table : Tally
    table = table_work lo hi k b t

    rounds : Tally
    rounds = many_rounds (correction_count k b) k (many_rounds m k table)

    doubled : (b w : ℕ) → 2 * b + (w + 1) ≡ 2 * b + w + 1
    doubled b w = omega arith

    added : (b h l a p m n : ℕ) → a ≡ h + l → 1 ≤ p → (b + h + l + (p - 1)) + (m + n + 2) ≡ b + a + p + m + n + 1
    added b h l a p m n e one = omega arith

    all : Moved (2 * b + k * (m + correction_count k b) + 1) (b + nat_abs (hi -ℤ lo) + 2 ^ (k - 1) + m + correction_count k b + 1) t (work lo hi k b m t)
    all = same_counts (doubled b (k * (m + correction_count k b)))
        (added b (nat_abs hi) (nat_abs lo) (nat_abs (hi -ℤ lo)) (2 ^ (k - 1)) m (correction_count k b) (limits_apart lo hi low high) (pow_pos (k - 1)))
        (then (table_moves lo hi k b t) (sums_move k b m table))
