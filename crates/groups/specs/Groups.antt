-- A group as a device shows it, what a device answers for any element, the laws, and lists of all members. Assumes nothing.
use Rattle.std.specs.Prelude.{◌≡◌, ℕ, ◌<◌, Bool, true, cond, ◌&&◌, List, length, slice_index_or}

-- which elements are members, the code that each stands for, the neutral element, and the operations on members
pub record Group (E : Type 0) : Type 0 where
  pub member : E → Bool
  pub code : E → List ℕ
  pub neutral : E
  pub sum : E → E → E
  pub double : E → E
  pub negative : E → E

-- what add answers: the sum of members, and neutral where one of the two is none
abbrev pub added : {E : Type 0} → Group E → E → E → E
added g a b = cond (g.member a && g.member b) (g.sum a b) g.neutral

-- what double answers: the double of a member, and neutral for what is none
abbrev pub doubled : {E : Type 0} → Group E → E → E
doubled g a = cond (g.member a) (g.double a) g.neutral

-- what negate answers: the negative of a member, and neutral for what is none
abbrev pub negated : {E : Type 0} → Group E → E → E
negated g a = cond (g.member a) (g.negative a) g.neutral

-- the laws, for members and by codes: closure, results of equal codes from equal codes, associativity, neutral, negatives, doubles
pub record Lawful {E : Type 0} (g : Group E) : Type 0 where
  pub neutral_in : g.member g.neutral ≡ true
  pub sum_in : (a b : E) → g.member a ≡ true → g.member b ≡ true → g.member (g.sum a b) ≡ true
  pub double_in : (a : E) → g.member a ≡ true → g.member (g.double a) ≡ true
  pub negative_in : (a : E) → g.member a ≡ true → g.member (g.negative a) ≡ true
  pub sum_same : (a b c d : E) → g.member a ≡ true → g.member b ≡ true → g.member c ≡ true → g.member d ≡ true → g.code a ≡ g.code c → g.code b ≡ g.code d → g.code (g.sum a b) ≡ g.code (g.sum c d)
  pub double_same : (a b : E) → g.member a ≡ true → g.member b ≡ true → g.code a ≡ g.code b → g.code (g.double a) ≡ g.code (g.double b)
  pub negative_same : (a b : E) → g.member a ≡ true → g.member b ≡ true → g.code a ≡ g.code b → g.code (g.negative a) ≡ g.code (g.negative b)
  pub assoc : (a b c : E) → g.member a ≡ true → g.member b ≡ true → g.member c ≡ true → g.code (g.sum (g.sum a b) c) ≡ g.code (g.sum a (g.sum b c))
  pub left : (a : E) → g.member a ≡ true → g.code (g.sum g.neutral a) ≡ g.code a
  pub right : (a : E) → g.member a ≡ true → g.code (g.sum a g.neutral) ≡ g.code a
  pub left_inverse : (a : E) → g.member a ≡ true → g.code (g.sum (g.negative a) a) ≡ g.code g.neutral
  pub right_inverse : (a : E) → g.member a ≡ true → g.code (g.sum a (g.negative a)) ≡ g.code g.neutral
  pub twice : (a : E) → g.member a ≡ true → g.code (g.double a) ≡ g.code (g.sum a a)

-- a list of all members: only members stand in it, each of them does, and none twice
pub record Lists {E : Type 0} (g : Group E) (xs : List E) : Type 0 where
  pub only : (k : ℕ) → k < length xs → g.member (slice_index_or xs k g.neutral) ≡ true
  pub each : (a : E) → g.member a ≡ true → (k : ℕ) × (k < length xs) × (slice_index_or xs k g.neutral ≡ a)
  pub once : (j k : ℕ) → j < length xs → k < length xs → slice_index_or xs j g.neutral ≡ slice_index_or xs k g.neutral → j ≡ k
