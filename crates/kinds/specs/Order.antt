-- Orders of ids and names, and the equality of values. Assumes nothing.
use Rattle.std.specs.Prelude.{◌≡◌, Bool, true, false}
use Rattle.std.specs.declared.cmp.Ordering.{Ordering}
use Rattle.std.specs.Ordering.{MatchOrdering}

-- A total order by its strict test: nothing is below itself, below passes on, and two of which neither is below are one.
pub record TotalOrder {A : Type 0} (below : A → A → Bool) : Type 0 where
  pub irreflexive : (x : A) → below x x ≡ false
  pub transitive : (x y z : A) → below x y ≡ true → below y z ≡ true → below x z ≡ true
  pub total : (x y : A) → below x y ≡ false → below y x ≡ false → x ≡ y

-- The comparison answers by a total order, and says of nothing but the same that they are equal.
pub record OrderedBy {A : Type 0} (cmp : A → A → Ordering) (below : A → A → Bool) : Type 0 where
  pub ordered : TotalOrder below
  pub answers : (x y : A) → MatchOrdering (cmp x y) (below x y ≡ true) (x ≡ y) (below y x ≡ true)

-- An equality: an equivalence, which may be coarser than being the same.
pub record Equality {A : Type 0} (equal : A → A → Bool) : Type 0 where
  pub itself : (x : A) → equal x x ≡ true
  pub turned : (x y : A) → equal x y ≡ true → equal y x ≡ true
  pub chained : (x y z : A) → equal x y ≡ true → equal y z ≡ true → equal x z ≡ true
