-- What the laws of an order give. Assumes nothing.
use Rattle.std.proofs.Common.{◌≡◌, Bool, true, false, cond, not, Ordering, Less, Equal, Greater, sym, refl, subst, ⊎_elim}
use Rattle.std.proofs.lemmas.Bool.{cases_Bool, both_ways, and_parts, not-true}
use Rattle.std.specs.Ordering.{MatchOrdering, is_eq}
use Rattle.kinds.specs.Order.{TotalOrder, OrderedBy}
use Rattle.marks.specs.Open.{alike}

module _ {A : Type 0} {below : A → A → Bool} (order : TotalOrder below) where
  pub asym : (x y : A) → below x y ≡ true → below y x ≡ false
  asym x y lt = ⊎_elim (λ t. absurd (both_ways (below x x) (order.irreflexive x) (order.transitive x y x lt t))) (λ f. f) (cases_Bool (below y x))

  pub apart : (x y : A) → below x y ≡ true → y ≡ x → ⊥
  apart x y lt e = both_ways (below x x) (order.irreflexive x) (subst (λ (z : A). below x z ≡ true) e lt)

  pub alike_one : (x y : A) → alike below x y ≡ true → x ≡ y
  alike_one x y h = let p = and_parts (not (below x y)) (not (below y x)) h in order.total x y (not-true _ p.0) (not-true _ p.1)

  pub alike_itself : (x : A) → alike below x x ≡ true
  alike_itself x = let e : below x x ≡ false = order.irreflexive x in rw e

  pub one_alike : (x y : A) → x ≡ y → alike below x y ≡ true
  one_alike x y e = subst (λ (z : A). alike below x z ≡ true) e (alike_itself x)

  pub not_alike : (x y : A) → (x ≡ y → ⊥) → alike below x y ≡ false
  not_alike x y ne = ⊎_elim (λ t. absurd (ne (alike_one x y t))) (λ f. f) (cases_Bool (alike below x y))

  -- an answer by the order says `Equal` where neither is below the other
  pub ties_alike : (x y : A) (r : Ordering) → MatchOrdering r (below x y ≡ true) (x ≡ y) (below y x ≡ true) → is_eq r ≡ alike below x y
  ties_alike x y Less h = rw h refl
  ties_alike x y Equal h = sym (one_alike x y h)
  ties_alike x y Greater h = rw (asym y x h, h) refl

-- what an order answers of two
abbrev pub ranking : {A : Type 0} → (A → A → Bool) → A → A → Ordering
ranking below x y = cond (below x y) Less (cond (below y x) Greater Equal)

module _ {A : Type 0} {below : A → A → Bool} (order : TotalOrder below) where
  by_tests : (x y : A) (less more : Bool) → below x y ≡ less → below y x ≡ more → MatchOrdering (cond less Less (cond more Greater Equal)) (below x y ≡ true) (x ≡ y) (below y x ≡ true)
  by_tests x y true more e f = e
  by_tests x y false true e f = f
  by_tests x y false false e f = order.total x y e f

  pub ranking_orders : OrderedBy (ranking below) below
  ranking_orders = record { ordered = order; answers = λ x y. by_tests x y (below x y) (below y x) refl refl }

  -- and nothing else is answered by it
  pub one_ranking : (x y : A) (r : Ordering) → MatchOrdering r (below x y ≡ true) (x ≡ y) (below y x ≡ true) → r ≡ ranking below x y
  one_ranking x y Less h = rw h refl
  one_ranking x y Equal h = subst (λ (z : A). Equal ≡ ranking below x z) h (rw (order.irreflexive x) refl)
  one_ranking x y Greater h = rw (asym order y x h, h) refl
