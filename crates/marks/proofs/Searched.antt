-- What a search by halves says of an ascending list of marks. Assumes nothing.
use Rattle.std.proofs.Common.{◌≡◌, ℕ, zero, suc, ◌≤◌, Bool, true, Ordering, Less, Equal, Greater, List, [], ◌∷◌, length, get_or, take, drop, Ok, Err, Result, refl, subst, arith}
use Rattle.std.specs.Ordering.{MatchOrdering, ordering_index}
use Rattle.std.specs.List.{AllWithin}
use Rattle.std.specs.List.Sorted.{IsNonDecreasingBy, IsSearchInRange, IsBinarySearchResult}
use Rattle.std.proofs.lemmas.Option.{slice_get-get_or}
use Rattle.kinds.specs.Order.{TotalOrder, OrderedBy}
use Rattle.marks.specs.Lists.{Each}
use Rattle.marks.specs.Open.{Ascending, Found}
use Rattle.marks.specs.declared.mark.OpenMark.{OpenMark}
use Rattle.marks.proofs.Lists.{each_at, each_map}
use Rattle.marks.proofs.Orders.{apart}

each_take : {A : Type 0} (P : A → Type 0) (xs : List A) (k : ℕ) → k ≤ length xs → AllWithin P xs 0 k → Each P (take k xs)
each_take P xs zero le h = tt
each_take P [] (suc k) le h = tt
each_take P (x ∷ xs) (suc k) le h = (h 0 x (omega arith) (omega arith), each_take P xs k (omega arith) (λ j d low lt. h (suc j) d (omega arith) (omega arith)))

each_drop : {A : Type 0} (P : A → Type 0) (xs : List A) (k : ℕ) → AllWithin P xs k (length xs) → Each P (drop k xs)
each_drop P [] zero h = tt
each_drop P [] (suc k) h = tt
each_drop P (x ∷ xs) zero h = (h 0 x (omega arith) (omega arith), each_drop P xs zero (λ j d low lt. h (suc j) d (omega arith) (omega arith)))
each_drop P (x ∷ xs) (suc k) h = each_drop P xs k (λ j d low lt. h (suc j) d (omega arith) (omega arith))

module _ {I : Type 0} {ids : I → I → Bool} (order : TotalOrder ids) (i : I) where
  -- what an answer says of an id beside i
  abbrev Ranks : I → Ordering → Type 0
  Ranks x r = MatchOrdering r (ids x i ≡ true) (x ≡ i) (ids i x ≡ true)

  -- of two ids in order, the later one is not ranked lower
  rises : (x y : I) (p q : Ordering) → Ranks x p → Ranks y q → ids x y ≡ true → ordering_index p ≤ ordering_index q
  rises x y Less q a b lt = omega arith
  rises x y Equal Less a b lt = absurd (apart order i i (order.transitive i y i (subst (λ (j : I). ids j y ≡ true) a lt) b) refl)
  rises x y Equal Equal a b lt = omega arith
  rises x y Equal Greater a b lt = omega arith
  rises x y Greater Less a b lt = absurd (apart order i i (order.transitive i x i a (order.transitive x y i lt b)) refl)
  rises x y Greater Equal a b lt = absurd (apart order i i (order.transitive i x i a (subst (λ (j : I). ids x j ≡ true) b lt)) refl)
  rises x y Greater Greater a b lt = omega arith

module _ {I N V : Type 0} {cmp : I → I → Ordering} {ids : I → I → Bool} (orders : OrderedBy cmp ids) (i : I) where
  -- how a mark's id compares with i
  abbrev ord : OpenMark I N V → Ordering
  ord o = cmp o.id i

  ascends : (ms : List (OpenMark I N V)) → Ascending ids ms → IsNonDecreasingBy (λ o. ordering_index (ord o)) ms
  ascends [] h j k d le lt = absurd (omega arith)
  ascends (m ∷ ms) h zero zero d le lt = omega arith
  ascends (m ∷ ms) h zero (suc k) d le lt =
      rises orders.ordered i m.id (get_or ms k d).id _ _ (orders.answers m.id i) (orders.answers (get_or ms k d).id i) (each_at (λ u. ids m.id u.id ≡ true) ms k d h.0 (omega arith))
  ascends (m ∷ ms) h (suc j) zero d le lt = absurd (omega arith)
  ascends (m ∷ ms) h (suc j) (suc k) d le lt = ascends ms h.1 j k d (omega arith) (omega arith)

  ranked : (o : OpenMark I N V) (r : Ordering) → ord o ≡ r → Ranks orders.ordered i o.id r
  ranked o r e = subst (λ (s : Ordering). Ranks orders.ordered i o.id s) e (orders.answers o.id i)

  pub found : (ms : List (OpenMark I N V)) (r : Result ℕ ℕ) → IsSearchInRange r (length ms) → IsBinarySearchResult ord ms r → Ascending ids ms → Found ids ms i r
  found [] (Ok k) within h sorted = absurd (omega (arith, within))
  found (m ∷ ms) (Ok k) within h sorted = (get_or (m ∷ ms) k m, slice_get-get_or (m ∷ ms) k m within, ranked (get_or (m ∷ ms) k m) Equal (h m))
  found ms (Err k) within h sorted =
      let parts = h (ascends ms sorted) in (
        each_map (λ o. ord o ≡ Less) (λ o. ids o.id i ≡ true) (take k ms) (λ o. ranked o Less) (each_take (λ o. ord o ≡ Less) ms k within parts.0),
        each_map (λ o. ord o ≡ Greater) (λ o. ids i o.id ≡ true) (drop k ms) (λ o. ranked o Greater) (each_drop (λ o. ord o ≡ Greater) ms k parts.1),
      )
