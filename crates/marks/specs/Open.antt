-- The open marks of a side, as a list in the order of their ids. Assumes nothing.
use Rattle.std.specs.Prelude.{◌≡◌, ℕ, Bool, true, not, ◌&&◌, ◌⊎◌, ◌↔◌, List, take, drop, Some, Ok, Err, Result, ◌≢◌}
use Rattle.std.specs.List.{slice_get, filter}
use Rattle.std.specs.Coded.{Coded-set, coded_bool}
use Rattle.marks.specs.Lists.{◌∈◌, Each, Rising, rising_once, placed}
use Rattle.marks.specs.declared.mark.OpenMark.{OpenMark}

-- neither is below the other
abbrev pub alike : {A : Type 0} → (A → A → Bool) → A → A → Bool
alike below x y = not (below x y) && not (below y x)

-- the id is open
abbrev pub IsOpen : {I N V : Type 0} → List (OpenMark I N V) → I → Type 0
IsOpen {I} {N} {V} ms i = (o : OpenMark I N V) × (o ∈ ms) × (o.id ≡ i)

module _ {I N V : Type 0} (ids : I → I → Bool) where
  -- the marks stand in the order of their ids, each id once
  abbrev pub Ascending : List (OpenMark I N V) → Type 0
  Ascending ms = Rising (λ o u. ids o.id u.id ≡ true) ms

  -- that they do is shown in one way
  pub ascending_once : (ms : List (OpenMark I N V)) → IsProp (Ascending ms)
  ascending_once ms = rising_once (λ o u. ids o.id u.id ≡ true) (λ o u. Coded-set coded_bool (ids o.id u.id) true) ms

  -- the marks that are open once one has begun: an id that is open keeps its first data
  abbrev pub begun : OpenMark I N V → List (OpenMark I N V) → List (OpenMark I N V)
  begun m ms = placed (λ o u. ids o.id u.id) m ms

  -- the marks that are open once an id has ended
  abbrev pub ended : I → List (OpenMark I N V) → List (OpenMark I N V)
  ended i ms = filter (λ o. not (alike ids o.id i)) ms

  -- after a begin: what was open is, and the new mark if its id was not
  pub record Opens (m : OpenMark I N V) (ms ms' : List (OpenMark I N V)) : Type 0 where
    pub in_order : Ascending ms'
    pub exactly : (o : OpenMark I N V) → (o ∈ ms') ↔ ((o ∈ ms) ⊎ ((o ≡ m) × (IsOpen ms m.id → ⊥)))

  -- after an end: what was open is, but for the ended id
  pub record Closes (i : I) (ms ms' : List (OpenMark I N V)) : Type 0 where
    pub in_order : Ascending ms'
    pub exactly : (o : OpenMark I N V) → (o ∈ ms') ↔ ((o ∈ ms) × (o.id ≢ i))

  -- where an id stands, or the place between the ids below it and those above
  abbrev pub Found : List (OpenMark I N V) → I → Result ℕ ℕ → Type 0
  Found ms i (Ok k) = (o : OpenMark I N V) × (slice_get ms k ≡ Some o) × (o.id ≡ i)
  Found ms i (Err k) = Each (λ o. ids o.id i ≡ true) (take k ms) × Each (λ o. ids i o.id ≡ true) (drop k ms)
