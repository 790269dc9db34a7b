-- The set that open marks give: each name has the value of its greatest open id. Assumes nothing.
use Rattle.std.specs.Prelude.{◌≡◌, ℕ, Bool, true, cond, ◌↔◌, List, [], ◌∷◌, Some, None, Option, ◌≢◌}
use Rattle.std.specs.List.{slice_get}
use Rattle.std.specs.Option.{option_or}
use Rattle.marks.specs.Lists.{◌∈◌, Rising, placed}
use Rattle.marks.specs.Open.{alike}
use Rattle.marks.specs.declared.mark.OpenMark.{OpenMark}
use Rattle.marks.specs.declared.mark.Entry.{Entry}

-- the value of the mark, if it has the name
abbrev pub under : {I N V : Type 0} → (N → N → Bool) → OpenMark I N V → N → Option V
under names m n = cond (alike names m.name n) (Some m.value) None

-- the value of the last mark under a name: of the greatest id, where the marks ascend
abbrev pub given : {I N V : Type 0} → (N → N → Bool) → List (OpenMark I N V) → N → Option V
given names [] n = None
given names (m ∷ ms) n = option_or (given names ms n) (under names m n)

-- a mark as an entry: its name and value, without the id
abbrev pub entry_of : {I N V : Type 0} → OpenMark I N V → Entry N V
entry_of m = record { name = m.name; value = m.value }

-- the entries in name order; a mark whose name a later one has is passed over
abbrev pub entries : {I N V : Type 0} → (N → N → Bool) → List (OpenMark I N V) → List (Entry N V)
entries names [] = []
entries names (m ∷ ms) = placed (λ e f. names e.name f.name) (entry_of m) (entries names ms)

-- o is open under the name, and no open id of that name is above its own
pub record Greatest {I N V : Type 0} (ids : I → I → Bool) (ms : List (OpenMark I N V)) (n : N) (o : OpenMark I N V) : Type 0 where
  pub is_open : o ∈ ms
  pub named : o.name ≡ n
  pub most : (u : OpenMark I N V) → u ∈ ms → u.name ≡ n → ids o.id u.id ≢ true

-- the name has this value: that of its greatest open id; or no open id has the name
abbrev pub ValueOf : {I N V : Type 0} → (I → I → Bool) → List (OpenMark I N V) → N → Option V → Type 0
ValueOf {I} {N} {V} ids ms n (Some v) = (o : OpenMark I N V) × Greatest ids ms n o × (v ≡ o.value)
ValueOf {I} {N} {V} ids ms n None = (o : OpenMark I N V) → o ∈ ms → o.name ≢ n

-- the entries ascend by name, and hold each name that has a value, with that value, and no other
pub record IsSet {I N V : Type 0} (ids : I → I → Bool) (names : N → N → Bool) (ms : List (OpenMark I N V)) (es : List (Entry N V)) : Type 0 where
  pub in_order : Rising (λ e f. names e.name f.name ≡ true) es
  pub exactly : (n : N) (v : V) → ValueOf ids ms n (Some v) ↔ (record { name = n; value = v } ∈ es)

-- entry k of the set, or none
pub record EntryAt {I N V : Type 0} (ids : I → I → Bool) (names : N → N → Bool) (ms : List (OpenMark I N V)) (k : ℕ) (r : Option (Entry N V)) : Type 0 where
  pub whole : List (Entry N V)
  pub is_set : IsSet ids names ms whole
  pub here : r ≡ slice_get whole k

-- both none, or equal values
abbrev pub SameValue : {V : Type 0} → (V → V → Bool) → Option V → Option V → Type 0
SameValue equal None None = Unit {0}
SameValue equal None (Some w) = ⊥
SameValue equal (Some v) None = ⊥
SameValue equal (Some v) (Some w) = equal v w ≡ true

-- the sets differ: some name has not the same value in both
abbrev pub Differ : {I N V : Type 0} → (N → N → Bool) → (V → V → Bool) → List (OpenMark I N V) → List (OpenMark I N V) → Type 0
Differ {I} {N} {V} names equal ms ms' = (n : N) × (SameValue equal (given names ms n) (given names ms' n) → ⊥)
