-- The first entry past a name. Assumes nothing.
use Rattle.std.specs.Prelude.{◌≡◌, Bool, true, false, cond, List, [], ◌∷◌, Some, None, Option}
use Rattle.marks.specs.Set.{ValueOf}
use Rattle.marks.specs.declared.mark.OpenMark.{OpenMark}
use Rattle.marks.specs.declared.mark.Entry.{Entry}

-- the name is past the last one, where there is one
abbrev pub past : {N : Type 0} → (N → N → Bool) → Option N → N → Bool
past names None n = true
past names (Some last) n = names last n

-- the name is ahead of the best entry, where there is one
abbrev pub ahead : {N V : Type 0} → (N → N → Bool) → Option (Entry N V) → N → Bool
ahead names None n = true
ahead names (Some e) n = names n e.name

-- the first of the entries past the last name
abbrev pub first_past : {N V : Type 0} → (N → N → Bool) → Option N → List (Entry N V) → Option (Entry N V)
first_past names last [] = None
first_past names last (e ∷ es) = cond (past names last e.name) (Some e) (first_past names last es)

-- the entry of the set whose name is past the last one and before every other such name, or none is past it
abbrev pub EntryPast : {I N V : Type 0} → (I → I → Bool) → (N → N → Bool) → List (OpenMark I N V) → Option N → Option (Entry N V) → Type 0
EntryPast ids names ms last None = (n : _) (v : _) → ValueOf ids ms n (Some v) → past names last n ≡ false
EntryPast ids names ms last (Some e) = ValueOf ids ms e.name (Some e.value) × (past names last e.name ≡ true) × ((n : _) (v : _) → ValueOf ids ms n (Some v) → past names last n ≡ true → names n e.name ≡ false)
