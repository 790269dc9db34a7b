-- The numbers and names of tags and actions. Assumes nothing.
use Rattle.std.specs.Prelude.{ℕ, List, [], ◌∷◌, slice_index_or, codes}
use Rattle.sources.specs.declared.record.Diff.{Diff}
use Rattle.sources.specs.declared.record.Diff.TheVariants.{Same, Add, Del}
use Rattle.sources.specs.declared.record.Action.{Action}
use Rattle.sources.specs.declared.record.Action.TheVariants.{MakeMap, MakeList, MakeText, Set, Delete, Increment, MakeTable, Mark}

-- The number of each tag.
abbrev pub tag_number : Diff → ℕ
tag_number Same = 0
tag_number Add = 1
tag_number Del = 2

-- The name of each tag.
abbrev pub tag_name : Diff → List ℕ
tag_name Same = codes "Same"
tag_name Add = codes "Add"
tag_name Del = codes "Del"

-- The tag of a number; a number above 2, which no tag has, counts as that of Del.
abbrev pub tag_of : ℕ → Diff
tag_of n = slice_index_or (Same ∷ Add ∷ Del ∷ []) n Del

-- The number of each action.
abbrev pub action_number : Action → ℕ
action_number MakeMap = 0
action_number MakeList = 1
action_number MakeText = 2
action_number Set = 3
action_number Delete = 4
action_number Increment = 5
action_number MakeTable = 6
action_number Mark = 7

-- The name of each action.
abbrev pub action_name : Action → List ℕ
action_name MakeMap = codes "MakeMap"
action_name MakeList = codes "MakeList"
action_name MakeText = codes "MakeText"
action_name Set = codes "Set"
action_name Delete = codes "Delete"
action_name Increment = codes "Increment"
action_name MakeTable = codes "MakeTable"
action_name Mark = codes "Mark"

-- The action of a number; a number above 7, which no action has, counts as that of Mark.
abbrev pub action_of : ℕ → Action
action_of n = slice_index_or (MakeMap ∷ MakeList ∷ MakeText ∷ Set ∷ Delete ∷ Increment ∷ MakeTable ∷ Mark ∷ []) n Mark
