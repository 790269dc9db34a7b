-- What the changes of a lent memory answer, and the items that they leave. Assumes nothing.
use Rattle.std.specs.Prelude.{◌≡◌, ℕ, ◌<◌, ◌≤◌, List, [], ◌∷◌, ◌++◌, length, Some, None, Ok, Err, Option, Result, slice_index_or}
use Rattle.std.specs.List.{insert, remove}
use Rattle.places.specs.declared.places.NoPlace.{NoPlace}
use Rattle.places.specs.declared.places.NoPlace.TheVariants.{Full, Outside}

-- the item comes last, or every place is in use and nothing changes
abbrev pub Pushed : {T U : Type 0} → List T → ℕ → T → Result U NoPlace → List T → Type 0
Pushed xs places x (Ok u) ys = (length xs < places) × (ys ≡ xs ++ x ∷ [])
Pushed xs places x (Err Full) ys = (length xs ≡ places) × (ys ≡ xs)
Pushed xs places x (Err Outside) ys = ⊥

-- the item stands at its place and the others keep their order, or nothing changes: the place is past the end, else all are in use
abbrev pub Inserts : {T U : Type 0} → List T → ℕ → ℕ → T → Result U NoPlace → List T → Type 0
Inserts xs places at x (Ok u) ys = (at ≤ length xs) × (length xs < places) × (ys ≡ insert xs at x)
Inserts xs places at x (Err Full) ys = (at ≤ length xs) × (length xs ≡ places) × (ys ≡ xs)
Inserts xs places at x (Err Outside) ys = (length xs < at) × (ys ≡ xs)

-- the item that stood there is out and the others keep their order, or none stood there and nothing changes
abbrev pub Removes : {T : Type 0} → List T → ℕ → Option T → List T → Type 0
Removes xs at (Some x) ys = (at < length xs) × (x ≡ slice_index_or xs at x) × (ys ≡ remove xs at)
Removes xs at None ys = (length xs ≤ at) × (ys ≡ xs)
