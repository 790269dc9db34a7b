-- What a lent memory holds. Assumes nothing.
use Rattle.std.specs.Prelude.{ℕ, List, length, take}
use Rattle.places.specs.declared.places.Places.{Places}

-- the items: what stands in the places in use
abbrev pub held : {T : Type 0} → Places T → List T
held p = take p.used p.slots.now

-- how many places there are
abbrev pub size : {T : Type 0} → Places T → ℕ
size p = length p.slots.now
