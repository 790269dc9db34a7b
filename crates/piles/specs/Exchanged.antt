-- The clock layer and the window in either order. Assumes nothing.
use Rattle.std.specs.Prelude.{◌≡◌, ℕ, ◌<◌, Bool, true, List, [], ◌∷◌, length, take, Some, None, Ok, Err, Option, Result}
use Rattle.std.specs.List.{AllByRecursion}
use Rattle.kinds.specs.declared.refusal.Refusal.{Refusal}
use Rattle.kinds.specs.declared.refusal.Refusal.TheVariants.{ActorUnknown}
use Rattle.sources.specs.Clock.{covering}
use Rattle.sources.specs.Meaning.{Meaning, Entry, Ending, fault, raised}
use Rattle.sources.specs.Sifted.{clocked}
use Rattle.sources.specs.Window.{window}
use Rattle.sources.specs.declared.fault.Fault.{Fault}

-- The fault of a clock that lacks the actor of a row's record, told by a layer of a height.
abbrev pub actor_lacked : ℕ → ℕ → Fault
actor_lacked height row = record { refusal = ActorUnknown; row = row; height = height }

-- How a list ends in a layer of a height: with that fault, if there is a row of which to tell it.
abbrev pub told_at : ℕ → Option ℕ → Ending → Ending
told_at height None e = e
told_at height (Some row) e = fault (actor_lacked height row)

-- A row, if the clock lacks its record's actor, else that of a later record.
abbrev pub lacking_by : Result Bool Refusal → ℕ → Option ℕ → Option ℕ
lacking_by (Ok covered) row later = later
lacking_by (Err refusal) row later = Some row

-- From how the actor and the counter of an id are read, and a clock's numbers.
module _ {I N V : Type 0} (actor counter : I → ℕ) (numbers : List ℕ) where
  -- What the clock tells of a record.
  abbrev pub told_of : Entry I N V → Result Bool Refusal
  told_of x = covering numbers (actor x.id) (counter x.id)

  -- The clock covers a record.
  abbrev pub Covered : Entry I N V → Type 0
  Covered x = told_of x ≡ Ok true

  -- The row of the first record whose actor the clock lacks.
  abbrev pub lacking_row : List (Entry I N V) → Option ℕ
  lacking_row [] = None
  lacking_row (x ∷ xs) = lacking_by (told_of x) x.row (lacking_row xs)

  -- A window from the start that no list fills: the same records; a missing actor is told at the clock layer's own height.
  pub record Unfilled (b : ℕ) (m : Meaning I N V) : Type 0 where
    pub records : (window 0 b (clocked actor counter numbers m)).records ≡ (clocked actor counter numbers (window 0 b m)).records
    pub window_above : (window 0 b (clocked actor counter numbers m)).ending ≡ told_at (raised m.height) (lacking_row m.records) m.ending
    pub clock_above : (clocked actor counter numbers (window 0 b m)).ending ≡ told_at (raised (raised m.height)) (lacking_row m.records) m.ending
    pub height : (window 0 b (clocked actor counter numbers m)).height ≡ (clocked actor counter numbers (window 0 b m)).height

-- Where the clock covers every record up to the window's end, the two may change places.
abbrev pub CoveredExchange : {I : Type 0} → (I → ℕ) → (I → ℕ) → Type 0 → Type 0 → Type 0
CoveredExchange {I} actor counter N V =
    (numbers : List ℕ) (a b : ℕ) (m : Meaning I N V) → AllByRecursion (Covered actor counter numbers) (take b m.records) → window a b (clocked actor counter numbers m) ≡ clocked actor counter numbers (window a b m)

-- Where the window is longer than the list below, they may but for the height of a missing actor.
abbrev pub UnfilledExchange : {I : Type 0} → (I → ℕ) → (I → ℕ) → Type 0 → Type 0 → Type 0
UnfilledExchange {I} actor counter N V =
    (numbers : List ℕ) (b : ℕ) (m : Meaning I N V) → length m.records < b → Unfilled actor counter numbers b m
