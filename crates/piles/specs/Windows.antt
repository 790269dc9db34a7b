-- A window on a window. Assumes nothing.
use Rattle.std.specs.Prelude.{◌≡◌, ℕ, ◌+◌, ◌<◌, ◌≤◌, min, ◌⊎◌, length}
use Rattle.sources.specs.Meaning.{Meaning, plain, raised}
use Rattle.sources.specs.Window.{window}

-- What `window c d` on `window a b` means, by one window on the source below.
pub record Joined {I N V : Type 0} (a b c d : ℕ) (m : Meaning I N V) : Type 0 where
  pub records : (window c d (window a b m)).records ≡ (window (a + c) (min b (a + d)) m).records
  pub ending : (0 < d) ⊎ (a ≤ length m.records) → (window c d (window a b m)).ending ≡ (window (a + c) (min b (a + d)) m).ending
  -- Where neither holds the endings can differ: of `window 0 0` on `window 5 9`, over 3 records that end with a fault,
  -- the upper window is filled by no record and ends plainly; `window 5 5` ends with the fault.
  pub unlike : d ≡ 0 → length m.records < min a b → ((window c d (window a b m)).ending ≡ plain) × ((window (a + c) (min b (a + d)) m).ending ≡ m.ending)
  pub height : (window c d (window a b m)).height ≡ raised (window (a + c) (min b (a + d)) m).height

-- A window on a window shows what one window shows.
abbrev pub WindowsJoin : Type 0 → Type 0 → Type 0 → Type 0
WindowsJoin I N V = (a b c d : ℕ) (m : Meaning I N V) → Joined a b c d m
