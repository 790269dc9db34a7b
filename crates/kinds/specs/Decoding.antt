-- Cases had back from their numbers. Assumes nothing.
use Rattle.std.specs.Prelude.{◌≡◌, ℕ, ◌<◌, Result, MatchResult}
use Rattle.kinds.specs.declared.unknown.UnknownNumber.{UnknownNumber}

-- The answer is the case of the number, or the number, which is above the last that a case has.
abbrev pub Decodes : {A : Type 0} → (A → ℕ) → (ℕ → A) → ℕ → ℕ → Result A UnknownNumber → Type 0
Decodes code case last number r =
    MatchResult r (λ a. (a ≡ case number) × (code a ≡ number)) (λ e. (e.0 ≡ number) × (last < number))
