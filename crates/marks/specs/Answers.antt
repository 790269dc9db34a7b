-- What a begin and an end answer, and the marks that they leave open. Assumes nothing.
use Rattle.std.specs.Prelude.{◌≡◌, ℕ, Bool, List, length, Some, None, Ok, Err, Decides, Option, Result}
use Rattle.kinds.specs.declared.refusal.Refusal.{Refusal}
use Rattle.kinds.specs.declared.refusal.Refusal.TheVariants.{NoOpenPlace, NoPredecessor}
use Rattle.marks.specs.Open.{IsOpen, begun, ended, Opens, Closes}
use Rattle.marks.specs.Set.{Differ}
use Rattle.marks.specs.declared.mark.OpenMark.{OpenMark}

module _ {I N V : Type 0} (ids : I → I → Bool) (names : N → N → Bool) (equal : V → V → Bool) where
  -- a begin that was taken
  pub record Began (m : OpenMark I N V) (ms : List (OpenMark I N V)) (changed : Bool) (ms' : List (OpenMark I N V)) : Type 0 where
    pub leaves : ms' ≡ begun ids m ms
    pub opens : Opens ids m ms ms'
    pub tells : Decides changed (Differ names equal ms ms')

  -- an end that was taken
  pub record Ended (i : I) (ms : List (OpenMark I N V)) (changed : Bool) (ms' : List (OpenMark I N V)) : Type 0 where
    pub leaves : ms' ≡ ended ids i ms
    pub closes : Closes ids i ms ms'
    pub tells : Decides changed (Differ names equal ms ms')

  -- a begin that was refused: the id is not open and has no free place
  pub record NoPlaceFor (i : I) (places : ℕ) (ms : List (OpenMark I N V)) (e : Refusal) (ms' : List (OpenMark I N V)) : Type 0 where
    pub cause : e ≡ NoOpenPlace
    pub full : length ms ≡ places
    pub not_open : IsOpen ms i → ⊥
    pub leaves : ms' ≡ ms

  -- what a begin answers, and the marks before and after it
  abbrev pub Begins : ℕ → OpenMark I N V → List (OpenMark I N V) → Result Bool Refusal → List (OpenMark I N V) → Type 0
  Begins places m ms (Ok changed) ms' = Began m ms changed ms'
  Begins places m ms (Err e) ms' = NoPlaceFor m.id places ms e ms'

  -- what an end answers, of the predecessor that it ends or of none
  abbrev pub Ends : Option I → List (OpenMark I N V) → Result Bool Refusal → List (OpenMark I N V) → Type 0
  Ends (Some i) ms (Ok changed) ms' = Ended i ms changed ms'
  Ends (Some i) ms (Err e) ms' = ⊥
  Ends None ms (Ok changed) ms' = ⊥
  Ends None ms (Err e) ms' = (e ≡ NoPredecessor) × (ms' ≡ ms)
