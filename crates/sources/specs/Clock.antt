-- What a clock tells. Assumes nothing.
use Rattle.std.specs.Prelude.{ℕ, zero, suc, Bool, List, [], ◌∷◌, take, Ok, Err, Result, nat_le}
use Rattle.kinds.specs.declared.refusal.Refusal.{Refusal}
use Rattle.kinds.specs.declared.refusal.Refusal.TheVariants.{ActorUnknown}
use Rattle.sources.specs.declared.clock.Clock.{Clock}

-- The numbers of a clock, one for each actor, from actor 0 on.
abbrev pub clock_numbers : Clock → List ℕ
clock_numbers c = take c.len c.numbers

-- Whether an actor's number is at least the counter; refused where there is no number for the actor.
abbrev pub covering : List ℕ → ℕ → ℕ → Result Bool Refusal
covering [] actor counter = Err ActorUnknown
covering (n ∷ ns) zero counter = Ok (nat_le counter n)
covering (n ∷ ns) (suc actor) counter = covering ns actor counter
