-- Numbers of a clock looked up. Assumes nothing.
use Rattle.std.proofs.Common.{◌≡◌, ℕ, zero, suc, ◌<◌, ◌≤◌, leb, List, [], ◌∷◌, length, get_or, Ok, Err, refl, arith}
use Rattle.kinds.specs.declared.refusal.Refusal.TheVariants.{ActorUnknown}
use Rattle.sources.specs.Clock.{covering}

-- the clock has a number for the actor
pub known : (ns : List ℕ) (actor counter n : ℕ) → actor < length ns → n ≡ get_or ns actor n → Ok (leb counter n) ≡ covering ns actor counter
known [] actor counter n h e = absurd (omega arith)
known (m ∷ ns) zero counter n h e = rw e refl
known (m ∷ ns) (suc actor) counter n h e = known ns actor counter n (omega arith) e

-- it has none
pub lacking : (ns : List ℕ) (actor counter : ℕ) → length ns ≤ actor → Err ActorUnknown ≡ covering ns actor counter
lacking [] actor counter h = refl
lacking (n ∷ ns) zero counter h = absurd (omega arith)
lacking (n ∷ ns) (suc actor) counter h = lacking ns actor counter (omega arith)
