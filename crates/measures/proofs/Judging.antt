-- The test of well-formed bytes decides the grammar. Assumes nothing.
use Rattle.std.proofs.Common.{ℕ, List, [], ◌∷◌, Some, None, Decides, Option, refl}
use Rattle.measures.proofs.Characters.{octets_none}
use Rattle.measures.proofs.Reading.{false_true}
use Rattle.measures.proofs.Steps.{Goes, stepped_right}
use Rattle.measures.specs.Rfc3629.{Utf8Octets}
use Rattle.measures.specs.Judged.{Rest, stepped, between, closes, judged}
use Rattle.measures.specs.declared.judge.Expects.{Expects}
use Rattle.measures.specs.declared.judge.Expects.TheVariants.{Char, Tail, TwoTails, ThreeTails, AfterE0, AfterED, AfterF0, AfterF4}

between_right : (e : Expects) → Decides (between e) (Rest e [])
between_right Char = (λ _. octets_none, λ _. refl)
between_right Tail = (false_true, λ r. absurd r)
between_right TwoTails = (false_true, λ r. absurd r)
between_right ThreeTails = (false_true, λ r. absurd r)
between_right AfterE0 = (false_true, λ r. absurd r)
between_right AfterED = (false_true, λ r. absurd r)
between_right AfterF0 = (false_true, λ r. absurd r)
between_right AfterF4 = (false_true, λ r. absurd r)

closes_right : (bytes : List ℕ) (o : Option Expects) → Decides (closes o bytes) (Goes o bytes)
closes_right bytes None = (false_true, λ r. absurd r)
closes_right [] (Some e) = between_right e
closes_right (b ∷ bytes) (Some e) =
    let later = closes_right bytes (stepped e b) in
    let here = stepped_right e b bytes in
    (λ t. here.0 (later.0 t), λ r. later.1 (here.1 r))

pub judged_right : (bytes : List ℕ) → Decides (judged bytes) (Utf8Octets bytes)
unfolding judged
judged_right bytes = closes_right bytes (Some Char)
