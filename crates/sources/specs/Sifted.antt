-- What a layer means that keeps some records, passes others, and may stop. Assumes nothing.
use Rattle.std.specs.Prelude.{ℕ, Bool, true, false, List, [], ◌∷◌, Ok, Err, Result}
use Rattle.kinds.specs.declared.refusal.Refusal.{Refusal}
use Rattle.sources.specs.Clock.{covering, clock_numbers}
use Rattle.sources.specs.Meaning.{Meaning, Entry, Ending, fault, raised}
use Rattle.sources.specs.declared.clocked.Clocked.{Clocked}
use Rattle.sources.specs.declared.fault.Fault.{Fault}

-- What becomes of a record: it is kept or passed, or the list stops at it with a fault.
pub data Verdict : Type 0 where
  keep : Verdict
  pass : Verdict
  stop : Fault → Verdict

-- A record by its verdict, before those that follow.
abbrev pub records_by : {A : Type 0} → Verdict → A → List A → List A
records_by keep x xs = x ∷ xs
records_by pass x xs = xs
records_by (stop f) x xs = []

-- How the list ends by the first record's verdict: as the rest does, or with the fault.
abbrev pub ending_by : Verdict → Ending → Ending
ending_by keep e = e
ending_by pass e = e
ending_by (stop f) e = fault f

-- The records that are kept, up to the first that stops the list.
abbrev pub sifted_records : {A : Type 0} → (A → Verdict) → List A → List A
sifted_records verdict [] = []
sifted_records verdict (x ∷ xs) = records_by (verdict x) x (sifted_records verdict xs)

-- How they end, where the list below ends so.
abbrev pub sifted_ending : {A : Type 0} → (A → Verdict) → List A → Ending → Ending
sifted_ending verdict [] e = e
sifted_ending verdict (x ∷ xs) e = ending_by (verdict x) (sifted_ending verdict xs e)

-- What a layer means that goes by a verdict.
abbrev pub sifted : {I N V : Type 0} → (Entry I N V → Verdict) → Meaning I N V → Meaning I N V
sifted verdict m = record {
  height = raised m.height;
  records = sifted_records verdict m.records;
  ending = sifted_ending verdict m.records m.ending;
}

-- The verdict at a row, in a layer of a height, on what a clock tells: it keeps what is covered.
abbrev pub verdict_on : ℕ → ℕ → Result Bool Refusal → Verdict
verdict_on height row (Ok true) = keep
verdict_on height row (Ok false) = pass
verdict_on height row (Err refusal) = stop (record { refusal = refusal; row = row; height = height })

-- Whether a record is not passed.
abbrev pub halts : Verdict → Bool
halts keep = true
halts pass = false
halts (stop f) = true

-- Whether the first record, if there is one, is not passed.
abbrev pub settled : {A : Type 0} → (A → Verdict) → List A → Bool
settled verdict [] = true
settled verdict (x ∷ xs) = halts (verdict x)

-- From how the actor and the counter of an id are read.
module _ {I : Type 0} (actor counter : I → ℕ) where
  -- The verdict of a clock in a layer of a height.
  abbrev pub clock_verdict : {N V : Type 0} → List ℕ → ℕ → Entry I N V → Verdict
  clock_verdict numbers height x = verdict_on height x.row (covering numbers (actor x.id) (counter x.id))

  -- What the clock layer means: the records whose ids the clock covers, up to the first whose actor it lacks.
  abbrev pub clocked : {N V : Type 0} → List ℕ → Meaning I N V → Meaning I N V
  clocked numbers m = sifted (clock_verdict numbers (raised m.height)) m

  -- What the layer means, from what the source below it means.
  abbrev pub clocked_means : {S N V : Type 0} → (S → Meaning I N V) → Clocked S → Meaning I N V
  clocked_means means s = clocked (clock_numbers s.clock) (means s.below)

  -- Whether the first record below, if there is one, is not passed by the clock.
  abbrev pub clocked_settled : {S N V : Type 0} → (S → Meaning I N V) → Clocked S → Bool
  clocked_settled means s = settled (clock_verdict (clock_numbers s.clock) (raised (means s.below).height)) (means s.below).records
