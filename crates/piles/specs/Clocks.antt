-- Two clock layers. Assumes nothing.
use Rattle.std.specs.Prelude.{◌≡◌, ℕ, ◌⊎◌, List, Err}
use Rattle.kinds.specs.declared.refusal.Refusal.TheVariants.{ActorUnknown}
use Rattle.sources.specs.Meaning.{Meaning, Entry, raised}
use Rattle.sources.specs.Sifted.{Verdict, keep, pass, stop, sifted_records, sifted_ending, clock_verdict, clocked}
use Rattle.sources.specs.declared.fault.Fault.{Fault}
use Rattle.piles.specs.Exchanged.{told_of, Covered, actor_lacked}

-- The verdict of two layers: the lower one's, and of what that keeps the upper one's.
abbrev pub then : Verdict → Verdict → Verdict
then keep v = v
then pass v = pass
then (stop f) v = stop f

-- From how the actor and the counter of an id are read, the numbers of the lower clock and of the upper one, and the height below both.
module _ {I N V : Type 0} (actor counter : I → ℕ) (lower upper : List ℕ) (h : ℕ) where
  -- The verdict of both clocks.
  abbrev pub both : Entry I N V → Verdict
  both x = then (clock_verdict actor counter lower (raised h) x) (clock_verdict actor counter upper (raised (raised h)) x)

  -- The lower clock lacks the record's actor.
  abbrev pub LowerLacks : Entry I N V → Type 0
  LowerLacks x = told_of actor counter lower x ≡ Err ActorUnknown

  -- The lower clock covers the record, and the upper one lacks its actor.
  abbrev pub UpperLacks : Entry I N V → Type 0
  UpperLacks x = Covered actor counter lower x × (told_of actor counter upper x ≡ Err ActorUnknown)

  -- What the verdict of both comes to: it keeps what both cover, and stops where either lacks the actor, each at its own height.
  pub record VerdictOfBoth (x : Entry I N V) : Type 0 where
    pub keeps : Covered actor counter lower x → Covered actor counter upper x → both x ≡ keep
    pub kept : both x ≡ keep → Covered actor counter lower x × Covered actor counter upper x
    pub stops_below : LowerLacks x → both x ≡ stop (actor_lacked (raised h) x.row)
    pub stops_above : UpperLacks x → both x ≡ stop (actor_lacked (raised (raised h)) x.row)
    pub stopped : (f : Fault) → both x ≡ stop f → (LowerLacks x × (f ≡ actor_lacked (raised h) x.row)) ⊎ (UpperLacks x × (f ≡ actor_lacked (raised (raised h)) x.row))

-- Two clock layers are one that goes by the verdict of both.
pub record BothSift {I N V : Type 0} (actor counter : I → ℕ) (lower upper : List ℕ) (m : Meaning I N V) : Type 0 where
  pub height : (clocked actor counter upper (clocked actor counter lower m)).height ≡ raised (raised m.height)
  pub records : (clocked actor counter upper (clocked actor counter lower m)).records ≡ sifted_records (both actor counter lower upper m.height) m.records
  pub ending : (clocked actor counter upper (clocked actor counter lower m)).ending ≡ sifted_ending (both actor counter lower upper m.height) m.records m.ending
  pub verdict : (x : Entry I N V) → VerdictOfBoth actor counter lower upper m.height x

-- Two clock layers keep what both clocks cover.
abbrev pub ClocksJoin : {I : Type 0} → (I → ℕ) → (I → ℕ) → Type 0 → Type 0 → Type 0
ClocksJoin {I} actor counter N V =
    (lower upper : List ℕ) (m : Meaning I N V) → BothSift actor counter lower upper m
