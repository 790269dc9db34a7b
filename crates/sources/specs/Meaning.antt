-- What a source means: a height, the records to come, and how they end. Assumes nothing.
use Rattle.std.specs.Prelude.{ℕ, zero, suc, ◌+◌, min, Bool, true, false, List, [], ◌∷◌, is_some, Some, None, Ok, Err, Option, Result}
use Rattle.sources.specs.declared.fault.Fault.{Fault}
use Rattle.sources.specs.declared.record.Diff.{Diff}
use Rattle.sources.specs.declared.record.Action.{Action}
use Rattle.sources.specs.declared.record.Record.{Record}

-- A record with its text, where it has one; an empty text is not a missing one.
pub record Entry (I N V : Type 0) : Type 0 where
  pub row : ℕ
  pub tag : Diff
  pub action : Action
  pub id : I
  pub name : Option N
  pub value : Option V
  pub text : Option (List ℕ)

-- How the records end: plainly, or with a fault.
pub data Ending : Type 0 where
  plain : Ending
  fault : Fault → Ending

-- What a source means.
pub record Meaning (I N V : Type 0) : Type 0 where
  pub height : ℕ
  pub records : List (Entry I N V)
  pub ending : Ending

-- The height of a layer: one more than below, up to the greatest that 32 bits hold.
abbrev pub raised : ℕ → ℕ
raised h = min (h + 1) 4294967295

-- A record as it is shown.
abbrev pub shown : {I N V : Type 0} → Entry I N V → Record I N V
shown e = record {
  row = e.row;
  tag = e.tag;
  action = e.action;
  id = e.id;
  name = e.name;
  value = e.value;
  has_text = is_some e.text;
}

-- What the end of the records looks like.
abbrev pub ended : {I N V : Type 0} → Ending → Result (Option (Record I N V)) Fault
ended plain = Ok None
ended (fault f) = Err f

-- What a source shows first.
abbrev pub first : {I N V : Type 0} → List (Entry I N V) → Ending → Result (Option (Record I N V)) Fault
first [] e = ended e
first (x ∷ xs) e = Ok (Some (shown x))

-- All but the first.
abbrev pub rest : {A : Type 0} → List A → List A
rest [] = []
rest (x ∷ xs) = xs

-- Whether there is a first.
abbrev pub nonempty : {A : Type 0} → List A → Bool
nonempty [] = false
nonempty (x ∷ xs) = true

-- What is meant once the first record is dropped.
abbrev pub stepped : {I N V : Type 0} → Meaning I N V → Meaning I N V
stepped m = record { height = m.height; records = rest m.records; ending = m.ending }

-- The text of the first record, if there is one.
abbrev pub first_text : {I N V : Type 0} → List (Entry I N V) → Option (List ℕ)
first_text [] = None
first_text (x ∷ xs) = x.text

-- Item k of a list, if there is one.
abbrev pub item : List ℕ → ℕ → Option ℕ
item [] k = None
item (b ∷ bs) zero = Some b
item (b ∷ bs) (suc k) = item bs k

-- The byte at a place of a text, if there are both.
abbrev pub byte_at : Option (List ℕ) → ℕ → Option ℕ
byte_at None k = None
byte_at (Some bs) k = item bs k
