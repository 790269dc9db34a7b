-- What a table means: its records up to the first whose text lies past the memory, and that fault. Assumes nothing.
use Rattle.std.specs.Prelude.{ℕ, ◌+◌, Bool, true, false, List, [], ◌∷◌, length, take, drop, Some, None, Ok, Err, Option, Result, nat_le}
use Rattle.kinds.specs.declared.refusal.Refusal.TheVariants.{Malformed}
use Rattle.sources.specs.Meaning.{Meaning, Entry, Ending, plain, fault}
use Rattle.sources.specs.declared.fault.Fault.{Fault}
use Rattle.sources.specs.declared.table.TextPlace.{TextPlace}
use Rattle.sources.specs.declared.table.Table.{Table}
use Rattle.sources.specs.declared.table.TableRecord.{TableRecord}

-- Whether the memory holds the text at a place; that a record has none is no fault.
abbrev pub held : List ℕ → Option TextPlace → Bool
held memory None = true
held memory (Some p) = nat_le (p.start + p.len) (length memory)

-- The text at a place.
abbrev pub text_of : List ℕ → Option TextPlace → Option (List ℕ)
text_of memory None = None
text_of memory (Some p) = Some (take p.len (drop p.start memory))

-- A record of the table with its row and its text.
abbrev pub entry : {I N V : Type 0} → List ℕ → ℕ → TableRecord I N V → Entry I N V
entry memory row r = record {
  row = row;
  tag = r.tag;
  action = r.action;
  id = r.id;
  name = r.name;
  value = r.value;
  text = text_of memory r.text;
}

-- The fault of a text that lies past the memory.
abbrev pub past_memory : ℕ → Fault
past_memory row = record { refusal = Malformed; row = row; height = 0 }

-- A record before others if it is good, else nothing.
abbrev pub before : {A : Type 0} → Bool → A → List A → List A
before true x xs = x ∷ xs
before false x xs = []

-- How the list ends: as the rest does if its first record is good, else with a fault.
abbrev pub ends_with : Bool → Ending → Fault → Ending
ends_with true e f = e
ends_with false e f = fault f

-- The records that are good, up to the first that is not; the first has the row that is given.
abbrev pub good_records : {I N V : Type 0} → List ℕ → ℕ → List (TableRecord I N V) → List (Entry I N V)
good_records memory row [] = []
good_records memory row (r ∷ rs) = before (held memory r.text) (entry memory row r) (good_records memory (row + 1) rs)

-- How they end.
abbrev pub good_ending : {I N V : Type 0} → List ℕ → ℕ → List (TableRecord I N V) → Ending
good_ending memory row [] = plain
good_ending memory row (r ∷ rs) = ends_with (held memory r.text) (good_ending memory (row + 1) rs) (past_memory row)

-- What is meant by the records of a table from a row on.
abbrev pub tabled : {I N V : Type 0} → List ℕ → ℕ → List (TableRecord I N V) → Meaning I N V
tabled memory row rs = record {
  height = 0;
  records = good_records memory row rs;
  ending = good_ending memory row rs;
}

-- What a table means: its records from the row that is first now.
abbrev pub table_means : {I N V : Type 0} → Table I N V → Meaning I N V
table_means t = tabled t.text.now t.at (drop t.at t.rows.now)

-- A record if it is good, else a fault.
abbrev pub good_or : {A : Type 0} → Bool → A → Fault → Result (Option A) Fault
good_or true r f = Ok (Some r)
good_or false r f = Err f

-- The first record of a table, or how the list ends there.
abbrev pub headed : {I N V : Type 0} → List ℕ → ℕ → List (TableRecord I N V) → Result (Option (TableRecord I N V)) Fault
headed memory row [] = Ok None
headed memory row (r ∷ rs) = good_or (held memory r.text) r (past_memory row)

-- The record of a table that is first now, or how the list ends there.
abbrev pub table_head : {I N V : Type 0} → Table I N V → Result (Option (TableRecord I N V)) Fault
table_head t = headed t.text.now t.at (drop t.at t.rows.now)
