-- A file is a list of fields, each at its place; of the first that is bad or cut there is a report. Assumes nothing.
use Rattle.std.specs.Prelude.{◌≡◌, ℕ, zero, suc, ◌+◌, ◌*◌, ◌<◌, ◌≤◌, ◌⊎◌, List, [], ◌∷◌, ◌++◌, length, take, drop, Result, MatchResult, slice_index}
use Rattle.kinds.specs.declared.refusal.Refusal.{Refusal}
use Rattle.kinds.specs.declared.refusal.Refusal.TheVariants.{Malformed}
use Rattle.house.specs.declared.bad.Part.{Part}
use Rattle.house.specs.declared.bad.Wrong.TheVariants as wrongs
use Rattle.house.specs.declared.bad.BadFile.{BadFile}

-- A field.
pub record Field : Type 1 where
  -- its first byte
  pub place : ℕ
  -- how many bytes it takes
  pub size : ℕ
  -- which part of the file it is
  pub part : Part
  -- what makes it good, where all its bytes are there
  pub rule : Type 0
  -- why a file is refused that breaks the rule
  pub cause : Refusal

-- The report of a cut field: it is malformed, whatever its rule.
abbrev pub cut_at : Part → ℕ → BadFile
cut_at part place = record { part = part; wrong = wrongs.Cut; byte = place }

-- The report of a field that is whole and breaks its rule.
abbrev pub broken_at : Part → Refusal → ℕ → BadFile
broken_at part cause place = record { part = part; wrong = wrongs.Broken cause; byte = place }

-- All bytes of a field are there.
abbrev pub Whole : List ℕ → Field → Type 0
Whole d f = f.place + f.size ≤ length d

-- A good field is whole and keeps its rule.
abbrev pub Good : List ℕ → Field → Type 0
Good d f = Whole d f × f.rule

-- A field is cut, with this report.
abbrev pub Cut : List ℕ → Field → BadFile → Type 0
Cut d f e = (length d < f.place + f.size) × (e ≡ cut_at f.part f.place)

-- A field is whole and breaks its rule, with this report.
abbrev pub Broken : List ℕ → Field → BadFile → Type 0
Broken d f e = Whole d f × (f.rule → ⊥) × (e ≡ broken_at f.part f.cause f.place)

-- A field is bad or cut, with this report.
abbrev pub Bad : List ℕ → Field → BadFile → Type 0
Bad d f e = Cut d f e ⊎ Broken d f e

-- Every field is good.
abbrev pub AllGood : List ℕ → List Field → Type 0
AllGood d [] = Unit {0}
AllGood d (f ∷ fs) = Good d f × AllGood d fs

-- The first field that is not good has this report: all before it are good.
abbrev pub FirstBad : List ℕ → List Field → BadFile → Type 0
FirstBad d [] e = ⊥
FirstBad d (f ∷ fs) e = Bad d f e ⊎ (Good d f × FirstBad d fs e)

-- Fields were judged: all are good, and then P holds of the answer, or the answer reports the first that is not.
abbrev pub Judged : {T : Type 0} → List ℕ → List Field → Result T BadFile → (T → Type 0) → Type 0
Judged d fs r P = MatchResult r (λ x. AllGood d fs × P x) (λ e. FirstBad d fs e)

-- The fields of items 0 to k - 1, one after the other.
abbrev pub each : (ℕ → List Field) → ℕ → List Field
each row zero = []
each row (suc k) = each row k ++ row k

-- The byte at a place; past the end a byte counts as 0.
abbrev pub byte : List ℕ → ℕ → ℕ
byte d p = slice_index d p

-- The n bytes from a place on.
abbrev pub slice : List ℕ → ℕ → ℕ → List ℕ
slice d p n = take n (drop p d)

-- The number of 16 bits at a place, its low byte first.
abbrev pub le16 : List ℕ → ℕ → ℕ
le16 d p = byte d p + byte d (p + 1) * 256

-- The number of 32 bits at a place, its low byte first.
abbrev pub le32 : List ℕ → ℕ → ℕ
le32 d p = byte d p + byte d (p + 1) * 256 + byte d (p + 2) * 65536 + byte d (p + 3) * 16777216

-- The field of n bytes at a place, where any bytes will do.
abbrev pub any : Part → ℕ → ℕ → Field
any part p n = record { place = p; size = n; part = part; rule = Unit {0}; cause = Malformed }
