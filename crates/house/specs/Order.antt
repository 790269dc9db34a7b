-- What holds of the fields of every file. Assumes nothing.
use Rattle.std.specs.Prelude.{◌≡◌, ℕ, ◌+◌, ◌≤◌, ◌⊎◌, List, [], ◌∷◌}
use Rattle.kinds.specs.Values.{kind_number}
use Rattle.kinds.specs.declared.value.ScalarValue.{ScalarValue}
use Rattle.kinds.specs.Kinds.{code_of, kind_of, scalar_kind}
use Rattle.house.specs.declared.bad.BadFile.{BadFile}
use Rattle.kinds.specs.declared.kind.ValueKind.{ValueKind}
use Rattle.house.specs.Fields.{Field, Bad, AllGood, FirstBad}
use Rattle.house.specs.House.{fields, file_end}

-- The fields follow one another from p to q, without a gap.
abbrev pub Follow : ℕ → List Field → ℕ → Type 0
Follow p [] q = p ≡ q
Follow p (f ∷ fs) q = (f.place ≡ p) × Follow (p + f.size) fs q

-- Some field is bad or cut, with this report.
abbrev pub SomeBad : List ℕ → List Field → BadFile → Type 0
SomeBad d [] e = ⊥
SomeBad d (f ∷ fs) e = Bad d f e ⊎ SomeBad d fs e

-- The fields of any file follow one another from its first byte to its end; a file is not both good and reported;
-- it has no two reports; and of all the fields that are bad or cut the one reported has the least byte.
-- A kind is known by its number, which is the one that it has among the values of the document.
pub record Stands : Type 0 where
  pub order : (d : List ℕ) → Follow 0 (fields d) (file_end d)
  pub either : (d : List ℕ) (e : BadFile) → AllGood d (fields d) → FirstBad d (fields d) e → ⊥
  pub one : (d : List ℕ) (e f : BadFile) → FirstBad d (fields d) e → FirstBad d (fields d) f → e ≡ f
  pub least : (d : List ℕ) (e f : BadFile) → FirstBad d (fields d) e → SomeBad d (fields d) f → e.byte ≤ f.byte
  pub kinds : (k : ValueKind) → kind_of (code_of k) ≡ k
  pub numbers : (v : ScalarValue) → code_of (scalar_kind v) ≡ kind_number v
