-- What is said of a file that is read. Assumes nothing.
use Rattle.std.specs.Prelude.{◌≡◌, ℕ, List, Result, OnErr}
use Rattle.house.specs.declared.bad.BadFile.{BadFile}
use Rattle.file.specs.declared.house_file.HouseFile.{HouseFile}

-- The bytes of a file.
abbrev pub file_bytes : HouseFile → List ℕ
file_bytes f = f.bytes.now

-- A refusal leaves the file as it was.
abbrev pub Kept : {T : Type 0} → Result T BadFile → HouseFile → HouseFile → Type 0
Kept r before after = OnErr r (after ≡ before)
