-- What a report says of the field that is bad or cut. Assumes nothing.
use Rattle.std.specs.Prelude.{Bool, true, false}
use Rattle.kinds.specs.declared.refusal.Refusal.{Refusal}
use Rattle.kinds.specs.declared.refusal.Refusal.TheVariants.{Malformed}
use Rattle.house.specs.declared.bad.Wrong.{Wrong}
use Rattle.house.specs.declared.bad.Wrong.TheVariants.{Cut, Broken}
use Rattle.house.specs.declared.bad.BadFile.{BadFile}

-- Whether a field with this wrong is cut.
abbrev pub cut_by : Wrong → Bool
cut_by Cut = true
cut_by (Broken cause) = false

-- Why a file is refused for this wrong: a cut field is malformed.
abbrev pub refused_by : Wrong → Refusal
refused_by Cut = Malformed
refused_by (Broken cause) = cause

-- Whether bytes of the field are missing.
abbrev pub is_cut : BadFile → Bool
is_cut bad = cut_by bad.wrong

-- Why the file is refused.
abbrev pub refusal_of : BadFile → Refusal
refusal_of bad = refused_by bad.wrong
