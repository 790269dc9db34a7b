-- What reading the bytes of a field answers. Assumes nothing.
use Rattle.std.specs.Prelude.{◌≡◌, ℕ, ◌+◌, ◌<◌, ◌≤◌, Bool, true, false, ◌⊎◌, List, length, Ok, Err, Result, MatchResult}
use Rattle.kinds.specs.declared.refusal.Refusal.{Refusal}
use Rattle.kinds.specs.declared.refusal.Refusal.TheVariants.{Malformed}
use Rattle.house.specs.declared.bad.Part.{Part}
use Rattle.house.specs.declared.bad.BadFile.{BadFile}
use Rattle.house.specs.Fields.{byte, cut_at, broken_at}

-- The n bytes at a place are there, and then P holds of the answer, or the answer reports that the part is cut.
abbrev pub Reads : {T : Type 0} → List ℕ → ℕ → ℕ → Part → Result T BadFile → (T → Type 0) → Type 0
Reads d p n part r P = MatchResult r (λ x. (p + n ≤ length d) × P x) (λ e. (length d < p + n) × (e ≡ cut_at part p))

-- The rule is met, or the answer reports that the part breaks it.
abbrev pub Rules : {T : Type 0} → Bool → Part → Refusal → ℕ → Result T BadFile → Type 0
Rules met part cause p r = MatchResult r (λ _. met ≡ true) (λ e. (met ≡ false) × (e ≡ broken_at part cause p))

-- The byte at a place is there, and a conversion takes it; or the answer reports that the part is cut, or that the conversion refuses it.
abbrev pub ReadsCase : {T E : Type 0} → List ℕ → ℕ → Part → (ℕ → Result T E → Type 0) → Result T BadFile → Type 0
ReadsCase d p part gives r =
    MatchResult r
    (λ x. (p + 1 ≤ length d) × gives (byte d p) (Ok x))
    (λ e. ((length d < p + 1) × (e ≡ cut_at part p)) ⊎ ((p + 1 ≤ length d) × ((x : _) × gives (byte d p) (Err x)) × (e ≡ broken_at part Malformed p)))
