-- Fields judged part by part.
use Rattle.std.proofs.Common.{◌≡◌, ℕ, List, ◌++◌, Ok, Err, Result, sym, refl, subst}
use Rattle.std.specs.Result.{IsOk, IsErrAnd}
use Rattle.house.specs.declared.bad.BadFile.{BadFile}
use Rattle.house.specs.Fields.{Field, AllGood, FirstBad, Judged}
use Rattle.house.proofs.Rows.{good_join, bad_behind}
use Rattle.house.proofs.Verdicts.{verdict_either}

-- what is judged behind good fields is judged with them
pub judged_behind : {T : Type 0} (d : List ℕ) (a b : List Field) (r : Result T BadFile) (P : T → Type 0) → AllGood d a → Judged d b r P → Judged d (a ++ b) r P
judged_behind d a b (Ok x) P g j = (good_join d a b g j.0, j.1)
judged_behind d a b (Err e) P g j = bad_behind d a b e g j

-- good fields are judged so
pub judged_good : {T : Type 0} (d : List ℕ) (fs : List Field) (r : Result T BadFile) (P : T → Type 0) → AllGood d fs → Judged d fs r P → IsOk r
judged_good d fs (Ok x) P g j = refl
judged_good d fs (Err e) P g j = absurd (verdict_either d fs e g j)

-- the report of the first bad field is passed on
pub judged_err : {T : Type 0} (d : List ℕ) (fs : List Field) (r : Result T BadFile) (P : T → Type 0) (e : BadFile) → IsErrAnd r (λ y. y ≡ e) → FirstBad d fs e → Judged d fs r P
judged_err d fs (Ok x) P e h bad = absurd h
judged_err d fs (Err y) P e h bad = subst (FirstBad d fs) (sym h) bad
