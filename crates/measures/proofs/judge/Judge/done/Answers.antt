use Rattle.std.proofs.Common.{refl}
use Rattle.measures.proofs.Reading.{whole, only_whole, false_true}
use Rattle.measures.proofs.judge.Judge.done.Goals as goal

pub returns-in-Char : goal.returns-in-Char
returns-in-Char c = λ bytes h. (λ _. whole _ bytes c.in-Char.is h, λ _. refl)

pub returns-in_default : goal.returns-in_default
returns-in_default c = λ bytes h. (false_true, λ o. absurd (c.in_default.not-Char (only_whole _ bytes h o)))
