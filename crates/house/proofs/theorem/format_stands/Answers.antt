use Rattle.house.specs.House.{fields, file_end}
use Rattle.house.proofs.Follows.{file_follow}
use Rattle.house.proofs.Verdicts.{verdict_either, verdict_one, verdict_least}
use Rattle.house.proofs.Numbers.{known_by_number, same_numbers}
use Rattle.house.proofs.theorem.format_stands.Goals as goal

pub returns : goal.returns
returns c = record {
  order = file_follow;
  either = λ d e. verdict_either d (fields d) e;
  one = λ d e f. verdict_one d (fields d) e f;
  least = λ d e f. verdict_least d (fields d) e f 0 (file_end d) (file_follow d);
  kinds = known_by_number;
  numbers = same_numbers;
}
