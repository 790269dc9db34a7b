use Rattle.house.specs.House.{fields}
use Rattle.file.specs.Files.{file_bytes}
use Rattle.std.proofs.Common.{◌≡◌}
use Rattle.file.proofs.Empty.{none_held, none_good}
use Rattle.file.proofs.Judging.{judged_good}
use Rattle.file.proofs.house_file.HouseFile.empty.Goals as goal

pub unwrap-file-requires : goal.unwrap-file-requires
unwrap-file-requires c = judged_good none_held (fields none_held) c.check.result (λ f. file_bytes f ≡ none_held) none_good c.check.ensures
