-- The detector kind: places, channels and grades. Assumes nothing.
use Rattle.std.specs.Prelude.{◌-◌, Bool, cond, Some, None, Option, ◌==◌, nat_lt}
use Rattle.kinds.specs.declared.place.DetectorId.{DetectorId}
use Rattle.kinds.specs.declared.channel.Channel.{Channel}
use Rattle.kinds.specs.declared.grade.Grade.{Grade}

-- Places go by their numbers.
abbrev pub place_below : DetectorId → DetectorId → Bool
place_below x y = nat_lt x.number y.number

-- The place with the number less one; none before 0.
abbrev pub place_before : DetectorId → Option DetectorId
place_before x = cond (x.number == 0) None (Some (record { number = x.number - 1 }))

-- Channels go by their numbers.
abbrev pub channel_below : Channel → Channel → Bool
channel_below x y = nat_lt x.number y.number

-- Grades are equal where their levels are.
abbrev pub grade_equal : Grade → Grade → Bool
grade_equal x y = x.level == y.level

-- The null grade has level 0.
abbrev pub no_grade : Grade
no_grade = record { level = 0 }
