-- The file of four counts that are 0 is good.
use Rattle.std.proofs.Common.{ℕ, List, replicate, refl, arith}
use Rattle.house.specs.Fields.{AllGood}
use Rattle.house.specs.House.{fields}
use Rattle.house.proofs.Whole.{all_good}

-- its bytes
abbrev pub none_held : List ℕ
none_held = replicate 16 0

pub none_good : AllGood none_held (fields none_held)
none_good =
    all_good none_held
    ((omega arith, tt), tt)
    ((omega arith, tt), tt)
    ((omega arith, tt), tt)
    ((omega arith, tt), ((omega arith, tt), ((omega arith, refl), tt)))
