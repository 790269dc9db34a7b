-- What stands behind a place of a list.
use Rattle.std.proofs.Common.{◌≡◌, ℕ, ◌-◌, List, length, take, drop, arith, length-drop, take_all}

-- the whole of it
pub behind : (d : List ℕ) (p : ℕ) → take (length d - p) (drop p d) ≡ drop p d
behind d p = take_all (length d - p) (drop p d) (simp length-drop (omega arith))
