-- Bytes copied over the front of zeros. Assumes nothing.
use Rattle.std.proofs.Common.{◌≡◌, ℕ, ◌≤◌, ◌+◌, ◌-◌, List, ◌++◌, length, get_or, drop, replicate, refl, ◌∙◌}
use Rattle.std.proofs.lemmas.List.{get_or-append_right, get_or-drop}
use Rattle.kinds.specs.Padding.{zeros_read}

-- What is past the bytes is 0.
pub zeros_behind : (bytes : List ℕ) (n k : ℕ) → length bytes ≤ k → get_or (bytes ++ drop n (replicate 32 0)) k 0 ≡ 0
zeros_behind bytes n k past =
    get_or-append_right bytes (drop n (replicate 32 0)) (length bytes) k 0 refl past
    ∙ (get_or-drop n (replicate 32 0) (k - length bytes) 0 ∙ zeros_read 32 (n + (k - length bytes)))
