-- Bytes with zeros behind them, up to 32 places. Assumes nothing.
use Rattle.std.specs.Prelude.{◌≡◌, ℕ, zero, suc, ◌-◌, ◌≤◌, List, ◌++◌, length, take, replicate, slice_index, refl}
use Rattle.std.proofs.Common.{arith, ◌∙◌}
use Rattle.std.proofs.lemmas.List.{length-append, length-replicate, get_or-append_right, take-append-le, take_all}

-- Every place of zeros reads as 0, and so does every place past them.
pub zeros_read : (n k : ℕ) → ◌≡◌ {A = ℕ} (slice_index (replicate n 0) k) 0
zeros_read zero k = refl
zeros_read (suc n) zero = refl
zeros_read (suc n) (suc k) = zeros_read n k

-- Bytes, and zeros behind them up to 32 places.
abbrev pub padded : List ℕ → List ℕ
padded bytes = bytes ++ replicate (32 - length bytes) 0

-- With the zeros there are 32 places,
pub padded_length : (bytes : List ℕ) → length bytes ≤ 32 → length (padded bytes) ≡ 32
padded_length bytes few = simp (length-append, length-replicate) (omega arith)

-- all past the bytes are 0,
pub padded_zeros : (bytes : List ℕ) (k : ℕ) → length bytes ≤ k → slice_index (padded bytes) k ≡ 0
padded_zeros bytes k past =
    get_or-append_right bytes (replicate (32 - length bytes) 0) (length bytes) k 0 refl past
    ∙ zeros_read (32 - length bytes) (k - length bytes)

-- and the front is the bytes.
pub padded_front : (bytes : List ℕ) → take (length bytes) (padded bytes) ≡ bytes
padded_front bytes =
    let whole : length bytes ≤ length bytes = omega arith in
    take-append-le (length bytes) bytes (replicate (32 - length bytes) 0) whole ∙ take_all (length bytes) bytes whole
