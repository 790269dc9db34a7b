-- The bytes of a slice, and the numbers that stand in it.
use Rattle.std.proofs.Common.{◌≡◌, ℕ, ◌+◌, ◌<◌, ◌≤◌, List, length, drop, ap, ◌∙◌, add-zero, arith, length-drop, length-take}
use Rattle.std.proofs.lemmas.List.{get_or-take, get_or-drop}
use Rattle.house.specs.Fields.{byte, slice}
use Rattle.house.specs.Held.{le64}

-- a slice is no longer than asked for
pub slice_most : (d : List ℕ) (p n : ℕ) → length (slice d p n) ≤ n
slice_most d p n = simp (length-take, length-drop) (omega arith)

-- and as long where the file reaches so far
pub slice_length : (d : List ℕ) (p n : ℕ) → p + n ≤ length d → length (slice d p n) ≡ n
slice_length d p n h = simp (length-take, length-drop) (omega arith)

-- byte k of a slice
pub slice_byte : (d : List ℕ) (p n k : ℕ) → k < n → byte (slice d p n) k ≡ byte d (p + k)
slice_byte d p n k h = get_or-take n (drop p d) k 0 h ∙ get_or-drop p d k 0

-- its first byte
pub slice_first : (d : List ℕ) (p n : ℕ) → 0 < n → byte (slice d p n) 0 ≡ byte d p
slice_first d p n h = slice_byte d p n 0 h ∙ ap (byte d) (add-zero p)

-- the number that a slice of eight bytes spells
pub slice_le64 : (d : List ℕ) (p n : ℕ) → n ≡ 8 → le64 (slice d p n) 0 ≡ le64 d p
slice_le64 d p n e =
    let b0 = slice_first d p n (omega arith) in
    let b1 = slice_byte d p n 1 (omega arith) in
    let b2 = slice_byte d p n 2 (omega arith) in
    let b3 = slice_byte d p n 3 (omega arith) in
    let b4 = slice_byte d p n 4 (omega arith) in
    let b5 = slice_byte d p n 5 (omega arith) in
    let b6 = slice_byte d p n 6 (omega arith) in
    let b7 = slice_byte d p n 7 (omega arith) in
    rw (b0, b1, b2, b3, b4, b5, b6, b7)
