-- The numbers that chunks of a file spell.
use Rattle.std.proofs.Common.{◌≡◌, ℕ, List}
use Rattle.std.specs.Int.{w16, w32, w64, from_le_bytes}
use Rattle.house.specs.Fields.{slice, le16, le32}
use Rattle.house.specs.Held.{le64}
use Rattle.house.proofs.Slices.{slice_first, slice_byte, slice_le64}
use Rattle.std.proofs.Common.{arith, refl}

-- two bytes
pub chunk_le16 : (d : List ℕ) (p : ℕ) → from_le_bytes w16 (slice d p 2) ≡ le16 d p
chunk_le16 d p =
    let b0 = slice_first d p 2 (omega arith) in
    let b1 = slice_byte d p 2 1 (omega arith) in
    rw (b0, b1) refl

-- four bytes
pub chunk_le32 : (d : List ℕ) (p : ℕ) → from_le_bytes w32 (slice d p 4) ≡ le32 d p
chunk_le32 d p =
    let b0 = slice_first d p 4 (omega arith) in
    let b1 = slice_byte d p 4 1 (omega arith) in
    let b2 = slice_byte d p 4 2 (omega arith) in
    let b3 = slice_byte d p 4 3 (omega arith) in
    rw (b0, b1, b2, b3) refl

-- eight bytes
pub chunk_le64 : (d : List ℕ) (p : ℕ) → from_le_bytes w64 (slice d p 8) ≡ le64 d p
chunk_le64 d p = slice_le64 d p 8 refl
