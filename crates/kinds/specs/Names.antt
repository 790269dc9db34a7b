-- The names of the document kind: short texts, ordered by their bytes. Assumes nothing.
use Rattle.std.specs.Prelude.{ℕ, ◌<◌, ◌≤◌, Bool, true, false, ◌&&◌, ◌||◌, List, [], ◌∷◌, length, ◌==◌, nat_lt}
use Rattle.measures.specs.Rfc3629.{Utf8Octets}
use Rattle.kinds.specs.declared.refusal.Refusal.{Refusal}
use Rattle.kinds.specs.declared.refusal.Refusal.TheVariants.{IllFormedText, NoOpenPlace, NoPredecessor, ActorUnknown, Malformed, TooLong}
use Rattle.kinds.specs.declared.text.ShortStr.{ShortStr}
use Rattle.kinds.specs.Contents.{content}

-- The bytes of a short text.
abbrev pub spelled : ShortStr → List ℕ
spelled s = content s.short

-- Byte by byte: the first that differ decide, and what ends first is below.
abbrev pub bytes_below : List ℕ → List ℕ → Bool
bytes_below [] [] = false
bytes_below [] (y ∷ ys) = true
bytes_below (x ∷ xs) [] = false
bytes_below (x ∷ xs) (y ∷ ys) = nat_lt x y || (x == y && bytes_below xs ys)

-- Names go by their bytes.
abbrev pub name_below : ShortStr → ShortStr → Bool
name_below a b = bytes_below (spelled a) (spelled b)

-- What a refusal says of bytes that are no short text: more than 32, or else ill-formed.
abbrev pub Unfit : List ℕ → Refusal → Type 0
Unfit bytes IllFormedText = (length bytes ≤ 32) × (Utf8Octets bytes → ⊥)
Unfit bytes NoOpenPlace = ⊥
Unfit bytes NoPredecessor = ⊥
Unfit bytes ActorUnknown = ⊥
Unfit bytes Malformed = ⊥
Unfit bytes TooLong = 32 < length bytes
