-- What a judge of text has read, and what it may still take, in the words of the grammar. Assumes nothing.
use Rattle.std.specs.Prelude.{ℕ, Bool, true, false, cond, ◌↔◌, List, [], ◌∷◌, ◌++◌, Some, None, Option}
use Rattle.std.specs.Int.{IsInRange, is_in_range}
use Rattle.measures.specs.Rfc3629.{Utf8Tail, Utf8Octets}
use Rattle.measures.specs.declared.judge.Expects.{Expects}
use Rattle.measures.specs.declared.judge.Judge.{Judge}
use Rattle.measures.specs.declared.judge.Expects.TheVariants.{Char, Tail, TwoTails, ThreeTails, AfterE0, AfterED, AfterF0, AfterF4}

infixr 3 ◌then◌
-- first a byte of which P holds, then bytes of which R holds
abbrev pub ◌then◌ : (ℕ → Type 0) → (List ℕ → Type 0) → List ℕ → Type 0
◌then◌ P R [] = ⊥
◌then◌ P R (b ∷ bytes) = P b × R bytes

-- the bytes that make the text whole, from each state
abbrev pub Rest : Expects → List ℕ → Type 0
Rest Char = Utf8Octets
Rest Tail = Utf8Tail then Utf8Octets
Rest TwoTails = Utf8Tail then Utf8Tail then Utf8Octets
Rest ThreeTails = Utf8Tail then Utf8Tail then Utf8Tail then Utf8Octets
Rest AfterE0 = IsInRange 0xA0 0xBF then Utf8Tail then Utf8Octets
Rest AfterED = IsInRange 0x80 0x9F then Utf8Tail then Utf8Octets
Rest AfterF0 = IsInRange 0x90 0xBF then Utf8Tail then Utf8Tail then Utf8Octets
Rest AfterF4 = IsInRange 0x80 0x8F then Utf8Tail then Utf8Tail then Utf8Octets

-- some well-formed text begins with `bytes`
abbrev pub Begins : List ℕ → Type 0
Begins bytes = (more : List ℕ) × Utf8Octets (bytes ++ more)

-- no well-formed text begins with `bytes`
abbrev pub Hopeless : List ℕ → Type 0
Hopeless bytes = (more : List ℕ) → Utf8Octets (bytes ++ more) → ⊥

-- the judge `j` has read `bytes`: its state tells exactly what makes them a whole text
abbrev pub Read : Judge → List ℕ → Type 0
Read j bytes = (more : List ℕ) → Rest j.expects more ↔ Utf8Octets (bytes ++ more)

-- the answer of a judge, left as `j`, to the last of `bytes`: it is read and a text may begin so, or none does
abbrev pub Taken : Bool → Judge → List ℕ → Type 0
Taken true j bytes = Read j bytes × Begins bytes
Taken false j bytes = Hopeless bytes

-- the state after the first byte of a character
abbrev pub begun : ℕ → Option Expects
begun b =
    cond (is_in_range 0x00 0x7F b) (Some Char)
    (cond (is_in_range 0xC2 0xDF b) (Some Tail)
    (cond (is_in_range 0xE0 0xE0 b) (Some AfterE0)
    (cond (is_in_range 0xE1 0xEC b) (Some TwoTails)
    (cond (is_in_range 0xED 0xED b) (Some AfterED)
    (cond (is_in_range 0xEE 0xEF b) (Some TwoTails)
    (cond (is_in_range 0xF0 0xF0 b) (Some AfterF0)
    (cond (is_in_range 0xF1 0xF3 b) (Some ThreeTails)
    (cond (is_in_range 0xF4 0xF4 b) (Some AfterF4) None))))))))

-- the state after one byte more, or none where the byte cannot stand there
abbrev pub stepped : Expects → ℕ → Option Expects
stepped Char b = begun b
stepped Tail b = cond (is_in_range 0x80 0xBF b) (Some Char) None
stepped TwoTails b = cond (is_in_range 0x80 0xBF b) (Some Tail) None
stepped ThreeTails b = cond (is_in_range 0x80 0xBF b) (Some TwoTails) None
stepped AfterE0 b = cond (is_in_range 0xA0 0xBF b) (Some Tail) None
stepped AfterED b = cond (is_in_range 0x80 0x9F b) (Some Tail) None
stepped AfterF0 b = cond (is_in_range 0x90 0xBF b) (Some TwoTails) None
stepped AfterF4 b = cond (is_in_range 0x80 0x8F b) (Some TwoTails) None

-- whether nothing more is needed: only before a character
abbrev pub between : Expects → Bool
between Char = true
between Tail = false
between TwoTails = false
between ThreeTails = false
between AfterE0 = false
between AfterED = false
between AfterF0 = false
between AfterF4 = false

-- whether bytes make the text whole, from a state or from a refusal
abbrev pub closes : Option Expects → List ℕ → Bool
closes None bytes = false
closes (Some e) [] = between e
closes (Some e) (b ∷ bytes) = closes (stepped e b) bytes

-- whether bytes are well-formed, as a test
unfoldable pub judged : List ℕ → Bool
judged bytes = closes (Some Char) bytes
