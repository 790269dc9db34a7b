-- The causes of refusal, numbered and worded. Assumes nothing.
use Rattle.std.specs.Prelude.{ℕ, List, codes}
use Rattle.kinds.specs.declared.refusal.Refusal.{Refusal}
use Rattle.kinds.specs.declared.refusal.Refusal.TheVariants.{IllFormedText, NoOpenPlace, NoPredecessor, ActorUnknown, Malformed, TooLong}

-- The number of each cause.
abbrev pub number : Refusal → ℕ
number IllFormedText = 1
number NoOpenPlace = 3
number NoPredecessor = 6
number ActorUnknown = 9
number Malformed = 14
number TooLong = 15

-- The sentence of each cause.
abbrev pub words : Refusal → List ℕ
words IllFormedText = codes "The bytes are not well-formed UTF-8."
words NoOpenPlace = codes "No open place is free."
words NoPredecessor = codes "The id has no predecessor."
words ActorUnknown = codes "The clock has no number for the actor."
words Malformed = codes "The file or the place of a text is malformed."
words TooLong = codes "The content is longer than 32 bytes."
