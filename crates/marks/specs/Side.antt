-- What a side holds. Assumes nothing.
use Rattle.std.specs.Prelude.{ℕ, List}
use Rattle.places.specs.Held.{held, size}
use Rattle.marks.specs.declared.mark.OpenMark.{OpenMark}
use Rattle.marks.specs.declared.machine.MarkStateMachine.{MarkStateMachine}

-- the marks that are open, as the memory holds them
abbrev pub opened : {I N V : Type 0} {ids : _} → MarkStateMachine I N V ids → List (OpenMark I N V)
opened s = held s.state

-- how many marks may be open
abbrev pub places : {I N V : Type 0} {ids : _} → MarkStateMachine I N V ids → ℕ
places s = size s.state
