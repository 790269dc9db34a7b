-- The operations of a document: their order and predecessors. Assumes nothing.
use Rattle.std.specs.Prelude.{◌-◌, Bool, cond, ◌&&◌, ◌||◌, Some, None, Option, ◌==◌, nat_lt}
use Rattle.kinds.specs.declared.document.OpId.{OpId}

-- By counter, then by actor.
abbrev pub op_below : OpId → OpId → Bool
op_below x y = nat_lt x.counter y.counter || (x.counter == y.counter && nat_lt x.actor y.actor)

-- The same actor's operation with the counter less one; none at counter 0.
abbrev pub op_previous : OpId → Option OpId
op_previous x = cond (x.counter == 0) None (Some (record { counter = x.counter - 1; actor = x.actor }))
