use Rattle.std.proofs.Common.{◌≡◌, ◌+◌, ◌*◌, ◌/◌}
use Rattle.house.specs.Items.{item_place}
use Rattle.file.proofs.seen.Section.place.Given as goal

-- the place is that of the item so far
abbrev pub invariant-loop : goal.invariant-loop
invariant-loop g l =
    let d = l.self.end.bytes.now in
    (l.place.bytes.now ≡ d)
    × (l.place.at ≡ item_place g.T.Item.width (g.T.Item.head d) d (l.i / 256 * 256 + l.counter))
