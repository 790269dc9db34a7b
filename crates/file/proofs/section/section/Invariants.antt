use Rattle.std.proofs.Common.{◌≡◌}
use Rattle.house.specs.Fields.{AllGood, each, le32}
use Rattle.house.specs.Items.{item_place, item_row}
use Rattle.file.specs.Indexed.{Indexed}
use Rattle.file.proofs.section.section.Given as goal

-- the place is that of item i, the items before it are good, and their places are in the index
abbrev pub invariant-loop-i : goal.invariant-loop-i
invariant-loop-i g l =
    let d = l.head.bytes.now in
    (l.place.bytes.now ≡ d)
    × (l.place.at ≡ item_place g.T.Item.width (g.T.Item.head d) d l.i)
    × (l.count ≡ le32 d (g.T.Item.head d))
    × AllGood d (each (item_row g.T.Item.fields g.T.Item.width (g.T.Item.head d) d) l.i)
    × Indexed (item_place g.T.Item.width (g.T.Item.head d) d) l.i l.index
