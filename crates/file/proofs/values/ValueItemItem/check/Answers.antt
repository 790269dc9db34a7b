use Rattle.std.proofs.Common.{◌≡◌, subst, rules}
use Rattle.house.specs.Fields.{AllGood, byte}
use Rattle.house.specs.Values.{kind_fields}
use Rattle.kinds.specs.Kinds.{kind_of}
use Rattle.file.proofs.values.ValueItemItem.check.Goals as goal

pub returns : goal.returns
returns c =
    let d = c.args.place.now.bytes.now in
    let p = c.args.place.now.at in
    let kind : c.in_ok-kind.kind ≡ kind_of (byte d p) = search rules in
    let good : AllGood d (kind_fields c.in_ok-kind.kind d p) = ((search rules, search rules), ((search rules, search rules), ((search rules, search rules), ((search rules, search rules), tt)))) in
    (subst (λ k. AllGood d (kind_fields k d p)) kind good, (search rules, search rules))
