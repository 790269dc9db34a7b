use Rattle.std.proofs.Common.{◌≡◌, true, Ordering, ap, ◌∙◌, rules}
use Rattle.std.specs.Option.{option_map}
use Rattle.std.specs.Ordering.{MatchOrdering, is_eq}
use Rattle.marks.specs.Set.{given}
use Rattle.marks.proofs.Orders.{ties_alike}
use Rattle.marks.proofs.Values.{found_last}
use Rattle.marks.proofs.set.last_value.Goals as goal

pub returns : goal.returns
returns g c =
    let names = g.N.Name.below in
    let name = c.args.name in
    let value : c.map.result ≡ option_map (λ o. o.now.value) c.rfind.result = search rules in
    let (xs, j, (t, gave, end), kept, found) = c.rfind.ensures.ran in
    value ∙ found_last names name _ (λ o b q k.
    let told : (q ≡ _) × (r : Ordering) × MatchOrdering r (names o.now.name name ≡ true) (o.now.name ≡ name) (names name o.now.name ≡ true) × (b ≡ is_eq r) = search rules in
    (told.0, told.3 ∙ ties_alike g.met.N.Name.ordered o.now.name name told.1 told.2)) xs c.iter.result t _ c.rfind.result j gave end kept found
    ∙ ap (λ l. given names l name) c.iter.ensures.rest
