use Rattle.std.proofs.Common.{rules}
use Rattle.std.proofs.lemmas.Fn.{always_returns_same}
use Rattle.marks.proofs.Orders.{ranking, ranking_orders, one_ranking}
use Rattle.marks.proofs.Searched.{found}
use Rattle.marks.proofs.search.find.Goals as goal

pub returns-clause-found : goal.returns-clause-found
returns-clause-found g c =
    let order = g.met.I.Id.ordered in
    let target = c.args.target in
    found (ranking_orders order) target c.args.marks.now c.binary_search_by.result c.binary_search_by.ensures.bound
    (c.binary_search_by.ensures.position (λ o. ranking g.I.Id.below o.id target) (always_returns_same _ _ _ (λ a r f' k. (one_ranking order a.0.now.id target r (search rules), search rules))))
