use Rattle.std.proofs.Common.{◌≡◌, ◌+◌, ap, ◌∙◌, sym, subst, add-zero, rules}
use Rattle.kinds.specs.Kinds.{kind_of}
use Rattle.house.specs.Fields.{byte}
use Rattle.house.specs.Values.{LengthOf}
use Rattle.house.specs.Held.{value_of}
use Rattle.file.proofs.Had.{most_had, length_had}
use Rattle.file.proofs.values.ValueItemItem.held.Goals as goal

pub content_of-requires-clause-fits : goal.content_of-requires-clause-fits
content_of-requires-clause-fits c =
    let d = c.args.place.now.bytes.now in
    let p = c.args.place.now.at in
    let kind : c.kind_of.result ≡ kind_of (byte d p) = search rules in
    subst (λ k. LengthOf k (byte d (p + 2))) (sym kind) (length_had c.requires (kind_of (byte d p)) (byte d (p + 2)) (λ good. good.1.1.0.1))

pub content_of-requires-clause-within : goal.content_of-requires-clause-within
content_of-requires-clause-within c = most_had c.requires _ _ (λ good. good.1.1.1.0.0)

pub returns : goal.returns
returns c =
    let d = c.args.place.now.bytes.now in
    let p = c.args.place.now.at in
    let first : c.number.result ≡ byte d p = c.number.ensures ∙ ap (byte d) (add-zero p) in
    c.content_of.ensures ∙ ap (λ k. value_of k d (byte d (p + 1)) (p + 3) (byte d (p + 2))) (c.kind_of.ensures ∙ ap kind_of first)
