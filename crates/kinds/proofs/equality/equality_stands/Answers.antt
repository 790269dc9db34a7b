use Rattle.kinds.specs.ContentsLemmas.{held_test}
use Rattle.kinds.specs.Spellings.{text_test}
use Rattle.kinds.specs.Equalities.{content_test, spelling_test}
use Rattle.kinds.specs.Plain.{equal_when_plain, equal_as_compared}
use Rattle.kinds.proofs.equality.equality_stands.Goals as goal

pub returns-clause-short_bytes : goal.returns-clause-short_bytes
returns-clause-short_bytes c = held_test

pub returns-clause-short_texts : goal.returns-clause-short_texts
returns-clause-short_texts c = text_test

pub returns-clause-contents : goal.returns-clause-contents
returns-clause-contents c = λ a b. content_test a b _ (held_test a b)

pub returns-clause-spellings : goal.returns-clause-spellings
returns-clause-spellings c = λ a b. spelling_test a b _ (text_test a b)

pub returns-clause-values : goal.returns-clause-values
returns-clause-values c = equal_when_plain

pub returns-clause-compared : goal.returns-clause-compared
returns-clause-compared c = equal_as_compared
