use Rattle.crew_labelling.specs.Terms.{terms_of}
use Rattle.crew_labelling.proofs.One.{is-right}
use Rattle.crew_labelling.proofs.Whole.{the-labelling}
use Rattle.crew_labelling.proofs.laws.one_labelling_is_right.Goals as goal

pub returns-clause-right : goal.returns-clause-right
returns-clause-right g c = λ r net base numbers leaves terms.
    is-right (terms_of g.R.Value.Ord.cmp g.R.Lapses g.R.Staged g.R.Forgets g.R.Resource r net base numbers leaves) terms (c.resources_are_lawful.ensures r net base numbers leaves)

pub returns-clause-only : goal.returns-clause-only
returns-clause-only g c = λ r net base numbers leaves y terms right.
    the-labelling (terms_of g.R.Value.Ord.cmp g.R.Lapses g.R.Staged g.R.Forgets g.R.Resource r net base numbers leaves) terms (c.resources_are_lawful.ensures r net base numbers leaves) y right
