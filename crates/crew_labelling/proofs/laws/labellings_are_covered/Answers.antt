use Rattle.crew_labelling.specs.Terms.{terms_of}
use Rattle.crew_labelling.proofs.Covering.{covered-by, told}
use Rattle.crew_labelling.proofs.laws.labellings_are_covered.Goals as goal

pub returns-clause-covered : goal.returns-clause-covered
returns-clause-covered g c = λ r net base numbers leaves terms.
    covered-by (terms_of g.R.Value.Ord.cmp g.R.Lapses g.R.Staged g.R.Forgets g.R.Resource r net base numbers leaves) terms (c.resources_are_lawful.ensures r net base numbers leaves)

pub returns-clause-told : goal.returns-clause-told
returns-clause-told g c = λ r net base numbers leaves terms.
    told (terms_of g.R.Value.Ord.cmp g.R.Lapses g.R.Staged g.R.Forgets g.R.Resource r net base numbers leaves) terms (c.resources_are_lawful.ensures r net base numbers leaves)
