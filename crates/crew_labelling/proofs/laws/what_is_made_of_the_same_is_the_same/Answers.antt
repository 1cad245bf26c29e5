use Rattle.crew_labelling.specs.Terms.{terms_of}
use Rattle.crew_labelling.proofs.BesideWhole.{stay-alike}
use Rattle.crew_labelling.proofs.laws.what_is_made_of_the_same_is_the_same.Goals as goal

pub returns : goal.returns
returns g c = λ r net other base numbers others leaves leaving terms terms-there.
    stay-alike (terms_of g.R.Value.Ord.cmp g.R.Lapses g.R.Staged g.R.Forgets g.R.Resource r net base numbers leaves) other others leaving
    (record {
      here = terms;
      there = terms-there;
      lawful = c.resources_are_lawful.ensures r net base numbers leaves;
      lawful_there = c.resources_are_lawful.ensures r other base others leaving;
    })
