use Rattle.std.proofs.Common.{◌∙◌, not, rules}
use Rattle.std.proofs.lemmas.Iterator.{YieldsList-from_slice}
use Rattle.std.proofs.lemmas.Iterator.Search.{position_from_yields_List}
use Rattle.crew_rules.specs.Range.{is_in_range}
use Rattle.crew_rules.proofs.settings.first_out.Goals as goal

pub returns-clause-value : goal.returns-clause-value
returns-clause-value c = position_from_yields_List (λ r. not (is_in_range r)) _ _ _ c.position.ensures.ran (YieldsList-from_slice c.args.ranges.now cc) (λ x b q k. search rules)
