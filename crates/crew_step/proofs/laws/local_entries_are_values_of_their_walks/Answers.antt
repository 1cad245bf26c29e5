use Rattle.crew_step.proofs.Values.{local-value}
use Rattle.crew_step.proofs.laws.local_entries_are_values_of_their_walks.Goals as goal

pub returns : goal.returns
returns c = λ j entries job local. local-value j.settings j.base j.base_price j.duty j.feed entries job.checked job.sound job.before local
