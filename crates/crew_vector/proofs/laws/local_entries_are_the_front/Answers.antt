use Rattle.crew_vector.proofs.Feeding.{front-of-local, local-of-front, same-feed}
use Rattle.crew_vector.proofs.laws.local_entries_are_the_front.Goals as goal

pub returns-clause-front : goal.returns-clause-front
returns-clause-front c = λ s t base price d feed entries checked sound legal fed local. front-of-local s t base price checked sound d legal feed fed entries local

pub returns-clause-local : goal.returns-clause-local
returns-clause-local c = λ s t base price d feed entries checked sound legal fed front. local-of-front s t base price checked sound d legal feed fed entries front

pub returns-clause-alike : goal.returns-clause-alike
returns-clause-alike c = same-feed
