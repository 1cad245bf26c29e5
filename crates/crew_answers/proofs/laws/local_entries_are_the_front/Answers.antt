use Rattle.crew_answers.proofs.Feeding.{front-of-local, local-of-front}
use Rattle.crew_answers.proofs.laws.local_entries_are_the_front.Goals as goal

pub returns-clause-front : goal.returns-clause-front
returns-clause-front c = λ s t base price d feed entries range sound legal fed. front-of-local s t base price range sound d legal feed fed entries

pub returns-clause-local : goal.returns-clause-local
returns-clause-local c = λ s t base price d feed entries range sound legal fed. local-of-front s t base price range sound d legal feed fed entries

pub returns-clause-alike : goal.returns-clause-alike
returns-clause-alike c = λ s t u base price d feed entries range sound also legal here fed there front.
    front-of-local s u base price range also d here feed there entries (local-of-front s t base price range sound d legal feed fed entries front)
