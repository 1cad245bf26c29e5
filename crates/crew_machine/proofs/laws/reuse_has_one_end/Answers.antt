use Rattle.crew_machine.proofs.Alike.{same-front-of}
use Rattle.crew_machine.proofs.CrewLaws.{crew-laws, scratch-front}
use Rattle.crew_machine.proofs.Reuse.{carried-none, one-end}
use Rattle.crew_machine.specs.Crew.{crew, timetable_of}
use Rattle.crew_machine.proofs.laws.reuse_has_one_end.Goals as goal

pub returns-clause-alike : goal.returns-clause-alike
returns-clause-alike c = λ s sealed entries old a b checked scratch r none again none'.
    one-end (crew s) sealed entries (λ n f g m k. same-front-of s checked (timetable_of sealed.entries) n f g (scratch-front s checked sealed scratch n f m) (scratch-front s checked sealed scratch n g k)) ((crew-laws s checked).time entries) ((crew-laws s checked).earlier entries) old a b r none again none'

pub returns-clause-begun : goal.returns-clause-begun
returns-clause-begun c = λ s sealed entries cells carried. carried-none (crew s) sealed entries cells carried
