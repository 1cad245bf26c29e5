use Rattle.crew_machine.proofs.Boards.{abandons_sound, brings_sound, claims_sound, gives_back_sound, opens_sound, restores_sound, seals_sound}
use Rattle.crew_machine.proofs.CrewLaws.{crew-laws}
use Rattle.crew_machine.specs.Crew.{crew}
use Rattle.crew_machine.proofs.laws.calls_keep_boards_right.Goals as goal

pub returns-clause-begun : goal.returns-clause-begun
returns-clause-begun c = λ s old new entries checked right opens. opens_sound (crew s) (crew-laws s checked) old entries new right opens

pub returns-clause-claimed : goal.returns-clause-claimed
returns-clause-claimed c = λ s old new job checked right claims. claims_sound (crew s) (crew-laws s checked) old job new right claims

pub returns-clause-brought : goal.returns-clause-brought
returns-clause-brought c = λ s old new job front brought checked right brings. brings_sound (crew s) (crew-laws s checked) old job front brought new right brings

pub returns-clause-given_back : goal.returns-clause-given_back
returns-clause-given_back c = λ s old new job freed checked right gives. gives_back_sound (crew s) (crew-laws s checked) old job freed new right gives

pub returns-clause-abandoned : goal.returns-clause-abandoned
returns-clause-abandoned c = λ s old new was_open checked right abandons. abandons_sound (crew s) (crew-laws s checked) old was_open new right abandons

pub returns-clause-sealed : goal.returns-clause-sealed
returns-clause-sealed c = λ s old new version checked right seals. seals_sound (crew s) (crew-laws s checked) old version new right seals

pub returns-clause-restored : goal.returns-clause-restored
returns-clause-restored c = λ s old new version checked right number restores. restores_sound (crew s) (crew-laws s checked) old version new right number restores
