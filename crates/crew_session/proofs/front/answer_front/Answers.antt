use Rattle.std.proofs.Common.{ap}
use Rattle.crew_session.specs.Lines.{front_lines}
use Rattle.crew_session.proofs.BeginFacts.{begun-one}
use Rattle.crew_session.proofs.front.answer_front.Goals as goal

pub returns-clause-begun : goal.returns-clause-begun
returns-clause-begun g c =
    let written = ap (λ s. front_lines s c.args.base c.args.key.now c.front-front.result) c.settings.ensures.value in
    begun-one c.write_front.result _ _ _ _ (record { front = c.front-front.result; exact = c.front-front.ensures; written = written }) c.write_front.ensures.begun
