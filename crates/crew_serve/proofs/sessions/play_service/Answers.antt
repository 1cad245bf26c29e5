use Rattle.crew_serve.proofs.sessions.play_service.Goals as goal

pub play_parts-requires-clause-checked : goal.play_parts-requires-clause-checked
play_parts-requires-clause-checked g c κs within = c.requires.checked

pub play_parts-requires-clause-planner : goal.play_parts-requires-clause-planner
play_parts-requires-clause-planner g c κs within = c.requires.planner

pub play_parts-requires-clause-seat : goal.play_parts-requires-clause-seat
play_parts-requires-clause-seat g c κs within = c.only_seat.ensures

pub returns : goal.returns
returns g c =
    let h = c.play_parts.ensures in
    record { output = h.output; limit = h.limit; end = h.end; begun = h.begun; fault = h.fault }
