use Rattle.crew_serve.proofs.sessions.play_parts.Goals as goal

pub returns : goal.returns
returns g c = c.play_beside.ensures
