use Rattle.crew_session.proofs.front.write_front.Goals as goal

pub returns-in-Some-clause-begun : goal.returns-in-Some-clause-begun
returns-in-Some-clause-begun g c = rw (c.in-Some.is) c.write_listed.ensures.begun
