use Rattle.crew_session.proofs.lines.write_audit.Goals as goal

pub returns-clause-begun : goal.returns-clause-begun
returns-clause-begun g c = rw (c.deref.ensures.value, c.in_ok-counts_line.ensures) at c.write_line.ensures.begun
