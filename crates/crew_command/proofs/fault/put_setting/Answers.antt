use Rattle.crew_command.proofs.fault.put_setting.Goals as goal

pub returns-clause-whole : goal.returns-clause-whole
returns-clause-whole g c = rw (c.as_bytes.ensures.value, c.format.ensures.text) at c.put_bad.ensures.whole

pub returns-clause-beginning : goal.returns-clause-beginning
returns-clause-beginning g c = rw (c.as_bytes.ensures.value, c.format.ensures.text) at c.put_bad.ensures.beginning
