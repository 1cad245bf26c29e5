use Rattle.std.proofs.Common.{append_assoc}
use Rattle.crew_words.proofs.options.help_text.Goals as goal

pub returns-in-Ok : goal.returns-in-Ok
returns-in-Ok c = simp append_assoc c.in-Ok.ensures.ok
