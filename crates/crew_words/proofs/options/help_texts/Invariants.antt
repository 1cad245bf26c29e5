use Rattle.std.proofs.Common.{string_bytes}
use Rattle.crew_words.proofs.HelpFacts.{IsHelpOf}
use Rattle.crew_words.proofs.options.help_texts.Given as goal

-- the texts are the help of the options so far
abbrev pub invariant-loop-i : goal.invariant-loop-i
invariant-loop-i l = IsHelpOf string_bytes l.texts.items l.options l.i
