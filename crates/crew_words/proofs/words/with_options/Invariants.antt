use Rattle.std.proofs.Common.{◌≡◌, false}
use Rattle.clap.specs.Words.{app_of}
use Rattle.clap.specs.declared.builder.command.Command.TheViews.{out-Command}
use Rattle.crew_words.specs.Words.{sub_up_to}
use Rattle.crew_words.proofs.words.with_options.Given as goal

-- the command has the options so far
abbrev pub invariant-loop-i : goal.invariant-loop-i
invariant-loop-i l = (app_of l.command ≡ sub_up_to (app_of l.fn.bare).top.name l.i) × ((out-Command l.command).has_globals ≡ false)
