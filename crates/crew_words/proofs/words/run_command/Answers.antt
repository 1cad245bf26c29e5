use Rattle.std.proofs.Common.{◌∙◌, ap₂}
use Rattle.clap.specs.Words.{with_rule}
use Rattle.crew_words.specs.Words.{run_command}
use Rattle.crew_words.proofs.words.run_command.Goals as goal

pub returns-clause-shape : goal.returns-clause-shape
unfolding run_command
returns-clause-shape c =
    let shared = c.in_ok-command.ensures.shape c.workers_arg.ensures.local ∙ ap₂ with_rule c.in_ok-subcommand.ensures.shape c.workers_arg.ensures.rule in
    c.in_ok-arg.ensures.shape c.progress_arg.ensures.local ∙ ap₂ with_rule shared c.progress_arg.ensures.rule
