use Rattle.std.proofs.Common.{◌∙◌, ap₂}
use Rattle.clap.specs.Words.{with_rule}
use Rattle.crew_words.specs.Words.{serve_command}
use Rattle.crew_words.proofs.words.serve_command.Goals as goal

pub returns-clause-shape : goal.returns-clause-shape
unfolding serve_command
returns-clause-shape c =
    let seated = c.in_ok-seated.ensures.shape c.seats_arg.ensures.local ∙ ap₂ with_rule c.in_ok-subcommand.ensures.shape c.seats_arg.ensures.rule in
    let viewed = c.in_ok-viewed.ensures.shape c.viewers_arg.ensures.local ∙ ap₂ with_rule seated c.viewers_arg.ensures.rule in
    c.in_ok-arg.ensures.shape c.workers_arg.ensures.local ∙ ap₂ with_rule viewed c.workers_arg.ensures.rule
