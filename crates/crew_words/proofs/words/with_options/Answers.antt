use Rattle.std.proofs.Common.{◌≡◌, ◌∙◌, ap, arith, length}
use Rattle.clap.specs.Words.{app_of}
use Rattle.crew_words.specs.Words.{sub_up_to}
use Rattle.crew_words.proofs.CommandFacts.{command-more, globals-none}
use Rattle.crew_words.proofs.words.with_options.Goals as goal

pub loop-i-preserved : goal.loop-i-preserved
loop-i-preserved c = (
  command-more (app_of c.args.bare).top.name c.args.options.now c.loop-i.i _ c.loop-i.command c.in_ok-command.command c.arg_of.result c.arg_of.ensures.rule c.arg_of.ensures.local
      c.in_ok-command.ensures c.loop-i.invariant.0 (omega arith) c.requires.named,
  globals-none c.loop-i.command c.in_ok-command.command c.arg_of.result c.loop-i.invariant.1 c.arg_of.ensures.local c.in_ok-command.ensures,
)

pub returns-clause-shape : goal.returns-clause-shape
returns-clause-shape c =
    let all : c.loop-i.i ≡ length c.args.options.now = omega arith in
    c.loop-i.invariant.0 ∙ ap (sub_up_to (app_of c.args.bare).top.name) all
