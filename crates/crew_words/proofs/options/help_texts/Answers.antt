use Rattle.std.proofs.Common.{arith, string_bytes}
use Rattle.crew_words.proofs.HelpFacts.{help-all, help-more}
use Rattle.crew_words.proofs.options.help_texts.Goals as goal

pub loop-i-preserved : goal.loop-i-preserved
loop-i-preserved c =
    let said = rw c.defaults-defaults.ensures at c.in_ok-help_text.ensures in
    rw c.in_ok-push.ensures.items
    (help-more string_bytes c.loop-i.texts.items c.in_ok-help_text.field-0 c.args.options.now c.loop-i.i _ (omega arith) (omega arith) said c.loop-i.invariant)

pub returns : goal.returns
returns c = help-all string_bytes c.loop-i.texts.items c.args.options.now c.loop-i.i (omega arith) c.loop-i.invariant
