use Rattle.std.proofs.Common.{refl, rules, sym, ◌∙◌}
use Rattle.crew_clocks.proofs.RuleFacts.{not_begins-read_whole, not_utf8-read_whole}
use Rattle.crew_clocks.proofs.zone.Zone.read.Goals as goal

pub returns-in_default-clause-value : goal.returns-in_default-clause-value
returns-in_default-clause-value c = rw (not_utf8-read_whole c.args.text.now c.in_default.ensures.cases.0) refl

pub returns-then-not-begins_name-clause-value : goal.returns-then-not-begins_name-clause-value
returns-then-not-begins_name-clause-value c = rw (not_begins-read_whole c.args.text.now (sym c.begins_name.ensures ∙ c.if-not-begins_name.true)) refl

pub returns-in-Err-clause-succeeds : goal.returns-in-Err-clause-succeeds
returns-in-Err-clause-succeeds c = search rules

pub returns-in-Err-clause-value : goal.returns-in-Err-clause-value
returns-in-Err-clause-value c = search rules
