use Rattle.std.proofs.Common.{◌∙◌, sym, ap}
use Rattle.std.specs.Option.{option_copied}
use Rattle.crew_audit.proofs.Chains.{back-last}
use Rattle.crew_audit.proofs.chain.is_back.Goals as goal

pub returns-in-Some : goal.returns-in-Some
returns-in-Some c =
    c.eq.ensures ∙ back-last c.args.base c.args.duties.now c.in-Some.last.now (sym c.last.ensures.value ∙ ap option_copied c.in-Some.is)
