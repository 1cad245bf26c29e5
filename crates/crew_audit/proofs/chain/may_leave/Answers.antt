use Rattle.std.proofs.Common.{[], false, ◌∙◌, sym, ap}
use Rattle.std.specs.Option.{option_copied}
use Rattle.crew_pairing.specs.Legality.{duty_of}
use Rattle.crew_pairing.specs.Machinery.Listing.{timed}
use Rattle.crew_pairing.proofs.Tree.{Each-member, slice_get-Member}
use Rattle.crew_audit.specs.Machinery.Ranges.{IsInRange}
use Rattle.crew_audit.proofs.Chains.{join-last}
use Rattle.crew_audit.proofs.chain.may_leave.Goals as goal

pub may_rest-requires-clause-range : goal.may_rest-requires-clause-range
may_rest-requires-clause-range c =
    Each-member IsInRange c.args.before.now c.in-Some.last.now c.requires.ranges (slice_get-Member c.args.before.now _ c.in-Some.last.now (sym c.last.ensures.value ∙ ap option_copied c.in-Some.is))

pub returns-in-Some : goal.returns-in-Some
returns-in-Some c =
    let s = c.args.settings.now in
    c.may_rest.ensures
    ∙ join-last c.args.base s c.args.before.now c.in-Some.last.now (duty_of s (timed false c.args.flight.now) []) (sym c.last.ensures.value ∙ ap option_copied c.in-Some.is)
