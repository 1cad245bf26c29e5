use Rattle.std.proofs.Common.{sym, ap, ◌∙◌, false, []}
use Rattle.std.specs.Option.{option_copied}
use Rattle.crew_pairing.specs.Legality.{duty_of}
use Rattle.crew_pairing.specs.Machinery.Listing.{timed}
use Rattle.crew_pairing.specs.Pairings.{may_stand_after}
use Rattle.crew_pairing.proofs.Tree.{Each-member, slice_get-Member}
use Rattle.crew_audit.specs.Machinery.Leaving.{leaves}
use Rattle.crew_audit.specs.Machinery.Listing.{may_join}
use Rattle.crew_audit.specs.Machinery.Ranges.{IsInRange}
use Rattle.crew_audit.proofs.Chains.{join-last, join-none}
use Rattle.crew_audit.proofs.Leaving.{among-fewer}
use Rattle.crew_audit.proofs.flight_list.FlightList.next_duties.Goals as goal

pub next_days-requires-clause-range : goal.next_days-requires-clause-range
next_days-requires-clause-range c =
    Each-member IsInRange c.args.before.now c.in-Some.last.now c.requires.ranges (slice_get-Member c.args.before.now _ c.in-Some.last.now (sym c.last.ensures.value ∙ ap option_copied c.in-Some.is))

pub returns-in-None : goal.returns-in-None
returns-in-None c =
    let s = c.args.settings.now in
    let before = c.args.before.now in
    let none = sym c.last.ensures.value ∙ ap option_copied c.in-None.is in
    among-fewer (leaves c.args.base) (λ f. may_join c.args.base s before (duty_of s (timed false f) [])) c.args.self.now.list c.leaving.result.now
    (λ f t. join-none c.args.base s before (timed false f) none t) c.leaving.ensures

pub returns-in-Some : goal.returns-in-Some
returns-in-Some c =
    let s = c.args.settings.now in
    let before = c.args.before.now in
    let last = c.in-Some.last.now in
    let is = sym c.last.ensures.value ∙ ap option_copied c.in-Some.is in
    among-fewer (λ f. may_stand_after s last (duty_of s (timed false f) [])) (λ f. may_join c.args.base s before (duty_of s (timed false f) [])) c.args.self.now.list c.next_days.result.now
    (λ f t. join-last c.args.base s before last (duty_of s (timed false f) []) is ∙ t) c.next_days.ensures
