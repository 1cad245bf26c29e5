use Rattle.std.proofs.Common.{◌≡◌, ◌∙◌, ℕ, Vec, Global, ap, map}
use Rattle.crew_net.specs.Machinery.Moments.{keyed_slot}
use Rattle.crew_net.specs.Nets.{AreByReport}
use Rattle.crew_net.proofs.ByReport.{by-report}
use Rattle.crew_net.proofs.Keyed.{key-places, keys-in-order}
use Rattle.crew_net.proofs.Oks.{IfOk-from}
use Rattle.crew_pairing.specs.declared.events.Departure.{Departure}
use Rattle.crew_net.proofs.events.by_report.Goals as goal

pub returns : goal.returns
returns c =
    let events = c.args.departures.now in
    let keys = c.sort_unstable.new.self.items in
    let order = keys-in-order (map (λ (g : Departure). g.report) events) c.in_ok-keys.keys.items keys c.in_ok-keys.ensures c.sort_unstable.ensures.permutation c.sort_unstable.ensures.sorted in
    IfOk-from (λ (v : Vec ℕ Global). v.items ≡ map (λ (k : ℕ). (keyed_slot k).place) c.deref.result.now) (λ (v : Vec ℕ Global). AreByReport events v.items) c.places_of.result
    (λ v h. by-report events (map keyed_slot keys) v.items order (h ∙ (ap (map (λ (k : ℕ). (keyed_slot k).place)) c.deref.ensures.value ∙ key-places keys))) c.places_of.ensures
