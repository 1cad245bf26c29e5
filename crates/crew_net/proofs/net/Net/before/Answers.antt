use Rattle.std.proofs.Common.{◌≡◌, ◌∙◌, ◌-ℤ◌, Some, List, ℕ, ℤ, pos, map, get_or, sym, subst, ap, take, drop, ◌-◌}
use Rattle.std.specs.Prelude.{IsPermutation, slice_get}
use Rattle.std.proofs.lemmas.Option.{get_or_from_slice_get}
use Rattle.crew_net.specs.Machinery.Held.{arrive_at}
use Rattle.crew_net.specs.Machinery.Moments.{moment}
use Rattle.crew_net.specs.Machinery.Timelines.{IsShape, IsWithin}
use Rattle.crew_net.specs.Nets.{Net, ranks_before}
use Rattle.crew_net.proofs.Segments.{shape}
use Rattle.crew_net.proofs.Shown.{before-ranks}
use Rattle.crew_pairing.proofs.Tree.{slice_get-Member}
use Rattle.crew_pairing.specs.declared.duty.Duty.{Duty}
use Rattle.crew_pairing.specs.declared.events.Departure.{Departure}
use Rattle.crew_net.specs.declared.events.Events.{Events}
use Rattle.crew_net.proofs.net.Net.before.Goals as goal

pub places_in-requires-clause-shape : goal.places_in-requires-clause-shape
places_in-requires-clause-shape c = subst (λ (e : Events). IsShape e.arrive) (sym c.deref-3.ensures) (shape (map arrive_at c.self.inside.duties.value) c.self.inside.events.value.arrive c.self.invariant.arrive)

pub returns : goal.returns
returns c =
    let n = c.self.inside in
    let w = c.waiting-window.result in
    let x = c.duty.result.now in
    let sorted = c.sort_unstable.new.self.items in
    subst (λ (net : Net). (d : Duty) → slice_get net.duties c.args.rank ≡ Some d → sorted ≡ ranks_before net.settings net.duties d) c.self.view_is
    (λ d h.
    let here : slice_get n.duties.value c.args.rank ≡ Some x = subst (λ (net : Net). slice_get net.duties c.args.rank ≡ Some x) (sym c.self.view_is) c.duty.ensures in
    let same : x ≡ d = sym (get_or_from_slice_get n.duties.value c.args.rank x x here) ∙ get_or_from_slice_get n.duties.value c.args.rank d x h in
    let within : IsWithin n.events.value.arrive.moments.items (moment x.from (x.report -ℤ pos n.settings.max_rest)) (moment x.from (x.report -ℤ pos 600)) w =
    subst (λ (g : Departure). IsWithin n.events.value.arrive.moments.items (moment g.airport (g.report -ℤ pos n.settings.max_rest)) (moment g.airport (g.report -ℤ pos 600)) w) c.departure-event.ensures
    (subst (λ (ms : List ℤ). IsWithin ms (moment c.departure-event.result.airport (c.departure-event.result.report -ℤ pos n.settings.max_rest)) (moment c.departure-event.result.airport (c.departure-event.result.report -ℤ pos 600)) w) (c.deref-2.ensures.value ∙ ap (λ (e : Events). e.arrive.moments.items) c.deref.ensures) c.waiting-window.ensures.window) in
    before-ranks n.settings n.bases.items n.duties.value n.events.value.leave n.events.value.arrive n.events.value.departures.items n.events.value.arrivals.items n.events.value.by_report.items c.self.invariant d (slice_get-Member n.duties.value c.args.rank d h) w 0
    (subst (λ (e : Duty). IsWithin n.events.value.arrive.moments.items (moment e.from (e.report -ℤ pos n.settings.max_rest)) (moment e.from (e.report -ℤ pos 600)) w) same within)
    sorted (subst (λ (l : List ℕ). IsPermutation l sorted) (c.in_ok-ranks.ensures.items ∙ c.places_in.ensures 0 ∙ ap (λ (e : Events). take (get_or e.arrive.starts.items w.end 0 - get_or e.arrive.starts.items w.from 0) (drop (get_or e.arrive.starts.items w.from 0) e.arrive.places.items)) c.deref-3.ensures) c.sort_unstable.ensures.permutation) c.sort_unstable.ensures.sorted)
