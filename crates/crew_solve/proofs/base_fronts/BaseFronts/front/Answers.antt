use Rattle.std.proofs.Common.{◌≡◌, ◌∙◌, ◌<◌, Some, IsPermutation, ap, length, subst, sym}
use Rattle.std.specs.Prelude.{slice_get}
use Rattle.crew_anchor.specs.Sweeps.{shown_labels}
use Rattle.crew_net.specs.Events.{AreEvents, departure_cmp}
use Rattle.crew_net.specs.Nets.{AreByReport, Net}
use Rattle.crew_pairing.specs.Events.{departure_of}
use Rattle.crew_resource.proofs.Members.{Member-at}
use Rattle.crew_solve.specs.Machinery.Homes.{boarding}
use Rattle.crew_net.specs.Machinery.Numbered.{departure_place}
use Rattle.crew_sweep.specs.Sweeps.{BaseSweep, front_at}
use Rattle.crew_net.specs.Positions.{in_order}
use Rattle.crew_solve.proofs.Fronted.{stands}
use Rattle.crew_solve.proofs.base_fronts.BaseFronts.front.Goals as goal

pub new-requires-clause-own : goal.new-requires-clause-own
new-requires-clause-own c =
    let net = c.self.inside.sweep.net in
    let e = c.duty-duty.result.now in
    let h : c.args.rank < length net.duties = subst (λ (b : BaseSweep). c.args.rank < length b.net.duties) (sym c.self.view_is) c.requires in
    let at = subst (λ (n : Net). slice_get n.duties c.args.rank ≡ Some e) c.net.ensures.net c.duty-duty.ensures in
    let n = c.net-2.ensures.net in
    let is = c.place_of-index.ensures.place ∙ ap (λ (x : Net). departure_place (in_order x) (departure_of e)) n in
    let events = subst (λ (x : Net). AreEvents departure_of departure_cmp x.duties x.departures) n c.place_of-index.ensures.events in
    let order = subst (λ (x : Net). AreByReport x.departures x.by_report) n c.place_of-index.ensures.order in
    ap (slice_get (in_order net)) is ∙ stands net e events order (Member-at net.duties c.args.rank e at)

pub new-requires-clause-sound : goal.new-requires-clause-sound
new-requires-clause-sound c =
    let net = c.self.inside.sweep.net in
    let e = c.duty-duty.result.now in
    let h : c.args.rank < length net.duties = subst (λ (b : BaseSweep). c.args.rank < length b.net.duties) (sym c.self.view_is) c.requires in
    let at = subst (λ (n : Net). slice_get n.duties c.args.rank ≡ Some e) c.net.ensures.net c.duty-duty.ensures in
    c.net.ensures.sound e (Member-at net.duties c.args.rank e at)

pub returns : goal.returns
returns c = λ d there.
    let b = c.self.inside.sweep in
    let net = b.net in
    let e = c.duty-duty.result.now in
    let h : c.args.rank < length net.duties = subst (λ (x : BaseSweep). c.args.rank < length x.net.duties) (sym c.self.view_is) c.requires in
    let at = subst (λ (n : Net). slice_get n.duties c.args.rank ≡ Some e) c.net.ensures.net c.duty-duty.ensures in
    let inside = ap (λ (x : BaseSweep). slice_get x.net.duties c.args.rank) c.self.view_is ∙ there in
    let d-is : e ≡ d = let both = sym at ∙ inside in (cc) in
    let is = c.place_of-index.ensures.place ∙ ap (λ (x : Net). departure_place (in_order x) (departure_of e)) c.net-2.ensures.net in
    let front = ap (λ i. shown_labels net.settings.trip_rig e.release (boarding b i e)) is ∙ ((λ i. front_at (c.self.view_is i) (d-is i))) in (
      subst (λ l. IsPermutation l c.new.result) front c.new.ensures.same,
      c.new.ensures.rises,
    )
