use Rattle.std.proofs.Common.{◌≡◌, ◌+◌, ◌*◌, ◌∙◌, ap, arith, length, refl, subst, sym, List, Some, ℕ}
use Rattle.std.proofs.lemmas.Option.{slice_get_read}
use Rattle.std.specs.Prelude.{slice_get}
use Rattle.crew_net.proofs.ArrivalPlaces.{ranks-out}
use Rattle.crew_net.proofs.InTime.{item-at}
use Rattle.crew_net.specs.Events.{leaves_at}
use Rattle.crew_pairing.specs.declared.events.Departure.{Departure}
use Rattle.crew_resource.specs.Members.{Member}
use Rattle.crew_round.proofs.Due.{all-row, departure-in, departure-out, row-all}
use Rattle.crew_round.proofs.Places.{place-below}
use Rattle.crew_round.proofs.line.Line.put_departure.Goals as goal

pub put_ranks-requires-clause-ranks : goal.put_ranks-requires-clause-ranks
put_ranks-requires-clause-ranks c = λ rank m.
    let net = c.args.net.now in
    let g = item-at net.departures c.args.departure c.requires.departure in
    let o = ranks-out (leaves_at g.0) net.duties rank (subst (λ (z : List ℕ). Member z rank) (c.leaving.ensures g.0 g.1) m) in
    let n : c.args.base * c.duty_count.result ≡ c.args.base * length net.duties = ap (λ (z : ℕ). c.args.base * z) c.duty_count.ensures.count in
    let low = place-below net (c.args.base * c.duty_count.result + rank) c.args.base rank o.0 (record { in_bases = c.requires.base; duty = o.1; is = ap (λ (z : ℕ). z + rank) n }) in
    let long = c.requires.shape.long_set in
    omega (arith, low, long)

pub returns-then-clear-clause-grows : goal.returns-then-clear-clause-grows
returns-then-clear-clause-grows c = λ flag counted.
    let net = c.args.net.now in
    let base = c.args.base in
    let g = item-at net.departures c.args.departure c.requires.departure in
    let low = c.requires.base in
    let long = c.requires.shape.long in
    let at : slice_get c.args.self.now.counts.items base ≡ Some c.index.result.now = slice_get_read c.args.self.now.counts.items (length c.args.self.now.counts.items) base c.index.result.now refl (omega (arith, low, long)) c.index.ensures in
    let h = counted base c.index.result.now at in
    departure-in net c.args.cells.now c.args.carried.now c.args.self.now.any flag base (base * c.duty_count.result) c.args.departure g.0 c.leaving.result.now c.args.self.now.set c.put_ranks.new.self.set
    low (ap (λ (z : ℕ). base * z) c.duty_count.ensures.count) g.1 (c.leaving.ensures g.0 g.1)
    (λ place rank d s own. row-all net flag base rank h.row place d h.is_row s ((c.is_clear-clear.ensures net h.row d h.are c.arrivals-arrivals.ensures.exact (g.1 ∙ ap (λ (z : Departure). Some z) (sym own))).0 c.if-clear.true))
    c.put_ranks.ensures.grows

pub returns-else-clear-clause-grows : goal.returns-else-clear-clause-grows
returns-else-clear-clause-grows c = λ flag counted.
    let net = c.args.net.now in
    let base = c.args.base in
    let g = item-at net.departures c.args.departure c.requires.departure in
    let low = c.requires.base in
    let long = c.requires.shape.long in
    let at : slice_get c.args.self.now.counts.items base ≡ Some c.index.result.now = slice_get_read c.args.self.now.counts.items (length c.args.self.now.counts.items) base c.index.result.now refl (omega (arith, low, long)) c.index.ensures in
    let h = counted base c.index.result.now at in
    departure-out net c.args.cells.now c.args.carried.now c.args.self.now.any flag base c.args.departure g.0 c.args.self.now.set g.1
    (λ place rank d s own all.
    let told = (c.is_clear-clear.ensures net h.row d h.are c.arrivals-arrivals.ensures.exact (g.1 ∙ ap (λ (z : Departure). Some z) (sym own))).1 (all-row net flag base rank h.row place d h.is_row s all) in
    let f = c.if-clear.false in
    let q : ⊥ = (cc) in q)
