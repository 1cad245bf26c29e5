use Rattle.std.proofs.Common.{Bool, List, ap, arith, get_or, false, length, subst}
use Rattle.crew_net.specs.Nets.{AreArrivalPlaces, Net}
use Rattle.crew_round.proofs.Begun.{carried-begun, held-begun}
use Rattle.crew_round.specs.Machinery.Cells.{AreMarksOf}
use Rattle.crew_round.specs.Machinery.Held.{AreKept}
use Rattle.crew_round.specs.Machinery.Lines.{IsLine}
use Rattle.crew_round.specs.Marks.{Marks}
use Rattle.crew_round.proofs.marking.Marking.begin.Goals as goal

pub cells_of-requires : goal.cells_of-requires
cells_of-requires c =
    let long = c.in_ok-same.ensures.flags.long in
    let few = c.in_ok-same.ensures.few in
    let e = ap length c.deref-kept.ensures.value in
    omega (arith, long, few, e)

pub invariant_of-result : goal.invariant_of-result
invariant_of-result c =
    let net = c.args.net.value in
    let carried = c.args.carried in
    let same = c.in_ok-same.same.items in
    let m : Marks = record { net = net; carried = carried; marks = c.in_ok-cells.cells; same = same } in
    let kept = subst (λ (n : Net). AreKept n carried same) c.deref-nodes.ensures c.in_ok-same.ensures.flags in
    let cells = subst (λ (z : List Bool). AreMarksOf z c.in_ok-cells.cells) c.deref-kept.ensures.value c.in_ok-cells.ensures in
    let places = subst (λ (n : Net). AreArrivalPlaces n c.in_ok-arrivals.arrivals.items) c.deref-nodes.ensures c.in_ok-arrivals.ensures in
    let ready = subst (λ (z : List Bool). IsLine net carried c.in_ok-cells.cells (λ place. get_or z place false) c.in_ok-ready.ready) c.deref-kept.ensures.value (subst (λ (n : Net). IsLine n carried c.in_ok-cells.cells (λ place. get_or c.deref-kept.result.now place false) c.in_ok-ready.ready) c.deref-nodes.ensures c.in_ok-ready.ensures.line) in
    let reusable = subst (λ (z : List Bool). IsLine net carried c.in_ok-cells.cells (λ place. get_or z place false) c.in_ok-reusable.reusable) c.deref-kept.ensures.value (subst (λ (n : Net). IsLine n carried c.in_ok-cells.cells (λ place. get_or c.deref-kept.result.now place false) c.in_ok-reusable.reusable) c.deref-nodes.ensures c.in_ok-reusable.ensures.line) in
    held-begun c.requires.0 c.requires.1 c.requires.2 m c.in_ok-arrivals.arrivals.items c.in_ok-ready.ready c.in_ok-reusable.reusable c.requires.3 kept cells places c.in_ok-ready.ensures.any c.in_ok-reusable.ensures.any ready reusable

pub returns-clause-marks : goal.returns-clause-marks
returns-clause-marks c =
    let net = c.args.net.value in
    let carried = c.args.carried in
    let same = c.in_ok-same.same.items in
    let m : Marks = record { net = net; carried = carried; marks = c.in_ok-cells.cells; same = same } in
    let kept = subst (λ (n : Net). AreKept n carried same) c.deref-nodes.ensures c.in_ok-same.ensures.flags in
    let cells = subst (λ (z : List Bool). AreMarksOf z c.in_ok-cells.cells) c.deref-kept.ensures.value c.in_ok-cells.ensures in
    carried-begun c.requires.0 c.requires.1 c.requires.2 m c.requires.3 kept cells
