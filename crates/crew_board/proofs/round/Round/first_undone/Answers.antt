use Rattle.std.proofs.Common.{◌≡◌, ◌∙◌, Option, Some, MatchOption, sym, ap, subst}
use Rattle.std.specs.Prelude.{slice_get}
use Rattle.crew_board.proofs.Inside.{marked_of}
use Rattle.crew_board.proofs.Keeping.{found-here}
use Rattle.crew_board.proofs.Places.{named-there}
use Rattle.crew_board.specs.Machinery.Held.{Marked}
use Rattle.crew_board.specs.Machinery.Turns.{IsFirstNode}
use Rattle.crew_job.specs.Grounds.{Ground}
use Rattle.crew_machine.proofs.Cells.{Some-same}
use Rattle.crew_machine.specs.Crew.{DutyNode}
use Rattle.crew_net.specs.Nets.{Net, nodes_of}
use Rattle.crew_net.specs.declared.node.Node.{Node}
use Rattle.crew_round.specs.Marks.{AllDone}
use Rattle.crew_board.proofs.round.Round.first_undone.Goals as goal

pub returns : goal.returns
returns c =
    let r = marked_of c.self.inside in
    let place = c.in_ok-place.place in
    let first = c.in_ok-place.ensures in
    let f = found-here r c.self.invariant.marked place first.undone.0 in
    let net = c.net.ensures.net ∙ ap (λ (g : Ground). g.plan.net) c.deref.ensures in
    let name : Node = record { base = f.node.base; key = f.node.duty.key } in
    let at : c.node.result ≡ Some name = c.node.ensures ∙ (ap (λ (n : Net). slice_get (nodes_of n.bases n.duties) place) net ∙ named-there r.ground.plan.net.bases r.ground.plan.net.duties place f.node f.at) in
    let here : IsFirstNode r name = record {
      place = place;
      first = first;
      named = λ n e. ap (λ (m : DutyNode). record { base = m.base; key = m.duty.key }) (Some-same f.node n (sym f.at ∙ e));
    } in
    let now = subst (λ (z : Marked). IsFirstNode z name) c.self.view_is here in
    subst (λ (o : Option Node). MatchOption o (AllDone c.args.self.now.marks) (IsFirstNode c.args.self.now)) (sym at) now
