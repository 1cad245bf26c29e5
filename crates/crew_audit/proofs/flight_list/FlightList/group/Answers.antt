use Rattle.std.proofs.Common.{List, sym, subst, ◌∙◌}
use Rattle.crew_pairing.specs.Flights.{Flights}
use Rattle.crew_resource.proofs.Members.{Member-get_or}
use Rattle.crew_resource.specs.Members.{Member}
use Rattle.crew_audit.specs.Machinery.Leaving.{IsGroup}
use Rattle.crew_audit.specs.declared.flight_list.Leaving.{Leaving}
use Rattle.crew_audit.proofs.Leaving.{leaves-same}
use Rattle.crew_audit.proofs.flight_list.FlightList.group.Goals as goal

pub returns-then-eq : goal.returns-then-eq
returns-then-eq c =
    let g = c.group-item.result in
    let there = Member-get_or c.deref-group-items.result.now c.loop-group.group-index g c.loop-group-test.true (sym c.group-item.is) in
    let known = subst (λ (gs : List Leaving). Member gs g) c.deref-group-items.ensures.value there in (
      subst (λ (fs : Flights). IsGroup fs.list g) c.self.view_is (c.self.invariant g known),
      λ f. leaves-same g.airport c.args.airport f (sym c.eq.ensures ∙ c.if-eq.true),
    )
