use Rattle.std.proofs.Common.{◌∙◌, subst, sym}
use Rattle.crew_net.specs.Nets.{Net}
use Rattle.crew_pairing.specs.Events.{departure_of}
use Rattle.crew_resource.specs.Members.{Member}
use Rattle.crew_sums.proofs.fronts.see_reports.Goals as goal

pub returns : goal.returns
returns c = λ d m.
    let same = c.deref.ensures ∙ c.net.ensures.net in
    let known = subst (λ (n : Net). Member n.duties d) (sym same) m in
    c.departures.ensures.real (departure_of d) (c.departures.ensures.exact.every d known)
