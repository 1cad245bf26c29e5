use Rattle.std.proofs.Common.{subst}
use Rattle.crew_net.specs.Nets.{AreByReport, Net}
use Rattle.crew_net.proofs.net.Net.by_report.Goals as goal

pub returns-clause-exact : goal.returns-clause-exact
returns-clause-exact c = subst (λ (net : Net). AreByReport net.departures net.by_report) c.self.view_is c.self.invariant.in_time
