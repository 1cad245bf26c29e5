use Rattle.std.proofs.Common.{◌≡◌}
use Rattle.crew_serve.specs.Clients.{IsSight}
use Rattle.crew_serve.proofs.clerk.Clerk.settle.Given as goal

abbrev pub invariant-loop : goal.invariant-loop
invariant-loop g l = IsSight l.fn.self.version l.self.version × (l.self ≡ record l.fn.self { version = l.self.version }) × (l.past ≡ l.fn.self.version.number)
