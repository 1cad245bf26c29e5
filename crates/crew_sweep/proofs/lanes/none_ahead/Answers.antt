use Rattle.std.proofs.Common.{◌≡◌, None, Option, Some, refl, subst}
use Rattle.crew_resource.specs.Members.{Member}
use Rattle.crew_sweep.specs.declared.windows.Waiting.{Waiting}
use Rattle.crew_sweep.proofs.Listing.{member-push}
use Rattle.crew_sweep.proofs.lanes.none_ahead.Goals as goal

pub loop-preserved : goal.loop-preserved
loop-preserved c w m =
    member-push (λ (o : Option Waiting). o ≡ Some w → ⊥) c.loop.ahead.items c.push.new.self.items None c.in_ok-push.ensures.items
    (λ o k e. c.loop.invariant w (subst (Member c.loop.ahead.items) e k)) (λ e. let q : ⊥ = (cc) in q) (Some w) m refl
