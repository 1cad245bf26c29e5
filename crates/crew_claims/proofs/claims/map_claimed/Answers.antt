use Rattle.std.proofs.Common.{All, IfOk, ℕ, arith, get_or, subst}
use Rattle.crew_claims.specs.Machinery.Claims.{IsMade}
use Rattle.crew_claims.proofs.claims.map_claimed.Goals as goal

pub in_order-requires-clause-made : goal.in_order-requires-clause-made
in_order-requires-clause-made g c k d inside =
    let len = c.in_ok-lists.ensures.len in
    subst (λ (count : ℕ). IfOk (get_or c.in_ok-lists.lists.items k d) (λ made. All (IsMade g.F.Fn c.args.f.now count) made.items)) c.new-claims.ensures
    (c.in_ok-lists.ensures.each k d (omega (arith, inside, len))).1.call.met
