use Rattle.std.proofs.Common.{◌≡◌, All, IfOk, length}
use Rattle.crew_claims.specs.Machinery.Claims.{ArePlaced, IsMade}
use Rattle.crew_claims.proofs.claims.in_order.Given as goal

abbrev pub invariant-loop-made : goal.invariant-loop-made
invariant-loop-made g l =
    (length l.places.items ≡ l.count) × ArePlaced g.F.Fn l.f l.places.items
    × All (λ list. IfOk list (λ made. All (IsMade g.F.Fn l.f l.count) made.items)) l.made-iterator.rest.items

abbrev pub invariant-loop-index : goal.invariant-loop-index
invariant-loop-index g l =
    (length l.places.items ≡ l.count) × ArePlaced g.F.Fn l.f l.places.items
    × All (IsMade g.F.Fn l.f l.count) l.index-iterator.rest.items
