-- The order of walks tells walks apart.
use Rattle.std.proofs.Common.{◌≡◌, Bool, true, false, List, Ordering, refl, ◌∙◌, ap}
use Rattle.std.specs.Ordering.{bool_cmp, nat_cmp, ordering_then}
use Rattle.std.specs.declared.cmp.Ordering.TheVariants.{Less, Equal, Greater}
use Rattle.std.proofs.lemmas.Map.Lookups.{exact_unsigned}
use Rattle.crew_pairing.specs.Keys.{leg_cmp, key_cmp, walk_cmp, walk_total, walk_at_most}
use Rattle.crew_pairing.specs.Legs.{Leg}
use Rattle.crew_resource.proofs.ListOrder.{at_most_order, lists_exact}
use Rattle.crew_resource.proofs.Order.{IsOrder}

then_equal : (o r : Ordering) → ordering_then o r ≡ Equal → (o ≡ Equal) × (r ≡ Equal)
then_equal Less r e = absurd (let z : ⊥ = (cc) in z)
then_equal Equal r e = (refl, e)
then_equal Greater r e = absurd (let z : ⊥ = (cc) in z)

bool_exact : (a b : Bool) → bool_cmp a b ≡ Equal → a ≡ b
bool_exact true true e = refl
bool_exact true false e = absurd (let z : ⊥ = (cc) in z)
bool_exact false true e = absurd (let z : ⊥ = (cc) in z)
bool_exact false false e = refl

leg_exact : (a b : Leg) → leg_cmp a b ≡ Equal → a ≡ b
leg_exact a b e =
    let k = then_equal (nat_cmp a.flight b.flight) (bool_cmp a.deadhead b.deadhead) e in
    let flight : a.flight ≡ b.flight = exact_unsigned a.flight b.flight k.0 in
    let deadhead : a.deadhead ≡ b.deadhead = bool_exact a.deadhead b.deadhead k.1 in
    ap (λ x. let l : Leg = record { flight = x; deadhead = a.deadhead } in l) flight ∙ ap (λ x. let l : Leg = record { flight = b.flight; deadhead = x } in l) deadhead

key_exact : (a b : List Leg) → key_cmp a b ≡ Equal → a ≡ b
key_exact = lists_exact leg_cmp leg_exact

-- walks are ordered, and equal in the order is the same
pub walk_order : IsOrder walk_at_most
walk_order = at_most_order walk_cmp walk_total (lists_exact key_cmp key_exact)
