-- Codes, keys and walks by their order: what the order does not tell apart is the same.
use Rattle.std.proofs.Common.{◌≡◌, ℕ, Bool, true, false, List, refl, ◌∙◌, ap, Ordering}
use Rattle.std.specs.FinMap.{nat_cmp-IsAntisymmetric, slice_cmp-IsAntisymmetric}
use Rattle.std.specs.Ordering.{bool_cmp, eq_by_cmp, is_eq, nat_cmp}
use Rattle.std.specs.declared.cmp.Ordering.TheVariants.{Less, Equal, Greater}
use Rattle.std.proofs.lemmas.Cmp.{eq_by_cmp_equiv}
use Rattle.crew_pairing.specs.Keys.{key_cmp, leg_cmp, walk_cmp, walk_total, walk_at_most}
use Rattle.crew_pairing.specs.Legs.{Leg}
use Rattle.crew_flights.specs.Codes.{code_cmp, code_cmp_total}
use Rattle.crew_resource.proofs.ListOrder.{at_most_order, at_most_total, lists_exact}
use Rattle.crew_resource.proofs.Order.{IsOrder}
use Rattle.crew_resource.specs.Machinery.BothLaws.{both_equal}

tied : (r : Ordering) → is_eq r ≡ true → r ≡ Equal
tied Less e = absurd (let q : ⊥ = (cc) in q)
tied Equal e = refl
tied Greater e = absurd (let q : ⊥ = (cc) in q)

pub same-code : (a b : List ℕ) → eq_by_cmp code_cmp a b ≡ true → a ≡ b
same-code a b e = slice_cmp-IsAntisymmetric nat_cmp-IsAntisymmetric a b (tied (code_cmp a b) e)

pub code-itself : (a b : List ℕ) → a ≡ b → eq_by_cmp code_cmp a b ≡ true
code-itself a b e = ap (λ z. eq_by_cmp code_cmp z b) e ∙ (eq_by_cmp_equiv code_cmp_total).refl b

same-bool : (a b : Bool) → bool_cmp a b ≡ Equal → a ≡ b
same-bool true true e = refl
same-bool true false e = absurd (let q : ⊥ = (cc) in q)
same-bool false true e = absurd (let q : ⊥ = (cc) in q)
same-bool false false e = refl

leg-exact : (a b : Leg) → leg_cmp a b ≡ Equal → a ≡ b
leg-exact a b e =
    let k = both_equal (nat_cmp a.flight b.flight) (bool_cmp a.deadhead b.deadhead) e in
    let f : a.flight ≡ b.flight = nat_cmp-IsAntisymmetric a.flight b.flight k.0 in
    let d : a.deadhead ≡ b.deadhead = same-bool a.deadhead b.deadhead k.1 in
    ap (λ z. let r : Leg = record { flight = z; deadhead = a.deadhead } in r) f ∙ ap (λ z. let r : Leg = record { flight = b.flight; deadhead = z } in r) d

pub key-exact : (a b : List Leg) → key_cmp a b ≡ Equal → a ≡ b
key-exact = lists_exact leg_cmp leg-exact

pub walk-order : IsOrder walk_at_most
walk-order = at_most_order walk_cmp walk_total (lists_exact key_cmp key-exact)

pub walk-either : (a b : List (List Leg)) → walk_at_most a b ≡ false → walk_at_most b a ≡ true
walk-either = at_most_total walk_cmp walk_total
