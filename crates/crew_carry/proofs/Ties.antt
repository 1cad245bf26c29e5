-- Events and duties that tie in their order.
use Rattle.std.proofs.Common.{subst, ◌≡◌, Some, None, ap, refl, sym, ◌∙◌, ℕ, List, Option}
use Rattle.std.specs.Prelude.{IfSome, slice_get}
use Rattle.std.specs.Cmp.{int_cmp_total, on_total, signed_Decides, then_total}
use Rattle.std.proofs.lemmas.Cmp.{tied_itself}
use Rattle.crew_net.specs.crew_flights.Codes.{code_cmp_total}
use Rattle.crew_pairing.specs.Legs.{Leg}
use Rattle.std.specs.Ordering.{is_eq, ordering_then}
use Rattle.std.specs.declared.cmp.Ordering.{Ordering}
use Rattle.std.specs.declared.cmp.Ordering.TheVariants.{Equal, Greater, Less}
use Rattle.std.proofs.lemmas.Option.{slice_get_within}
use Rattle.crew_net.specs.Events.{arrival_cmp, departure_cmp}
use Rattle.crew_net.proofs.Geometry.{code-equal}
use Rattle.crew_pairing.specs.Keys.{key_cmp, key_total}
use Rattle.crew_pairing.specs.declared.duty.Duty.{Duty}
use Rattle.crew_pairing.specs.declared.events.Arrival.{Arrival}
use Rattle.crew_pairing.specs.declared.events.Departure.{Departure}
use Rattle.crew_step.proofs.Sames.{key-decides}
use Rattle.crew_carry.specs.Machinery.Matches.{AreMatches}
use Rattle.crew_carry.specs.Twins.{AreRankTwins}
use Rattle.crew_carry.proofs.Pushed.{key-of}

then-both : (r s : Ordering) → ordering_then r s ≡ Equal → (r ≡ Equal) × (s ≡ Equal)
then-both Equal s e = (refl, e)
then-both Less s e = absurd (let q : ⊥ = (cc) in q)
then-both Greater s e = absurd (let q : ⊥ = (cc) in q)

arrival-exact : (x y : Arrival) → arrival_cmp x y ≡ Equal → x ≡ y
arrival-exact x y e =
    let p = then-both _ _ e in
    let airport : x.airport ≡ y.airport = code-equal x.airport y.airport (ap is_eq p.0) in
    let release : x.release ≡ y.release = (signed_Decides x.release y.release).0 (ap is_eq p.1) in
    (λ i. record { airport = airport i; release = release i })

departure-exact : (x y : Departure) → departure_cmp x y ≡ Equal → x ≡ y
departure-exact x y e =
    let p = then-both _ _ e in
    let airport : x.airport ≡ y.airport = code-equal x.airport y.airport (ap is_eq p.0) in
    let report : x.report ≡ y.report = (signed_Decides x.report y.report).0 (ap is_eq p.1) in
    (λ i. record { airport = airport i; report = report i })

-- an arrival where the other list has it
pub arrival-found : (news olds : List Arrival) (places : List (Option ℕ)) → AreMatches arrival_cmp news olds places → (p : ℕ) (o : Option ℕ) → slice_get places p ≡ Some o
    → IfSome o (λ q. (x : Arrival) × (slice_get olds q ≡ Some x) × (slice_get news p ≡ Some x))
arrival-found news olds places m p None e = tt
arrival-found news olds places m p (Some q) e =
    let t = m.tied p q e in
    (t.1, t.3, t.2 ∙ ap Some (sym (arrival-exact t.1 t.0 t.4)))

pub departure-found : (news olds : List Departure) (places : List (Option ℕ)) → AreMatches departure_cmp news olds places → (p q : ℕ) → slice_get places p ≡ Some (Some q)
    → (g : Departure) × (slice_get olds q ≡ Some g) × (slice_get news p ≡ Some g)
departure-found news olds places m p q e =
    let t = m.tied p q e in
    (t.1, t.3, t.2 ∙ ap Some (sym (departure-exact t.1 t.0 t.4)))

pub ranks-found : (olds news : List Duty) (places : List (Option ℕ)) → AreMatches (λ a b. key_cmp a.key b.key) olds news places → AreRankTwins olds news places
ranks-found olds news places m = record {
  long = m.long;
  within = λ r k e. let t = m.tied r k e in slice_get_within news k t.1 t.3;
  same = λ r k e.
      let t = m.tied r k e in
      key-of olds r t.0 t.2 ∙ (sym ((key-decides t.1.key t.0.key).0 (ap is_eq t.4)) ∙ sym (key-of news k t.1 t.3));
}

-- events that are the same tie
pub arrival-tie : (x : Arrival) → arrival_cmp x x ≡ Equal
arrival-tie x = tied_itself (then_total (on_total (λ (y : Arrival). y.airport) code_cmp_total) (on_total (λ (y : Arrival). y.release) int_cmp_total)) x

pub departure-tie : (g : Departure) → departure_cmp g g ≡ Equal
departure-tie g = tied_itself (then_total (on_total (λ (h : Departure). h.airport) code_cmp_total) (on_total (λ (h : Departure). h.report) int_cmp_total)) g

pub key-tie : (d e : Duty) → d.key ≡ e.key → key_cmp e.key d.key ≡ Equal
key-tie d e same = subst (λ (z : List Leg). key_cmp e.key z ≡ Equal) (sym same) (tied_itself key_total e.key)
