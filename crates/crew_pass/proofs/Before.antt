-- What a pool is made of lies before it, so going back ends.
use Rattle.std.proofs.Common.{◌≡◌, ◌∙◌, ◌≤◌, ℕ, suc, Bool, true, false, List, [], ◌∷◌, get_or, inl, inr, refl, sym, subst, arith}
use Rattle.std.specs.Prelude.{cond, nat_lt}
use Rattle.std.proofs.lemmas.Bool.Decides.{nat_tests}
use Rattle.crew_labelling.specs.Terms.{AreTerms, Terms}
use Rattle.crew_labelling.proofs.Upto.{leaves-before}
use Rattle.crew_net.specs.Events.{arrives_at}
use Rattle.crew_net.proofs.ArrivalPlaces.{ranks-out}
use Rattle.crew_net.proofs.Numbers.{same-arrival}
use Rattle.crew_net.proofs.Slices.{get-at}
use Rattle.crew_pairing.specs.Events.{arrival_of}
use Rattle.crew_resource.specs.Members.{Member}
use Rattle.crew_pass.specs.Machinery.Passing.{MayWaitAt, after_all, arriving_ranks, later_of, no_arrival}

later-left : (a b : ℕ) → a ≤ later_of a b
later-left a b = by (nat_lt a b) refl
  where
    by : (c : Bool) → nat_lt a b ≡ c → a ≤ cond c b a
    by true e = let h : a ≤ b = grind (arith, nat_tests) in h
    by false e = let h : a ≤ a = omega arith in h

later-right : (a b : ℕ) → b ≤ later_of a b
later-right a b = by (nat_lt a b) refl
  where
    by : (c : Bool) → nat_lt a b ≡ c → b ≤ cond c b a
    by true e = let h : b ≤ b = omega arith in h
    by false e = let h : b ≤ a = grind (arith, nat_tests) in h

later-most : (a b n : ℕ) → a ≤ n → b ≤ n → later_of a b ≤ n
later-most a b n p q = by (nat_lt a b)
  where
    by : (c : Bool) → cond c b a ≤ n
    by true = q
    by false = p

pub after-each : (positions ranks : List ℕ) (rank : ℕ) → Member ranks rank → suc (get_or positions rank 0) ≤ after_all positions ranks
after-each positions [] rank m = absurd m
after-each positions (r ∷ rs) rank (inl e) =
    subst (λ (q : ℕ). suc (get_or positions q 0) ≤ after_all positions (r ∷ rs)) e (later-left (suc (get_or positions r 0)) (after_all positions rs))
after-each positions (r ∷ rs) rank (inr m) =
    let h = after-each positions rs rank m in
    let k = later-right (suc (get_or positions r 0)) (after_all positions rs) in
    let all : after_all positions rs ≤ after_all positions (r ∷ rs) = k in
    omega (arith, h, all)

pub after-most : (positions ranks : List ℕ) (n : ℕ) → ((rank : ℕ) → Member ranks rank → suc (get_or positions rank 0) ≤ n) → after_all positions ranks ≤ n
after-most positions [] n h = omega arith
after-most positions (r ∷ rs) n h = later-most (suc (get_or positions r 0)) (after_all positions rs) n (h r (inl refl)) (after-most positions rs n (λ rank m. h rank (inr m)))

-- the duties that arrive where a crew may wait for a departure leave before it
pub waits-after : {V : Type 0} (w : Terms V) (terms : AreTerms w) (position place : ℕ) → MayWaitAt w.net position place → after_all w.leaves.positions (arriving_ranks w.net place) ≤ position
waits-after w terms position place waits =
    let x = waits.arrival in
    let at : get_or w.net.arrivals place no_arrival ≡ x = get-at w.net.arrivals place x no_arrival waits.releases in
    after-most w.leaves.positions (arriving_ranks w.net place) position (λ rank m.
    let d = ranks-out (arrives_at (get_or w.net.arrivals place no_arrival)) w.net.duties rank m in
    let arrives : arrival_of d.0 ≡ x = sym (same-arrival (get_or w.net.arrivals place no_arrival) (arrival_of d.0) d.2) ∙ at in
    let h = leaves-before w terms position waits.departure waits.reports x waits.may rank d.0 d.1 arrives in
    omega (arith, h))
