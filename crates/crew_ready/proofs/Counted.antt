-- Counts: one more is written, and what nought means.
use Rattle.std.proofs.Common.{◌≡◌, ℕ, zero, suc, ◌+◌, ◌-◌, ◌<◌, ◌≤◌, nat_eq, nat_lt, Bool, true, false, not, List, [], ◌∷◌, Some, drop, filter, get_or, length, take, slice_set, ◌⊎◌, inl, inr, refl, sym, ◌∙◌, ap, subst, ⊎_elim, arith, tests}
use Rattle.std.specs.Prelude.{◌↔◌, slice_get}
use Rattle.std.proofs.lemmas.Bool.{cases_Bool, cases_lt}
use Rattle.std.proofs.lemmas.List.{get_or-set_other, get_or-set_same}
use Rattle.crew_net.proofs.ArrivalPlaces.{arrives, own-arrival, ranks-in, ranks-out}
use Rattle.crew_net.proofs.InTime.{item-at}
use Rattle.crew_net.proofs.Longest.{stands}
use Rattle.crew_net.specs.Events.{AreEvents, arrival_cmp, arrives_at}
use Rattle.crew_net.specs.Nets.{Net}
use Rattle.crew_net.specs.Ranks.{ranks_where}
use Rattle.crew_pairing.specs.Events.{arrival_of, departure_of, may_wait}
use Rattle.crew_pairing.specs.declared.duty.Duty.{Duty}
use Rattle.crew_pairing.specs.declared.events.Arrival.{Arrival}
use Rattle.crew_pairing.specs.declared.events.Departure.{Departure}
use Rattle.crew_ready.specs.Counts.{AreBlockedUpTo, AreCounts, AreDoneBefore, AreUndoneUpTo, Counts, IsBlocked, undone_of}
use Rattle.crew_resource.proofs.Members.{Member-at}
use Rattle.crew_resource.specs.Members.{Member}

same-or-less : (j k : ℕ) → j < k + 1 → (j < k) ⊎ (j ≡ k)
same-or-less j k l = ⊎_elim {C = (j < k) ⊎ (j ≡ k)} inl (λ h. inr (omega (arith, l, h))) (cases_lt j k)

-- one more count
pub undone-more : (net : Net) (done : List Bool) (n : ℕ) (counts : List ℕ) (count : ℕ) → n < length counts → AreUndoneUpTo net done n counts
    → ((x : Arrival) → slice_get net.arrivals n ≡ Some x → count ≡ undone_of done (ranks_where (arrives_at x) net.duties)) → AreUndoneUpTo net done (n + 1) (slice_set counts n count)
undone-more net done n counts count within so own k x low at =
    ⊎_elim {C = get_or (slice_set counts n count) k 0 ≡ undone_of done (ranks_where (arrives_at x) net.duties)}
    (λ l. get_or-set_other counts n k count 0 (λ e. omega (arith, l, e)) ∙ so k x l at)
    (λ e. ap (λ z. get_or (slice_set counts n count) z 0) e ∙ (get_or-set_same counts n count 0 within ∙ own x (ap (slice_get net.arrivals) (sym e) ∙ at)))
    (same-or-less k n low)

pub blocked-more : (net : Net) (undone : List ℕ) (n : ℕ) (counts : List ℕ) (count : ℕ) → n < length counts → AreBlockedUpTo net undone n counts
    → ((g : Departure) → slice_get net.departures n ≡ Some g → IsBlocked net undone g count) → AreBlockedUpTo net undone (n + 1) (slice_set counts n count)
blocked-more net undone n counts count within so own k g low at =
    ⊎_elim {C = IsBlocked net undone g (get_or (slice_set counts n count) k 0)}
    (λ l. subst (IsBlocked net undone g) (sym (get_or-set_other counts n k count 0 (λ e. omega (arith, l, e)))) (so k g l at))
    (λ e. subst (IsBlocked net undone g) (sym (ap (λ z. get_or (slice_set counts n count) z 0) e ∙ get_or-set_same counts n count 0 within)) (own g (ap (slice_get net.departures) (sym e) ∙ at)))
    (same-or-less k n low)

-- nothing passes a filter exactly where its length is nought
module _ (p : ℕ → Bool) where
  pub more : (x : ℕ) (xs : List ℕ) → p x ≡ true → length (filter p (x ∷ xs)) ≡ suc (length (filter p xs))
  more x xs e = rw e refl

  pub same : (x : ℕ) (xs : List ℕ) → p x ≡ false → filter p (x ∷ xs) ≡ filter p xs
  same x xs e = rw e refl

  pub none-passes : (xs : List ℕ) → length (filter p xs) ≡ 0 → (x : ℕ) → Member xs x → p x ≡ false
  none-passes [] e x m = absurd m
  none-passes (y ∷ xs) e x m =
      ⊎_elim {C = p x ≡ false}
      (λ t. absurd (let k = more y xs t in omega (arith, e, k)))
      (λ f. ⊎_elim {C = p x ≡ false} (λ q. ap p (sym q) ∙ f) (λ k. none-passes xs (sym (ap length (same y xs f)) ∙ e) x k) m)
      (cases_Bool (p y))

  pub all-stopped : (xs : List ℕ) → ((x : ℕ) → Member xs x → p x ≡ false) → length (filter p xs) ≡ 0
  all-stopped [] h = refl
  all-stopped (y ∷ xs) h = ap length (same y xs (h y (inl refl))) ∙ all-stopped xs (λ x m. h x (inr m))

not-true : (b : Bool) → not b ≡ false → b ≡ true
not-true true e = refl
not-true false e = absurd (let q : ⊥ = (cc) in q)

not-false : (b : Bool) → b ≡ true → not b ≡ false
not-false true e = refl
not-false false e = absurd (let q : ⊥ = (cc) in q)

-- what stands among some elements of a list, from a place on
pub in-part : (xs : List ℕ) (from n k : ℕ) → from ≤ k → k < from + n → k < length xs → Member (take n (drop from xs)) (get_or xs k 0)
in-part [] from n k a b c = absurd (omega (arith, c))
in-part (x ∷ xs) zero zero k a b c = absurd (omega (arith, b))
in-part (x ∷ xs) zero (suc n) zero a b c = inl refl
in-part (x ∷ xs) zero (suc n) (suc k) a b c = inr (in-part xs zero n k (omega arith) (omega (arith, b)) (omega (arith, c)))
in-part (x ∷ xs) (suc from) n zero a b c = absurd (omega (arith, a))
in-part (x ∷ xs) (suc from) n (suc k) a b c = in-part xs from n k (omega (arith, a)) (omega (arith, b)) (omega (arith, c))

-- the place of such an element
record IsPart (xs : List ℕ) (from n y : ℕ) : Type 0 where
  pub place : ℕ
  pub low : from ≤ place
  pub high : place < from + n
  pub within : place < length xs
  pub is : y ≡ get_or xs place 0

nothing : (n y : ℕ) → Member (take n []) y → ⊥
nothing zero y m = m
nothing (suc n) y m = m

from-part : (xs : List ℕ) (from n y : ℕ) → Member (take n (drop from xs)) y → IsPart xs from n y
from-part [] zero n y m = absurd (nothing n y m)
from-part [] (suc from) n y m = absurd (nothing n y m)
from-part (x ∷ xs) zero zero y m = absurd m
from-part (x ∷ xs) zero (suc n) y (inl e) = record { place = 0; low = omega arith; high = omega arith; within = omega arith; is = sym e }
from-part (x ∷ xs) zero (suc n) y (inr m) =
    let r = from-part xs zero n y m in
    let high = r.high in
    let within = r.within in
    record { place = suc r.place; low = omega arith; high = omega (arith, high); within = omega (arith, within); is = r.is }
from-part (x ∷ xs) (suc from) n y m =
    let r = from-part xs from n y m in
    let low = r.low in
    let high = r.high in
    let within = r.within in
    record { place = suc r.place; low = omega (arith, low); high = omega (arith, high); within = omega (arith, within); is = r.is }

pub nought : (n : ℕ) → nat_lt 0 n ≡ false → n ≡ 0
nought n e = grind (arith, tests, e)

pub is-nought : (n : ℕ) → n ≡ 0 → nat_lt 0 n ≡ false
is-nought n e = grind (arith, tests, e)

module _ (net : Net) (done : List Bool) (c : Counts) (d : Duty) (place : ℕ) (counts : AreCounts net done c) (events : AreEvents arrival_of arrival_cmp net.duties net.arrivals) (at : slice_get net.departures place ≡ Some (departure_of d)) (below : place < length net.departures) where
  abbrev own : IsBlocked net c.undone (departure_of d) (get_or c.blocked place 0)
  own = counts.blocked place (departure_of d) below at

  -- where a departure's count is nought, all before what leaves there is done
  pub clear-done : get_or c.blocked place 0 ≡ 0 → AreDoneBefore net done d
  clear-done e rank f there may =
      let k = stands net.arrivals (arrival_of f) (events.every f (Member-at net.duties rank f there)) in
      let inside = (own.is_window.exact k.0 (arrival_of f) k.1).0 may in
      let high = inside.1 in
      let limit = own.is_window.within in
      let long = counts.long in
      let within : k.0 < length c.undone = omega (arith, high, limit, long) in
      let zero-count : get_or c.undone k.0 0 ≡ 0 = nought (get_or c.undone k.0 0) (none-passes (nat_lt 0) (take (own.window.end - own.window.from) (drop own.window.from c.undone)) (sym own.counted ∙ e) (get_or c.undone k.0 0) (in-part c.undone own.window.from (own.window.end - own.window.from) k.0 inside.0 (let low = inside.0 in omega (arith, low, high)) within)) in
      let none : undone_of done (ranks_where (arrives_at (arrival_of f)) net.duties) ≡ 0 = sym (counts.undone k.0 (arrival_of f) (omega (arith, high, limit)) k.1) ∙ zero-count in
      not-true (get_or done rank false) (none-passes (λ r. not (get_or done r false)) (ranks_where (arrives_at (arrival_of f)) net.duties) none rank (ranks-in (arrives_at (arrival_of f)) net.duties rank f there (arrives (arrival_of f) f refl)))

  pub done-clear : AreDoneBefore net done d → get_or c.blocked place 0 ≡ 0
  done-clear all =
      own.counted
      ∙ all-stopped (nat_lt 0) (take (own.window.end - own.window.from) (drop own.window.from c.undone))
      (λ y m.
      (
      let r = from-part c.undone own.window.from (own.window.end - own.window.from) y m in
      let k = r.place in
      let short = r.within in
      let low = r.low in
      let high = r.high in
      let ordered = own.is_window.ordered in
      let long = counts.long in
      let within : k < length net.arrivals = omega (arith, short, long) in
      let x = item-at net.arrivals k within in
      let may = (own.is_window.exact k x.0 x.1).1 (low, omega (arith, low, high, ordered)) in
      let none : undone_of done (ranks_where (arrives_at x.0) net.duties) ≡ 0 =
      all-stopped (λ q. not (get_or done q false)) (ranks_where (arrives_at x.0) net.duties)
      (λ rank h.
      (
      let e = ranks-out (arrives_at x.0) net.duties rank h in
      let its : may_wait net.settings (arrival_of e.0) (departure_of d) ≡ true = subst (λ (z : Arrival). may_wait net.settings z (departure_of d) ≡ true) (own-arrival x.0 e.0 e.2) may in
      not-false (get_or done rank false) (all rank e.0 e.1 its))) in
      is-nought y (r.is ∙ (counts.undone k x.0 within x.1 ∙ none))))

pub nought-tells : (n : ℕ) → (nat_eq n 0 ≡ true) ↔ (n ≡ 0)
nought-tells n = (λ e. (grind (arith, tests, e)), λ e. (grind (arith, tests, e)))
