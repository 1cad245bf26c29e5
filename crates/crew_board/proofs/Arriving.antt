-- What may stand just before a duty, arrival by arrival.
use Rattle.std.specs.Ordering.{eq_by_cmp}
use Rattle.std.specs.Prelude.{◌&&◌, int_le, pos, ◌-ℤ◌}
use Rattle.std.proofs.lemmas.Bool.{and_parts}
use Rattle.crew_flights.specs.Codes.{code_cmp}
use Rattle.crew_pairing.specs.declared.events.Departure.{Departure}
use Rattle.crew_rules.specs.declared.settings.Settings.{Settings}
use Rattle.std.specs.Prelude.{◌==◌}
use Rattle.std.proofs.Common.{◌≡◌, ◌<◌, ◌∙◌, [], ◌∷◌, ℕ, Bool, true, List, Some, ap, get_or, length, refl, subst, suc, sym, arith}
use Rattle.std.specs.Prelude.{slice_get}
use Rattle.std.proofs.lemmas.Bool.Decides.{nat_tests}
use Rattle.std.proofs.lemmas.Option.{slice_get_within}
use Rattle.crew_board.specs.Machinery.Turns.{AllSameBefore, AreSameIfBefore}
use Rattle.crew_machine.proofs.Cells.{Some-same}
use Rattle.crew_net.proofs.ArrivalPlaces.{arrives, own-arrival, rank-within, ranks-in, ranks-out}
use Rattle.crew_net.proofs.Longest.{stands}
use Rattle.crew_net.specs.Events.{AreEvents, arrival_cmp, arrives_at}
use Rattle.crew_net.specs.Nets.{Net}
use Rattle.crew_net.specs.Ranks.{ranks_where}
use Rattle.crew_pairing.specs.Events.{arrival_of, departure_of, may_wait}
use Rattle.crew_pairing.specs.declared.duty.Duty.{Duty}
use Rattle.crew_pairing.specs.declared.events.Arrival.{Arrival}
use Rattle.crew_pairing.specs.Pairings.{may_stand_after}
use Rattle.crew_resource.proofs.Members.{Member-at, Member-get}
use Rattle.crew_resource.specs.Members.{Member}
use Rattle.crew_job.proofs.crew_step_lemmas.Loops.{item-at}

none-long : (n : ℕ) → true ≡ (n == 0) → n ≡ 0
none-long n e = grind (arith, nat_tests)

-- in what is empty stands nothing
pub none-among : (xs : List ℕ) (x : ℕ) → true ≡ (length xs == 0) → Member xs x → ⊥
none-among [] x e m = m
none-among (y ∷ ys) x e m = absurd (let none : suc (length ys) ≡ 0 = none-long (length (y ∷ ys)) e in omega (arith, none))

-- a crew may wait for a duty after an arrival where the duty may stand after one that comes in there
pub waits-as : (net : Net) (x : Arrival) (d e : Duty) (rank : ℕ) → Member (ranks_where (arrives_at x) net.duties) rank → slice_get net.duties rank ≡ Some e → may_wait net.settings x (departure_of d) ≡ may_stand_after net.settings e d
waits-as net x d e rank m at =
    let o = ranks-out (arrives_at x) net.duties rank m in
    let same : o.0 ≡ e = Some-same o.0 e (sym o.1 ∙ at) in
    ap (λ (y : Arrival). may_wait net.settings y (departure_of d)) (own-arrival x o.0 o.2) ∙ ap (λ (z : Duty). may_stand_after net.settings z d) same

-- .. the first of them
pub first-waits : (net : Net) (x : Arrival) (d e : Duty) (ranks : List ℕ) → ranks ≡ ranks_where (arrives_at x) net.duties → 0 < length ranks → e ≡ get_or net.duties (get_or ranks 0 0) e → may_wait net.settings x (departure_of d) ≡ may_stand_after net.settings e d
first-waits net x d e ranks are low is =
    let first = get_or ranks 0 0 in
    let there : Member (ranks_where (arrives_at x) net.duties) first = subst (λ (rs : List ℕ). Member rs first) are (Member-get ranks 0 0 low) in
    waits-as net x d e first there (item-at net.duties first e (rank-within x net.duties first there) is)

-- a crew waits where it came in
pub same-airport : (s : Settings) (x : Arrival) (g : Departure) → may_wait s x g ≡ true → eq_by_cmp code_cmp x.airport g.airport ≡ true
same-airport s x g h = (and_parts (eq_by_cmp code_cmp x.airport g.airport) (int_le (pos 600) (g.report -ℤ x.release) && int_le (g.report -ℤ x.release) (pos s.max_rest)) h).0

module _ (net : Net) (same : List Bool) (d : Duty) (first : ℕ) where
  -- each duty comes in at an arrival
  pub all-arrived : AreEvents arrival_of arrival_cmp net.duties net.arrivals → ((k : ℕ) → k < length net.arrivals → AreSameIfBefore same net d first k) → AllSameBefore same net d first
  all-arrived events all rank e there may =
      let at = stands net.arrivals (arrival_of e) (events.every e (Member-at net.duties rank e there)) in
      all at.0 (slice_get_within net.arrivals at.0 (arrival_of e) at.1) (arrival_of e) at.1 may rank (ranks-in (arrives_at (arrival_of e)) net.duties rank e there (arrives (arrival_of e) e refl))

  -- and what comes in at one may stand before what a crew may report for after it
  pub arrived-all : AllSameBefore same net d first → (k : ℕ) → AreSameIfBefore same net d first k
  arrived-all all k x at may rank m =
      let o = ranks-out (arrives_at x) net.duties rank m in
      all rank o.0 o.1 (subst (λ (y : Arrival). may_wait net.settings y (departure_of d) ≡ true) (own-arrival x o.0 o.2) may)
