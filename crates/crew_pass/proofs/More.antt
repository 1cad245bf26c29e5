-- What a thread has seen, and one pool more.
use Rattle.std.proofs.Common.{◌≡◌, ◌∙◌, ◌<◌, ℕ, List, [], Option, Some, None, length, set, get_or, sym, subst, ⊎_elim, arith}
use Rattle.std.specs.Prelude.{slice_get}
use Rattle.crew_label.specs.declared.label.Label.{Label}
use Rattle.crew_labelling.specs.Labellings.{labelling_of}
use Rattle.crew_labelling.specs.Terms.{Terms}
use Rattle.crew_labelling.proofs.Right.{arrivals-long, departures-long, fronts-long, rested-long}
use Rattle.crew_pairing.specs.declared.duty.Duty.{Duty}
use Rattle.crew_pass.specs.Machinery.Passing.{ArrivesAt, MayWaitAt}
use Rattle.crew_pass.specs.Machinery.Seen.{AreSeen, StaySeen}
use Rattle.crew_pass.specs.Machinery.Shelves.{AreRight, IsThere}
use Rattle.crew_pass.specs.Machinery.Terms.{MayPass}
use Rattle.crew_pass.specs.declared.seen.Seen.{Seen}
use Rattle.crew_pass.proofs.Shelved.{put-right, put-split, put-stays, put-there, there-within}

-- nothing is there
pub not-both : {A : Type 0} (a : A) (o : Option (Option A)) → o ≡ Some None → o ≡ Some (Some a) → ⊥
not-both a o p q = let e : Some None ≡ Some (Some a) = sym p ∙ q in (cc)

none-there : {V : Type 0} (shelf : List (Option (List (Label V)))) (count : ℕ) → length shelf ≡ count → ((i : ℕ) → i < count → slice_get shelf i ≡ Some None) → (n : ℕ) → IsThere shelf n → ⊥
none-there shelf count long none n there =
    let within = there-within shelf n there in
    not-both there.0 (slice_get shelf n) (none n (omega (arith, within, long))) there.1

none-right : {V : Type 0} (right : List (List (Label V))) (shelf : List (Option (List (Label V)))) (count : ℕ) → length shelf ≡ count → length right ≡ count
    → ((i : ℕ) → i < count → slice_get shelf i ≡ Some None) → AreRight right shelf
none-right right shelf count long all none = record {
  long = long ∙ sym all;
  same = λ n labels at. absurd (none-there shelf count long none n (labels, at));
}

pub none-seen : {R V : Type 0} (w : Terms V) (may : MayPass w) (seen : Seen R V Duty)
    → length seen.departures ≡ length w.net.by_report → ((i : ℕ) → i < length w.net.by_report → slice_get seen.departures i ≡ Some None)
    → length seen.arrivals ≡ length w.net.arrivals → ((i : ℕ) → i < length w.net.arrivals → slice_get seen.arrivals i ≡ Some None)
    → length seen.rested ≡ length w.net.arrivals → ((i : ℕ) → i < length w.net.arrivals → slice_get seen.rested i ≡ Some None)
    → length seen.fronts ≡ length w.net.duties → ((i : ℕ) → i < length w.net.duties → slice_get seen.fronts i ≡ Some None)
    → AreSeen w seen
none-seen w may seen dl dn al an rl rn fl fn = record {
  departures = none-right (labelling_of w).departures seen.departures (length w.net.by_report) dl (departures-long w may.terms) dn;
  arrivals = none-right (labelling_of w).arrivals seen.arrivals (length w.net.arrivals) al (arrivals-long w may.terms) an;
  rested = none-right (labelling_of w).rested seen.rested (length w.net.arrivals) rl (rested-long w may.terms) rn;
  fronts = none-right (labelling_of w).fronts seen.fronts (length w.net.duties) fl (fronts-long w may.terms) fn;
  waited = λ position place there waits. absurd (none-there seen.departures (length w.net.by_report) dl dn position there);
  gathered = λ place rank there arrives. absurd (none-there seen.arrivals (length w.net.arrivals) al an place there);
  boarded = λ rank there. absurd (none-there seen.fronts (length w.net.duties) fl fn rank there);
}

module _ {R V : Type 0} (w : Terms V) (may : MayPass w) (seen : Seen R V Duty) (is : AreSeen w seen) (number : ℕ) (labels : List (Label V))
    (now : List (Option (List (Label V)))) where
  pub departure-more : now ≡ set seen.departures number (Some labels) → number < length w.net.by_report → labels ≡ get_or (labelling_of w).departures number []
      → ((place : ℕ) → MayWaitAt w.net number place → IsThere seen.arrivals place)
      → AreSeen w (record seen { departures = now }) × StaySeen seen (record seen { departures = now }) × IsThere now number
  departure-more is-now within right there =
      let one = is.departures.long in
      let two = departures-long w may.terms in
      let inside : number < length seen.departures = omega (arith, within, one, two) in
      subst (λ (s : List (Option (List (Label V)))). AreSeen w (record seen { departures = s }) × StaySeen seen (record seen { departures = s }) × IsThere s number) (sym is-now) (
        record {
          departures = put-right seen.departures number labels inside (labelling_of w).departures is.departures right;
          arrivals = is.arrivals;
          rested = is.rested;
          fronts = is.fronts;
          waited = λ position place t waits. ⊎_elim {C = IsThere seen.arrivals place}
              (λ e. there place (subst (λ (n : ℕ). MayWaitAt w.net n place) e waits))
              (λ k. is.waited position place k waits)
              (put-split seen.departures number labels inside position t);
          gathered = λ place rank t arrives. put-stays seen.departures number labels inside (get_or w.leaves.positions rank 0) (is.gathered place rank t arrives);
          boarded = λ rank t. put-stays seen.departures number labels inside (get_or w.leaves.positions rank 0) (is.boarded rank t);
        },
        record { departures = put-stays seen.departures number labels inside; arrivals = λ n t. t; rested = λ n t. t; fronts = λ n t. t },
        put-there seen.departures number labels inside,
      )

  pub arrival-more : now ≡ set seen.arrivals number (Some labels) → number < length w.net.arrivals → labels ≡ get_or (labelling_of w).arrivals number []
      → ((rank : ℕ) → ArrivesAt w.net number rank → IsThere seen.departures (get_or w.leaves.positions rank 0))
      → AreSeen w (record seen { arrivals = now }) × StaySeen seen (record seen { arrivals = now }) × IsThere now number
  arrival-more is-now within right there =
      let one = is.arrivals.long in
      let two = arrivals-long w may.terms in
      let inside : number < length seen.arrivals = omega (arith, within, one, two) in
      subst (λ (s : List (Option (List (Label V)))). AreSeen w (record seen { arrivals = s }) × StaySeen seen (record seen { arrivals = s }) × IsThere s number) (sym is-now) (
        record {
          departures = is.departures;
          arrivals = put-right seen.arrivals number labels inside (labelling_of w).arrivals is.arrivals right;
          rested = is.rested;
          fronts = is.fronts;
          waited = λ position place t waits. put-stays seen.arrivals number labels inside place (is.waited position place t waits);
          gathered = λ place rank t arrives. ⊎_elim {C = IsThere seen.departures (get_or w.leaves.positions rank 0)}
              (λ e. there rank (subst (λ (n : ℕ). ArrivesAt w.net n rank) e arrives))
              (λ k. is.gathered place rank k arrives)
              (put-split seen.arrivals number labels inside place t);
          boarded = is.boarded;
        },
        record { departures = λ n t. t; arrivals = put-stays seen.arrivals number labels inside; rested = λ n t. t; fronts = λ n t. t },
        put-there seen.arrivals number labels inside,
      )

  pub rest-more : now ≡ set seen.rested number (Some labels) → number < length w.net.arrivals → labels ≡ get_or (labelling_of w).rested number []
      → AreSeen w (record seen { rested = now }) × StaySeen seen (record seen { rested = now }) × IsThere now number
  rest-more is-now within right =
      let one = is.rested.long in
      let two = rested-long w may.terms in
      let inside : number < length seen.rested = omega (arith, within, one, two) in
      subst (λ (s : List (Option (List (Label V)))). AreSeen w (record seen { rested = s }) × StaySeen seen (record seen { rested = s }) × IsThere s number) (sym is-now) (
        record {
          departures = is.departures;
          arrivals = is.arrivals;
          rested = put-right seen.rested number labels inside (labelling_of w).rested is.rested right;
          fronts = is.fronts;
          waited = is.waited;
          gathered = is.gathered;
          boarded = is.boarded;
        },
        record { departures = λ n t. t; arrivals = λ n t. t; rested = put-stays seen.rested number labels inside; fronts = λ n t. t },
        put-there seen.rested number labels inside,
      )

  pub front-more : now ≡ set seen.fronts number (Some labels) → number < length w.net.duties → labels ≡ get_or (labelling_of w).fronts number []
      → IsThere seen.departures (get_or w.leaves.positions number 0)
      → AreSeen w (record seen { fronts = now }) × StaySeen seen (record seen { fronts = now }) × IsThere now number
  front-more is-now within right there =
      let one = is.fronts.long in
      let two = fronts-long w may.terms in
      let inside : number < length seen.fronts = omega (arith, within, one, two) in
      subst (λ (s : List (Option (List (Label V)))). AreSeen w (record seen { fronts = s }) × StaySeen seen (record seen { fronts = s }) × IsThere s number) (sym is-now) (
        record {
          departures = is.departures;
          arrivals = is.arrivals;
          rested = is.rested;
          fronts = put-right seen.fronts number labels inside (labelling_of w).fronts is.fronts right;
          waited = is.waited;
          gathered = is.gathered;
          boarded = λ rank t. ⊎_elim {C = IsThere seen.departures (get_or w.leaves.positions rank 0)}
              (λ e. subst (λ (n : ℕ). IsThere seen.departures (get_or w.leaves.positions n 0)) (sym e) there)
              (λ k. is.boarded rank k)
              (put-split seen.fronts number labels inside rank t);
        },
        record { departures = λ n t. t; arrivals = λ n t. t; rested = λ n t. t; fronts = put-stays seen.fronts number labels inside },
        put-there seen.fronts number labels inside,
      )

-- what was seen is seen still, step by step
pub stay-then : {R V : Type 0} (a b c : Seen R V Duty) → StaySeen a b → StaySeen b c → StaySeen a c
stay-then a b c p q = record {
  departures = λ n t. q.departures n (p.departures n t);
  arrivals = λ n t. q.arrivals n (p.arrivals n t);
  rested = λ n t. q.rested n (p.rested n t);
  fronts = λ n t. q.fronts n (p.fronts n t);
}

pub stay : {R V : Type 0} (a : Seen R V Duty) → StaySeen a a
stay a = record { departures = λ n t. t; arrivals = λ n t. t; rested = λ n t. t; fronts = λ n t. t }
