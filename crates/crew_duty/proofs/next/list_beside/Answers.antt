use Rattle.std.proofs.Common.{◌≡◌, ◌≤◌, ◌<◌, ◌∙◌, ℕ, ap, arith, length, sum}
use Rattle.std.specs.List.{flat_map, range_with_len}
use Rattle.crew_duty.specs.Machinery.Held.{over}
use Rattle.crew_pairing.specs.Machinery.Listing.{all_duties, from_place}
use Rattle.crew_pairing.proofs.InOrder.{all-duties}
use Rattle.crew_duty.proofs.Counts.{all-listed, counts-few, counts-over}
use Rattle.crew_duty.proofs.next.list_beside.Goals as goal

pub count_beside-requires-clause-plan : goal.count_beside-requires-clause-plan
count_beside-requires-clause-plan c =
    record {
      checked = c.requires.checked;
      are_flights = c.requires.flights;
      few = c.requires.few;
      index = rw c.deref-2.ensures.value c.in_ok-slots.ensures;
      are_next = rw c.deref-3.ensures.value c.in_ok-next.ensures;
    }

pub fill_beside-requires-clause-plan : goal.fill_beside-requires-clause-plan
fill_beside-requires-clause-plan c =
    record {
      checked = c.requires.checked;
      are_flights = c.requires.flights;
      few = c.requires.few;
      index = rw c.deref-2.ensures.value c.in_ok-slots.ensures;
      are_next = rw c.deref-3.ensures.value c.in_ok-next.ensures;
    }

pub returns-then-total-gt-DUTIES-clause-too_many : goal.returns-then-total-gt-DUTIES-clause-too_many
returns-then-total-gt-DUTIES-clause-too_many c =
    let counts = c.in_ok-counts.counts.items in
    let more : 200_000 < sum counts = omega (arith, ap sum c.deref-4.ensures.value, c.total_of-total.ensures, c.if-total-gt-DUTIES.true) in
    λ e. counts-over c.args.settings.now (over c.args.flights.now c.args.turns.now) counts c.in_ok-counts.ensures more

pub returns-clause-listed : goal.returns-clause-listed
returns-clause-listed c =
    let s = c.args.settings.now in
    let flights = over c.args.flights.now c.args.turns.now in
    let F = from_place s flights in
    let all : length c.deref-5.result.now ≡ length flights.list = ap length c.deref-5.ensures.value ∙ c.in_ok-counts.ensures.all in
    let listed : c.in_ok-fill_beside.field-0 ≡ all_duties s flights = c.in_ok-fill_beside.ensures ∙ ap (λ (n : ℕ). flat_map F (range_with_len 0 n)) all ∙ all-listed s flights in
    rw listed (all-duties s flights c.requires.flights)

pub returns-clause-few : goal.returns-clause-few
returns-clause-few c =
    let s = c.args.settings.now in
    let flights = over c.args.flights.now c.args.turns.now in
    let F = from_place s flights in
    let counts = c.in_ok-counts.counts.items in
    let all : length c.deref-5.result.now ≡ length flights.list = ap length c.deref-5.ensures.value ∙ c.in_ok-counts.ensures.all in
    let listed : c.in_ok-fill_beside.field-0 ≡ all_duties s flights = c.in_ok-fill_beside.ensures ∙ ap (λ (n : ℕ). flat_map F (range_with_len 0 n)) all ∙ all-listed s flights in
    let few : sum counts ≤ 200_000 = omega (arith, ap sum c.deref-4.ensures.value, c.total_of-total.ensures, c.if-total-gt-DUTIES.false) in
    let total = counts-few s flights counts c.in_ok-counts.ensures few in
    omega (arith, ap length listed, total, few)
