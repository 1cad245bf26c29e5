use Rattle.std.proofs.Common.{◌≡◌, ◌+◌, ◌++◌, ◌∷◌, [], ◌∙◌, ℕ, List, ap, sym, subst, take, get_or, arith}
use Rattle.std.specs.Prelude.{IsPermutation}
use Rattle.std.proofs.lemmas.List.{take_all}
use Rattle.std.proofs.lemmas.List.Sorted.{sorted_far}
use Rattle.crew_resource.specs.Members.{Each}
use Rattle.crew_duty.specs.Machinery.Slots.{IsNamed, slot_of, slots_from}
use Rattle.crew_duty.specs.declared.departures.Slot.{Slot}
use Rattle.crew_duty.proofs.Slots.{later-at, slot-order, named-more, slots-more}
use Rattle.crew_duty.proofs.departures.index_of.Goals as goal

pub loop-place-preserved : goal.loop-place-preserved
loop-place-preserved c =
    let flights = c.args.flights.now in
    let k = c.loop-place.place in
    let d = c.index-flights-place.result in
    let slot : c.slot_of.result ≡ slot_of k (get_or flights k d) = c.slot_of.ensures.value ∙ ap (slot_of k) c.index-flights-place.is in
    let more : c.push.new.self.items ≡ slots_from 0 (take k flights) ++ slot_of (0 + k) (get_or flights k d) ∷ [] =
    c.in_ok-push.ensures.items ∙ rw (c.loop-place.invariant.0, slot) (ap (λ (n : ℕ). slots_from 0 (take k flights) ++ slot_of n (get_or flights k d) ∷ []) (omega arith)) in
    (more ∙ sym (slots-more 0 flights k d c.loop-place-test.true), named-more flights k d c.loop-place-test.true c.loop-place.invariant.1 (subst IsNamed c.index-flights-place.is c.slot_of.ensures.named))

pub returns : goal.returns
returns c =
    let flights = c.args.flights.now in
    let all : take c.loop-place.place flights ≡ flights = take_all c.loop-place.place flights c.loop-place-test.false in
    record {
      named = subst (Each IsNamed) all c.loop-place.invariant.1;
      all = subst (λ (l : List Slot). IsPermutation l c.sort_unstable.new.self.items) (c.loop-place.invariant.0 ∙ ap (slots_from 0) all) c.sort_unstable.ensures.permutation;
      ascending = λ i j d a b. later-at (get_or c.sort_unstable.new.self.items i d) (get_or c.sort_unstable.new.self.items j d) (sorted_far _ slot-order c.sort_unstable.new.self.items c.sort_unstable.ensures.sorted i j d a b);
    }
