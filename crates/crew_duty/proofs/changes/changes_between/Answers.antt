use Rattle.std.proofs.Common.{◌≡◌, ◌⊎◌, ℤ, List, get_or, inl, inr}
use Rattle.std.specs.Ordering.{int_cmp, is_lt}
use Rattle.std.specs.Cmp.{IsStrictWeakOrder, int_cmp_total}
use Rattle.std.proofs.lemmas.List.Sorted.{ranks_by, sorted_far}
use Rattle.crew_flights.specs.Timetable.{Turns}
use Rattle.crew_flights.specs.declared.flight.Flight.{Flight}
use Rattle.crew_resource.specs.Members.{Member}
use Rattle.crew_pairing.proofs.Tree.{Each-map}
use Rattle.crew_duty.specs.Machinery.Kept.{TellChanges, TellTurns}
use Rattle.crew_duty.specs.Machinery.Turns.{turns_from}
use Rattle.crew_pairing.proofs.Shuffled.{Member-shuffled}
use Rattle.crew_duty.proofs.Kept.{not-later}
use Rattle.crew_duty.proofs.changes.changes_between.Goals as goal

among : (fs gs : List Flight) (ms ns : List ℤ) → ((m : ℤ) → Member ms m → Member ns m) → TellChanges fs gs ms → TellChanges fs gs ns
among fs gs ms ns f told =
    Each-map (λ (x : Flight). Member gs x ⊎ Member ms x.dep) (λ (x : Flight). Member gs x ⊎ Member ns x.dep) fs (λ x h. elim h [ inl m ↦ inl m | inr m ↦ inr (f x.dep m) ]) told

by-time : IsStrictWeakOrder (λ (a b : ℤ). is_lt (int_cmp a b))
by-time = ranks_by int_cmp_total (λ m. m)

turned-among : (fs : List Flight) (turns others : Turns) (ms ns : List ℤ) → ((m : ℤ) → Member ms m → Member ns m) → TellTurns fs turns others ms → TellTurns fs turns others ns
turned-among fs turns others ms ns f told =
    Each-map (λ (x : Flight). (turns_from turns x.id ≡ turns_from others x.id) ⊎ Member ms x.dep) (λ (x : Flight). (turns_from turns x.id ≡ turns_from others x.id) ⊎ Member ns x.dep) fs (λ x h. elim h [ inl m ↦ inl m | inr m ↦ inr (f x.dep m) ]) told

pub returns : goal.returns
returns c =
    let flights = c.args.flights.now in
    let others = c.args.others.now in
    let ms = c.add_changes.new.minutes.items in
    let ns = c.add_changes-2.new.minutes.items in
    let rs = c.add_turned.new.minutes.items in
    let sorted = c.sort_unstable.new.self.items in
    let kept = c.in_ok-add_turned.ensures.kept in
    let shuffled = λ (m : ℤ) (h : Member rs m). Member-shuffled rs sorted m c.sort_unstable.ensures.permutation h in
    record {
      come = among flights others rs sorted shuffled (among flights others ns rs kept (among flights others ms ns c.in_ok-add_changes-2.ensures.kept c.in_ok-add_changes.ensures.told));
      gone = among others flights rs sorted shuffled (among others flights ns rs kept c.in_ok-add_changes-2.ensures.told);
      turned = turned-among flights c.args.turns.now c.args.earlier.now rs sorted shuffled c.in_ok-add_turned.ensures.told;
      climb = λ i j d a b. not-later (get_or sorted i d) (get_or sorted j d) (sorted_far _ by-time sorted c.sort_unstable.ensures.sorted i j d a b);
    }
