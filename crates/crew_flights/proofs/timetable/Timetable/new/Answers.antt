use Rattle.std.proofs.Common.{sym, subst}
use Rattle.std.specs.Ordering.{nat_cmp}
use Rattle.crew_flights.specs.Codes.{code_cmp, pair_cmp}
use Rattle.crew_flights.specs.Timetable.{IsSound}
use Rattle.crew_flights.proofs.Maps.{seen_empty}
use Rattle.crew_flights.proofs.Soundness.{empty_sound}
use Rattle.crew_flights.proofs.timetable.Timetable.new.Goals as goal

pub returns : goal.returns
returns c = λ i. record { flights = seen_empty nat_cmp c.new.result.entries c.new.ensures.empty i; bases = seen_empty code_cmp c.new-2.result.entries c.new-2.ensures.empty i; turns = seen_empty pair_cmp c.new-3.result.entries c.new-3.ensures.empty i; follows = (c.new-4.ensures i).follows; leads = (c.new-4.ensures i).leads }

pub invariant_of-result : goal.invariant_of-result
invariant_of-result c = record {
  flights_ordered = c.new.ensures.ordered;
  bases_ordered = c.new-2.ensures.ordered;
  turns_ordered = c.new-3.ensures.ordered;
  sound = subst IsSound (sym (returns c)) empty_sound;
}
