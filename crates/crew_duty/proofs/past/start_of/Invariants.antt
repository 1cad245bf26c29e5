use Rattle.std.proofs.Common.{◌-◌, ◌≤◌, ◌<◌, ℕ, get_or, length}
use Rattle.crew_pairing.specs.declared.duty.Duty.{Duty}
use Rattle.crew_duty.specs.Machinery.Kept.{first_of}
use Rattle.crew_duty.proofs.past.start_of.Given as goal

abbrev pub invariant-loop-low : goal.invariant-loop-low
invariant-loop-low l = record {
  ordered : l.low ≤ l.high;
  within : l.high ≤ length l.duties;
  before : (k : ℕ) (d : Duty) → k < l.low → first_of (get_or l.duties k d).key < l.number;
  after : (k : ℕ) (d : Duty) → l.high ≤ k → k < length l.duties → l.number ≤ first_of (get_or l.duties k d).key;
}

abbrev pub decreases-loop-low : goal.decreases-loop-low
decreases-loop-low l = l.high - l.low
