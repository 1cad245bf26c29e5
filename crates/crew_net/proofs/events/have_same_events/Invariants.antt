use Rattle.std.proofs.Common.{take}
use Rattle.crew_net.specs.Machinery.Held.{HaveSameEvents}
use Rattle.crew_net.proofs.events.have_same_events.Given as goal

-- the duties so far leave and arrive alike
abbrev pub invariant-loop-rank : goal.invariant-loop-rank
invariant-loop-rank l = HaveSameEvents (take l.rank l.before) (take l.rank l.after)
