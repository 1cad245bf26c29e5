use Rattle.std.proofs.Common.{take}
use Rattle.crew_pool.specs.declared.label_walk.LabelWalk.{LabelWalk}
use Rattle.crew_resource.specs.Members.{Member}
use Rattle.crew_carry.specs.Spans.{StandsWithin}
use Rattle.crew_carry.proofs.span.Span.of.Given as goal

-- the labels so far
abbrev pub invariant-loop-label : goal.invariant-loop-label
invariant-loop-label g l = (m : g.row.R-Value.Denot × LabelWalk) → Member (take l.label-index l.label-items) m → StandsWithin l.span m.1.walk
