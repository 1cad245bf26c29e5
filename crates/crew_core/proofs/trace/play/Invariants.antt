use Rattle.std.proofs.Common.{take}
use Rattle.crew_core.proofs.Played.{IsPlayed}
use Rattle.crew_core.specs.Replies.{acts_of}
use Rattle.crew_core.proofs.trace.play.Given as goal

-- the steps so far are played
abbrev pub invariant-loop-step : goal.invariant-loop-step
invariant-loop-step g l = IsPlayed l.settings (acts_of (take l.step-index l.steps)) l.replies.items l.machine
