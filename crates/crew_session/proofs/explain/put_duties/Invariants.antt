use Rattle.std.proofs.Common.{◌≡◌, ◌++◌, drop}
use Rattle.std.specs.Option.{option_map}
use Rattle.crew_session.specs.Explanations.{duties_after, duties_text}
use Rattle.crew_session.proofs.explain.put_duties.Given as goal

abbrev pub invariant-loop-place : goal.invariant-loop-place
invariant-loop-place l = l.line.items ++ duties_after l.first.report (option_map (λ d. d.now) l.before) (drop l.place l.duties) (drop l.place l.limits) ≡ l.fn.line.items ++ duties_text l.fn.duties l.fn.limits
