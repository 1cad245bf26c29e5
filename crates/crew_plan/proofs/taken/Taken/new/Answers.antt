use Rattle.std.proofs.Common.{◌∙◌, ap, sym}
use Rattle.std.specs.Prelude.{count_by}
use Rattle.crew_fronts.specs.crew_solve.Apart.{flies}
use Rattle.crew_plan.proofs.taken.Taken.new.Goals as goal

pub invariant_of-result : goal.invariant_of-result
invariant_of-result c = (c.in_ok-counts.ensures.long, λ f. c.in_ok-counts.ensures.none f ∙ sym (ap (count_by (flies f)) c.new.ensures.items))
