use Rattle.std.proofs.Common.{◌∙◌, true, List, ap, arith, length, subst, sym}
use Rattle.std.proofs.lemmas.List.{length_push}
use Rattle.crew_board.proofs.Each.{unless-failed, claims-ground, claims-more}
use Rattle.crew_board.specs.Machinery.Turns.{ClaimsEach, HasAdded}
use Rattle.crew_job.proofs.Lots.{stand-more}
use Rattle.crew_job.specs.Grounds.{Ground}
use Rattle.crew_job.specs.Jobs.{Job}
use Rattle.crew_job.specs.Lots.{StandOn}
use Rattle.crew_board.proofs.round.Round.fill.Goals as goal

pub loop-alloc-preserved : goal.loop-alloc-preserved
loop-alloc-preserved c =
    let old = c.loop-alloc.self in
    let jobs = c.loop-alloc.lot in
    let new = c.claim_at.new.self in
    let more = c.claim_at.new.lot in
    let was = c.loop-alloc.invariant in
    let h = unless-failed c.claim_at.result (HasAdded old jobs true new more) c.if-is_err.ensures.value c.claim_at.ensures.ok in
    let ground = claims-ground old h.0 new h.1 in
    let stand : StandOn new.ground more = subst (StandOn new.ground) (sym h.2) (stand-more new.ground jobs h.0 (subst (λ (g : Ground). StandOn g jobs) (sym ground) was.0) (h.1.ground ∙ sym ground)) in
    let long = ap length h.2 ∙ length_push jobs h.0 in
    let grown = was.1 in
    let len = c.len.ensures in
    let test = c.loop-alloc-test.true in (
      stand,
      omega (arith, long, grown),
      omega (arith, long, len, test),
      λ start e. subst (λ (l : List Job). ClaimsEach start l new) (sym h.2) (claims-more start old new jobs h.0 (was.3 start e) h.1),
    )
