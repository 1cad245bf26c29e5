use Rattle.std.proofs.Common.{◌≡◌, ◌∙◌, sym, true≢false}
use Rattle.std.proofs.lemmas.Option.{get_or_from_slice_get}
use Rattle.crew_job.proofs.FoundDuties.{at-key}
use Rattle.crew_job.proofs.before.duty_rank.Goals as goal

pub returns-else-is_same_duty : goal.returns-else-is_same_duty
returns-else-is_same_duty c = λ m.
    let ds = c.args.net.now.duties in
    let d = c.args.duty.now in
    let rank = c.in_ok-rank.rank in
    let x = c.duty.result.now in
    let at = at-key ds c.duty_count-count.ensures.rising d rank c.rank_of_key.result c.in_ok-rank.was c.rank_of_key.ensures m in
    let same : x ≡ d = sym (get_or_from_slice_get ds rank x x c.duty.ensures) ∙ get_or_from_slice_get ds rank d x at in
    true≢false (sym (c.is_same_duty.ensures.1 same) ∙ c.if-is_same_duty.false)
