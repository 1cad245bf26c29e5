use Rattle.std.proofs.Common.{rules, ◌≡◌, ◌+◌, ◌/◌, ◌++◌, length, subst, ℕ}
use Rattle.crew_duty.specs.Machinery.Held.{held}
use Rattle.crew_duty.specs.Machinery.Counts.{AreCounts}
use Rattle.crew_pairing.specs.Machinery.Listing.{from_place}
use Rattle.crew_duty.proofs.Counts.{counts-append}
use Rattle.crew_duty.proofs.pieces.+count_in+fn-count_in-join_mut+arg3.Goals as goal

pub returns : goal.returns
returns g t c =
    let F = from_place c.args.plan.now.settings.now (held c.args.plan.now) in
    let from = c.args.from in
    let m = length c.split_at_mut-front.result.0.now in
    let n = length c.split_at_mut-front.result.1.now in
    let front : AreCounts F from m c.front-1.given.0 = search rules in
    let middle : m ≡ length c.args.counts.now / c.args.pieces = search rules in
    let back : AreCounts F (from + length c.args.counts.now / c.args.pieces) n c.back-1.given.0 = search rules in
    let whole : m + n ≡ length c.args.counts.now = search rules in
    subst (λ (k : ℕ). AreCounts F from k (c.front-1.given.0 ++ c.back-1.given.0)) whole (counts-append F from m n c.front-1.given.0 c.back-1.given.0 front (rw middle back))

pub join_mut-these-requires-after_bounds : goal.join_mut-these-requires-after_bounds
join_mut-these-requires-after_bounds g t c = search rules

pub split_at_mut-front-requires : goal.split_at_mut-front-requires
split_at_mut-front-requires g t c = search rules

pub overflow_sub-others : goal.overflow_sub-others
overflow_sub-others g t c = search rules

pub returns-then-pieces-lt2 : goal.returns-then-pieces-lt2
returns-then-pieces-lt2 g t c = search rules

pub count_piece-requires-clause-plan : goal.count_piece-requires-clause-plan
count_piece-requires-clause-plan g t c = search rules

pub count_piece-requires-clause-within : goal.count_piece-requires-clause-within
count_piece-requires-clause-within g t c = search rules

pub join_mut+arg3-count_in-requires-clause-within : goal.join_mut+arg3-count_in-requires-clause-within
join_mut+arg3-count_in-requires-clause-within g t c = search rules

pub join_mut+arg3-overflow_add-from : goal.join_mut+arg3-overflow_add-from
join_mut+arg3-overflow_add-from g t c = search rules

pub join_mut+arg3-returns : goal.join_mut+arg3-returns
join_mut+arg3-returns g t c = search rules
