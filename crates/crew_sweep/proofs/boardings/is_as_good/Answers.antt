use Rattle.std.proofs.Common.{◌≡◌, not, subst, true}
use Rattle.std.proofs.lemmas.Bool.{false≢true}
use Rattle.crew_resource.proofs.Members.{Member-at}
use Rattle.crew_sweep.proofs.AsGood.{as-good}
use Rattle.crew_sweep.proofs.boardings.is_as_good.Goals as goal

pub takes_no_more-requires-clause-one : goal.takes_no_more-requires-clause-one
takes_no_more-requires-clause-one c = c.requires.sound c.at-one.result.now (Member-at c.args.duties.now c.args.first c.at-one.result.now c.at-one.ensures)

pub takes_no_more-requires-clause-other : goal.takes_no_more-requires-clause-other
takes_no_more-requires-clause-other c = c.requires.sound c.at-other.result.now (Member-at c.args.duties.now c.args.second c.at-other.result.now c.at-other.ensures)

pub takes_no_more-requires-else-first-second-clause-one : goal.takes_no_more-requires-else-first-second-clause-one
takes_no_more-requires-else-first-second-clause-one c = c.requires.sound c.at-other.result.now (Member-at c.args.duties.now c.args.second c.at-other.result.now c.at-other.ensures)

pub takes_no_more-requires-else-first-second-clause-other : goal.takes_no_more-requires-else-first-second-clause-other
takes_no_more-requires-else-first-second-clause-other c = c.requires.sound c.at-one.result.now (Member-at c.args.duties.now c.args.first c.at-one.result.now c.at-one.ensures)

pub returns-then-first-second : goal.returns-then-first-second
returns-then-first-second c h =
    as-good c.args.duties.now c.args.positions.now c.args.first c.args.second c.at-one.result.now c.at-other.result.now c.at-one.ensures c.at-other.ensures
    c.if-positions-first.false (c.takes_no_more.ensures.0 c.if-not-takes_no_more.false) (λ _. c.if-first-second.true)

pub returns-else-first-second : goal.returns-else-first-second
returns-else-first-second c h =
    as-good c.args.duties.now c.args.positions.now c.args.first c.args.second c.at-one.result.now c.at-other.result.now c.at-one.ensures c.at-other.ensures
    c.if-positions-first.false (c.takes_no_more.ensures.0 c.if-not-takes_no_more.false)
    (λ k. absurd (false≢true (subst (λ b. not b ≡ true) (c.takes_no_more-else-first-second.ensures.1 k) h)))
