use Rattle.crew_board.proofs.OnePlan.{one-plan-of}
use Rattle.crew_job.specs.Grounds.{data_of}
use Rattle.crew_board.proofs.alike.likeness_of.Goals as goal

pub returns-then-are_of_one_round : goal.returns-then-are_of_one_round
returns-then-are_of_one_round c =
    let same = c.is_same_data.ensures.0 c.if-not-is_same_data.false in
    let one = c.args.one.now in
    let other = c.args.other.now in
    record {
      same = record { settings = same.0; timetable = same.1 };
      plan = one-plan-of one.settings other.settings (data_of one) (data_of other) one.plan other.plan same.0 same.1 c.net-own.ensures.ground.planned c.net-others.ensures.ground.planned (c.are_of_one_round.ensures.order c.if-are_of_one_round.true);
      sealed = c.are_of_one_round.ensures.sealed c.if-are_of_one_round.true;
    }

pub returns-else-are_of_one_round : goal.returns-else-are_of_one_round
returns-else-are_of_one_round c =
    let same = c.is_same_data.ensures.0 c.if-not-is_same_data.false in
    record { settings = same.0; timetable = same.1 }
