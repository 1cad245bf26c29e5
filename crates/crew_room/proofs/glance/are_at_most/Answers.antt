use Rattle.std.proofs.Common.{true, rules, refl}
use Rattle.crew_pool.specs.Marks.{are_at_most, mark_at}
use Rattle.crew_pool.proofs.MarkLemmas.{and_same, le_same}
use Rattle.crew_room.proofs.glance.are_at_most.Goals as goal

pub returns : goal.returns
unfolding are_at_most
returns c =
    and_same (and_same (and_same (and_same {a = true} {b = true} (refl)
    (le_same (mark_at 0 c.args.a.now) (mark_at 0 c.args.b.now) (search rules) (search rules)))
    (le_same (mark_at 1 c.args.a.now) (mark_at 1 c.args.b.now) (search rules) (search rules)))
    (le_same (mark_at 2 c.args.a.now) (mark_at 2 c.args.b.now) (search rules) (search rules)))
    (le_same (mark_at 3 c.args.a.now) (mark_at 3 c.args.b.now) (search rules) (search rules))
