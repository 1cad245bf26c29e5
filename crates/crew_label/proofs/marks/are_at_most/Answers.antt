use Rattle.std.proofs.Common.{true, refl}
use borrow.Author.Rules.{sfits_of}
use Rattle.crew_label.specs.Machinery.Marks.{are_at_most, mark_at}
use Rattle.crew_label.proofs.Marked.{and_same, le_same}
use Rattle.crew_label.proofs.marks.are_at_most.Goals as goal

pub returns : goal.returns
unfolding are_at_most
returns c =
    and_same (and_same (and_same (and_same (and_same (and_same (and_same (and_same (and_same (and_same (and_same (and_same (and_same (and_same (and_same (and_same {a = true} {b = true} (refl)
    (le_same (mark_at 0 c.args.a.now) (mark_at 0 c.args.b.now) (search sfits_of) (search sfits_of)))
    (le_same (mark_at 1 c.args.a.now) (mark_at 1 c.args.b.now) (search sfits_of) (search sfits_of)))
    (le_same (mark_at 2 c.args.a.now) (mark_at 2 c.args.b.now) (search sfits_of) (search sfits_of)))
    (le_same (mark_at 3 c.args.a.now) (mark_at 3 c.args.b.now) (search sfits_of) (search sfits_of)))
    (le_same (mark_at 4 c.args.a.now) (mark_at 4 c.args.b.now) (search sfits_of) (search sfits_of)))
    (le_same (mark_at 5 c.args.a.now) (mark_at 5 c.args.b.now) (search sfits_of) (search sfits_of)))
    (le_same (mark_at 6 c.args.a.now) (mark_at 6 c.args.b.now) (search sfits_of) (search sfits_of)))
    (le_same (mark_at 7 c.args.a.now) (mark_at 7 c.args.b.now) (search sfits_of) (search sfits_of)))
    (le_same (mark_at 8 c.args.a.now) (mark_at 8 c.args.b.now) (search sfits_of) (search sfits_of)))
    (le_same (mark_at 9 c.args.a.now) (mark_at 9 c.args.b.now) (search sfits_of) (search sfits_of)))
    (le_same (mark_at 10 c.args.a.now) (mark_at 10 c.args.b.now) (search sfits_of) (search sfits_of)))
    (le_same (mark_at 11 c.args.a.now) (mark_at 11 c.args.b.now) (search sfits_of) (search sfits_of)))
    (le_same (mark_at 12 c.args.a.now) (mark_at 12 c.args.b.now) (search sfits_of) (search sfits_of)))
    (le_same (mark_at 13 c.args.a.now) (mark_at 13 c.args.b.now) (search sfits_of) (search sfits_of)))
    (le_same (mark_at 14 c.args.a.now) (mark_at 14 c.args.b.now) (search sfits_of) (search sfits_of)))
    (le_same (mark_at 15 c.args.a.now) (mark_at 15 c.args.b.now) (search sfits_of) (search sfits_of))
