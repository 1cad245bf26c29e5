use Rattle.std.proofs.Common.{refl}
use borrow.Author.Rules.{sfits_of}
use Rattle.crew_label.specs.Machinery.Marks.{are_at_most, mark_at}
use Rattle.crew_label.proofs.Marked.{and_true, le_read}
use Rattle.crew_label.proofs.marks.lesser.Goals as goal

pub returns-clause-first : goal.returns-clause-first
unfolding are_at_most
returns-clause-first c =
    and_true (and_true (and_true (and_true (and_true (and_true (and_true (and_true (and_true (and_true (and_true (and_true (and_true (and_true (and_true (and_true (refl)
    (le_read c.min.result (mark_at 0 c.args.a.now) (record { sfits = c.min.type_inv }) (search sfits_of) c.min.ensures.self_bound))
    (le_read c.min-2.result (mark_at 1 c.args.a.now) (record { sfits = c.min-2.type_inv }) (search sfits_of) c.min-2.ensures.self_bound))
    (le_read c.min-3.result (mark_at 2 c.args.a.now) (record { sfits = c.min-3.type_inv }) (search sfits_of) c.min-3.ensures.self_bound))
    (le_read c.min-4.result (mark_at 3 c.args.a.now) (record { sfits = c.min-4.type_inv }) (search sfits_of) c.min-4.ensures.self_bound))
    (le_read c.min-5.result (mark_at 4 c.args.a.now) (record { sfits = c.min-5.type_inv }) (search sfits_of) c.min-5.ensures.self_bound))
    (le_read c.min-6.result (mark_at 5 c.args.a.now) (record { sfits = c.min-6.type_inv }) (search sfits_of) c.min-6.ensures.self_bound))
    (le_read c.min-7.result (mark_at 6 c.args.a.now) (record { sfits = c.min-7.type_inv }) (search sfits_of) c.min-7.ensures.self_bound))
    (le_read c.min-8.result (mark_at 7 c.args.a.now) (record { sfits = c.min-8.type_inv }) (search sfits_of) c.min-8.ensures.self_bound))
    (le_read c.min-9.result (mark_at 8 c.args.a.now) (record { sfits = c.min-9.type_inv }) (search sfits_of) c.min-9.ensures.self_bound))
    (le_read c.min-10.result (mark_at 9 c.args.a.now) (record { sfits = c.min-10.type_inv }) (search sfits_of) c.min-10.ensures.self_bound))
    (le_read c.min-11.result (mark_at 10 c.args.a.now) (record { sfits = c.min-11.type_inv }) (search sfits_of) c.min-11.ensures.self_bound))
    (le_read c.min-12.result (mark_at 11 c.args.a.now) (record { sfits = c.min-12.type_inv }) (search sfits_of) c.min-12.ensures.self_bound))
    (le_read c.min-13.result (mark_at 12 c.args.a.now) (record { sfits = c.min-13.type_inv }) (search sfits_of) c.min-13.ensures.self_bound))
    (le_read c.min-14.result (mark_at 13 c.args.a.now) (record { sfits = c.min-14.type_inv }) (search sfits_of) c.min-14.ensures.self_bound))
    (le_read c.min-15.result (mark_at 14 c.args.a.now) (record { sfits = c.min-15.type_inv }) (search sfits_of) c.min-15.ensures.self_bound))
    (le_read c.min-16.result (mark_at 15 c.args.a.now) (record { sfits = c.min-16.type_inv }) (search sfits_of) c.min-16.ensures.self_bound)

pub returns-clause-second : goal.returns-clause-second
unfolding are_at_most
returns-clause-second c =
    and_true (and_true (and_true (and_true (and_true (and_true (and_true (and_true (and_true (and_true (and_true (and_true (and_true (and_true (and_true (and_true (refl)
    (le_read c.min.result (mark_at 0 c.args.b.now) (record { sfits = c.min.type_inv }) (search sfits_of) c.min.ensures.other_bound))
    (le_read c.min-2.result (mark_at 1 c.args.b.now) (record { sfits = c.min-2.type_inv }) (search sfits_of) c.min-2.ensures.other_bound))
    (le_read c.min-3.result (mark_at 2 c.args.b.now) (record { sfits = c.min-3.type_inv }) (search sfits_of) c.min-3.ensures.other_bound))
    (le_read c.min-4.result (mark_at 3 c.args.b.now) (record { sfits = c.min-4.type_inv }) (search sfits_of) c.min-4.ensures.other_bound))
    (le_read c.min-5.result (mark_at 4 c.args.b.now) (record { sfits = c.min-5.type_inv }) (search sfits_of) c.min-5.ensures.other_bound))
    (le_read c.min-6.result (mark_at 5 c.args.b.now) (record { sfits = c.min-6.type_inv }) (search sfits_of) c.min-6.ensures.other_bound))
    (le_read c.min-7.result (mark_at 6 c.args.b.now) (record { sfits = c.min-7.type_inv }) (search sfits_of) c.min-7.ensures.other_bound))
    (le_read c.min-8.result (mark_at 7 c.args.b.now) (record { sfits = c.min-8.type_inv }) (search sfits_of) c.min-8.ensures.other_bound))
    (le_read c.min-9.result (mark_at 8 c.args.b.now) (record { sfits = c.min-9.type_inv }) (search sfits_of) c.min-9.ensures.other_bound))
    (le_read c.min-10.result (mark_at 9 c.args.b.now) (record { sfits = c.min-10.type_inv }) (search sfits_of) c.min-10.ensures.other_bound))
    (le_read c.min-11.result (mark_at 10 c.args.b.now) (record { sfits = c.min-11.type_inv }) (search sfits_of) c.min-11.ensures.other_bound))
    (le_read c.min-12.result (mark_at 11 c.args.b.now) (record { sfits = c.min-12.type_inv }) (search sfits_of) c.min-12.ensures.other_bound))
    (le_read c.min-13.result (mark_at 12 c.args.b.now) (record { sfits = c.min-13.type_inv }) (search sfits_of) c.min-13.ensures.other_bound))
    (le_read c.min-14.result (mark_at 13 c.args.b.now) (record { sfits = c.min-14.type_inv }) (search sfits_of) c.min-14.ensures.other_bound))
    (le_read c.min-15.result (mark_at 14 c.args.b.now) (record { sfits = c.min-15.type_inv }) (search sfits_of) c.min-15.ensures.other_bound))
    (le_read c.min-16.result (mark_at 15 c.args.b.now) (record { sfits = c.min-16.type_inv }) (search sfits_of) c.min-16.ensures.other_bound)
