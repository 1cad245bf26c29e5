use Rattle.std.proofs.Common.{◌∙◌, ap, sym}
use Rattle.std.specs.Ordering.{nat_cmp, ordering_then}
use Rattle.std.specs.Cmp.Lexicographic.{slice_cmp}
use Rattle.crew_pool.specs.Arena.{walk_at}
use Rattle.crew_pool.proofs.LabelWalkLemmas.{tails_cmp}
use Rattle.crew_pool.proofs.label_walk.compare_label_walks.Goals as goal

pub returns : goal.returns
returns c =
    let ws = c.args.walks.now in
    c.then.ensures
    ∙ (ap (λ o. ordering_then o c.cmp.result) c.compare.ensures
    ∙ (ap (ordering_then (slice_cmp nat_cmp (walk_at ws c.args.a.walk) (walk_at ws c.args.b.walk))) c.cmp.ensures
    ∙ sym (tails_cmp ws c.args.a c.args.b c.requires)))
