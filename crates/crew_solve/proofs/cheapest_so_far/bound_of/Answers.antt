use Rattle.std.proofs.Common.{◌≡◌, ap, arith, false, length}
use Rattle.std.specs.Prelude.{◌<ℤ◌}
use Rattle.std.specs.Ordering.{is_lt}
use Rattle.std.proofs.lemmas.Int.{ints}
use Rattle.crew_resource.proofs.Lists.{Member-All}
use Rattle.crew_solve.specs.Cheapest.{pairing_cmp}
use Rattle.crew_solve.proofs.Keeping.{dearer, keep-none}
use Rattle.crew_solve.proofs.cheapest_so_far.bound_of.Goals as goal

pub returns-in-Some : goal.returns-in-Some
returns-in-Some c = λ beside p more.
    let last = c.in-Some.last.now in
    let keys = c.args.pairings.now.keys in
    let full : length keys ≡ c.args.limit = omega (arith, c.requires, c.if-len-limit.false, c.len.ensures.len) in
    let same = ap (λ z. z.cost) c.last-in-Some.view_is in
    let dear : last.cost <ℤ p.cost = omega (arith, ints, more, same) in
    keep-none (record { limit = c.args.limit; beside = beside; pairings = keys }) p full (λ q m. dearer last p q (Member-All (λ z. is_lt (pairing_cmp last z) ≡ false) _ q c.in-Some.ensures.all_up_to m) dear)
