use Rattle.std.proofs.Common.{get_or, subst, sym}
use Rattle.std.proofs.lemmas.Option.{slice_get-get_or}
use Rattle.crew_numbers.proofs.Takes.{AreRanked, ranked-more, ranked-none}
use Rattle.crew_numbers.proofs.taking.ranks_of.Goals as goal

pub loop-rank-init : goal.loop-rank-init
loop-rank-init c = subst (AreRanked c.args.numbers.now c.args.end 0) (sym (c.in_ok-ranks.ensures.items_if_clones_equal (λ y e. e))) (ranked-none c.args.numbers.now c.args.end)

pub loop-rank-preserved : goal.loop-rank-preserved
loop-rank-preserved c =
    let numbers = c.args.numbers.now in
    let i = c.loop-rank.rank in
    let read = slice_get-get_or numbers i 0 c.loop-rank-test.true in
    let n = get_or numbers i 0 in
    ranked-more numbers c.args.end i n c.loop-rank.ranks.items c.requires.apart (c.requires.below i n read) read c.loop-rank.invariant
