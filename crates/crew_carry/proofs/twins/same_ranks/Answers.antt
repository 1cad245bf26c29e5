use Rattle.std.proofs.Common.{Some, arith, refl}
use Rattle.std.proofs.lemmas.Option.{slice_get_within}
use Rattle.crew_carry.proofs.Arriving.{rises}
use Rattle.crew_carry.proofs.Ties.{key-tie}
use Rattle.crew_carry.proofs.twins.same_ranks.Goals as goal

pub returns : goal.returns
returns c =
    let inv = c.loop-rank.invariant in
    let olds = c.args.olds.now in
    let news = c.args.news.now in
    record {
      there = inv.1;
      all = λ ro rn few r k d at-old at-new.
          let twin = c.requires.all (rises olds ro) (rises news rn) few r k (d, d, at-old, at-new, key-tie d d refl) in
          inv.2 r k d (let w = slice_get_within c.args.ranks.now r (Some k) twin in omega (arith, w, c.loop-rank-test.false)) twin at-old at-new;
    }
