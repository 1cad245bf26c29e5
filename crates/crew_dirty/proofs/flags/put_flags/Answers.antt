use Rattle.std.proofs.Common.{◌<◌, ◌∙◌, ◌&&◌, arith, false, get_or, length, ℕ}
use Rattle.std.proofs.lemmas.List.{length-set}
use Rattle.crew_resource.proofs.Members.{Member-get}
use Rattle.crew_dirty.proofs.Flagged.{flags-elsewhere, flags-there}
use Rattle.crew_dirty.proofs.flags.put_flags.Goals as goal

pub bounds-others-rank : goal.bounds-others-rank
bounds-others-rank c = c.requires.others (get_or c.args.ranks.now c.loop-rank.rank-index 0) (Member-get c.args.ranks.now c.loop-rank.rank-index 0 c.loop-rank-test.true)

pub bounds-flags-rank : goal.bounds-flags-rank
bounds-flags-rank c =
    let within = c.requires.ranks (get_or c.args.ranks.now c.loop-rank.rank-index 0) (Member-get c.args.ranks.now c.loop-rank.rank-index 0 c.loop-rank-test.true) in
    let long = c.loop-rank.invariant.0 in
    omega (arith, within, long)

pub loop-rank-preserved : goal.loop-rank-preserved
loop-rank-preserved c =
    let first = c.args.flags.now in
    let flags = c.loop-rank.flags in
    let ranks = c.args.ranks.now in
    let i = c.loop-rank.rank-index in
    let h = c.loop-rank-test.true in
    let within = c.requires.ranks (get_or ranks i 0) (Member-get ranks i 0 h) in
    let long = c.loop-rank.invariant.0 in
    let bound : get_or ranks i 0 < length flags = omega (arith, within, long) in
    let value = λ (rank : ℕ). c.args.leave && get_or c.args.others.now rank false in (
      length-set flags (get_or ranks i 0) (value (get_or ranks i 0)) ∙ long,
      flags-there first flags ranks i value h bound c.loop-rank.invariant.1,
      flags-elsewhere first flags ranks i value h bound c.loop-rank.invariant.2,
    )
