use Rattle.std.proofs.Common.{◌<◌, ℕ, List, arith, get_or, length, subst, sym}
use Rattle.std.proofs.lemmas.List.{take_all}
use Rattle.crew_resource.specs.Members.{Member}
use Rattle.crew_resource.proofs.Members.{Member-get}
use Rattle.crew_sweep.proofs.Marks.{less-more, marked-more}
use Rattle.crew_sweep.proofs.renewal.mark.Goals as goal

pub loop-rank-init : goal.loop-rank-init
loop-rank-init c = (λ p h. h, λ p h rank m. absurd m)

pub bounds-places-rank : goal.bounds-places-rank
bounds-places-rank c = c.requires.ranks _ (Member-get c.args.ranks.now c.loop-rank.rank-index 0 c.loop-rank-test.true)

pub bounds-changed-places : goal.bounds-changed-places
bounds-changed-places c =
    let there = c.requires.places _ (Member-get c.args.ranks.now c.loop-rank.rank-index 0 c.loop-rank-test.true) in
    let long = c.loop-rank.auto.changed in
    omega (arith, there, long)

pub loop-rank-preserved : goal.loop-rank-preserved
loop-rank-preserved c =
    let there = c.requires.places _ (Member-get c.args.ranks.now c.loop-rank.rank-index 0 c.loop-rank-test.true) in
    let long = c.loop-rank.auto.changed in
    let bound : get_or c.args.places.now (get_or c.args.ranks.now c.loop-rank.rank-index 0) 0 < length c.loop-rank.changed = omega (arith, there, long) in (
      less-more c.args.places.now c.args.ranks.now c.loop-rank.changed c.loop-rank.rank-index c.loop-rank-test.true bound c.args.changed.now c.loop-rank.invariant.0,
      marked-more c.args.places.now c.args.ranks.now c.loop-rank.changed c.loop-rank.rank-index c.loop-rank-test.true bound c.loop-rank.invariant.1,
    )

pub returns-clause-less : goal.returns-clause-less
returns-clause-less c = c.loop-rank.invariant.0

pub returns-clause-marked : goal.returns-clause-marked
returns-clause-marked c p h rank m at = c.loop-rank.invariant.1 p h rank (subst (λ (rs : List ℕ). Member rs rank) (sym (take_all c.loop-rank.rank-index c.args.ranks.now c.loop-rank-test.false)) m) at
