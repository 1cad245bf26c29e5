use Rattle.std.proofs.Common.{◌<◌, ◌-◌, arith, length}
use Rattle.crew_resource.proofs.Members.{Member-get}
use Rattle.crew_sweep.proofs.boardings.has_as_good.Goals as goal

pub bounds-positions-one : goal.bounds-positions-one
bounds-positions-one c =
    let place = length c.args.ranks.now - 1 - c.loop-back.back in
    let within : place < length c.args.ranks.now = omega (arith, c.loop-back-test.true) in
    let there = c.requires.ranks _ (Member-get c.args.ranks.now place 0 within) in
    omega (arith, there, c.requires.position)

pub is_as_good-requires-clause-first : goal.is_as_good-requires-clause-first
is_as_good-requires-clause-first c =
    let place = length c.args.ranks.now - 1 - c.loop-back.back in
    let within : place < length c.args.ranks.now = omega (arith, c.loop-back-test.true) in
    c.requires.ranks _ (Member-get c.args.ranks.now place 0 within)

pub returns-then-is_as_good : goal.returns-then-is_as_good
returns-then-is_as_good c _ =
    let place = length c.args.ranks.now - 1 - c.loop-back.back in
    let within : place < length c.args.ranks.now = omega (arith, c.loop-back-test.true) in
    (_, Member-get c.args.ranks.now place 0 within, c.is_as_good.ensures c.if-is_as_good.true)
