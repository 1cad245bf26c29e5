use Rattle.std.proofs.Common.{◌≡◌, ◌-ℤ◌, arith, of_z, to_z, w32, w64}
use Rattle.std.proofs.lemmas.Int.{ints}
use Rattle.crew_explain.proofs.Added.{item-in-range}
use Rattle.crew_explain.proofs.Asking.{free-hit, free-pass}
use Rattle.crew_explain.proofs.ReadWindows.{ended-in-range}
use Rattle.crew_explain.proofs.limits.free_times_breach.Goals as goal

pub returns-then-found-gt-MOST_SINCE_REST : goal.returns-then-found-gt-MOST_SINCE_REST
returns-then-found-gt-MOST_SINCE_REST c =
    let v = c.loop-next.invariant in
    let next = c.next-item.result in
    let r = item-in-range c.args.others.now c.loop-next.next-index next c.requires.ranges.1 c.loop-next-test.true c.next-item.is in
    let ended = ended-in-range (to_z w32 c.loop-next.rested-bits) c.loop-next.last.now next c.rest_end-rested.result v.least v.most r c.rest_end-rested.ensures in
    let minutes : to_z w64 (of_z w64 (to_z w64 (of_z w64 c.from.result) -ℤ to_z w64 (of_z w64 c.from-in-loop-next.result))) ≡ next.report -ℤ c.rest_end-rested.result =
    omega (arith, ints, c.from.ensures, c.from-in-loop-next.ensures, r.report, r.report_most, ended) in
    free-hit c.loop-next.place (to_z w32 c.loop-next.rested-bits) c.rest_end-rested.result _ c.loop-next.last.now next c.args.others.now c.loop-next.next-index _ v.rest c.loop-next-test.true c.next-item.is
    c.rest_end-rested.ensures minutes (omega (arith, ints, c.if-found-gt-MOST_SINCE_REST.true))

pub loop-next-preserved : goal.loop-next-preserved
loop-next-preserved c =
    let v = c.loop-next.invariant in
    let next = c.next-item.result in
    let r = item-in-range c.args.others.now c.loop-next.next-index next c.requires.ranges.1 c.loop-next-test.true c.next-item.is in
    let ended = ended-in-range (to_z w32 c.loop-next.rested-bits) c.loop-next.last.now next c.rest_end-rested.result v.least v.most r c.rest_end-rested.ensures in
    let minutes : to_z w64 (of_z w64 (to_z w64 (of_z w64 c.from.result) -ℤ to_z w64 (of_z w64 c.from-in-loop-next.result))) ≡ next.report -ℤ c.rest_end-rested.result =
    omega (arith, ints, c.from.ensures, c.from-in-loop-next.ensures, r.report, r.report_most, ended) in
    let read : to_z w32 (of_z w32 c.rest_end-rested.result) ≡ c.rest_end-rested.result = omega (arith, ints, ended) in
    let rest = free-pass c.loop-next.place (to_z w32 c.loop-next.rested-bits) c.rest_end-rested.result _ c.loop-next.last.now next c.args.others.now c.loop-next.next-index _ v.rest c.loop-next-test.true c.next-item.is
    c.rest_end-rested.ensures minutes (omega (arith, ints, c.if-found-gt-MOST_SINCE_REST.false)) in
    record { rest = rw read rest; place = omega (arith, v.place); range = r; least = omega (arith, ints, ended); most = omega (arith, ints, ended) }
