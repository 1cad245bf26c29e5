use Rattle.std.proofs.Common.{◌≡◌, ◌∙◌, ◌<◌, ◌≤◌, ◌++◌, Some, ap, arith, length, map, subst, sym, take}
use Rattle.std.specs.Arc.{arc_value}
use Rattle.std.specs.List.{flat_map}
use Rattle.crew_solve.proofs.Choosing.{again-in-order, all-whole, more-each, still-whole}
use Rattle.crew_solve.proofs.Taking.{Whole, whole-begun}
use Rattle.crew_solve.specs.Machinery.Floors.{AreKnown}
use Rattle.crew_solve.proofs.Flooring.{written}
use Rattle.crew_solve.specs.Machinery.Homes.{home_of}
use Rattle.crew_solve.specs.Machinery.Keeps.{least_beside}
use Rattle.crew_solve.specs.Machinery.Takes.{Taken}
use Rattle.crew_sweep.specs.Sweeps.{BaseSweep}
use Rattle.crew_solve.proofs.apart.apart_of.Goals as goal

pub loop-alloc-init : goal.loop-alloc-init
loop-alloc-init c = record {
  share = ap (λ (t : Taken). t.share) c.in_ok-taken.ensures;
  some = omega arith;
  known = c.in_ok-known.ensures (Some c.in_ok-taken.taken);
  whole = λ all are. ap (Whole all) c.in_ok-taken.ensures ∙ whole-begun c.args.share all;
}

pub returns-then-found-many : goal.returns-then-found-many
returns-then-found-many c = λ all are.
    let homes = flat_map home_of (map (arc_value {X = BaseSweep}) c.args.fronts.now) in
    let many = c.loop-alloc.many in
    let t = c.loop-alloc.taken in
    let next = c.in_ok-next.next in
    let look = c.in_ok-next.ensures.look in
    let seen = look.again ++ homes in
    let few : length (least_beside many t seen) < many = omega (arith, c.if-found-many.true, look.count) in
    let each = again-in-order look.again homes all look.among are in
    let whole = still-whole seen all each many t next look.taken ∙ c.loop-alloc.invariant.whole all are in
    c.into_first.ensures ∙ ap (take c.args.limit) (all-whole seen all each many t next look.taken few ∙ whole)

pub loop-alloc-smaller : goal.loop-alloc-smaller
loop-alloc-smaller c =
    let homes = flat_map home_of (map (arc_value {X = BaseSweep}) c.args.fronts.now) in
    let many = c.loop-alloc.many in
    let t = c.loop-alloc.taken in
    let next = c.in_ok-next.next in
    let look = c.in_ok-next.ensures.look in
    let seen = look.again ++ homes in
    let full : many ≤ length (least_beside many t seen) = omega (arith, c.if-found-many.false, look.count) in
    let more = more-each many t next seen look.taken c.loop-alloc.invariant.some full in
    let test : length t.pairings < c.args.limit = omega (arith, c.loop-alloc-test.true, c.len.ensures) in
    omega (arith, more, test)

pub loop-alloc-preserved : goal.loop-alloc-preserved
loop-alloc-preserved c =
    let homes = flat_map home_of (map (arc_value {X = BaseSweep}) c.args.fronts.now) in
    let many = c.loop-alloc.many in
    let t = c.loop-alloc.taken in
    let next = c.in_ok-next.next in
    let look = c.in_ok-next.ensures.look in
    let seen = look.again ++ homes in
    let ss = map (arc_value {X = BaseSweep}) c.args.fronts.now in
    let long : c.loop-alloc.known.len ≡ length c.take_next.new.known = omega (arith, c.loop-alloc.known.ok.0, c.loop-alloc.invariant.known.many, c.in_ok-next.ensures.known.many) in
    record {
      share = ap (λ (x : Taken). x.share) look.taken ∙ c.loop-alloc.invariant.share;
      some = c.more_than-many.ensures;
      known = subst (AreKnown (Some next) ss) (sym (written c.loop-alloc.known.len c.take_next.new.known _ long)) c.in_ok-next.ensures.known;
      whole = λ all are. still-whole seen all (again-in-order look.again homes all look.among are) many t next look.taken ∙ c.loop-alloc.invariant.whole all are;
    }
