use Rattle.std.proofs.Common.{◌<◌, arith, get_or, length}
use Rattle.crew_net.proofs.Numbers.{get-within}
use Rattle.crew_resource.proofs.Members.{Member-get}
use Rattle.crew_pass.proofs.Twinned.{none-paired, one-paired}
use Rattle.crew_pass.proofs.twins.are_paired.Goals as goal

pub bounds-duties-ranks : goal.bounds-duties-ranks
bounds-duties-ranks c =
    let k = c.loop-k.k in
    c.requires (get_or c.args.ranks.now k 0) (Member-get c.args.ranks.now k 0 c.loop-k-test.true)

pub loop-k-init : goal.loop-k-init
loop-k-init c = none-paired c.args.duties.now c.args.ranks.now c.args.others.now

pub loop-k-preserved : goal.loop-k-preserved
loop-k-preserved c =
    let k = c.loop-k.k in
    let duties = c.args.duties.now in
    let ranks = c.args.ranks.now in
    let others = c.args.others.now in
    let within : k < length others = omega (arith, c.loop-k-test.true) in
    let there = c.requires (get_or ranks k 0) (Member-get ranks k 0 c.loop-k-test.true) in
    one-paired duties ranks others k c.loop-k-test.true within there c.if-duties-ranks.false c.loop-k.invariant

pub returns : goal.returns
returns c _ =
    let ranks = c.args.ranks.now in
    record {
      long = omega arith;
      each = λ k rank other p q. c.loop-k.invariant k rank other (let l = get-within ranks k rank p in omega (arith, l, c.loop-k-test.false)) p q;
    }
