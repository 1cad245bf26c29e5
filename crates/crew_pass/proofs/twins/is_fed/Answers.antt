use Rattle.std.proofs.Common.{List, ℕ, arith, subst}
use Rattle.crew_resource.specs.Members.{Member}
use Rattle.crew_net.proofs.ArrivalPlaces.{rank-within}
use Rattle.crew_net.proofs.Slices.{stands}
use Rattle.crew_pass.proofs.Twinned.{fed-from}
use Rattle.crew_pass.proofs.twins.is_fed.Goals as goal

pub are_paired-requires : goal.are_paired-requires
are_paired-requires c rank m =
    let net = c.args.net.now in
    let x = stands net.arrivals c.args.place c.requires.place in
    let here = c.arriving.ensures x.0 x.1 in
    let bound = rank-within x.0 net.duties rank (subst (λ (rs : List ℕ). Member rs rank) here m) in
    let long = c.requires.long in
    omega (arith, bound, long)

pub returns : goal.returns
returns c t =
    fed-from c.args.net.now c.args.earlier.now c.args.duties.now c.args.place c.args.other c.requires.twin c.if-other-eq-NONE.false
    c.arriving.result.now c.arriving-2.result.now c.arriving.ensures c.arriving-2.ensures (c.are_paired.ensures t)
