use Rattle.std.proofs.Common.{sym, subst, rules}
use Rattle.std.specs.Arc.{arc_value}
use Rattle.crew_version.specs.Versions.{Snapshot}
use Rattle.crew_publish.specs.Chain.{Follows}
use Rattle.crew_resource.specs.Chains.{IsChain}
use Rattle.crew_publish.specs.Views.{IsViewOf, Published}
use Rattle.crew_publish.proofs.Chains.{view_push}
use Rattle.crew_publish.proofs.publisher.Publisher.publish.Goals as goal

pub of-requires : goal.of-requires
of-requires g c =
    let follows : Follows c.last.result.now (arc_value c.args.version) = search rules in
    subst (λ (v : Snapshot). IsViewOf c.add.new.self.list v) (sym c.in_ok-told.ensures) (view_push c.args.self.now.list c.add.new.self.list c.last.result.now (arc_value c.args.version) c.in_ok-add.ensures.ok c.last.ensures.chain c.last.ensures.last follows)

pub returns-in_err-add-clause-chain : goal.returns-in_err-add-clause-chain
returns-in_err-add-clause-chain g c = subst (λ (p : Published). IsChain Follows p.list) (sym c.in_err-add.ensures.same) c.last.ensures.chain

pub returns-clause-chain : goal.returns-clause-chain
returns-clause-chain g c =
    let follows : Follows c.last.result.now (arc_value c.args.version) = search rules in
    (view_push c.args.self.now.list c.add.new.self.list c.last.result.now (arc_value c.args.version) c.in_ok-add.ensures.ok c.last.ensures.chain c.last.ensures.last follows).0
