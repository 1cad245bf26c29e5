use Rattle.std.proofs.Common.{subst, sym}
use Rattle.std.proofs.lemmas.Result.{IfErr-weaker}
use Rattle.crew_version.specs.Versions.{Snapshot}
use Rattle.crew_serve.proofs.ClerkFacts.{left-unsettled, ok-weaker, past-settles, seen-over, sight-over}
use Rattle.crew_serve.specs.Clients.{IsSight}
use Rattle.crew_serve.proofs.clerk.Clerk.settle.Goals as goal

pub loop-preserved : goal.loop-preserved
loop-preserved g c =
    let before = c.loop.invariant in
    (sight-over _ _ _ before.0 c.try_settle-done.ensures.sight, seen-over c.args.self.now c.loop.self c.try_settle-done.new.self before.1 c.try_settle-done.ensures.seen, before.2)

pub returns-then-not-is_unsettled : goal.returns-then-not-is_unsettled
returns-then-not-is_unsettled g c =
    let before = c.loop.invariant in
    let sight = sight-over _ _ _ before.0 c.try_settle-done.ensures.sight in
    record {
      sight = sight;
      seen = seen-over c.args.self.now c.loop.self c.try_settle-done.new.self before.1 c.try_settle-done.ensures.seen;
      ok = ok-weaker c.try_settle-done.result _ _ (λ view h. (h.0, past-settles c.args.self.now.version view.version _ c.args.waiting.now (subst (λ (v : Snapshot). IsSight c.args.self.now.version v) (sym h.0) sight) before.2 h.1)) c.try_settle-done.ensures.ok;
      fault = IfErr-weaker c.try_settle-done.result _ _ (λ fault h. left-unsettled c.args.self.now.version c.loop.self.version _ _ c.args.waiting.now fault before.0 before.2 h) c.try_settle-done.ensures.fault;
    }
