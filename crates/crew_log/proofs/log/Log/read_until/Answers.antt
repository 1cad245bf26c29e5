use Rattle.std.proofs.Common.{◌∷◌, [], arith, length-append, ◌∙◌}
use Rattle.crew_log.proofs.Runs.{run_push}
use Rattle.std.proofs.lemmas.List.Elements.{All-push}
use Rattle.crew_log.specs.Logs.{IsOf}
use Rattle.crew_log.proofs.log.Log.read_until.Goals as goal

pub loop-place-preserved : goal.loop-place-preserved
loop-place-preserved c =
    let i = c.loop-place.invariant in
    let w = c.in-Ok.ensures in
    let r = c.in-Ok.receipt in
    rw c.in_ok-push-in-Ok.ensures.items (
      All-push (λ receipt. IsOf c.args.self.now receipt) _ r i.0 w.ok.0,
      run_push _ _ r i.1 (w.ok.1 ∙ i.2),
      omega (arith, i.2, length-append c.loop-place.receipts.items (r ∷ [])),
    )
