use Rattle.std.proofs.lemmas.Result.{IfOk-weaker}
use Rattle.crew_serve.proofs.threaded.see.Goals as goal

pub returns : goal.returns
returns g c = IfOk-weaker c.view.result _ _ (λ view told. told c.args.note.now.version c.in_ok-learn.ensures.told) c.view.ensures.told
