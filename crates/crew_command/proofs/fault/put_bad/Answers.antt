use Rattle.std.proofs.Common.{[], ◌∷◌, ◌++◌}
use Rattle.crew_serve.proofs.crew_session_lemmas.BeginFacts.{begins-longer, begins-then, on-err}
use Rattle.crew_serve.proofs.crew_session_lemmas.LineFacts.{appends-both, wrote-both}
use Rattle.crew_command.proofs.fault.put_bad.Goals as goal

pub returns-in_err-put-clause-beginning : goal.returns-in_err-put-clause-beginning
returns-in_err-put-clause-beginning g c =
    on-err _ _ (begins-longer _ _ _ (c.args.number.now ++ 10 ∷ []) c.in_err-put.ensures.beginning)

pub returns-in_err-put-2-clause-beginning : goal.returns-in_err-put-2-clause-beginning
returns-in_err-put-2-clause-beginning g c =
    on-err _ _ (begins-longer _ _ _ (10 ∷ []) (begins-then _ _ _ _ _ c.in_ok-put.ensures.whole c.in_err-put-2.ensures.beginning))

pub returns-clause-whole : goal.returns-clause-whole
returns-clause-whole g c = wrote-both c.put-3.result _ _ _ _ _ (appends-both _ _ _ _ _ c.in_ok-put.ensures.whole c.in_ok-put-2.ensures.whole) c.put-3.ensures.whole

pub returns-clause-beginning : goal.returns-clause-beginning
returns-clause-beginning g c = on-err c.put-3.result _ (begins-then _ _ _ _ _ (appends-both _ _ _ _ _ c.in_ok-put.ensures.whole c.in_ok-put-2.ensures.whole) c.put-3.ensures.beginning)
