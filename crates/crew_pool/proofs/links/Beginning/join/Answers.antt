use Rattle.std.proofs.Common.{◌∙◌, ◌++◌, ◌∷◌, [], List, ap, arith, sym}
use Rattle.crew_pool.specs.declared.links.Link.{Link}
use Rattle.crew_pool.proofs.LinkLemmas.{take-seen}
use Rattle.crew_pool.proofs.links.Beginning.join.Goals as goal

pub loop-place-preserved : goal.loop-place-preserved
loop-place-preserved c =
    let more = take-seen c.args.self.now c.loop-place.place c.at.result (omega (arith, c.loop-place-test.true, c.len-place-end.ensures)) c.at.ensures in
    c.in_ok-push.ensures.items ∙ (ap (λ (ls : List Link). ls ++ c.at.result ∷ []) c.loop-place.invariant ∙ sym more)
