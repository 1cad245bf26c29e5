use Rattle.std.proofs.Common.{◌≡◌, ◌++◌, ◌∷◌, ◌∙◌, [], List, Some, ap, ap₂, get_or, map, subst, sym, take}
use Rattle.std.specs.Prelude.{slice_get}
use Rattle.std.proofs.lemmas.List.{map-append, take_more}
use Rattle.crew_net.specs.Nets.{Net}
use Rattle.crew_pairing.specs.Legs.{Leg}
use Rattle.crew_pool.specs.Ranks.{key_at}
use Rattle.crew_solve.proofs.Backwards.{key-got}
use Rattle.crew_solve.proofs.best.walk_of.Goals as goal

pub loop-rank-preserved : goal.loop-rank-preserved
loop-rank-preserved c =
    let ds = c.args.sweep.now.net.duties in
    let ranks = c.deref-rank-items.result.now in
    let i = c.loop-rank.rank-index in
    let rank = get_or ranks i 0 in
    let d = c.duty.result.now in
    let here : slice_get ds rank ≡ Some d = subst (λ (n : Net). slice_get n.duties rank ≡ Some d) c.net.ensures.net c.duty.ensures in
    let key : c.copy.result ≡ key_at ds rank = c.copy.ensures ∙ sym (key-got ds rank d here) in
    let more = ap (map (key_at ds)) (take_more ranks i 0 c.loop-rank-test.true) ∙ map-append (key_at ds) (take i ranks) (rank ∷ []) in
    c.in_ok-push.ensures.items ∙ (ap₂ (λ (keys : List (List Leg)) (k : List Leg). keys ++ k ∷ []) c.loop-rank.invariant key ∙ sym more)
