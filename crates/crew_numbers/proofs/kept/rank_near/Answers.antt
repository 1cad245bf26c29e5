use Rattle.std.proofs.Common.{◌∙◌, ◌<◌, ◌≤◌, ℕ, List, Option, Some, None, ap, length, sym, arith}
use Rattle.std.specs.Prelude.{IfSome}
use Rattle.crew_net.specs.Nets.{IsRankOfKey}
use Rattle.crew_pairing.specs.Legs.{Leg}
use Rattle.crew_numbers.proofs.Gets.{within}
use Rattle.crew_net.proofs.Ranking.{key-exact}
use Rattle.crew_pairing.specs.declared.duty.Duty.{Duty}
use Rattle.crew_numbers.proofs.Keeping.{get-mapped, rank-found}
use Rattle.crew_numbers.proofs.kept.rank_near.Goals as goal

pub returns-then-same-clause-found : goal.returns-then-same-clause-found
returns-then-same-clause-found c =
    let d = c.duty.result.now in
    let key = key-exact d.key c.args.key.now (sym c.eq-same.ensures ∙ c.if-same.true) in
    get-mapped (λ (x : Duty). x.key) c.args.net.now.duties c.args.near d c.duty.ensures ∙ ap Some key

pub returns-clause-found : goal.returns-clause-found
returns-clause-found c = rank-found c.args.net.now.duties c.args.key.now c.rank_of_key.result c.rank_of_key.ensures

few-ranks : (ds : List Duty) (key : List Leg) (r : Option ℕ) → length ds ≤ 200_000 → IsRankOfKey ds key r → IfSome r (λ rank. rank < 200_000)
few-ranks ds key None few f = tt
few-ranks ds key (Some rank) few f = let w = within ds rank f.0 f.1 in omega (arith, w, few)

pub returns-clause-few : goal.returns-clause-few
returns-clause-few c = few-ranks c.args.net.now.duties c.args.key.now c.rank_of_key.result c.duty_count.ensures.few c.rank_of_key.ensures
