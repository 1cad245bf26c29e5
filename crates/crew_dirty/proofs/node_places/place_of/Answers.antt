use Rattle.std.proofs.Common.{◌≡◌, ◌∙◌, Some, ap, subst, sym}
use Rattle.std.specs.List.{position}
use Rattle.std.specs.Ordering.{eq_by_cmp}
use Rattle.crew_flights.specs.Codes.{code_cmp}
use Rattle.crew_net.specs.Nets.{IsRank}
use Rattle.crew_dirty.proofs.BasePlaces.{base-at, base-there}
use Rattle.crew_dirty.proofs.node_places.place_of.Goals as goal

pub returns-in_err-base-clause-none : goal.returns-in_err-base-clause-none
returns-in_err-base-clause-none c =
    let net = c.args.net.now in
    let node = c.args.node.now in
    let rank : IsRank net node (Some c.in_ok-rank.rank) = subst (IsRank net node) c.in_ok-rank.was c.rank.ensures in
    let at : c.base_place.result ≡ position (λ b. eq_by_cmp code_cmp b node.base) net.bases = c.base_place.ensures ∙ ap (position (λ b. eq_by_cmp code_cmp b node.base)) c.bases.ensures in
    absurd (base-there net.bases node.base rank.1.base (sym at ∙ c.in_err-base.was))

pub returns-clause-is : goal.returns-clause-is
returns-clause-is c =
    let net = c.args.net.now in
    let node = c.args.node.now in
    let rank : IsRank net node (Some c.in_ok-rank.rank) = subst (IsRank net node) c.in_ok-rank.was c.rank.ensures in
    let at : c.base_place.result ≡ position (λ b. eq_by_cmp code_cmp b node.base) net.bases = c.base_place.ensures ∙ ap (position (λ b. eq_by_cmp code_cmp b node.base)) c.bases.ensures in
    record { is_rank = rank; is_base = base-at net.bases node.base c.in_ok-base.base (sym at ∙ c.in_ok-base.was) }
