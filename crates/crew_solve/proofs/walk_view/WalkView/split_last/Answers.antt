use Rattle.std.proofs.Common.{◌<◌, ◌∙◌, ◌++◌, ◌∷◌, [], ℕ, ap, length, map, subst, sym}
use Rattle.crew_net.proofs.Slices.{get-at}
use Rattle.crew_pairing.specs.declared.duty.Duty.{Duty}
use Rattle.crew_pool.specs.Ranks.{key_at}
use Rattle.crew_pool.specs.LabelWalks.{walk_of_label}
use Rattle.crew_resource.specs.Members.{Each}
use Rattle.crew_solve.proofs.Backwards.{each-before, each-last, keys-last}
use Rattle.crew_solve.proofs.walk_view.WalkView.split_last.Goals as goal

pub at-requires : goal.at-requires
at-requires c =
    let count = length c.self.inside.duties.now in
    each-last count _ c.in_ok-label.rank (subst (Each (λ (rank : ℕ). rank < count)) c.in_ok-label.ensures.some.1 c.self.invariant.1)

pub invariant_of-before : goal.invariant_of-before
invariant_of-before c =
    let count = length c.self.inside.duties.now in
    (c.in_ok-label.ensures.some.0, each-before count _ c.in_ok-label.rank (subst (Each (λ (rank : ℕ). rank < count)) c.in_ok-label.ensures.some.1 c.self.invariant.1))

pub returns-clause-some : goal.returns-clause-some
returns-clause-some c =
    let w = c.self.inside in
    let count = length w.duties.now in
    let ranked = each-last count _ c.in_ok-label.rank (subst (Each (λ (rank : ℕ). rank < count)) c.in_ok-label.ensures.some.1 c.self.invariant.1) in
    let last = c.at.result.now in
    sym c.self.view_is
    ∙ (keys-last w.duties.now (walk_of_label w.walks.now w.label) (walk_of_label w.walks.now c.in_ok-label.label) c.in_ok-label.rank last c.in_ok-label.ensures.some.1 ranked
    ∙ ap (λ (d : Duty). map (key_at w.duties.now) (walk_of_label w.walks.now c.in_ok-label.label) ++ d.key ∷ []) (get-at w.duties.now c.in_ok-label.rank last last c.at.ensures))
