use Rattle.std.proofs.Common.{◌≡◌, ◌∙◌, ℕ, List, Some, ap, sym, subst, get_or}
use Rattle.std.specs.Prelude.{slice_get}
use Rattle.std.proofs.lemmas.Option.{get_or_from_slice_get}
use Rattle.crew_job.proofs.NodePlaces.{node-here}
use Rattle.crew_job.proofs.SealedNodes.{front-sealed, front-unsealed, node-sealed, node-unsealed}
use Rattle.crew_job.specs.Grounds.{nodes_in, sealed_data_of}
use Rattle.crew_machine.specs.Crew.{DutyNode, IsFrontOf, IsNodeOf}
use Rattle.crew_net.specs.Nets.{Net}
use Rattle.crew_job.proofs.ground.Ground.has_kept.Goals as goal

pub returns : goal.returns
returns c =
    let g = c.args.self.now in
    let net = c.net-net.result.now in
    let code = c.index-bases-base.result in
    let d = c.duty-duty.result.now in
    let n : DutyNode = record { base = code; duty = d } in
    let at = c.in-Some.ensures in
    let bases : c.bases.result.now ≡ net.bases = c.bases.ensures in
    let here : slice_get (nodes_in net) c.args.place ≡ Some n = node-here net c.args.place c.in-Some.base c.in-Some.rank code d at.0 at.1 at.2 (c.index-bases-base.is ∙ ap (λ (l : List (List ℕ)). get_or l c.in-Some.base code) bases) (sym (get_or_from_slice_get net.duties c.in-Some.rank d d c.duty-duty.ensures)) in
    let stands : slice_get (nodes_in g.plan.net) c.args.place ≡ Some n = subst (λ (z : Net). slice_get (nodes_in z) c.args.place ≡ Some n) c.net-net.ensures.net here in
    let is = c.net-net.ensures.ground in
    let v = c.sealed.result.now in
    let e = c.sealed.ensures.version in (
      λ t.
          let h = c.has_front.ensures.0 t in
          record { node = n; stands = stands; there = node-unsealed g is v e n h.0; is_front = front-unsealed g is v e n c.args.front.now h.1 },
      λ k.
          let same : k.node ≡ n = some-same k.node n (sym k.stands ∙ stands) in
          let there : IsNodeOf g.settings (sealed_data_of g) n = subst (IsNodeOf g.settings (sealed_data_of g)) same k.there in
          let front : IsFrontOf g.settings (sealed_data_of g) n c.args.front.now = subst (λ (z : DutyNode). IsFrontOf g.settings (sealed_data_of g) z c.args.front.now) same k.is_front in
          c.has_front.ensures.1 (node-sealed g is v e n there, front-sealed g is v e n c.args.front.now front),
    )
  where
    some-same : {X : Type 0} (x y : X) → Some x ≡ Some y → x ≡ y
    some-same x y e = cc
