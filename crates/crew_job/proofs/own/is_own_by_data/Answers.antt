use Rattle.std.proofs.Common.{◌≡◌, ◌∙◌, ◌<◌, ◌+◌, ◌*◌, None, ap, length, sym, subst, true≢false}
use Rattle.std.specs.Prelude.{slice_get}
use Rattle.crew_job.proofs.Comparing.{own-by-data}
use Rattle.crew_job.proofs.NodePlaces.{node-place}
use Rattle.crew_job.proofs.OwnPlaces.{own-in, own-somewhere, own-stands}
use Rattle.crew_job.specs.Grounds.{nodes_in}
use Rattle.crew_net.specs.Nets.{Net}
use Rattle.crew_job.proofs.own.is_own_by_data.Goals as goal

pub returns-in-Some : goal.returns-in-Some
returns-in-Some c =
    let job = c.args.job.now in
    let g = c.args.ground.now in
    let net = g.plan.net in
    let is = c.ground-own.ensures.ground in
    let placed = c.ground-own.ensures.placed in
    let at = c.in-Some.ensures in
    let place : c.args.place ≡ c.in-Some.base * length net.duties + c.in-Some.rank = subst (λ (z : Net). c.args.place ≡ c.in-Some.base * length z.duties + c.in-Some.rank) c.net.ensures.net at.0 in
    let within = subst (λ (z : Net). c.in-Some.rank < length z.duties) c.net.ensures.net at.2 in
    let here = ap (slice_get (nodes_in net)) place ∙ node-place net c.in-Some.base c.in-Some.rank within in (
      λ t. own-in job is placed g c.args.place (here ∙ sym (c.is_same_node.ensures.0 t)) (λ work of. own-by-data job.ground g work c.requires.settings c.requires.data of.own),
      λ all. c.is_same_node.ensures.1 (sym (own-stands job is placed g c.args.place all) ∙ here),
    )

pub returns-in-None : goal.returns-in-None
returns-in-None c =
    let none = subst (λ (z : Net). slice_get (nodes_in z) c.args.place ≡ None) c.net.ensures.net c.in-None.ensures in
    (λ t. absurd (true≢false (sym t)), λ all. absurd (own-somewhere c.args.job.now c.ground-own.ensures.ground c.ground-own.ensures.placed c.args.ground.now c.args.place all none))
