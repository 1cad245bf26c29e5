use Rattle.std.proofs.Common.{◌≡◌, None, sym, subst, true≢false}
use Rattle.std.specs.Prelude.{slice_get}
use Rattle.crew_job.proofs.OwnPlaces.{own-somewhere}
use Rattle.crew_job.specs.Grounds.{nodes_in}
use Rattle.crew_net.specs.Nets.{Net}
use Rattle.crew_job.proofs.own.is_own_by_work.Goals as goal

pub returns-in-None : goal.returns-in-None
returns-in-None c =
    let none = subst (λ (z : Net). slice_get (nodes_in z) c.args.place ≡ None) c.net.ensures.net c.in-None.ensures in
    (λ t. absurd (true≢false (sym t)), λ all. absurd (own-somewhere c.args.job.now c.ground-own.ensures.ground c.ground-own.ensures.placed c.args.ground.now c.args.place all none))
