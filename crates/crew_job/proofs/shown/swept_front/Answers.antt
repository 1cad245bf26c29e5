use Rattle.std.proofs.Common.{◌≡◌, Some, sym, subst}
use Rattle.std.specs.Prelude.{slice_get}
use Rattle.crew_net.specs.Nets.{Net}
use Rattle.crew_resource.specs.Members.{Member}
use Rattle.crew_job.proofs.FoundDuties.{at-key}
use Rattle.crew_job.proofs.shown.swept_front.Goals as goal

pub returns : goal.returns
returns c =
    let d = c.args.duty.now in
    let there = subst (λ (z : Net). Member z.duties d) (sym c.net-net.ensures.net) c.requires in
    let at = at-key c.net-net.result.now.duties c.duty_count-count.ensures.rising d c.in-Some.rank c.rank_of_key.result c.in-Some.is c.rank_of_key.ensures there in
    c.front.ensures.front d (subst (λ (z : Net). slice_get z.duties c.in-Some.rank ≡ Some d) c.net-net.ensures.net at)
