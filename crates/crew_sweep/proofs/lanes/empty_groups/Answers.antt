use Rattle.std.proofs.Common.{◌≡◌, []}
use Rattle.std.specs.Global.{Global}
use Rattle.std.specs.Prelude.{Vec}
use Rattle.crew_sweep.specs.declared.lanes.Lane.{Lane}
use Rattle.crew_sweep.proofs.Listing.{member-push}
use Rattle.crew_sweep.proofs.lanes.empty_groups.Goals as goal

pub loop-preserved : goal.loop-preserved
loop-preserved c = member-push (λ (group : Vec Lane Global). group.items ≡ []) c.loop.groups.items c.push.new.self.items _ c.in_ok-push.ensures.items c.loop.invariant c.new.ensures.items
