use Rattle.std.proofs.Common.{IfOk, Result, arith, sym}
use Rattle.std.specs.declared.alloc.AllocError.{AllocError}
use Rattle.crew_resource.proofs.Members.{Member-get_or}
use Rattle.crew_sweep.specs.Machinery.Lanes.{IsDone}
use Rattle.crew_sweep.specs.declared.ahead.Done.{Done}
use Rattle.crew_sweep.proofs.Gathering.{if-both}
use Rattle.crew_sweep.proofs.Listing.{member-placed}
use Rattle.crew_sweep.proofs.ahead.done_by_threads.Goals as goal

pub map_jobs-requires-after_bounds : goal.map_jobs-requires-after_bounds
map_jobs-requires-after_bounds g c _ _ i x inside is = (
  c.requires.ground,
  c.requires.pools,
  c.requires.sealed,
  c.new-claims.ensures,
  c.requires.groups x (Member-get_or c.args.groups.items i x inside (sym is)),
)

pub returns : goal.returns
returns g c =
    let ground = c.args.ground.now in
    let passing = c.args.passing.now in
    if-both c.map_jobs.result _ _ _ c.map_jobs.ensures.len c.map_jobs.ensures.each
    (λ all len each. member-placed (λ (done : Result Done AllocError). IfOk done (IsDone ground passing)) all.items (λ i d inside. (each i d (omega (arith, inside, len))).1.call.met))
