use Rattle.std.proofs.Common.{[]}
use Rattle.crew_audit.specs.Machinery.Listing.{all_partials}
use Rattle.crew_audit.proofs.audit.tally_all.Goals as goal

pub returns-clause-counted : goal.returns-clause-counted
returns-clause-counted c = (
  all_partials c.args.settings.now c.args.timetable.now,
  c.in_ok-find.ensures.all,
  c.in_ok-find.ensures.ok.behind [] c.new-running.ensures,
  c.in_ok-find.ensures.few,
)
