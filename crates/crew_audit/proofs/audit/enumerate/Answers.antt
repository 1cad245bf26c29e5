use Rattle.std.proofs.Common.{◌≡◌, []}
use Rattle.crew_audit.specs.Machinery.Listing.{all_partials}
use Rattle.crew_audit.proofs.audit.enumerate.Goals as goal

pub returns-clause-listed : goal.returns-clause-listed
returns-clause-listed c =
    let listed : c.find.new.found.items ≡ all_partials c.args.settings.now c.args.timetable.now = c.in_ok-find.ensures.ok.behind [] c.new-partials.ensures.items in
    rw listed c.in_ok-find.ensures.all
