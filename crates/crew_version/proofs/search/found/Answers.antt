use Rattle.crew_version.proofs.search.found.Goals as goal

pub returns-clause-ok : goal.returns-clause-ok
returns-clause-ok g c =
    let s = c.args.settings.now in
    let t = c.args.timetable.now in
    let of = c.in_ok-plan.ensures.plan in
    let made = c.in_ok-made.ensures in
    record { network = made.network s t of; scratch = made.scratch s t c.requires.checked c.in_ok-plan.ensures.sound of }
