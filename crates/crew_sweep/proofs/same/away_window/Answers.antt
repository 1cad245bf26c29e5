use Rattle.std.proofs.Common.{◌∙◌, sym}
use Rattle.crew_net.proofs.Slices.{item-in, member-got}
use Rattle.crew_sweep.proofs.same.away_window.Goals as goal

pub idle_label-requires-clause-real : goal.idle_label-requires-clause-real
idle_label-requires-clause-real c =
    let departures = c.args.ground.now.net.now.departures in
    let g = c.index-departures-place.result in
    let at = item-in departures c.departures.result.now c.args.place g c.requires.place c.departures.ensures.events c.index-departures-place.is in
    c.departures.ensures.real g (member-got departures c.args.place g at)

pub returns-in-None : goal.returns-in-None
returns-in-None c =
    let departures = c.args.ground.now.net.now.departures in
    let g = c.index-departures-place.result in
    let at = item-in departures c.departures.result.now c.args.place g c.requires.place c.departures.ensures.events c.index-departures-place.is in
    (g, at, record { window = c.window.ensures g at; idle = sym c.idle_label.ensures ∙ c.in-None.is })
