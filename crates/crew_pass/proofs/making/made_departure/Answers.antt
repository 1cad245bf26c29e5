use Rattle.std.proofs.Common.{List, subst, sym}
use Rattle.crew_label.specs.declared.label.Label.{Label}
use Rattle.crew_pass.specs.Machinery.Shelves.{AreKnown}
use Rattle.crew_pass.specs.Machinery.Terms.{leaving_of, terms}
use Rattle.crew_pass.proofs.Known.{made-departure-known}
use Rattle.crew_pass.proofs.making.made_departure.Goals as goal

pub note_departure-requires-clause-known : goal.note_departure-requires-clause-known
note_departure-requires-clause-known g c =
    let w = (terms g.R.Value.Ord.cmp g.R.Lapses g.R.Staged g.R.Forgets g.R.Resource c.args.ground.now) in
    subst (λ (ls : List (Label g.row.R-Value.Denot)). AreKnown (leaving_of c.args.ground.now) c.args.seen.now.departures ls) (sym c.in_ok-pool-2.ensures)
    (made-departure-known w c.requires.may c.args.seen.now c.requires.seen c.args.position c.requires.position c.requires.there)
