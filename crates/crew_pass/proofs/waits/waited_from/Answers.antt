use Rattle.std.proofs.Common.{◌≡◌, List, [], Some, get_or, map, sym, subst, ⊎_elim}
use Rattle.std.specs.Prelude.{slice_get}
use Rattle.std.proofs.lemmas.Result.{IfOk-weaker}
use Rattle.crew_label.specs.Pools.{ArePoolOf}
use Rattle.crew_label.specs.Tables.{leads_in}
use Rattle.crew_label.specs.Walks.{Leads, shown}
use Rattle.crew_label.specs.declared.label.Label.{Label}
use Rattle.crew_labelling.specs.Candidates.{IsRested, waited_entries}
use Rattle.crew_labelling.specs.Held.{HaveArrived, trail_of}
use Rattle.crew_labelling.specs.Labellings.{labelling_of}
use Rattle.crew_labelling.proofs.Right.{arrivals-gathered, arrivals-held, rested-are}
use Rattle.crew_labelling.proofs.Waiting.{follows}
use Rattle.crew_net.proofs.Slices.{item-in, some-same}
use Rattle.crew_pairing.specs.declared.events.Arrival.{Arrival}
use Rattle.crew_resource.specs.Members.{Member}
use Rattle.crew_pass.specs.Machinery.Shelves.{pools_seen}
use Rattle.crew_pass.specs.Machinery.Terms.{labels_table, terms}
use Rattle.crew_pass.proofs.Known.{arrival-known, rested-known}
use Rattle.crew_pass.proofs.waits.waited_from.Goals as goal

pub waited_at-requires-clause-follows : goal.waited_at-requires-clause-follows
waited_at-requires-clause-follows g c =
    let net = c.args.ground.now.net.now in
    let x = c.index-arrivals-place.result in
    let here = item-in net.arrivals c.arrivals.result.now c.args.place x c.requires.place c.arrivals.ensures.events c.index-arrivals-place.is in
    follows net.settings x c.args.departure.now c.requires.may.terms.passable.rests (c.requires.waits x here)

pub waited_at-requires-clause-held : goal.waited_at-requires-clause-held
waited_at-requires-clause-held g c =
    let w = (terms g.R.Value.Ord.cmp g.R.Lapses g.R.Staged g.R.Forgets g.R.Resource c.args.ground.now) in
    let same = c.requires.seen.arrivals.same c.args.place c.at-held.result.now c.at-held.ensures in
    subst (λ (ls : List (Label g.row.R-Value.Denot)). HaveArrived w (labels_table w) ls) (sym same) (arrivals-held w c.requires.may.terms c.requires.may.lawful c.args.place)

pub waited_at-requires-clause-clean : goal.waited_at-requires-clause-clean
waited_at-requires-clause-clean g c =
    let w = (terms g.R.Value.Ord.cmp g.R.Lapses g.R.Staged g.R.Forgets g.R.Resource c.args.ground.now) in
    let net = c.args.ground.now.net.now in
    let x = c.index-arrivals-place.result in
    let here = item-in net.arrivals c.arrivals.result.now c.args.place x c.requires.place c.arrivals.ensures.events c.index-arrivals-place.is in
    let same = c.requires.seen.arrivals.same c.args.place c.at-held.result.now c.at-held.ensures in
    let all = arrivals-gathered w c.requires.may.terms c.requires.may.lawful c.args.place x here in
    (all.listed, subst (λ (ls : List (Label g.row.R-Value.Denot)). ArePoolOf w.below w.same (trail_of (labels_table w)) all.listed ls) (sym same) all.pool)

pub waited_at-requires-clause-rested : goal.waited_at-requires-clause-rested
waited_at-requires-clause-rested g c =
    let w = (terms g.R.Value.Ord.cmp g.R.Lapses g.R.Staged g.R.Forgets g.R.Resource c.args.ground.now) in
    let y = labelling_of w in
    let same = c.requires.seen.arrivals.same c.args.place c.at-held.result.now c.at-held.ensures in
    let made = c.requires.seen.rested.same c.args.place c.at-rested.result.now c.at-rested.ensures in
    subst (λ (ls : List (Label g.row.R-Value.Denot)). IsRested w (labels_table w) ls c.at-rested.result.now) (sym same)
    (subst (λ (ps : List (Label g.row.R-Value.Denot)). IsRested w (labels_table w) (get_or y.arrivals c.args.place []) ps) (sym made) (rested-are w c.requires.may.terms c.requires.may.lawful c.args.place))

pub returns-clause-pool : goal.returns-clause-pool
returns-clause-pool g c =
    let w = (terms g.R.Value.Ord.cmp g.R.Lapses g.R.Staged g.R.Forgets g.R.Resource c.args.ground.now) in
    let r = c.args.ground.now.resource.now in
    let net = c.args.ground.now.net.now in
    let trail = trail_of (labels_table w) in
    let y = labelling_of w in
    let x = c.index-arrivals-place.result in
    let here = item-in net.arrivals c.arrivals.result.now c.args.place x c.requires.place c.arrivals.ensures.events c.index-arrivals-place.is in
    let same = c.requires.seen.arrivals.same c.args.place c.at-held.result.now c.at-held.ensures in
    IfOk-weaker c.waited_at.result _ _ (λ waited pool (z : Arrival) (at : slice_get net.arrivals c.args.place ≡ Some z).
    subst (λ (u : Arrival). ArePoolOf w.below w.same trail (waited_entries (λ v. g.R.Staged.waited r v u c.args.departure.now) (map (shown trail) (get_or y.arrivals c.args.place []))) waited)
    (some-same (slice_get net.arrivals c.args.place) x z here at)
    (subst (λ (ls : List (Label g.row.R-Value.Denot)). ArePoolOf w.below w.same trail (waited_entries (λ v. g.R.Staged.waited r v x c.args.departure.now) (map (shown trail) ls)) waited) same pool))
    c.waited_at.ensures.pool

pub returns-clause-known : goal.returns-clause-known
returns-clause-known g c =
    let w = (terms g.R.Value.Ord.cmp g.R.Lapses g.R.Staged g.R.Forgets g.R.Resource c.args.ground.now) in
    let net = c.args.ground.now.net.now in
    let y = labelling_of w in
    let seen = c.args.seen.now in
    let x = c.index-arrivals-place.result in
    let here = item-in net.arrivals c.arrivals.result.now c.args.place x c.requires.place c.arrivals.ensures.events c.index-arrivals-place.is in
    let same = c.requires.seen.arrivals.same c.args.place c.at-held.result.now c.at-held.ensures in
    let made = c.requires.seen.rested.same c.args.place c.at-rested.result.now c.at-rested.ensures in
    let Known = λ (o : _). Leads (leads_in w.leaves (pools_seen seen.departures)) o in
    IfOk-weaker c.waited_at.result _ _ (λ waited from (l : Label g.row.R-Value.Denot) (m : Member waited l).
    let k = from l m in
    subst Known (sym k.2)
    (⊎_elim {C = Known k.0.before}
    (λ a. arrival-known w c.requires.may seen c.requires.seen c.args.place x here c.requires.there k.0 (subst (λ (ls : List (Label g.row.R-Value.Denot)). Member ls k.0) same a))
    (λ a. rested-known w c.requires.may seen c.requires.seen c.args.place x here c.requires.there k.0 (subst (λ (ls : List (Label g.row.R-Value.Denot)). Member ls k.0) made a))
    k.1))
    c.waited_at.ensures.from
