use Rattle.std.proofs.Common.{◌≡◌, ◌∙◌, ◌+◌, List, [], ◌∷◌, ◌++◌, ap, arith, sym, subst}
use Rattle.std.specs.Ordering.{eq_by_cmp}
use Rattle.crew_flights.specs.Codes.{code_cmp}
use Rattle.crew_label.specs.declared.label.Label.{Label}
use Rattle.crew_labelling.specs.Candidates.{AreGathered, Idles}
use Rattle.crew_labelling.specs.Held.{AreHeld, trail_of}
use Rattle.crew_labelling.specs.Labellings.{labelling_of}
use Rattle.crew_labelling.proofs.Waiting.{idle-gathered, idle-held}
use Rattle.crew_net.proofs.Slices.{stands}
use Rattle.crew_resource.specs.Members.{Member}
use Rattle.crew_resource.proofs.Values.{below_order}
use Rattle.crew_pass.specs.Machinery.Passing.{AreCollected, WaitsUpTo}
use Rattle.crew_pass.specs.Machinery.Shelves.{AreKnown}
use Rattle.crew_pass.specs.Machinery.Terms.{labels_table, terms}
use Rattle.crew_pass.proofs.Collected.{arrival-collected, none-collected, one-collected, one-list-more, window-collected}
use Rattle.crew_pass.proofs.Known.{idle-known}
use Rattle.crew_pass.proofs.waits.window_pools.Goals as goal

pub loop-place-init : goal.loop-place-init
loop-place-init g c =
    let r = c.args.ground.now.resource.now in
    let w = (terms g.R.Value.Ord.cmp g.R.Lapses g.R.Staged g.R.Forgets g.R.Resource c.args.ground.now) in
    let t = labels_table w in
    let trail = trail_of t in
    let y = labelling_of w in
    let base = c.args.ground.now.base in
    let departure = c.args.departure.now in
    let f = g.met.R.Forgets.forgets r in
    let pool = c.in_ok-idle_pool.field-0 in
    let Held = AreHeld w w.ready t in
    let Known = AreKnown w.leaves c.args.seen.now.departures in
    let here = eq_by_cmp code_cmp departure.airport base in
    let now : c.push.new.self.items ≡ pool ∷ [] = c.in_ok-push.ensures.items ∙ ap (λ (lss : List (List (Label g.row.R-Value.Denot))). lss ++ pool ∷ []) c.new-pools.ensures.items in
    let gathered = subst (λ (ls : List (Label g.row.R-Value.Denot)). AreGathered w trail (Idles w departure) ls) (sym c.in_ok-idle_pool.ensures)
    (idle-gathered w trail (below_order g.met.R.Resource.order) f.same_itself f.same_between departure) in
    let held = subst (λ (ls : List (Label g.row.R-Value.Denot)). Held ls) (sym c.in_ok-idle_pool.ensures)
    (idle-held w t here (g.R.Staged.idle_of r departure)
    ((g.met.R.Staged.counting r c.requires.may.terms.counts.limit c.requires.may.terms.counts.has_most).none_yet departure) ((g.met.R.Staged.bounds r).idle_ready departure tt)) in
    let known = subst (λ (ls : List (Label g.row.R-Value.Denot)). Known ls) (sym c.in_ok-idle_pool.ensures)
    (idle-known w.leaves c.args.seen.now.departures here (g.R.Staged.idle_of r departure)) in (
      subst (λ (lss : List (List (Label g.row.R-Value.Denot))). AreCollected w trail (WaitsUpTo w trail y.arrivals departure c.args.window.from c.args.window.from) lss) (sym now)
          (none-collected w trail y.arrivals departure c.args.window c.requires.window (pool ∷ []) (one-collected w trail (Idles w departure) pool gathered)),
      λ labels m. one-list-more (λ (ls : List (Label g.row.R-Value.Denot)). Held ls) [] pool (λ a k. absurd k) held labels (subst (λ (lss : List (List (Label g.row.R-Value.Denot))). Member lss labels) now m),
      λ labels m. one-list-more (λ (ls : List (Label g.row.R-Value.Denot)). Known ls) [] pool (λ a k. absurd k) known labels (subst (λ (lss : List (List (Label g.row.R-Value.Denot))). Member lss labels) now m),
    )

pub waited_from-requires-clause-place : goal.waited_from-requires-clause-place
waited_from-requires-clause-place g c =
    let end = c.loop-place-test.true in
    let most = c.requires.window.within in
    omega (arith, end, most)

pub waited_from-requires-clause-waits : goal.waited_from-requires-clause-waits
waited_from-requires-clause-waits g c x here = (c.requires.window.exact c.loop-place.place x here).1 (c.loop-place.auto.place, c.loop-place-test.true)

pub waited_from-requires-clause-there : goal.waited_from-requires-clause-there
waited_from-requires-clause-there g c = c.requires.there c.loop-place.place c.loop-place.auto.place c.loop-place-test.true

pub waited_from-requires-clause-rested : goal.waited_from-requires-clause-rested
waited_from-requires-clause-rested g c = c.requires.rested c.loop-place.place c.loop-place.auto.place c.loop-place-test.true

pub loop-place-preserved : goal.loop-place-preserved
loop-place-preserved g c =
    let net = c.args.ground.now.net.now in
    let w = (terms g.R.Value.Ord.cmp g.R.Lapses g.R.Staged g.R.Forgets g.R.Resource c.args.ground.now) in
    let t = labels_table w in
    let trail = trail_of t in
    let y = labelling_of w in
    let departure = c.args.departure.now in
    let at = c.loop-place.place in
    let end = c.loop-place-test.true in
    let most = c.requires.window.within in
    let x = stands net.arrivals at (omega (arith, end, most)) in
    let pools = c.loop-place.pools.items in
    let pool = c.in_ok-waited.waited in
    let now : c.push-in-loop-place.new.self.items ≡ pools ++ pool ∷ [] = c.in_ok-push-2.ensures.items in
    let Held = AreHeld w w.ready t in
    let Known = AreKnown w.leaves c.args.seen.now.departures in (
      subst (λ (lss : List (List (Label g.row.R-Value.Denot))). AreCollected w trail (WaitsUpTo w trail y.arrivals departure c.args.window.from (at + 1)) lss) (sym now)
          (arrival-collected w trail y.arrivals departure c.args.window c.requires.window at x.0 pools pool c.loop-place.auto.place end x.1 c.loop-place.invariant.0
          (c.in_ok-waited.ensures.pool x.0 x.1)),
      λ ls m. one-list-more (λ (hs : List (Label g.row.R-Value.Denot)). Held hs) pools pool c.loop-place.invariant.1 c.in_ok-waited.ensures.held ls (subst (λ (lss : List (List (Label g.row.R-Value.Denot))). Member lss ls) now m),
      λ ls m. one-list-more (λ (hs : List (Label g.row.R-Value.Denot)). Known hs) pools pool c.loop-place.invariant.2 c.in_ok-waited.ensures.known ls (subst (λ (lss : List (List (Label g.row.R-Value.Denot))). Member lss ls) now m),
    )

pub returns-clause-collected : goal.returns-clause-collected
returns-clause-collected g c =
    let w = (terms g.R.Value.Ord.cmp g.R.Lapses g.R.Staged g.R.Forgets g.R.Resource c.args.ground.now) in
    window-collected w (trail_of (labels_table w)) (labelling_of w).arrivals c.args.departure.now c.args.window c.requires.window
    c.loop-place.place c.loop-place.pools.items c.loop-place-test.false c.loop-place.invariant.0

pub returns-clause-held : goal.returns-clause-held
returns-clause-held g c = c.loop-place.invariant.1

pub returns-clause-known : goal.returns-clause-known
returns-clause-known g c = c.loop-place.invariant.2
