use Rattle.std.proofs.Common.{List, refl, sym, ap, subst, ⊎_elim, arith}
use Rattle.std.specs.Ordering.{eq_by_cmp}
use Rattle.std.proofs.lemmas.Result.{IfOk-weaker}
use Rattle.crew_flights.specs.Codes.{code_cmp}
use Rattle.crew_label.specs.declared.label.Label.{Label}
use Rattle.crew_labelling.specs.Candidates.{AreGathered, Idles}
use Rattle.crew_labelling.specs.Held.{AreReady, IsHeld, trail_of}
use Rattle.crew_labelling.proofs.Waiting.{idle-gathered, idle-held}
use Rattle.crew_pairing.specs.declared.events.Arrival.{Arrival}
use Rattle.crew_resource.proofs.Values.{below_order}
use Rattle.crew_pass.specs.Machinery.Shelves.{AreKnown, sighted}
use Rattle.crew_pass.specs.Machinery.Stretches.{IsStretch}
use Rattle.crew_pass.specs.Machinery.Terms.{labels_table, terms}
use Rattle.crew_pass.proofs.Known.{counted-seen, idle-known}
use Rattle.crew_pass.proofs.Stretched.{all-stand, stretch-counts, stretch-ready}
use Rattle.crew_pass.proofs.standing.standing_pool.Goals as goal

pub three-requires-clause-first : goal.three-requires-clause-first
three-requires-clause-first g c =
    let w = (terms g.R.Value.Ord.cmp g.R.Lapses g.R.Staged g.R.Forgets g.R.Resource c.args.ground.now) in
    let middle = c.within-middle.result in
    let first = c.within-middle.ensures.first in
    let last = c.within-middle.ensures.last in
    let most = c.requires.window.within in
    let downs = ap (λ s. s.pool) c.deref.ensures in
    let ups = ap (λ s. s.pool) c.deref-2.ensures in
    let down = subst (λ (ls : List (Label g.row.R-Value.Denot)). IsStretch w c.args.cut.window.from middle ls) (sym downs) c.in_ok-down.ensures.stretch in
    let up = subst (λ (ls : List (Label g.row.R-Value.Denot)). IsStretch w middle c.args.cut.window.end ls) (sym ups) c.in_ok-up.ensures.stretch in
    stretch-counts w c.requires.may c.args.seen.now c.requires.seen c.args.cut.window.from middle c.deref.result.now.pool (omega (arith, last, most))
    (λ p a b. c.requires.there p a (omega (arith, b, last))) down

pub three-requires-clause-second : goal.three-requires-clause-second
three-requires-clause-second g c =
    let w = (terms g.R.Value.Ord.cmp g.R.Lapses g.R.Staged g.R.Forgets g.R.Resource c.args.ground.now) in
    let middle = c.within-middle.result in
    let first = c.within-middle.ensures.first in
    let last = c.within-middle.ensures.last in
    let most = c.requires.window.within in
    let downs = ap (λ s. s.pool) c.deref.ensures in
    let ups = ap (λ s. s.pool) c.deref-2.ensures in
    let down = subst (λ (ls : List (Label g.row.R-Value.Denot)). IsStretch w c.args.cut.window.from middle ls) (sym downs) c.in_ok-down.ensures.stretch in
    let up = subst (λ (ls : List (Label g.row.R-Value.Denot)). IsStretch w middle c.args.cut.window.end ls) (sym ups) c.in_ok-up.ensures.stretch in
    stretch-counts w c.requires.may c.args.seen.now c.requires.seen middle c.args.cut.window.end c.deref-2.result.now.pool most
    (λ p a b. c.requires.there p (omega (arith, a, first)) b) up

pub three-requires-clause-third : goal.three-requires-clause-third
three-requires-clause-third g c =
    let w = (terms g.R.Value.Ord.cmp g.R.Lapses g.R.Staged g.R.Forgets g.R.Resource c.args.ground.now) in
    let r = c.args.ground.now.resource.now in
    let departure = c.args.departure.now in
    let here = eq_by_cmp code_cmp departure.airport c.args.ground.now.base in
    let held = subst (λ (ls : List (Label g.row.R-Value.Denot)). AreReady w (labels_table w) ls) (sym c.in_ok-idle.ensures)
    (idle-held w (labels_table w) here (g.R.Staged.idle_of r departure)
    ((g.met.R.Staged.counting r c.requires.may.terms.counts.limit c.requires.may.terms.counts.has_most).none_yet departure) ((g.met.R.Staged.bounds r).idle_ready departure tt)) in
    let known = subst (λ (ls : List (Label g.row.R-Value.Denot)). AreKnown w.leaves c.args.seen.now.departures ls) (sym c.in_ok-idle.ensures)
    (idle-known w.leaves c.args.seen.now.departures here (g.R.Staged.idle_of r departure)) in
    counted-seen w c.requires.may c.args.seen.now c.requires.seen w.ready c.in_ok-idle.idle held known (sighted w c.args.seen.now.departures) refl

pub returns-clause-pool : goal.returns-clause-pool
returns-clause-pool g c =
    let w = (terms g.R.Value.Ord.cmp g.R.Lapses g.R.Staged g.R.Forgets g.R.Resource c.args.ground.now) in
    let middle = c.within-middle.result in
    let first = c.within-middle.ensures.first in
    let last = c.within-middle.ensures.last in
    let most = c.requires.window.within in
    let downs = ap (λ s. s.pool) c.deref.ensures in
    let ups = ap (λ s. s.pool) c.deref-2.ensures in
    let down = subst (λ (ls : List (Label g.row.R-Value.Denot)). IsStretch w c.args.cut.window.from middle ls) (sym downs) c.in_ok-down.ensures.stretch in
    let up = subst (λ (ls : List (Label g.row.R-Value.Denot)). IsStretch w middle c.args.cut.window.end ls) (sym ups) c.in_ok-up.ensures.stretch in
    let r = c.args.ground.now.resource.now in
    let departure = c.args.departure.now in
    let f = g.met.R.Forgets.forgets r in
    let plain = g.met.R.Pooled.plainly r c.requires.plain in
    let trail = trail_of (labels_table w) in
    let idle = subst (λ (ls : List (Label g.row.R-Value.Denot)). AreGathered w trail (Idles w departure) ls) (sym c.in_ok-idle.ensures)
    (idle-gathered w trail (below_order g.met.R.Resource.order) f.same_itself f.same_between departure) in
    IfOk-weaker c.three.result _ _
    (λ whole joins. all-stand w c.requires.may departure c.args.cut.window c.requires.window (λ v x. plain.still v x departure) middle
    c.deref.result.now.pool c.deref-2.result.now.pool c.in_ok-idle.idle whole first last down up idle joins)
    c.three.ensures.pool

pub returns-clause-held : goal.returns-clause-held
returns-clause-held g c =
    let w = (terms g.R.Value.Ord.cmp g.R.Lapses g.R.Staged g.R.Forgets g.R.Resource c.args.ground.now) in
    let middle = c.within-middle.result in
    let first = c.within-middle.ensures.first in
    let last = c.within-middle.ensures.last in
    let most = c.requires.window.within in
    let downs = ap (λ s. s.pool) c.deref.ensures in
    let ups = ap (λ s. s.pool) c.deref-2.ensures in
    let down = subst (λ (ls : List (Label g.row.R-Value.Denot)). IsStretch w c.args.cut.window.from middle ls) (sym downs) c.in_ok-down.ensures.stretch in
    let up = subst (λ (ls : List (Label g.row.R-Value.Denot)). IsStretch w middle c.args.cut.window.end ls) (sym ups) c.in_ok-up.ensures.stretch in
    let r = c.args.ground.now.resource.now in
    let departure = c.args.departure.now in
    let here = eq_by_cmp code_cmp departure.airport c.args.ground.now.base in
    let held = subst (λ (ls : List (Label g.row.R-Value.Denot)). AreReady w (labels_table w) ls) (sym c.in_ok-idle.ensures)
    (idle-held w (labels_table w) here (g.R.Staged.idle_of r departure)
    ((g.met.R.Staged.counting r c.requires.may.terms.counts.limit c.requires.may.terms.counts.has_most).none_yet departure) ((g.met.R.Staged.bounds r).idle_ready departure tt)) in
    let plain = g.met.R.Pooled.plainly r c.requires.plain in
    let still = λ (v : g.row.R-Value.Denot) (x : Arrival). plain.still v x departure in
    IfOk-weaker c.three.result _ _
    (λ whole from l m. ⊎_elim {C = IsHeld w w.ready (labels_table w) l}
    (λ a. stretch-ready w c.requires.may departure c.args.cut.window c.requires.window still c.args.cut.window.from middle c.deref.result.now.pool (omega arith) last down l a)
    (⊎_elim {C = IsHeld w w.ready (labels_table w) l}
    (λ a. stretch-ready w c.requires.may departure c.args.cut.window c.requires.window still middle c.args.cut.window.end c.deref-2.result.now.pool first (omega arith) up l a)
    (λ a. held l a)) (from l m))
    c.three.ensures.from
