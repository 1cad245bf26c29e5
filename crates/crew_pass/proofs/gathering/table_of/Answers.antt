use Rattle.std.proofs.Common.{◌∙◌, ◌<◌, ◌++◌, List, [], ◌∷◌, Global, length, take, sym, ap, subst, arith}
use Rattle.std.specs.Prelude.{slice_get}
use Rattle.std.specs.Arc.{arc_value}
use Rattle.std.proofs.lemmas.List.{take_all, take_more}
use Rattle.crew_label.specs.Tables.{Tabled, leads_in}
use Rattle.crew_label.specs.Walks.{Leads}
use Rattle.crew_label.specs.declared.label.Label.{Label}
use Rattle.crew_label.specs.declared.pool.Pool.{Pool}
use Rattle.crew_labelling.specs.Labellings.{labelling_of}
use Rattle.crew_labelling.proofs.Right.{departures-linked, departures-long}
use Rattle.crew_pairing.specs.declared.duty.Duty.{Duty}
use Rattle.crew_resource.specs.Members.{Member}
use Rattle.crew_pass.specs.Machinery.Terms.{terms}
use Rattle.crew_pass.proofs.Linked.{linked-before}
use Rattle.crew_pass.proofs.More.{not-both}
use Rattle.crew_pass.proofs.gathering.table_of.Goals as goal

pub unreachable-requires : goal.unreachable-requires
unreachable-requires g c =
    let test = c.loop-position-test.true in
    let same = ap length c.by_report-position-end.ensures.places in
    let there = c.requires.there c.loop-position.position (omega (arith, test, same)) in
    not-both there.0 (slice_get c.args.seen.now.departures c.loop-position.position) c.in_default.ensures there.1

pub add-requires : goal.add-requires
add-requires g c l m =
    let w = (terms g.R.Value.Ord.cmp g.R.Lapses g.R.Staged g.R.Forgets g.R.Resource c.args.ground.now) in
    let all = (labelling_of w).departures in
    let value = arc_value {X = Pool g.row.R.Denot g.row.R-Value.Denot Duty} {Z = Global} in
    let position = c.loop-position.position in
    let is = c.in_ok-try_clone.ensures ∙ c.requires.seen.departures.same position (value c.in-Some.pool.now) c.in-Some.ensures in
    subst (λ (t : Tabled g.row.R-Value.Denot). Leads (leads_in t.leaves t.pools) l.before) (sym c.loop-position.invariant)
    (linked-before w.leaves [] all position (departures-linked w c.requires.may.terms c.requires.may.lawful) l (subst (λ (ls : List (Label g.row.R-Value.Denot)). Member ls l) is m))

pub loop-position-preserved : goal.loop-position-preserved
loop-position-preserved g c =
    let w = (terms g.R.Value.Ord.cmp g.R.Lapses g.R.Staged g.R.Forgets g.R.Resource c.args.ground.now) in
    let all = (labelling_of w).departures in
    let value = arc_value {X = Pool g.row.R.Denot g.row.R-Value.Denot Duty} {Z = Global} in
    let pool = value c.in_ok-try_clone.field-0 in
    let position = c.loop-position.position in
    let over = λ (ps : List (List (Label g.row.R-Value.Denot))). (let t : Tabled g.row.R-Value.Denot = record { leaves = w.leaves; pools = ps } in t) in
    let test = c.loop-position-test.true in
    let same = ap length c.by_report-position-end.ensures.places in
    let long = departures-long w c.requires.may.terms in
    let is = c.in_ok-try_clone.ensures ∙ c.requires.seen.departures.same position (value c.in-Some.pool.now) c.in-Some.ensures in
    let inside : position < length all = omega (arith, test, same, long) in
    c.in_ok-add.ensures.added
    ∙ (ap (λ (t : Tabled g.row.R-Value.Denot). (let z : Tabled g.row.R-Value.Denot = record { leaves = t.leaves; pools = t.pools ++ pool ∷ [] } in z)) c.loop-position.invariant
    ∙ (ap (λ (x : List (Label g.row.R-Value.Denot)). over (take position all ++ x ∷ [])) is ∙ ap over (sym (take_more all position [] inside))))

pub returns : goal.returns
returns g c =
    let w = (terms g.R.Value.Ord.cmp g.R.Lapses g.R.Staged g.R.Forgets g.R.Resource c.args.ground.now) in
    let all = (labelling_of w).departures in
    let over = λ (ps : List (List (Label g.row.R-Value.Denot))). (let t : Tabled g.row.R-Value.Denot = record { leaves = w.leaves; pools = ps } in t) in
    let test = c.loop-position-test.false in
    let same = ap length c.by_report-position-end.ensures.places in
    let long = departures-long w c.requires.may.terms in
    c.loop-position.invariant ∙ ap over (take_all c.loop-position.position all (omega (arith, test, same, long)))
