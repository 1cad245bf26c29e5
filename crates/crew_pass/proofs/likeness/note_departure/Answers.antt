use Rattle.std.proofs.Common.{◌≡◌, ◌∙◌, ℕ, List, [], Option, Some, Global, get_or, length, map, sym, ap, subst, arith}
use Rattle.std.specs.Arc.{arc_value}
use Rattle.std.specs.Prelude.{slice_get}
use Rattle.crew_label.specs.Alike.{AreTwinEntries}
use Rattle.crew_label.specs.Tables.{Tabled, leads_in, trail_in}
use Rattle.crew_label.specs.Walks.{Leads, shown}
use Rattle.crew_label.specs.declared.label.Label.{Label}
use Rattle.crew_label.specs.declared.pool.Pool.{Pool}
use Rattle.crew_labelling.specs.Labellings.{labelling_of, table_of}
use Rattle.crew_labelling.specs.Passes.{BasePass}
use Rattle.crew_labelling.proofs.Right.{departures-ready}
use Rattle.crew_pairing.specs.declared.duty.Duty.{Duty}
use Rattle.crew_resource.specs.Members.{Member}
use Rattle.crew_pass.specs.Machinery.Ended.{passed_terms}
use Rattle.crew_pass.specs.Machinery.Shelves.{Sighted, sighted}
use Rattle.crew_pass.specs.Machinery.Terms.{terms}
use Rattle.crew_pass.proofs.Staying.{departure-alike, departure-shown}
use Rattle.crew_pass.proofs.likeness.note_departure.Goals as goal

pub are_alike-requires-clause-there : goal.are_alike-requires-clause-there
are_alike-requires-clause-there g c l m =
    let w = (terms g.R.Value.Ord.cmp g.R.Lapses g.R.Staged g.R.Forgets g.R.Resource c.args.ground.now) in
    let z = (passed_terms g.R.Value.Ord.cmp g.R.Lapses g.R.Staged g.R.Forgets g.R.Resource c.args.beside.now.earlier.now) in
    let right = c.fronts.ensures.right in
    let other = c.in-Some.other in
    let tabled : c.table-table.result.now ≡ table_of z (labelling_of z) = c.table-table.ensures ∙ ap (λ (p : BasePass g.row.R-Value.Denot). (let t : Tabled g.row.R-Value.Denot = record { leaves = p.leaves; pools = p.pools } in t)) (c.fronts.ensures.shows ∙ right.shown) in
    let pools = ap (λ (t : Tabled g.row.R-Value.Denot). t.pools) c.table-table.ensures ∙ ap (λ (p : BasePass g.row.R-Value.Denot). p.pools) c.fronts.ensures.shows in
    let before : c.deref-3.result.now ≡ get_or (labelling_of z).departures other [] =
    c.deref-3.ensures ∙ departure-shown g.R.Value.Ord.cmp g.R.Lapses g.R.Staged g.R.Forgets g.R.Resource c.args.ground.now c.args.beside.now c.requires.beside c.requires.may right other (arc_value {X = Pool g.row.R.Denot g.row.R-Value.Denot Duty} {Z = Global} c.in-Some-get.before.now) (subst (λ (ps : List (List (Label g.row.R-Value.Denot))). slice_get ps other ≡ Some (arc_value {X = Pool g.row.R.Denot g.row.R-Value.Denot Duty} {Z = Global} c.in-Some-get.before.now)) pools c.in-Some-get.ensures) in
    subst (λ (t : Tabled g.row.R-Value.Denot). Leads (leads_in t.leaves t.pools) l.before) (sym tabled)
    (departures-ready z right.may.terms right.may.lawful other l (subst (λ (ls : List (Label g.row.R-Value.Denot)). Member ls l) before m)).leading

pub note_alike-requires-clause-alike : goal.note_alike-requires-clause-alike
note_alike-requires-clause-alike g c =
    let w = (terms g.R.Value.Ord.cmp g.R.Lapses g.R.Staged g.R.Forgets g.R.Resource c.args.ground.now) in
    let z = (passed_terms g.R.Value.Ord.cmp g.R.Lapses g.R.Staged g.R.Forgets g.R.Resource c.args.beside.now.earlier.now) in
    let right = c.fronts.ensures.right in
    let other = c.in-Some.other in
    let tabled : c.table-table.result.now ≡ table_of z (labelling_of z) = c.table-table.ensures ∙ ap (λ (p : BasePass g.row.R-Value.Denot). (let t : Tabled g.row.R-Value.Denot = record { leaves = p.leaves; pools = p.pools } in t)) (c.fronts.ensures.shows ∙ right.shown) in
    let pools = ap (λ (t : Tabled g.row.R-Value.Denot). t.pools) c.table-table.ensures ∙ ap (λ (p : BasePass g.row.R-Value.Denot). p.pools) c.fronts.ensures.shows in
    let before : c.deref-3.result.now ≡ get_or (labelling_of z).departures other [] =
    c.deref-3.ensures ∙ departure-shown g.R.Value.Ord.cmp g.R.Lapses g.R.Staged g.R.Forgets g.R.Resource c.args.ground.now c.args.beside.now c.requires.beside c.requires.may right other (arc_value {X = Pool g.row.R.Denot g.row.R-Value.Denot Duty} {Z = Global} c.in-Some-get.before.now) (subst (λ (ps : List (List (Label g.row.R-Value.Denot))). slice_get ps other ≡ Some (arc_value {X = Pool g.row.R.Denot g.row.R-Value.Denot Duty} {Z = Global} c.in-Some-get.before.now)) pools c.in-Some-get.ensures) in
    let Twin = λ (ts : List ℕ) (s : Sighted g.row.R-Value.Denot) (t : Tabled g.row.R-Value.Denot) (p q : List (Label g.row.R-Value.Denot)). AreTwinEntries ts (map (shown (λ link. trail_in s.table.leaves s.table.pools link)) p) (map (shown (λ link. trail_in t.leaves t.pools link)) q) in
    let same = c.are_alike.ensures.0 c.if-are_alike.true in
    let twins = subst (λ (ts : List ℕ). Twin ts (sighted w c.args.seen.now.departures) (table_of z (labelling_of z)) (get_or (labelling_of w).departures c.args.position []) (get_or (labelling_of z).departures other [])) c.deref-2.ensures.value
    (subst (λ (s : Sighted g.row.R-Value.Denot). Twin c.deref-2.result.now s (table_of z (labelling_of z)) (get_or (labelling_of w).departures c.args.position []) (get_or (labelling_of z).departures other [])) c.over-sight.ensures
    (subst (λ (t : Tabled g.row.R-Value.Denot). Twin c.deref-2.result.now c.over-sight.result t (get_or (labelling_of w).departures c.args.position []) (get_or (labelling_of z).departures other [])) tabled
    (subst (λ (p : List (Label g.row.R-Value.Denot)). Twin c.deref-2.result.now c.over-sight.result c.table-table.result.now p (get_or (labelling_of z).departures other [])) c.requires.pool
    (subst (λ (q : List (Label g.row.R-Value.Denot)). Twin c.deref-2.result.now c.over-sight.result c.table-table.result.now c.args.pool.now q) before same)))) in
    let at = subst (λ (ts : List ℕ). slice_get ts c.args.position ≡ Some other) c.deref.ensures.value c.in-Some.ensures.at in
    departure-alike g.R.Value.Ord.cmp g.R.Lapses g.R.Staged g.R.Forgets g.R.Resource c.args.ground.now c.args.beside.now c.requires.beside c.requires.may right c.args.position other at c.in-Some.ensures.some twins
