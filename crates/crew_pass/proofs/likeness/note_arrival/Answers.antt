use Rattle.std.proofs.Common.{◌≡◌, ◌∙◌, ℕ, List, [], Option, Some, Global, get_or, length, map, sym, ap, subst, arith}
use Rattle.std.specs.Arc.{arc_value}
use Rattle.std.specs.Prelude.{slice_get}
use Rattle.crew_label.specs.Alike.{AreTwinEntries}
use Rattle.crew_label.specs.Tables.{Tabled, leads_in, trail_in}
use Rattle.crew_label.specs.Walks.{Leads, shown}
use Rattle.crew_label.specs.declared.label.Label.{Label}
use Rattle.crew_label.specs.declared.pool.Pool.{Pool}
use Rattle.crew_labelling.specs.Labellings.{labelling_of, table_of}
use Rattle.crew_labelling.specs.Passes.{BasePass}
use Rattle.crew_labelling.proofs.Right.{arrivals-held}
use Rattle.crew_pairing.specs.declared.duty.Duty.{Duty}
use Rattle.crew_resource.specs.Members.{Member}
use Rattle.crew_pass.specs.Machinery.Ended.{passed_terms}
use Rattle.crew_pass.specs.Machinery.Shelves.{Sighted, sighted}
use Rattle.crew_pass.specs.Machinery.Terms.{terms}
use Rattle.crew_pass.proofs.Staying.{arrival-held, arrival-same, arrival-twin}
use Rattle.crew_pass.proofs.likeness.note_arrival.Goals as goal

pub get-requires : goal.get-requires
get-requires g c =
    let right = c.arrivals.ensures.right in
    let other = c.in-Some.other in
    let at = subst (λ (ts : List ℕ). slice_get ts c.args.place ≡ Some other) c.deref.ensures.value c.in-Some.ensures.at in
    let x = arrival-twin g.R.Value.Ord.cmp g.R.Lapses g.R.Staged g.R.Forgets g.R.Resource c.args.ground.now c.args.beside.now c.requires.beside c.requires.may right c.args.place other at c.in-Some.ensures.some in
    let held = arrival-held g.R.Value.Ord.cmp g.R.Lapses g.R.Staged g.R.Forgets g.R.Resource c.args.ground.now c.args.beside.now c.requires.beside c.requires.may right other x.0 x.2 in
    let same = ap length c.arrivals.ensures.shelf in
    omega (arith, held, same)

pub are_same-requires-clause-there : goal.are_same-requires-clause-there
are_same-requires-clause-there g c l m =
    let w = (terms g.R.Value.Ord.cmp g.R.Lapses g.R.Staged g.R.Forgets g.R.Resource c.args.ground.now) in
    let z = (passed_terms g.R.Value.Ord.cmp g.R.Lapses g.R.Staged g.R.Forgets g.R.Resource c.args.beside.now.earlier.now) in
    let right = c.fronts.ensures.right in
    let other = c.in-Some.other in
    let tabled : c.table-table.result.now ≡ table_of z (labelling_of z) = c.table-table.ensures ∙ ap (λ (p : BasePass g.row.R-Value.Denot). (let t : Tabled g.row.R-Value.Denot = record { leaves = p.leaves; pools = p.pools } in t)) (c.fronts.ensures.shows ∙ right.shown) in
    let before : c.deref-3.result.now ≡ get_or (labelling_of z).arrivals other [] =
    c.deref-3.ensures ∙ right.arrivals.same other (arc_value {X = Pool g.row.R.Denot g.row.R-Value.Denot Duty} {Z = Global} c.in-Some-get.before.now) (subst (λ (s : List (Option (List (Label g.row.R-Value.Denot)))). slice_get s other ≡ Some (Some (arc_value {X = Pool g.row.R.Denot g.row.R-Value.Denot Duty} {Z = Global} c.in-Some-get.before.now))) c.arrivals.ensures.shelf c.in-Some-get.ensures) in
    subst (λ (t : Tabled g.row.R-Value.Denot). Leads (leads_in t.leaves t.pools) l.before) (sym tabled)
    (arrivals-held z right.may.terms right.may.lawful other l (subst (λ (ls : List (Label g.row.R-Value.Denot)). Member ls l) before m)).leading

pub note_same-requires-clause-same : goal.note_same-requires-clause-same
note_same-requires-clause-same g c =
    let w = (terms g.R.Value.Ord.cmp g.R.Lapses g.R.Staged g.R.Forgets g.R.Resource c.args.ground.now) in
    let z = (passed_terms g.R.Value.Ord.cmp g.R.Lapses g.R.Staged g.R.Forgets g.R.Resource c.args.beside.now.earlier.now) in
    let right = c.fronts.ensures.right in
    let other = c.in-Some.other in
    let tabled : c.table-table.result.now ≡ table_of z (labelling_of z) = c.table-table.ensures ∙ ap (λ (p : BasePass g.row.R-Value.Denot). (let t : Tabled g.row.R-Value.Denot = record { leaves = p.leaves; pools = p.pools } in t)) (c.fronts.ensures.shows ∙ right.shown) in
    let before : c.deref-3.result.now ≡ get_or (labelling_of z).arrivals other [] =
    c.deref-3.ensures ∙ right.arrivals.same other (arc_value {X = Pool g.row.R.Denot g.row.R-Value.Denot Duty} {Z = Global} c.in-Some-get.before.now) (subst (λ (s : List (Option (List (Label g.row.R-Value.Denot)))). slice_get s other ≡ Some (Some (arc_value {X = Pool g.row.R.Denot g.row.R-Value.Denot Duty} {Z = Global} c.in-Some-get.before.now))) c.arrivals.ensures.shelf c.in-Some-get.ensures) in
    let Twin = λ (ts : List ℕ) (s : Sighted g.row.R-Value.Denot) (t : Tabled g.row.R-Value.Denot) (p q : List (Label g.row.R-Value.Denot)). AreTwinEntries ts (map (shown (λ link. trail_in s.table.leaves s.table.pools link)) p) (map (shown (λ link. trail_in t.leaves t.pools link)) q) in
    let same = (c.are_same.ensures.0 c.if-are_same.true).1 in
    let twins = subst (λ (ts : List ℕ). Twin ts (sighted w c.args.seen.now.departures) (table_of z (labelling_of z)) (get_or (labelling_of w).arrivals c.args.place []) (get_or (labelling_of z).arrivals other [])) c.deref-2.ensures.value
    (subst (λ (s : Sighted g.row.R-Value.Denot). Twin c.deref-2.result.now s (table_of z (labelling_of z)) (get_or (labelling_of w).arrivals c.args.place []) (get_or (labelling_of z).arrivals other [])) c.over-sight.ensures
    (subst (λ (t : Tabled g.row.R-Value.Denot). Twin c.deref-2.result.now c.over-sight.result t (get_or (labelling_of w).arrivals c.args.place []) (get_or (labelling_of z).arrivals other [])) tabled
    (subst (λ (p : List (Label g.row.R-Value.Denot)). Twin c.deref-2.result.now c.over-sight.result c.table-table.result.now p (get_or (labelling_of z).arrivals other [])) c.requires.pool
    (subst (λ (q : List (Label g.row.R-Value.Denot)). Twin c.deref-2.result.now c.over-sight.result c.table-table.result.now c.args.pool.now q) before same)))) in
    let at = subst (λ (ts : List ℕ). slice_get ts c.args.place ≡ Some other) c.deref.ensures.value c.in-Some.ensures.at in
    let labels = sym c.requires.pool ∙ ((c.are_same.ensures.0 c.if-are_same.true).0 ∙ before) in
    arrival-same g.R.Value.Ord.cmp g.R.Lapses g.R.Staged g.R.Forgets g.R.Resource c.args.ground.now c.args.beside.now c.requires.beside c.requires.may right c.args.place other at c.in-Some.ensures.some labels twins
