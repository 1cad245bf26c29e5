use Rattle.std.proofs.Common.{◌∙◌, Global, List, ap, map, sym, subst}
use Rattle.std.specs.Arc.{arc_value}
use Rattle.crew_label.specs.Tables.{Tabled}
use Rattle.crew_label.specs.declared.label.Label.{Label}
use Rattle.crew_label.specs.declared.pool.Pool.{Pool}
use Rattle.crew_labelling.specs.Passes.{AreTold, BasePass}
use Rattle.crew_labelling.proofs.Covering.{told}
use Rattle.crew_net.specs.Nets.{Net}
use Rattle.crew_pairing.specs.declared.duty.Duty.{Duty}
use Rattle.crew_pass.specs.Machinery.Terms.{labels_table, terms}
use Rattle.crew_pass.proofs.passing.passed.Goals as goal

pub new-fronts-requires : goal.new-fronts-requires
new-fronts-requires g c =
    let w = (terms g.R.Value.Ord.cmp g.R.Lapses g.R.Staged g.R.Forgets g.R.Resource c.args.ground.now) in
    let over = λ (n : Net) (t : Tabled g.row.R-Value.Denot) (fronts : List (List (Label g.row.R-Value.Denot))). (let b : BasePass g.row.R-Value.Denot = record { net = n; leaves = t.leaves; pools = t.pools; fronts = fronts } in b) in
    let value = arc_value {X = Pool g.row.R.Denot g.row.R-Value.Denot Duty} {Z = Global} in
    let net = c.in_ok-net.ensures ∙ (c.net.ensures.net ∙ (c.deref.ensures ∙ sym c.requires.net)) in
    subst (λ (n : Net). AreTold (over n c.in_ok-table.table (map value c.in_ok-fronts.fronts.items))) (sym net)
    (subst (λ (t : Tabled g.row.R-Value.Denot). AreTold (over w.net t (map value c.in_ok-fronts.fronts.items))) (sym c.in_ok-table.ensures)
    (subst (λ (fs : List (List (Label g.row.R-Value.Denot))). AreTold (over w.net (labels_table w) fs)) (sym c.in_ok-fronts.ensures)
    (told w c.requires.may.terms c.requires.may.lawful)))

pub new-requires-2-clause-fronts : goal.new-requires-2-clause-fronts
new-requires-2-clause-fronts g c =
    let w = (terms g.R.Value.Ord.cmp g.R.Lapses g.R.Staged g.R.Forgets g.R.Resource c.args.ground.now) in
    let over = λ (n : Net) (t : Tabled g.row.R-Value.Denot) (fronts : List (List (Label g.row.R-Value.Denot))). (let b : BasePass g.row.R-Value.Denot = record { net = n; leaves = t.leaves; pools = t.pools; fronts = fronts } in b) in
    let value = arc_value {X = Pool g.row.R.Denot g.row.R-Value.Denot Duty} {Z = Global} in
    let fronts = map value c.in_ok-fronts.fronts.items in
    let net = c.in_ok-net.ensures ∙ (c.net.ensures.net ∙ (c.deref.ensures ∙ sym c.requires.net)) in
    c.new-fronts.ensures ∙ (ap (λ (n : Net). over n c.in_ok-table.table fronts) net
    ∙ (ap (λ (t : Tabled g.row.R-Value.Denot). over w.net t fronts) c.in_ok-table.ensures
    ∙ ap (λ (fs : List (List (Label g.row.R-Value.Denot))). over w.net (labels_table w) fs) c.in_ok-fronts.ensures))
