use Rattle.std.proofs.Common.{◌∙◌, Global, List, ℕ, sym, subst}
use Rattle.std.specs.Arc.{arc_value}
use Rattle.std.proofs.lemmas.Result.{IfOk-weaker}
use Rattle.crew_answers.specs.Schedules.{schedule_of}
use Rattle.crew_forgetful.specs.Sweeps.{network_of}
use Rattle.crew_labelling.specs.Labellings.{labelling_of}
use Rattle.crew_labelling.specs.Passes.{BasePass, IsCoveredBy, pass_of}
use Rattle.crew_labelling.proofs.Covering.{covered-by}
use Rattle.crew_net.specs.Nets.{Net}
use Rattle.crew_pairing.specs.Events.{arrival_of, departure_of}
use Rattle.crew_pass.specs.Machinery.Terms.{terms}
use Rattle.crew_pass.proofs.passing.pass_by_threads.Goals as goal

pub returns-clause-covered : goal.returns-clause-covered
returns-clause-covered g c =
    let over = c.ground_over-ground.result in
    let is = c.ground_over-ground.ensures in
    let w = terms g.R.Value.Ord.cmp g.R.Lapses g.R.Staged g.R.Forgets g.R.Resource over in
    let all = pass_of w (labelling_of w) in
    let Covers = λ (n : Net) (r : g.row.R.Denot) (s : List ℕ) (b : BasePass g.row.R-Value.Denot). IsCoveredBy g.R.Resource.below g.R.Forgets.same_sums (network_of (schedule_of n.settings s n.duties) departure_of arrival_of (g.R.Staged.idle_of r) (g.R.Staged.waited r) (g.R.Staged.boards r)) b in
    let own : Covers over.net.now over.resource.now over.base all = covered-by w is.may.terms is.may.lawful in
    let covered = subst (λ (n : Net). Covers n (arc_value {X = g.row.R.Denot} {Z = Global} c.args.resource.now) c.args.base all) (is.net ∙ c.deref-2.ensures)
    (subst (λ (r : g.row.R.Denot). Covers over.net.now r c.args.base all) (is.resource ∙ c.as_ref.ensures)
    (subst (λ (s : List ℕ). Covers over.net.now over.resource.now s all) is.base own)) in
    IfOk-weaker c.passed.result _ _ (λ p same. subst (λ (b : BasePass g.row.R-Value.Denot). Covers (arc_value {X = Net} {Z = Global} c.args.course.now) (arc_value {X = g.row.R.Denot} {Z = Global} c.args.resource.now) c.args.base b) (sym same) covered) c.passed.ensures.pass
