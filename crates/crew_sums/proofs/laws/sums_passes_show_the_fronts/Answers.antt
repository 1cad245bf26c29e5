use Rattle.std.proofs.Common.{◌≡◌, ◌≤◌, List, Some, arith, refl, sym, subst}
use Rattle.std.specs.Prelude.{slice_get}
use Rattle.crew_anchor.specs.Sweeps.{shown_labels}
use Rattle.crew_answers.specs.Schedules.{schedule_of}
use Rattle.crew_net.specs.Nets.{Net}
use Rattle.crew_net.proofs.Slices.{member-place}
use Rattle.crew_pairing.specs.Legs.{Leg}
use Rattle.crew_pairing.specs.declared.vector.PairingVector.{PairingVector}
use Rattle.crew_pass.proofs.Alike.{covered-alike}
use Rattle.crew_resource.specs.Members.{Member}
use Rattle.crew_vector.specs.Fronts.{IsFrontAt}
use Rattle.crew_sums.specs.Sums.{sums_resource}
use Rattle.crew_sums.proofs.Counting.{all-fit, same-count}
use Rattle.crew_sums.proofs.laws.sums_passes_show_the_fronts.Goals as goal

pub returns-clause-counts : goal.returns-clause-counts
returns-clause-counts c = λ s price r is checked base.
    let most = checked.max_duties_most in
    rw is (record {
      tell = same-count;
      limit = s.max_duties;
      has_most = refl;
      fit = λ n h. let few : n ≤ 100_000 = omega (arith, h, most) in all-fit s price checked base n few;
    })

pub returns-clause-fronts : goal.returns-clause-fronts
returns-clause-fronts c = λ s t base price r net p is same checked sound are real alike covered d legal.
    let known = subst (Member net.duties) (sym legal.3) (are.every legal.0 legal.1 legal.2) in
    let k = member-place net.duties d known in
    let at = subst (λ (z : Net). slice_get z.duties k.0 ≡ Some d) (sym same) k.1 in
    let own = rw is at covered in
    let pass = covered-alike s net.settings base net.duties _ _ _ _ _ own.pools own.arrivals own.fronts alike own.covered in
    let kept = c.covered_passes_show_the_fronts.ensures (sums_resource s price) s.max_duties (schedule_of s base net.duties) own.pools own.arrivals own.fronts d refl same-count
    (c.legal_duties_are_a_schedule.ensures.schedule s t base net.duties sound are) pass known in
    let front = c.fronts_of_values_show_the_fronts.ensures s t base price net.duties d (own.fronts d) checked sound are real legal kept in
    (k.0, at, subst (λ (es : List (PairingVector × List (List Leg))). IsFrontAt s t base price d (shown_labels s.trip_rig d.release es)) (own.told k.0 d at) front)
