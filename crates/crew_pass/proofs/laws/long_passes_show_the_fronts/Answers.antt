use Rattle.std.proofs.Common.{◌≡◌, ◌≤◌, List, Some, arith, sym, subst}
use Rattle.std.specs.Prelude.{slice_get}
use Rattle.crew_answers.specs.Fronts.{IsFrontAt}
use Rattle.crew_answers.specs.Shown.{long_resource, shown_entries}
use Rattle.crew_answers.specs.declared.value.LongValue.{LongValue}
use Rattle.crew_net.specs.Nets.{Net}
use Rattle.crew_net.proofs.Slices.{member-place}
use Rattle.crew_pairing.specs.Legs.{Leg}
use Rattle.crew_resource.specs.Members.{Member}
use Rattle.crew_pass.proofs.Alike.{covered-alike}
use Rattle.crew_pass.proofs.laws.long_passes_show_the_fronts.Goals as goal

pub returns-clause-counts : goal.returns-clause-counts
returns-clause-counts c = λ s price r is range base.
    let most = range.max_duties_most in
    rw is (record {
      tell = c.legal_duties_are_a_schedule.ensures.count (long_resource s price);
      limit = s.max_duties;
      has_most = c.sums_fit.ensures.most s price;
      fit = λ n h. let few : n ≤ 100_000 = omega (arith, h, most) in c.sums_fit.ensures.fits s price n range base few;
    })

pub returns-clause-fronts : goal.returns-clause-fronts
returns-clause-fronts c = λ s t base price r net p is same range sound dated are alike covered d legal.
    let known = subst (Member net.duties) (sym legal.3) (are.every legal.0 legal.1 legal.2) in
    let k = member-place net.duties d known in
    let at = subst (λ (z : Net). slice_get z.duties k.0 ≡ Some d) (sym same) k.1 in
    let own = rw is at covered in
    let pass = covered-alike s net.settings base net.duties _ _ _ _ _ own.pools own.arrivals own.fronts alike own.covered in
    let front = c.covered_passes_show_the_fronts.ensures s t base price net.duties own.pools own.arrivals own.fronts d range sound dated are pass legal in
    (k.0, at, subst (λ (es : List (LongValue × List (List Leg))). IsFrontAt s t base price d (shown_entries s d es)) (own.told k.0 d at) front)
