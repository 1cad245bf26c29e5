use Rattle.std.proofs.Common.{◌≡◌, ◌∙◌, Bool, true, false, refl, sym}
use Rattle.std.specs.Prelude.{not}
use Rattle.std.specs.Ordering.{eq_by_cmp}
use Rattle.crew_flights.specs.Codes.{code_cmp}
use Rattle.crew_net.proofs.Geometry.{code-equal}
use Rattle.crew_pass.proofs.passing.beside_of.Goals as goal

holds : (b : Bool) → not b ≡ false → b ≡ true
holds true h = refl
holds false h = sym h

pub new-requires-clause-base : goal.new-requires-clause-base
new-requires-clause-base g c =
    let is : eq_by_cmp code_cmp c.base.result c.args.ground.now.base ≡ true = holds (eq_by_cmp code_cmp c.base.result c.args.ground.now.base) (sym c.ne.ensures ∙ c.if-ne.false) in
    sym c.base.ensures ∙ code-equal c.base.result c.args.ground.now.base is
