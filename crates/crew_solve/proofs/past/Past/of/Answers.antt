use Rattle.std.proofs.Common.{◌≡◌, ◌∙◌, subst, sym}
use Rattle.crew_sweep.specs.crew_carry.Twins.{AreTwins}
use Rattle.crew_net.specs.Nets.{Net}
use Rattle.crew_resource.specs.Members.{Each}
use Rattle.crew_sweep.specs.Sweeps.{BaseSweep}
use Rattle.crew_net.specs.Positions.{ArePositions}
use Rattle.crew_solve.proofs.past.Past.of.Goals as goal

pub returns : goal.returns
returns c =
    let earlier = c.args.earlier.now.net in
    let net = c.args.net.now in
    record {
      earlier = earlier;
      nets = subst (Each (λ (b : BaseSweep). b.net ≡ earlier)) (sym (c.in_ok-fronts.ensures ∙ c.fronts.ensures.all)) c.fronts.ensures.nets;
      settings = c.requires;
      positions = subst (λ (n : Net). ArePositions n c.in_ok-positions.positions.items) c.net-before.ensures c.in_ok-positions.ensures;
      twins = subst (λ (n : Net). AreTwins n net c.in_ok-twins.twins) c.net-before.ensures c.in_ok-twins.ensures.twins;
      places = c.in_ok-places.ensures;
      alike = λ same. sym c.net-before.ensures ∙ c.are_one-is_same.ensures same;
    }
