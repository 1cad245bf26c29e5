use Rattle.std.proofs.Common.{◌≡◌, Option, Some, ◌∷◌, ◌∙◌, ap}
use Rattle.crew_resource.specs.Machinery.Both.{both}
use Rattle.crew_resource.specs.Machinery.BothLaws.{both_parts}
use Rattle.crew_long.specs.Machinery.Folds.{value_by}
use Rattle.crew_long.specs.Machinery.RestStages.{open_rest, extend_rest}
use Rattle.crew_long.specs.Machinery.RecentStages.{open_recent, extend_recent}
use Rattle.crew_long.proofs.RestValues.{rest_value, value_frees}
use Rattle.crew_long.proofs.WindowValues.{window_value, value_keeps}
use Rattle.crew_long.proofs.laws.long_values_have_three_parts.Goals as goal

three : {A B C : Type 0} (a : Option A) (b : Option B) (c : Option C) (x : A) (y : B) (z : C) → a ≡ Some x → b ≡ Some y → c ≡ Some z → both a (both b c) ≡ Some (x, (y, z))
three a b c x y z e f g =
    ap (λ p. both p (both b c)) e ∙ (ap (λ q. both (Some x) (both q c)) f ∙ ap (λ q. both (Some x) (both (Some y) q)) g)

pub returns-clause-value : goal.returns-clause-value
returns-clause-value g c = λ r first others v rest_on window_on cap order dated few has free keeps.
    let w = window_value r.second.second.is_on r.second.second.cap first others window_on cap order dated few keeps in
    (w.0, three _ _ _ v _ w.0 has (rest_value r.second.first.is_on first others rest_on order free) w.1, w.2)

pub returns-clause-legal : goal.returns-clause-legal
returns-clause-legal g c = λ r first others z rest_on window_on cap order has.
    let k = both_parts _ _ z has in
    let l = both_parts
    (value_by (open_rest r.second.first.is_on) (extend_rest r.second.first.is_on) (first ∷ others))
    (value_by (open_recent r.second.second.is_on r.second.second.cap) (extend_recent r.second.second.is_on r.second.second.cap) (first ∷ others))
    z.1 k.1 in (
      k.0,
      value_frees r.second.first.is_on first others z.1.0 rest_on order l.0,
      value_keeps r.second.second.is_on r.second.second.cap first others z.1.1 window_on cap order l.1,
    )
