-- Parts that pass no cap side by side are a vector that passes none.
use Rattle.std.proofs.Common.{◌≡◌, Bool, true, false, ◌&&◌, cond, int_le, Some, None, pos, refl}
use Rattle.std.specs.Option.{option_map}
use Rattle.crew_resource.specs.Machinery.Both.{both}
use Rattle.crew_resource.specs.Machinery.Sum.{capped}
use Rattle.crew_vector.specs.Machinery.Numbers.{Numbers, named}
use Rattle.crew_vector.specs.Machinery.VectorResources.{within_caps}
use Rattle.crew_vector.specs.declared.resource.VectorResource.{VectorResource}

by-part : (a b c d : Bool) (n : Numbers)
    → cond ((a && b) && (c && d)) (Some (named n)) None
    ≡ option_map named (both (both (Some n.0.0) (both (Some n.0.1.0) (Some n.0.1.1)))
    (both (both (cond a (Some n.1.0.0) None) (cond b (Some n.1.0.1) None))
    (both (cond c (Some n.1.1.0) None) (cond d (Some n.1.1.1) None))))
by-part false b c d n = refl
by-part true false c d n = refl
by-part true true false d n = refl
by-part true true true false n = refl
by-part true true true true n = refl

pub capped-parts : (r : VectorResource) (n : Numbers)
    → within_caps r (named n)
    ≡ option_map named (both (both (capped None n.0.0) (both (capped None n.0.1.0) (capped None n.0.1.1)))
    (both (both (capped (Some (pos r.fdp_cap)) n.1.0.0) (capped (Some (pos r.fly_cap)) n.1.0.1))
    (both (capped (Some (pos r.max_duties)) n.1.1.0) (capped (Some (pos r.away_cap)) n.1.1.1))))
capped-parts r n = by-part (int_le n.1.0.0 (pos r.fdp_cap)) (int_le n.1.0.1 (pos r.fly_cap)) (int_le n.1.1.0 (pos r.max_duties)) (int_le n.1.1.1 (pos r.away_cap)) n
