-- A front that was offered what has a value.
use Rattle.std.proofs.Common.{◌≡◌, ◌++◌, ◌∷◌, [], Bool, List, Option, Some, subst}
use Rattle.crew_pairing.specs.Legs.{Leg}
use Rattle.crew_pairing.specs.Local.{IsLocalOf}
use Rattle.crew_resource.specs.Events.{labelled}

-- what the front was offered is the value, and its walk
pub offered-is : {V : Type 0} (below : V → V → Bool) (candidates front : List (V × List (List Leg))) (o : Option V) (v : V) (w walk : List (List Leg)) → Some v ≡ o → walk ≡ w
    → IsLocalOf below (candidates ++ (v, walk) ∷ []) front → IsLocalOf below (candidates ++ labelled o w) front
offered-is {V} below candidates front o v w walk e s h =
    let there = subst (λ (x : List (List Leg)). IsLocalOf below (candidates ++ (v, x) ∷ []) front) s h in
    subst (λ (z : Option V). IsLocalOf below (candidates ++ labelled z w) front) e there
