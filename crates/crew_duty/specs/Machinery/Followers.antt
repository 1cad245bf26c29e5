-- The places of flights that go on from some legs.
use Rattle.std.specs.Prelude.{ℕ, List}
use Rattle.crew_duty.specs.declared.plan.Followers.{Followers}
use Rattle.crew_duty.specs.declared.plan.Followers.TheVariants.{Found, Known}

abbrev pub places_of : Followers → List ℕ
places_of (Known places) = places.now
places_of (Found places) = places.items
