-- What a resource made of settings gives.
use Rattle.std.proofs.Common.{◌≡◌, ℕ, List, ℤ, sym, subst}
use Rattle.std.specs.Prelude.{◌≤◌}
use Rattle.std.specs.Option.{option_map}
use Rattle.crew_pairing.specs.declared.duty.Duty.{Duty}
use Rattle.crew_rules.specs.Settings.{IsChecked}
use Rattle.crew_rules.specs.declared.settings.Settings.{Settings}
use Rattle.crew_vector.specs.Machinery.Numbers.{named}
use Rattle.crew_vector.specs.Machinery.VectorResources.{vector_resource}
use Rattle.crew_vector.specs.Values.{value_of}
use Rattle.crew_vector.specs.Machinery.Sides.{fits_in, summed}
use Rattle.crew_flights.specs.Timetable.{IsBasePrice}
use Rattle.crew_vector.specs.declared.resource.VectorResource.{VectorResource}
use Rattle.crew_vector.proofs.Fitting.{all-fit}
use Rattle.crew_vector.proofs.Valued.{composed-value}

pub value-of-made : (s : Settings) (b : ℤ) (r : VectorResource) → r ≡ vector_resource s b → (ds : List Duty) → option_map named (summed r ds) ≡ value_of s b ds
value-of-made s b r e ds = subst (λ u. option_map named (summed u ds) ≡ value_of s b ds) (sym e) (composed-value s b ds)

pub fits-of-made : (s : Settings) (b : ℤ) (r : VectorResource) → r ≡ vector_resource s b → IsChecked s → IsBasePrice b → (n : ℕ) → n ≤ 100_000 → fits_in r n
fits-of-made s b r e checked price n h = subst (λ u. fits_in u n) (sym e) (all-fit s b checked price n h)
