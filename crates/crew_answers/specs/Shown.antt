-- What a value that labels keep shows of a list: its vector. The value has the end of the last long
-- rest as an instant, since lists that stand at one release may have had their last reports at
-- several times; where they end with one duty both tell the same.
use Rattle.std.specs.Prelude.{cond, ℤ, pos, ◌-ℤ◌, List, map}
use Rattle.crew_rules.specs.declared.settings.Settings.{Settings}
use Rattle.crew_pairing.specs.Legs.{Leg}
use Rattle.crew_pairing.specs.declared.duty.Duty.{Duty}
use Rattle.crew_vector.specs.Machinery.VectorResources.{vector_resource}
use Rattle.crew_vector.specs.declared.resource.VectorResource.{VectorResource}
use Rattle.crew_long.specs.Recents.{recent_periods}
use Rattle.crew_answers.specs.LongVectors.{LongVector, is_long, settings_of_sums}
use Rattle.crew_answers.specs.declared.resource.LongResource.{LongResource}
use Rattle.crew_answers.specs.declared.value.LongValue.{LongValue}

-- of a list that ends with the duty
abbrev pub shown : Settings → Duty → LongValue → LongVector
shown s last v = record {
  sums = v.sums;
  since_rest = cond (is_long s) (last.report -ℤ v.rest_end.minute) (pos 0);
  history = recent_periods v.recent;
}

-- entries with their values shown
abbrev pub shown_entries : Settings → Duty → List (LongValue × List (List Leg))
    → List (LongVector × List (List Leg))
shown_entries s last entries = map (λ e. (shown s last e.0, e.1)) entries

-- the resource over given sums
abbrev pub resource_over : VectorResource → Settings → LongResource
resource_over sums s = record {
  sums = sums;
  rest = record { is_on = is_long s };
  window = record { is_on = is_long s; cap = pos s.fdp_cap };
}

-- the resource of a base's pairings
abbrev pub long_resource : Settings → ℤ → LongResource
long_resource s base_price =
    resource_over (vector_resource (settings_of_sums s) base_price) s
