-- Why a zone is refused.
use Rattle.std.proofs.Common.{◌≡◌, ◌<◌, ◌≤◌, ℕ, true, false, List, Some, None, ap, ◌∙◌, arith, if◌then◌else◌}
use Rattle.std.specs.Prelude.{nat_le}
use Rattle.std.specs.FinMap as map
use Rattle.std.proofs.lemmas.Bool.Decides.{nat_tests}
use Rattle.crew_session.specs.Zones.{Zones, zone_fault}
use Rattle.crew_records.specs.declared.fault.RecordFault.TheVariants.{ZoneExists, TooManyZones}

pub fault-exists : (z : Zones) (code : List ℕ) → map.contains_key z code ≡ true → zone_fault z code ≡ Some ZoneExists
fault-exists z code e = ap (λ b. if b then Some ZoneExists else (if nat_le 2_000 (map.len z) then Some TooManyZones else None)) e

pub fault-many : (z : Zones) (code : List ℕ) → map.contains_key z code ≡ false → 2_000 ≤ map.len z → zone_fault z code ≡ Some TooManyZones
fault-many z code e m =
    let many : nat_le 2_000 (map.len z) ≡ true = grind (arith, nat_tests) in
    ap (λ b. if b then Some ZoneExists else (if nat_le 2_000 (map.len z) then Some TooManyZones else None)) e ∙ ap (λ b. if b then Some TooManyZones else None) many

pub fault-none : (z : Zones) (code : List ℕ) → map.contains_key z code ≡ false → map.len z < 2_000 → zone_fault z code ≡ None
fault-none z code e m =
    let few : nat_le 2_000 (map.len z) ≡ false = grind (arith, nat_tests) in
    ap (λ b. if b then Some ZoneExists else (if nat_le 2_000 (map.len z) then Some TooManyZones else None)) e ∙ ap (λ b. if b then Some TooManyZones else None) few
