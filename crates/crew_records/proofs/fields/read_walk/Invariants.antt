use Rattle.std.proofs.Common.{◌≡◌, length}
use Rattle.std.specs.Option.{option_map}
use Rattle.crew_records.specs.Machinery.Cuts.{spaced_of}
use Rattle.crew_records.specs.Fields as Spec
use Rattle.crew_records.proofs.WalkFacts.{read_on_keys}
use Rattle.crew_records.proofs.fields.read_walk.Given as goal

abbrev pub invariant-loop : goal.invariant-loop
invariant-loop l = (length l.walk ≡ l.counter) × (Spec.walk_field l.field ≡ read_on_keys l.walk (spaced_of (option_map (λ rest. rest.now) l.rest)))
