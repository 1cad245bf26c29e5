use Rattle.std.proofs.Common.{◌≡◌, length}
use Rattle.std.specs.Option.{option_map}
use Rattle.crew_records.specs.Machinery.Cuts.{texts_of}
use Rattle.crew_records.specs.Fields as Spec
use Rattle.crew_records.proofs.DutyFacts.{read_on_legs}
use Rattle.crew_records.proofs.fields.read_key.Given as goal

abbrev pub invariant-loop : goal.invariant-loop
invariant-loop l = (length l.key ≡ l.counter) × (Spec.duty_field l.field ≡ read_on_legs l.key (texts_of (option_map (λ rest. rest.now) l.rest)))
