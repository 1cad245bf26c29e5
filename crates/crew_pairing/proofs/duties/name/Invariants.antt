use Rattle.std.proofs.Common.{◌≡◌, ◌≤◌, ◌+◌, ◌++◌, replicate}
use Rattle.std.specs.Prelude.{vec_capacity, vec_len}
use Rattle.crew_pairing.proofs.duties.name.Given as goal

abbrev pub invariant-loop : goal.invariant-loop
invariant-loop l = (l.places.items ≡ l.fn.places.items ++ replicate l.counter l.place) × (vec_len l.places + l.count ≤ vec_capacity l.places + l.counter)
