use Rattle.std.proofs.Common.{◌≡◌, length, All}
use Rattle.crew_publish.proofs.publisher.fill.Given as goal

abbrev pub invariant-loop : goal.invariant-loop
invariant-loop g l = (l.publisher ≡ l.initial.publisher) × (length l.made.items ≡ l.counter)
    × All (λ w. w.seen ≡ l.initial.publisher.list) l.made.items
