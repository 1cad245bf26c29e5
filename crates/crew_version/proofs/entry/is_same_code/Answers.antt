use Rattle.std.proofs.Common.{◌≡◌, ℕ, List}
use Rattle.std.specs.Bool.{Decides}
use Rattle.std.specs.Ordering.{eq_by_cmp}
use Rattle.crew_flights.specs.Codes.{code_cmp}
use Rattle.crew_vector.proofs.Orders.{code-itself, same-code}
use Rattle.crew_version.proofs.entry.is_same_code.Goals as goal

code-decides : (a b : List ℕ) → Decides (eq_by_cmp code_cmp a b) (a ≡ b)
code-decides a b = (λ e. same-code a b e, λ e. code-itself a b e)

pub returns : goal.returns
returns c = rw (← c.eq.ensures) at (code-decides c.args.one.now c.args.other.now)
