use Rattle.std.proofs.Common.{rules, ◌≤◌, ◌*◌, ℕ, Fits, arith, w64}
use Rattle.std.proofs.lemmas.Grind.{common_steps}
use Rattle.crew_duty.proofs.search.put_own.Goals as goal

-- the place of a duty in memory
offset-duty : (place : ℕ) → place ≤ 200_000 → Fits w64 (place * 72)
offset-duty place h = omega arith

pub offset_bounds-found-so_far : goal.offset_bounds-found-so_far
offset_bounds-found-so_far c = offset-duty c.args.so_far c.requires.so_far

pub duty_from-requires-clause-path : goal.duty_from-requires-clause-path
duty_from-requires-clause-path c = search rules

pub returns : goal.returns
returns c = grind (arith, common_steps)
