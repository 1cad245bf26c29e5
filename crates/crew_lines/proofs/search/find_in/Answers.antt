use Rattle.std.proofs.Common.{arith, rules}
use Rattle.crew_lines.proofs.FoundFacts.{found-long, found-whole}
use Rattle.crew_lines.proofs.search.find_in.Goals as goal

pub returns-then-end-gt-MOST-clause-found : goal.returns-then-end-gt-MOST-clause-found
returns-then-end-gt-MOST-clause-found c = λ xs. found-long c.args.bytes.now xs (search rules)

pub returns-then-end-gt-MOST-clause-within : goal.returns-then-end-gt-MOST-clause-within
returns-then-end-gt-MOST-clause-within c = record { short = omega arith; shown = omega arith; passed = search rules }

pub returns-then-end-bytes-clause-found : goal.returns-then-end-bytes-clause-found
returns-then-end-bytes-clause-found c = λ xs. found-whole c.args.bytes.now c.count_before-end.result xs c.count_before-end.ensures.value (search rules) (search rules)
