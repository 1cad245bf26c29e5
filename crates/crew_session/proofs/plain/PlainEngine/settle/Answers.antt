use Rattle.std.proofs.Common.{rules}
use Rattle.crew_session.proofs.plain.PlainEngine.settle.Goals as goal

pub next-requires-sync-R : goal.next-requires-sync-R
next-requires-sync-R g c = λ κs below. record { shared = c.requires.shared }

pub returns-in-Err-clause-entries : goal.returns-in-Err-clause-entries
returns-in-Err-clause-entries g c = search rules
