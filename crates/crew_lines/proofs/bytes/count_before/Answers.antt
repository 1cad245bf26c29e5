use Rattle.std.proofs.Common.{subst}
use Rattle.memchr.specs.Find.{IsFirstByte, is_byte}
use Rattle.crew_lines.proofs.ByteFacts.{count-all, count-found}
use Rattle.crew_lines.proofs.bytes.count_before.Goals as goal

pub returns-in-Some-clause-value : goal.returns-in-Some-clause-value
returns-in-Some-clause-value c = count-found c.args.byte _ c.args.bytes.now (subst (IsFirstByte (is_byte c.args.byte) c.args.bytes.now) c.in-Some.is c.memchr.ensures)

pub returns-in-None-clause-value : goal.returns-in-None-clause-value
returns-in-None-clause-value c = count-all c.args.byte c.args.bytes.now (subst (IsFirstByte (is_byte c.args.byte) c.args.bytes.now) c.in-None.is c.memchr.ensures)
