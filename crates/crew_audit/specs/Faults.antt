-- The numbers of refusals.
use Rattle.std.specs.Prelude.{ℕ, Option, Some, None}
use Rattle.crew_audit.specs.declared.partial.AuditFault.{AuditFault}
use Rattle.crew_audit.specs.declared.partial.AuditFault.TheVariants.{OverLimit, Memory}

-- the number of a refusal; want of memory has none
abbrev pub audit_number : AuditFault → Option ℕ
audit_number OverLimit = Some 45
audit_number Memory = None
