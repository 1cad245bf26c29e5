-- The one refusal of an audit.
use Rattle.std.proofs.Common.{◌≡◌, ℕ, Some, refl}
use Rattle.crew_audit.specs.Faults.{audit_number}
use Rattle.crew_audit.specs.declared.partial.AuditFault.{AuditFault}
use Rattle.crew_audit.specs.declared.partial.AuditFault.TheVariants.{OverLimit, Memory}

pub over-limit : (fault : AuditFault) (why : ℕ) → audit_number fault ≡ Some why → (fault ≡ OverLimit) × (why ≡ 45)
over-limit OverLimit why e = let number : why ≡ 45 = cc in (refl, number)
over-limit Memory why e = cc
