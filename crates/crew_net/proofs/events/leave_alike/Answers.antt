use Rattle.std.proofs.Common.{◌≡◌, IsTrue, List, ap, arith, nat_eq, of_z, sym, w32, ◌∙◌, ℕ, ℤ}
use Rattle.std.proofs.lemmas.Int.{ints}
use Rattle.crew_net.proofs.Geometry.{code-equal, equal-code}
use Rattle.crew_pairing.specs.Events.{departure_of}
use Rattle.crew_pairing.specs.declared.duty.Duty.{Duty}
use Rattle.crew_pairing.specs.declared.events.Departure.{Departure}
use Rattle.crew_net.proofs.events.leave_alike.Goals as goal

same-event : (a b : Duty) → a.from ≡ b.from → a.report ≡ b.report → departure_of a ≡ departure_of b
same-event a b code time =
    let event : List ℕ → ℤ → Departure = λ code time. record { airport = code; report = time } in
    ap (λ (code : List ℕ). event code a.report) code ∙ ap (event b.from) time

number-same : (a b : ℤ) → IsTrue (nat_eq (of_z w32 a) (of_z w32 b)) → of_z w32 a ≡ of_z w32 b
number-same a b t = grind (arith, t)

same-number : (a b : ℤ) → a ≡ b → IsTrue (nat_eq (of_z w32 a) (of_z w32 b))
same-number a b e = rw e (grind arith)

pub returns-then-eq : goal.returns-then-eq
returns-then-eq c =
    let a = c.args.before.now in
    let b = c.args.after.now in
    let code = code-equal a.from b.from (sym c.eq.ensures ∙ c.if-eq.true) in (
      λ t. let same = number-same a.report b.report t in same-event a b code (omega (arith, ints, same)),
      λ h. same-number a.report b.report (ap (λ (e : Departure). e.report) h),
    )

pub returns-else-eq : goal.returns-else-eq
returns-else-eq c =
    let a = c.args.before.now in
    let b = c.args.after.now in (
      λ t. absurd (let q : ⊥ = (cc) in q),
      λ h. c.eq.ensures ∙ equal-code a.from b.from (ap (λ (e : Departure). e.airport) h),
    )
