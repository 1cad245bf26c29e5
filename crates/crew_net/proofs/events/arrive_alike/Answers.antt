use Rattle.std.proofs.Common.{◌≡◌, IsTrue, List, ap, arith, nat_eq, of_z, sym, w32, ◌∙◌, ℕ, ℤ}
use Rattle.std.proofs.lemmas.Int.{ints}
use Rattle.crew_net.proofs.Geometry.{code-equal, equal-code}
use Rattle.crew_pairing.specs.Events.{arrival_of}
use Rattle.crew_pairing.specs.declared.duty.Duty.{Duty}
use Rattle.crew_pairing.specs.declared.events.Arrival.{Arrival}
use Rattle.crew_net.proofs.events.arrive_alike.Goals as goal

same-event : (a b : Duty) → a.to ≡ b.to → a.release ≡ b.release → arrival_of a ≡ arrival_of b
same-event a b code time =
    let event : List ℕ → ℤ → Arrival = λ code time. record { airport = code; release = time } in
    ap (λ (code : List ℕ). event code a.release) code ∙ ap (event b.to) time

number-same : (a b : ℤ) → IsTrue (nat_eq (of_z w32 a) (of_z w32 b)) → of_z w32 a ≡ of_z w32 b
number-same a b t = grind (arith, t)

same-number : (a b : ℤ) → a ≡ b → IsTrue (nat_eq (of_z w32 a) (of_z w32 b))
same-number a b e = rw e (grind arith)

pub returns-then-eq : goal.returns-then-eq
returns-then-eq c =
    let a = c.args.before.now in
    let b = c.args.after.now in
    let code = code-equal a.to b.to (sym c.eq.ensures ∙ c.if-eq.true) in (
      λ t. let same = number-same a.release b.release t in same-event a b code (omega (arith, ints, same)),
      λ h. same-number a.release b.release (ap (λ (e : Arrival). e.release) h),
    )

pub returns-else-eq : goal.returns-else-eq
returns-else-eq c =
    let a = c.args.before.now in
    let b = c.args.after.now in (
      λ t. absurd (let q : ⊥ = (cc) in q),
      λ h. c.eq.ensures ∙ equal-code a.to b.to (ap (λ (e : Arrival). e.airport) h),
    )
