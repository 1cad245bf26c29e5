-- Flights that are found equal are one.
use Rattle.std.proofs.Common.{◌≡◌, ◌&&◌, ◌∙◌, ℕ, true, sym}
use Rattle.std.specs.Prelude.{◌==◌}
use Rattle.std.specs.Ordering.{eq_by_cmp, int_eq, nat_cmp}
use Rattle.std.specs.Cmp.{unsigned_tied}
use Rattle.std.proofs.lemmas.Bool.{and_parts}
use Rattle.std.proofs.lemmas.Bool.Decides.{Decides-eqb, Decides-int_eq}
use Rattle.crew_flights.specs.Codes.{code_cmp}
use Rattle.crew_flights.specs.declared.flight.Flight.{Flight}
use Rattle.crew_duty.proofs.Slots.{code-equal}

number-equal : (a b : ℕ) → eq_by_cmp nat_cmp a b ≡ true → a ≡ b
number-equal a b h = (Decides-eqb a b).0 (sym (unsigned_tied a b) ∙ h)

pub equal-flights : (f g : Flight) → (eq_by_cmp nat_cmp f.id g.id && (eq_by_cmp code_cmp f.from g.from && (eq_by_cmp code_cmp f.to g.to && (int_eq f.dep g.dep && (int_eq f.arr g.arr && ((f.report_clock == g.report_clock) && int_eq f.price g.price)))))) ≡ true → f ≡ g
equal-flights f g h =
    let a = and_parts (eq_by_cmp nat_cmp f.id g.id) _ h in
    let b = and_parts (eq_by_cmp code_cmp f.from g.from) _ a.1 in
    let d = and_parts (eq_by_cmp code_cmp f.to g.to) _ b.1 in
    let e = and_parts (int_eq f.dep g.dep) _ d.1 in
    let k = and_parts (int_eq f.arr g.arr) _ e.1 in
    let l = and_parts (f.report_clock == g.report_clock) (int_eq f.price g.price) k.1 in
    let id = number-equal f.id g.id a.0 in
    let from = code-equal f.from g.from b.0 in
    let to = code-equal f.to g.to d.0 in
    let dep = (Decides-int_eq f.dep g.dep).0 e.0 in
    let arr = (Decides-int_eq f.arr g.arr).0 k.0 in
    let clock = (Decides-eqb f.report_clock g.report_clock).0 l.0 in
    let price = (Decides-int_eq f.price g.price).0 l.1 in
    λ i. record { id = id i; from = from i; to = to i; dep = dep i; arr = arr i; report_clock = clock i; price = price i }
