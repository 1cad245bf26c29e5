-- A timetable has one plan, but for the order in which its departures are gone through.
use Rattle.std.proofs.Common.{◌≡◌, ◌<◌, ◌∙◌, ◌∷◌, [], ℕ, suc, ℤ, List, Some, length, refl, sym, ap, subst, arith}
use Rattle.std.specs.Prelude.{slice_get}
use Rattle.std.proofs.lemmas.List.{length-map}
use Rattle.std.specs.Cmp.{IsTotalOrder, int_cmp_total, on_total, then_total}
use Rattle.std.specs.FinMap as fin
use Rattle.std.specs.declared.cmp.Ordering.{Ordering}
use Rattle.std.specs.declared.cmp.Ordering.TheVariants.{Less}
use Rattle.crew_job.proofs.crew_duty_lemmas.Unique.{unique}
use Rattle.crew_flights.specs.Codes.{code_cmp_total}
use Rattle.crew_flights.specs.Timetable.{Timetable}
use Rattle.crew_net.specs.Events.{AreEvents, arrival_cmp, departure_cmp}
use Rattle.crew_net.specs.Nets.{Net}
use Rattle.crew_pairing.specs.Duties.{flights_of}
use Rattle.crew_pairing.specs.Events.{arrival_of, departure_of}
use Rattle.crew_pairing.specs.declared.duty.Duty.{Duty}
use Rattle.crew_pairing.specs.declared.events.Arrival.{Arrival}
use Rattle.crew_pairing.specs.declared.events.Departure.{Departure}
use Rattle.crew_resource.proofs.Rising.{Rising, same-rising}
use Rattle.crew_resource.specs.Members.{Each, Member}
use Rattle.crew_rules.specs.declared.settings.Settings.{Settings}
use Rattle.crew_job.specs.crew_plan.Plans.{IsPlanOf, Plan}

module _ {E : Type 0} (cmp : E → E → Ordering) where
  abbrev Rises : List E → Type 0
  Rises events = (i j : ℕ) (a b : E) → i < j → slice_get events i ≡ Some a → slice_get events j ≡ Some b → cmp a b ≡ Less

  each-later : (x : E) (xs ys : List E) → ((j : ℕ) (b : E) → slice_get ys j ≡ Some b → cmp x b ≡ Less) → Each (λ y. cmp x y ≡ Less) ys
  each-later x xs [] h = tt
  each-later x xs (y ∷ ys) h = (h 0 y refl, each-later x xs ys (λ j b e. h (suc j) b e))

  rising-of : (xs : List E) → Rises xs → Rising cmp xs
  rising-of [] r = tt
  rising-of (x ∷ xs) r = (each-later x xs xs (λ j b e. r 0 (suc j) x b (omega arith) refl e), rising-of xs (λ i j a b l e f. r (suc i) (suc j) a b (omega (arith, l)) e f))

  same-events : IsTotalOrder cmp → (event : Duty → E) (ds : List Duty) (xs ys : List E) → AreEvents event cmp ds xs → AreEvents event cmp ds ys → xs ≡ ys
  same-events total event ds xs ys h k =
      same-rising cmp total xs ys (rising-of xs h.rising) (rising-of ys k.rising)
      (λ z m. let d = h.some z m in subst (Member ys) d.2 (k.every d.0 d.1))
      (λ z m. let d = k.some z m in subst (Member xs) d.2 (h.every d.0 d.1))

departure-total : IsTotalOrder departure_cmp
departure-total = then_total (on_total (λ (g : Departure). g.airport) code_cmp_total) (on_total (λ (g : Departure). g.report) int_cmp_total)

arrival-total : IsTotalOrder arrival_cmp
arrival-total = then_total (on_total (λ (x : Arrival). x.airport) code_cmp_total) (on_total (λ (x : Arrival). x.release) int_cmp_total)

net-is : (a b : Net) → a.settings ≡ b.settings → a.bases ≡ b.bases → a.duties ≡ b.duties → a.departures ≡ b.departures → a.arrivals ≡ b.arrivals → a.by_report ≡ b.by_report → a ≡ b
net-is a b c d e f g h =
    ap (λ z. let n : Net = record { settings = z; bases = a.bases; duties = a.duties; departures = a.departures; arrivals = a.arrivals; by_report = a.by_report } in n) c
    ∙ (ap (λ z. let n : Net = record { settings = b.settings; bases = z; duties = a.duties; departures = a.departures; arrivals = a.arrivals; by_report = a.by_report } in n) d
    ∙ (ap (λ z. let n : Net = record { settings = b.settings; bases = b.bases; duties = z; departures = a.departures; arrivals = a.arrivals; by_report = a.by_report } in n) e
    ∙ (ap (λ z. let n : Net = record { settings = b.settings; bases = b.bases; duties = b.duties; departures = z; arrivals = a.arrivals; by_report = a.by_report } in n) f
    ∙ (ap (λ z. let n : Net = record { settings = b.settings; bases = b.bases; duties = b.duties; departures = b.departures; arrivals = z; by_report = a.by_report } in n) g
    ∙ ap (λ z. let n : Net = record { settings = b.settings; bases = b.bases; duties = b.duties; departures = b.departures; arrivals = b.arrivals; by_report = z } in n) h))))

pub one-plan : (s : Settings) (t : Timetable) (p q : Plan) → IsPlanOf s t p → IsPlanOf s t q → p.net.by_report ≡ q.net.by_report → p ≡ q
one-plan s t p q h k order =
    let a = h.network.2 in
    let b = k.network.2 in
    let ds : h.network.0 ≡ k.network.0 = unique s (flights_of t) h.network.0 k.network.0 h.network.1 k.network.1 in
    let departures = same-events departure_cmp departure-total departure_of k.network.0 p.net.departures q.net.departures (subst (λ (es : List Duty). AreEvents departure_of departure_cmp es p.net.departures) ds a.departures) b.departures in
    let arrivals = same-events arrival_cmp arrival-total arrival_of k.network.0 p.net.arrivals q.net.arrivals (subst (λ (es : List Duty). AreEvents arrival_of arrival_cmp es p.net.arrivals) ds a.arrivals) b.arrivals in
    let net = net-is p.net q.net (a.settings ∙ sym b.settings) (a.bases ∙ sym b.bases) (a.duties ∙ (ds ∙ sym b.duties)) departures arrivals order in
    ap (λ (z : Net). let r : Plan = record { net = z; prices = p.prices } in r) net ∙ ap (λ z. let r : Plan = record { net = q.net; prices = z } in r) (h.prices ∙ sym k.prices)

-- a base has one price
pub as-many : (s : Settings) (t : Timetable) (p : Plan) → IsPlanOf s t p → length p.prices ≡ length p.net.bases
as-many s t p is =
    ap length is.prices ∙ (sym (length-map (fin.entries t.bases) (λ (e : List ℕ × ℤ). e.0)) ∙ ap length (sym is.network.2.bases))

pub one-plan-of : (s u : Settings) (t w : Timetable) (p q : Plan) → s ≡ u → t ≡ w → IsPlanOf s t p → IsPlanOf u w q → p.net.by_report ≡ q.net.by_report → p ≡ q
one-plan-of s u t w p q e f h k order =
    let here : IsPlanOf s t q = subst (λ (z : Timetable). IsPlanOf s z q) (sym f) (subst (λ (z : Settings). IsPlanOf z w q) (sym e) k) in
    one-plan s t p q h here order
