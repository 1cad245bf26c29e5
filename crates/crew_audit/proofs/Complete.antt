-- The tree of partials lists every partial pairing.
use Rattle.std.proofs.Common.{◌≡◌, ◌&&◌, ◌<◌, ℕ, zero, suc, ℤ, pos, ◌≤ℤ◌, ◌-ℤ◌, int_le, true, List, [], ◌∷◌, ◌++◌, length, refl, sym, ap, subst, ◌∙◌, append_assoc, length-append, arith, inl, inr}
use Rattle.std.specs.Ordering.{eq_by_cmp, is_eq}
use Rattle.std.proofs.lemmas.Bool.{and_parts}
use Rattle.std.proofs.lemmas.Cmp.{tied_itself}
use Rattle.std.proofs.lemmas.Int.{ints}
use Rattle.crew_flights.specs.Codes.{code_cmp, code_cmp_total}
use Rattle.crew_rules.specs.declared.settings.Settings.{Settings}
use Rattle.crew_pairing.specs.Flights.{Flights}
use Rattle.crew_pairing.specs.Legality.{IsLegal, duty_of, total}
use Rattle.crew_pairing.specs.Machinery.Listing.{all_duties}
use Rattle.crew_resource.specs.Members.{Each, Member}
use Rattle.crew_pairing.specs.Pairings.{AllRested, IsDuty, last_duty, may_stand_after}
use Rattle.crew_pairing.specs.Machinery.Beginnings.{AreFlights}
use Rattle.crew_pairing.specs.declared.duty.Duty.{Duty}
use Rattle.crew_pairing.proofs.Complete.{all-every}
use Rattle.crew_pairing.proofs.InList.{Member-flat_map}
use Rattle.crew_pairing.specs.declared.leg.TimedLeg.{TimedLeg}
use Rattle.crew_pairing.proofs.Legal.{Each-after, known-sound}
use Rattle.crew_pairing.proofs.Sums.{total-append}
use Rattle.crew_pairing.proofs.Times.{ends-later, flown-total}
use Rattle.crew_pairing.proofs.Tree.{Each-map}
use Rattle.crew_audit.specs.Machinery.Endings.{keeps_limits}
use Rattle.crew_audit.specs.Machinery.Listing.{after, goes_on, keeps_totals, listed, with_next}
use Rattle.crew_audit.specs.declared.partial.Partial.{Partial}
use Rattle.crew_audit.proofs.Chains.{both-on, caps-kept, within-caps}
use Rattle.crew_audit.proofs.Sound.{IsBegun}
use Rattle.crew_audit.proofs.Steps.{after-open, next-on}

-- what is capped grows by a duty
record Grows (d : Duty) : Type 0 where
  fdp : pos 0 ≤ℤ d.fdp
  fly : pos 0 ≤ℤ d.fly
  elapsed : pos 0 ≤ℤ (d.release -ℤ d.report)

fdp-rises : (ds : List Duty) → Each Grows ds → pos 0 ≤ℤ total (λ d. d.fdp) ds
fdp-rises [] h = omega (arith, ints)
fdp-rises (d ∷ ds) h = omega (arith, ints, h.0.fdp, fdp-rises ds h.1)

fly-rises : (ds : List Duty) → Each Grows ds → pos 0 ≤ℤ total (λ d. d.fly) ds
fly-rises [] h = omega (arith, ints)
fly-rises (d ∷ ds) h = omega (arith, ints, h.0.fly, fly-rises ds h.1)

int-le : (m n : ℤ) → int_le m n ≡ true → m ≤ℤ n
int-le m n h = grind (arith, ints)

rested : (s : Settings) (a b : Duty) → may_stand_after s a b ≡ true → a.release ≤ℤ b.report
rested s a b e = let gap = int-le (pos 600) (b.report -ℤ a.release) (and_parts _ _ (and_parts _ _ e).1).0 in omega (arith, ints, gap)

release-rises : (s : Settings) (last : Duty) (more : List Duty) → Each Grows more → AllRested s last more → last.release ≤ℤ (last_duty last more).release
release-rises s last [] sound h = omega (arith, ints)
release-rises s last (next ∷ more) sound h =
    let gap = rested s last next h.0 in
    let own = sound.0.elapsed in
    let later = release-rises s next more sound.1 h.1 in
    omega (arith, ints, gap, own, later)

AllRested-after : (s : Settings) (first : Duty) (others more : List Duty) → AllRested s first (others ++ more) → AllRested s (last_duty first others) more
AllRested-after s first [] more h = h
AllRested-after s first (x ∷ others) more h = AllRested-after s x others more h.1

last_duty-append : (first : Duty) (others more : List Duty) → last_duty first (others ++ more) ≡ last_duty (last_duty first others) more
last_duty-append first [] more = refl
last_duty-append first (x ∷ others) more = last_duty-append x others more

-- where a whole list is within the caps a beginning of it is
caps-begin : (s : Settings) (first : Duty) (others more : List Duty) → Each Grows more → AllRested s first (others ++ more) → keeps_totals s (first ∷ others ++ more) ≡ true
    → keeps_totals s (first ∷ others) ≡ true
caps-begin s first others more sound rests h =
    let w = within-caps s (first ∷ others ++ more) h in
    let fdp = total-append (λ (d : Duty). d.fdp) (first ∷ others) more in
    let fly = total-append (λ (d : Duty). d.fly) (first ∷ others) more in
    let a = fdp-rises more sound in
    let b = fly-rises more sound in
    let later = release-rises s (last_duty first others) more sound (AllRested-after s first others more rests) in
    let end = ap (λ (d : Duty). d.release) (last_duty-append first others more) in
    caps-kept s (first ∷ others) (record {
      fdp = omega (arith, ints, fdp, a, w.fdp);
      fly = omega (arith, ints, fly, b, w.fly);
      count = omega (arith, w.count, length-append (first ∷ others) more);
      away = omega (arith, ints, w.away, later, end);
    })

legal-grows : (s : Settings) (flights : Flights) (first : TimedLeg) (others : List TimedLeg) → AreFlights flights → IsLegal s flights first others → Grows (duty_of s first others)
legal-grows s flights first others f legal =
    let sound = known-sound flights (first ∷ others) f legal.known in
    let later = ends-later s flights.turns first others sound legal.connected in
    let flown = flown-total (first ∷ others) sound in
    record { fdp = omega (arith, ints, later); fly = flown.0; elapsed = omega (arith, ints, later) }

duty-grows : (s : Settings) (flights : Flights) (d : Duty) → AreFlights flights → IsDuty s flights d → Grows d
duty-grows s flights d f legal =
    let same : d ≡ duty_of s legal.0 legal.1 = legal.3 in
    subst Grows (sym same) (legal-grows s flights legal.0 legal.1 f legal.2)

all-of-them : (s : Settings) (flights : Flights) (ds : List Duty) → AreFlights flights → Each (IsDuty s flights) ds → Each Grows ds
all-of-them s flights ds f h = Each-map (IsDuty s flights) Grows ds (λ d k. duty-grows s flights d f k) h

-- each next duty of a partial goes on from those before
goes : (s : Settings) (flights : Flights) (base : List ℕ) (before : List Duty) (d : Duty) (more : List Duty) → AreFlights flights → IsBegun s flights base (before ++ d ∷ more)
    → goes_on base s before d ≡ true
goes s flights base [] d more f b =
    let sound = all-of-them s flights more f b.legal.1 in
    both-on (eq_by_cmp code_cmp d.from base) (keeps_totals s (d ∷ []) && keeps_limits s (d ∷ []))
    (ap (λ (x : List ℕ). eq_by_cmp code_cmp x base) b.leaves ∙ ap is_eq (tied_itself code_cmp_total base))
    (both-on (keeps_totals s (d ∷ [])) (keeps_limits s (d ∷ [])) (caps-begin s d [] more sound b.rested b.capped) (b.ends [] more refl))
goes s flights base (first ∷ others) d more f b =
    let after-these = Each-after (IsDuty s flights) (first ∷ others) (d ∷ more) b.legal in
    let sound = all-of-them s flights more f after-these.1 in
    let joins = AllRested-after s first others (d ∷ more) b.rested in
    let joined : (others ++ d ∷ []) ++ more ≡ others ++ d ∷ more = append_assoc others (d ∷ []) more in
    let rests = subst (AllRested s first) (sym joined) b.rested in
    let capped = subst (λ (ds : List Duty). keeps_totals s (first ∷ ds) ≡ true) (sym joined) b.capped in
    let longer = first ∷ others ++ d ∷ [] in
    both-on (may_stand_after s (last_duty first others) d) (keeps_totals s longer && keeps_limits s longer) joins.0
    (both-on (keeps_totals s longer) (keeps_limits s longer) (caps-begin s first (others ++ d ∷ []) more sound rests capped) (b.ends (others ++ d ∷ []) more joined))

legal-next : (s : Settings) (flights : Flights) (base : List ℕ) (before : List Duty) (d : Duty) (more : List Duty) → IsBegun s flights base (before ++ d ∷ more) → IsDuty s flights d
legal-next s flights base [] d more b = b.legal.0
legal-next s flights base (first ∷ others) d more b = (Each-after (IsDuty s flights) (first ∷ others) (d ∷ more) b.legal).0

known : (s : Settings) (flights : Flights) (d : Duty) → AreFlights flights → IsDuty s flights d → Member (all_duties s flights) d
known s flights d f legal =
    let same : d ≡ duty_of s legal.0 legal.1 = legal.3 in
    subst (Member (all_duties s flights)) (sym same) (all-every s flights legal.0 legal.1 f legal.2)

-- each partial that goes on from these duties is listed
pub after-every : (room : ℕ) (s : Settings) (flights : Flights) (base : List ℕ) (price : ℤ) (before : List Duty) (d : Duty) (more : List Duty) → AreFlights flights
    → IsBegun s flights base (before ++ d ∷ more) → length more < room → Member (after room s flights base price before) (listed s base price (before ++ d ∷ more))
after-every zero s flights base price before d more f b h = absurd (omega arith)
after-every (suc room) s flights base price before d [] f b h =
    let on = next-on room s flights base price before d (goes s flights base before d [] f b) in
    let here : Member (with_next room s flights base price before d) (listed s base price (before ++ d ∷ [])) = subst (λ (ps : List Partial). Member ps (listed s base price (before ++ d ∷ []))) (sym on) (inl refl) in
    rw (after-open room s flights base price before)
    (Member-flat_map (with_next room s flights base price before) (all_duties s flights) d (listed s base price (before ++ d ∷ [])) (known s flights d f (legal-next s flights base before d [] b)) here)
after-every (suc room) s flights base price before d (e ∷ more) f b h =
    let on = next-on room s flights base price before d (goes s flights base before d (e ∷ more) f b) in
    let joined : (before ++ d ∷ []) ++ e ∷ more ≡ before ++ d ∷ e ∷ more = append_assoc before (d ∷ []) (e ∷ more) in
    let deep = after-every room s flights base price (before ++ d ∷ []) e more f (subst (IsBegun s flights base) (sym joined) b) (omega arith) in
    let moved = subst (λ (ds : List Duty). Member (after room s flights base price (before ++ d ∷ [])) (listed s base price ds)) joined deep in
    let here : Member (with_next room s flights base price before d) (listed s base price (before ++ d ∷ e ∷ more)) = subst (λ (ps : List Partial). Member ps (listed s base price (before ++ d ∷ e ∷ more))) (sym on) (inr moved) in
    rw (after-open room s flights base price before)
    (Member-flat_map (with_next room s flights base price before) (all_duties s flights) d (listed s base price (before ++ d ∷ e ∷ more)) (known s flights d f (legal-next s flights base before d (e ∷ more) b)) here)
