-- Sweeps with anchored labels give the fronts.
use Rattle.std.proofs.Common.{◌≡◌, ℕ, Bool, true, List, [], ◌∷◌, ◌++◌, cond, Option, Some, None, inl, inr, ℤ, refl, sym, ◌∙◌, ap, subst}
use Rattle.std.specs.Option.{option_map}
use Rattle.std.specs.Ordering.{eq_by_cmp}
use Rattle.std.proofs.lemmas.List.{map-append}
use Rattle.std.proofs.lemmas.Option.{cond_some}
use Rattle.crew_pairing.specs.Events.{departure_of, may_wait}
use Rattle.crew_pairing.specs.Duties.{AreDuties, flights_of}
use Rattle.crew_pairing.specs.Pairings.{IsDuty}
use Rattle.crew_pairing.specs.declared.duty.Duty.{Duty}
use Rattle.crew_pairing.specs.declared.events.Arrival.{Arrival}
use Rattle.crew_pairing.specs.declared.events.Departure.{Departure}
use Rattle.crew_pairing.specs.Legs.{Leg}
use Rattle.crew_flights.specs.Codes.{code_cmp}
use Rattle.crew_flights.specs.Timetable.{IsSound, Timetable}
use Rattle.crew_resource.specs.Events.{FromPools, labelled, view}
use Rattle.crew_resource.specs.Labels.{IsLocal}
use Rattle.crew_resource.specs.Members.{Member}
use Rattle.crew_rules.specs.Settings.{IsChecked}
use Rattle.crew_rules.specs.declared.settings.Settings.{Settings}
use Rattle.crew_vector.specs.Dominance.{is_at_most}
use Rattle.crew_vector.specs.Events.{ArrivedBefore, ArrivedToSpare, board_vector, idle_vector, network_of, wait_vector}
use Rattle.crew_pairing.specs.Keys.{walk_at_most}
use Rattle.crew_vector.specs.Fronts.{IsFrontAt}
use Rattle.crew_pairing.specs.declared.vector.PairingVector.{PairingVector}
use Rattle.crew_vector.proofs.Pooled.{swept-in-window}
use Rattle.crew_vector.proofs.Spared.{spared}
use Rattle.crew_anchor.specs.Anchors.{anchored, shown}
use Rattle.crew_anchor.specs.Stages.{anchored_board, anchored_idle, anchored_resource}
use Rattle.crew_anchor.specs.Sweeps.{anchored_network, shown_labels}
use Rattle.crew_anchor.proofs.Commuting.{board-is, idle-is, wait-is}
use Rattle.crew_anchor.proofs.Labels.{Member-shown, local-shown, shown-Member}
use Rattle.crew_anchor.proofs.Shifting.{anchored-exact, anchored-shown, shown-anchored}

abbrev Labelled : Type 0
Labelled = List (PairingVector × List (List Leg))

-- boarding, shown
unshown : (rate : ℕ) (minute : ℤ) (o : Option PairingVector) → option_map (shown rate minute) (option_map (anchored rate minute) o) ≡ o
unshown rate minute None = refl
unshown rate minute (Some v) = ap Some (shown-anchored rate minute v)

board-shown : (s : Settings) (price : ℤ) (v : PairingVector) (d : Duty) → board_vector s (shown s.trip_rig d.report v) d ≡ option_map (shown s.trip_rig d.release) (anchored_board (anchored_resource s price) v d)
board-shown s price v d =
    sym (unshown s.trip_rig d.release (board_vector s (shown s.trip_rig d.report v) d))
    ∙ (ap (option_map (shown s.trip_rig d.release)) (board-is s price (shown s.trip_rig d.report v) d)
    ∙ ap (λ z. option_map (shown s.trip_rig d.release) (anchored_board (anchored_resource s price) z d)) (anchored-shown s.trip_rig d.report v))

labelled-shown : (rate : ℕ) (minute : ℤ) (o : Option PairingVector) (w : List (List Leg)) → labelled (option_map (shown rate minute) o) w ≡ shown_labels rate minute (labelled o w)
labelled-shown rate minute None w = refl
labelled-shown rate minute (Some v) w = refl

pub view-shown : (s : Settings) (base : List ℕ) (price : ℤ) (duties : List Duty) (d : Duty) (pool : Labelled)
    → view (network_of s base price duties) d (shown_labels s.trip_rig d.report pool) ≡ shown_labels s.trip_rig d.release (view (anchored_network s base price duties) d pool)
view-shown s base price duties d [] = refl
view-shown s base price duties d (l ∷ pool) =
    let one = labelled (anchored_board (anchored_resource s price) l.0 d) (l.1 ++ d.key ∷ []) in
    ap (λ ls. ls ++ view (network_of s base price duties) d (shown_labels s.trip_rig d.report pool)) (ap (λ o. labelled o (l.1 ++ d.key ∷ [])) (board-shown s price l.0 d) ∙ labelled-shown s.trip_rig d.release (anchored_board (anchored_resource s price) l.0 d) (l.1 ++ d.key ∷ []))
    ∙ (ap (λ ls. shown_labels s.trip_rig d.release one ++ ls) (view-shown s base price duties d pool)
    ∙ sym (map-append (λ z. (shown s.trip_rig d.release z.0, z.1)) one (view (anchored_network s base price duties) d pool)))

-- the candidates of a departure event
idle-to : (s : Settings) (price : ℤ) (here : Bool) (g : Departure) (v : PairingVector) → cond here (Some (anchored_idle (anchored_resource s price) g.report)) None ≡ Some (anchored s.trip_rig g.report v) → cond here (Some (idle_vector price g)) None ≡ Some v
idle-to s price here g v e =
    let k = cond_some here (anchored_idle (anchored_resource s price) g.report) (anchored s.trip_rig g.report v) e in
    ap (λ b. cond b (Some (idle_vector price g)) None) k.0 ∙ ap Some (anchored-exact s.trip_rig g.report (idle_vector price g) v (idle-is s price g ∙ k.1))

idle-back : (s : Settings) (price : ℤ) (here : Bool) (g : Departure) (v : PairingVector) → cond here (Some (idle_vector price g)) None ≡ Some v → cond here (Some (anchored_idle (anchored_resource s price) g.report)) None ≡ Some (anchored s.trip_rig g.report v)
idle-back s price here g v e =
    let k = cond_some here (idle_vector price g) v e in
    ap (λ b. cond b (Some (anchored_idle (anchored_resource s price) g.report)) None) k.0 ∙ ap Some (sym (idle-is s price g) ∙ ap (anchored s.trip_rig g.report) k.1)

pool-to : (s : Settings) (base : List ℕ) (price : ℤ) (duties : List Duty) (arrivals : Arrival → Labelled) (g : Departure) (v : PairingVector) (w : List (List Leg))
    → FromPools (anchored_network s base price duties) arrivals g (anchored s.trip_rig g.report v) w
    → FromPools (network_of s base price duties) (λ x. shown_labels s.trip_rig x.release (arrivals x)) g v w
pool-to s base price duties arrivals g v w (inl c) = inl (c.0, idle-to s price (eq_by_cmp code_cmp g.airport base) g v c.1)
pool-to s base price duties arrivals g v w (inr c) =
    let x = c.0 in
    let u = shown s.trip_rig x.release c.1 in
    inr (x, u, c.2, Member-shown s.trip_rig x.release (arrivals x) c.1 w c.3, anchored-exact s.trip_rig g.report v (wait_vector s u x g) (c.4 ∙ (sym (anchored-shown s.trip_rig x.release c.1) ∙ sym (wait-is s u x g))))

pool-back : (s : Settings) (base : List ℕ) (price : ℤ) (duties : List Duty) (arrivals : Arrival → Labelled) (g : Departure) (v : PairingVector) (w : List (List Leg))
    → FromPools (network_of s base price duties) (λ x. shown_labels s.trip_rig x.release (arrivals x)) g v w
    → FromPools (anchored_network s base price duties) arrivals g (anchored s.trip_rig g.report v) w
pool-back s base price duties arrivals g v w (inl c) = inl (c.0, idle-back s price (eq_by_cmp code_cmp g.airport base) g v c.1)
pool-back s base price duties arrivals g v w (inr c) =
    let x = c.0 in
    inr (x, anchored s.trip_rig x.release c.1, c.2, shown-Member s.trip_rig x.release (arrivals x) c.1 w c.3, ap (anchored s.trip_rig g.report) c.4 ∙ wait-is s c.1 x g)

-- the candidates of an arrival event
arrived-to : (s : Settings) (base : List ℕ) (price : ℤ) (duties : List Duty) (pools : Departure → Labelled) (minute : ℤ) (x : Arrival) (v : PairingVector) (w : List (List Leg))
    → ArrivedBefore (anchored_network s base price duties) (λ e. view (anchored_network s base price duties) e (pools (departure_of e))) minute x (anchored s.trip_rig x.release v) w
    → ArrivedBefore (network_of s base price duties) (λ e. view (network_of s base price duties) e (shown_labels s.trip_rig e.report (pools (departure_of e)))) minute x v w
arrived-to s base price duties pools minute x v w c =
    let d = c.0 in
    let seen = view (anchored_network s base price duties) d (pools (departure_of d)) in
    let at : d.release ≡ x.release = ap (λ z. z.release) c.3 in
    let same : shown s.trip_rig d.release (anchored s.trip_rig x.release v) ≡ v = ap (λ z. shown s.trip_rig z (anchored s.trip_rig x.release v)) at ∙ shown-anchored s.trip_rig x.release v in
    let m = Member-shown s.trip_rig d.release seen (anchored s.trip_rig x.release v) w c.4 in
    let n : Member (shown_labels s.trip_rig d.release seen) (v, w) = subst (λ z. Member (shown_labels s.trip_rig d.release seen) (z, w)) same m in
    (d, c.1, c.2, c.3, subst (λ ls. Member ls (v, w)) (sym (view-shown s base price duties d (pools (departure_of d)))) n)

arrived-back : (s : Settings) (base : List ℕ) (price : ℤ) (duties : List Duty) (pools : Departure → Labelled) (minute : ℤ) (x : Arrival) (v : PairingVector) (w : List (List Leg))
    → ArrivedBefore (network_of s base price duties) (λ e. view (network_of s base price duties) e (shown_labels s.trip_rig e.report (pools (departure_of e)))) minute x v w
    → ArrivedBefore (anchored_network s base price duties) (λ e. view (anchored_network s base price duties) e (pools (departure_of e))) minute x (anchored s.trip_rig x.release v) w
arrived-back s base price duties pools minute x v w c =
    let d = c.0 in
    let seen = view (anchored_network s base price duties) d (pools (departure_of d)) in
    let at : d.release ≡ x.release = ap (λ z. z.release) c.3 in
    let n : Member (shown_labels s.trip_rig d.release seen) (v, w) = subst (λ ls. Member ls (v, w)) (view-shown s base price duties d (pools (departure_of d))) c.4 in
    (d, c.1, c.2, c.3, subst (λ z. Member seen (anchored s.trip_rig z v, w)) at (shown-Member s.trip_rig d.release seen v w n))

-- what a sweep with anchored labels has, shown, is what a sweep with plain labels has
module _ (s : Settings) (t : Timetable) (base : List ℕ) (price : ℤ) (duties : List Duty) (checked : IsChecked s) (sound : IsSound t) (exactly : AreDuties s t duties)
    (pools : Departure → Labelled) (arrivals : Departure → Arrival → Labelled)
    (pool_local : (d : Duty) → IsDuty s (flights_of t) d → IsLocal is_at_most walk_at_most (FromPools (anchored_network s base price duties) (arrivals (departure_of d)) (departure_of d)) (pools (departure_of d))) where
  abbrev plain_pools : Departure → Labelled
  plain_pools g = shown_labels s.trip_rig g.report (pools g)

  abbrev plain_arrivals : Departure → Arrival → Labelled
  plain_arrivals g x = shown_labels s.trip_rig x.release (arrivals g x)

  abbrev anchored_views : Duty → Labelled
  anchored_views e = view (anchored_network s base price duties) e (pools (departure_of e))

  abbrev plain_views : Duty → Labelled
  plain_views e = view (network_of s base price duties) e (plain_pools (departure_of e))

  plain-pool : (d : Duty) → IsDuty s (flights_of t) d → IsLocal is_at_most walk_at_most (FromPools (network_of s base price duties) (plain_arrivals (departure_of d)) (departure_of d)) (plain_pools (departure_of d))
  plain-pool d legal =
      local-shown s.trip_rig d.report (FromPools (anchored_network s base price duties) (arrivals (departure_of d)) (departure_of d)) (FromPools (network_of s base price duties) (plain_arrivals (departure_of d)) (departure_of d)) (pools (departure_of d))
      (λ v w c. pool-to s base price duties (arrivals (departure_of d)) (departure_of d) v w c)
      (λ v w c. pool-back s base price duties (arrivals (departure_of d)) (departure_of d) v w c)
      (pool_local d legal)

  plain-front : (d : Duty) → IsFrontAt s t base price d (plain_views d) → IsFrontAt s t base price d (shown_labels s.trip_rig d.release (anchored_views d))
  plain-front d front = subst (IsFrontAt s t base price d) (view-shown s base price duties d (pools (departure_of d))) front

  pub windowed : ((d : Duty) (x : Arrival) → IsDuty s (flights_of t) d → may_wait s x (departure_of d) ≡ true → IsLocal is_at_most walk_at_most (ArrivedBefore (anchored_network s base price duties) anchored_views d.report x) (arrivals (departure_of d) x))
      → (d : Duty) → IsDuty s (flights_of t) d → IsFrontAt s t base price d (shown_labels s.trip_rig d.release (anchored_views d))
  windowed arrival_local d legal =
      plain-front d
      (swept-in-window s t base price duties checked sound exactly plain_pools plain_arrivals plain-pool
      (λ e x l window. local-shown s.trip_rig x.release (ArrivedBefore (anchored_network s base price duties) anchored_views e.report x) (ArrivedBefore (network_of s base price duties) plain_views e.report x) (arrivals (departure_of e) x)
      (λ v w c. arrived-to s base price duties pools e.report x v w c)
      (λ v w c. arrived-back s base price duties pools e.report x v w c)
      (arrival_local e x l window))
      d legal)

  pub to-spare : ((d : Duty) (x : Arrival) → IsDuty s (flights_of t) d → may_wait s x (departure_of d) ≡ true → IsLocal is_at_most walk_at_most (ArrivedToSpare s (anchored_network s base price duties) anchored_views d.report x) (arrivals (departure_of d) x))
      → (d : Duty) → IsDuty s (flights_of t) d → IsFrontAt s t base price d (shown_labels s.trip_rig d.release (anchored_views d))
  to-spare arrival_local d legal =
      plain-front d
      (spared s t base price checked sound duties exactly plain_pools plain_arrivals plain-pool
      (λ e x l window. local-shown s.trip_rig x.release (ArrivedToSpare s (anchored_network s base price duties) anchored_views e.report x) (ArrivedToSpare s (network_of s base price duties) plain_views e.report x) (arrivals (departure_of e) x)
      (λ v w c. (arrived-to s base price duties pools e.report x v w c.0, c.1))
      (λ v w c. (arrived-back s base price duties pools e.report x v w c.0, c.1))
      (arrival_local e x l window))
      d legal)
