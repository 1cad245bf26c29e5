-- The world of crew pairing meets what the machine asks of it.
use Rattle.std.proofs.Common.{◌≡◌, ℕ, zero, suc, ◌+◌, ◌<◌, Bool, true, false, cond, List, [], ◌∷◌, ◌++◌, map, length, reverse, Option, Some, None, inl, inr, ℤ, pos, ◌+ℤ◌, ◌-ℤ◌, ◌*ℤ◌, refl, sym, ◌∙◌, ap, subst, ⊎_elim, arith}
use Rattle.std.specs.FinMap as fin
use Rattle.std.specs.List.{filter}
use Rattle.std.specs.Ordering.{nat_cmp}
use Rattle.crew_answers.proofs.Cheapest.{entry-pairing, least-entry, no-entry}
use Rattle.crew_answers.proofs.Feeding.{front-of-local, local-of-front}
use Rattle.crew_answers.proofs.PlainNodes.{node-front, shown, shown-front, some}
use Rattle.crew_answers.proofs.Unique.{same-front, same-listed}
use Rattle.crew_answers.specs.Bests.{AreFronts, IsBest, IsCleanPairing, IsHomeEntry}
use Rattle.crew_answers.specs.Fronts.{IsFrontAt}
use Rattle.crew_answers.specs.Locals.{AreFrontsBefore, Feed, IsLocalAt}
use Rattle.crew_answers.specs.LongVectors.{LongVector}
use Rattle.crew_flights.proofs.Soundness.{changed_sound, empty_sound}
use Rattle.crew_flights.specs.Edits.{applied, apply_of, refusal_of}
use Rattle.crew_flights.specs.Fold.{data_after, is_in_turn}
use Rattle.crew_flights.specs.Places.{placed}
use Rattle.crew_flights.specs.Timetable.{IsSound, Timetable, empty_timetable}
use Rattle.crew_flights.specs.declared.edit.Edit.{Edit}
use Rattle.crew_flights.specs.declared.edit.Refusal.{Refusal}
use Rattle.crew_flights.specs.declared.entries.Entry.{Entry}
use Rattle.crew_flights.specs.declared.flight.Flight.{Flight}
use Rattle.crew_machine.proofs.Cells.{Some-same}
use Rattle.crew_machine.proofs.Decided.{told-node}
use Rattle.crew_machine.proofs.Progress.{earlier, time-of}
use Rattle.crew_resource.proofs.Members.{Member-map_in, Member-map_out}
use Rattle.crew_machine.specs.Crew.{ComesHome, CrewVersion, DutyNode, DutyWork, Entries, Inputs, IsFromScratch, IsFrontOf, IsLeastOf, IsLocalOf, IsNodeOf, MayPrecede, crew, feed_of, pairing_of, timetable_of}
use Rattle.crew_machine.specs.Machinery.Sound.{IsVersion}
use Rattle.crew_machine.specs.Machinery.Worked.{IsScratch, Laws}
use Rattle.crew_machine.specs.Worlds.{AreNodes, IsBefore, IsUnreached, IsWorkOf, Leads}
use Rattle.crew_pairing.specs.Duties.{HasFew, flights_of}
use Rattle.crew_pairing.specs.Legs.{Leg}
use Rattle.crew_pairing.specs.Pairings.{IsDuty, may_stand_after}
use Rattle.crew_pairing.specs.Vectors.{reduced_cost}
use Rattle.crew_pairing.specs.declared.duty.Duty.{Duty}
use Rattle.crew_resource.proofs.Members.{Member-filter_in, Member-filter_out}
use Rattle.crew_resource.specs.Members.{Member}
use Rattle.crew_rules.specs.Settings.{IsChecked}
use Rattle.crew_rules.specs.declared.settings.Settings.{Settings}
use Rattle.crew_answers.proofs.crew_vector_lemmas.Nodes.{Known, arcs-rise, rank}
use Rattle.crew_answers.proofs.crew_vector_lemmas.Paths.{known-legal, legal-known}
use Rattle.crew_answers.specs.crew_vector.declared.priced.PricedPairing.{PricedPairing}

-- ---- what entries come to is sound

sound-by : (t : Timetable) (edit : Edit) (o : Option Refusal) → refusal_of t edit ≡ o → IsSound t → IsSound (applied t edit o).0
sound-by t edit None e h = changed_sound t edit h e
sound-by t edit (Some why) e h = h

sound-if : (b : Bool) (t u : Timetable) → IsSound t → IsSound u → IsSound (cond b t u)
sound-if true t u h k = h
sound-if false t u h k = k

sound-after : (earlier : List Entry) → IsSound (data_after earlier)
sound-after [] = empty_sound
sound-after (e ∷ earlier) =
    let h = sound-after earlier in
    sound-if (is_in_turn earlier e) (apply_of (data_after earlier) e.edit).0 (data_after earlier) (sound-by (data_after earlier) e.edit (refusal_of (data_after earlier) e.edit) refl h) h

pub timetable-sound : (entries : List Entry) → IsSound (timetable_of entries)
timetable-sound entries = sound-after (reverse entries)

-- ---- some duties, each with its front

record IsFeedOf (front : Duty → Entries → Type 0) (ds : List Duty) (feed : Feed) : Type 0 where
  pub right : (e : Duty) (es : Entries) → Member feed (e, es) → Member ds e × front e es
  pub every : (e : Duty) → Member ds e → (es : Entries) × Member feed (e, es)

feed-by : (front : Duty → Entries → Type 0) (ds : List Duty) → ((e : Duty) → Member ds e → (es : Entries) × front e es) → (feed : Feed) × IsFeedOf front ds feed
feed-by front [] some = ([], record { right = λ e es m. absurd m; every = λ e m. absurd m })
feed-by front (d ∷ ds) some =
    let own = some d (inl refl) in
    let rest = feed-by front ds (λ e m. some e (inr m)) in
    let head : Duty × Entries = (d, own.0) in (
      head ∷ rest.0,
      record {
        right = λ e es m. elim m as (λ _. Member (d ∷ ds) e × front e es) [
          | inl q ↦ (inl (ap (λ (z : Duty × Entries). z.0) q), subst (λ (z : Duty × Entries). front z.0 z.1) q own.1)
          | inr k ↦ (inr (rest.1.right e es k).0, (rest.1.right e es k).1)
        ];
        every = λ e m. elim m as (λ _. (es : Entries) × Member (head ∷ rest.0) (e, es)) [
          | inl q ↦ (own.0, inl (ap (λ (x : Duty). let z : Duty × Entries = (x, own.0) in z) q))
          | inr k ↦ ((rest.1.every e k).0, inr (rest.1.every e k).1)
        ];
      },
    )

abbrev node-of : List ℕ → Duty → DutyNode
node-of base d = record { base = base; duty = d }

module _ (s : Settings) (checked : IsChecked s) where
  range : IsChecked s
  range = checked

  -- two prices of one base are one
  pub one-price : (t : Timetable) (base other : List ℕ) (p q : ℤ) → base ≡ other → fin.get t.bases base ≡ Some p → fin.get t.bases other ≡ Some q → p ≡ q
  one-price t base other p q same a b = Some-same p q (sym a ∙ (ap (fin.get t.bases) same ∙ b))

  pub front-at : (t : Timetable) (base : List ℕ) (price : ℤ) (d : Duty) (es : Entries) → fin.get t.bases base ≡ Some price → IsFrontOf s t (node-of base d) es → IsFrontAt s t base price d es
  front-at t base price d es based f = subst (λ (p : ℤ). IsFrontAt s t base p d es) (one-price t base base f.price price refl f.based based) f.front

  -- ---- a job's feed

  module _ (t : Timetable) (sound : IsSound t) (job : DutyWork) (work : IsWorkOf (crew s) t (IsFrontOf s t) job) (price : ℤ) (based : fin.get t.bases job.node.base ≡ Some price) where
    abbrev Fed : Duty × Entries → Type 0
    Fed e = IsDuty s (flights_of t) e.0 × (may_stand_after s e.0 job.node.duty ≡ true) × IsFrontAt s t job.node.base price e.0 e.1

    fed-one : (b : DutyNode × Entries) → Member job.before b → Fed (b.0.duty, b.1)
    fed-one b m =
        let at = (work.before.exact b.0).0 (Member-map_in (λ c. c.0) job.before b m) in
        let is = at.0 in
        let may = at.1 in
        let f = work.fronts b.0 b.1 m in
        let same : f.price ≡ price = one-price t b.0.base job.node.base f.price price may.base f.based based in
        let front : IsFrontAt s t b.0.base price b.0.duty b.1 = subst (λ (p : ℤ). IsFrontAt s t b.0.base p b.0.duty b.1) same f.front in
        (is.legal, may.rested, subst (λ (z : List ℕ). IsFrontAt s t z price b.0.duty b.1) may.base front)

    fed : AreFrontsBefore s t job.node.base price job.node.duty (feed_of job.before)
    fed = record {
      right = λ e es m.
          (let from = Member-map_out (λ (b : DutyNode × Entries). let z : Duty × Entries = (b.0.duty, b.1) in z) job.before (e, es) m in
          subst Fed from.2 (fed-one from.0 from.1));
      every = λ e legal may.
          let is : IsNodeOf s t (node-of job.node.base e) = record { price = price; based = based; legal = legal } in
          let precedes : MayPrecede s (node-of job.node.base e) job.node = record { base = refl; rested = may } in
          let from = Member-map_out (λ (c : DutyNode × Entries). c.0) job.before (node-of job.node.base e) ((work.before.exact (node-of job.node.base e)).1 (is, precedes)) in
          let there = Member-map_in (λ (b : DutyNode × Entries). let z : Duty × Entries = (b.0.duty, b.1) in z) job.before from.0 from.1 in
          let duty : from.0.0.duty ≡ e = ap (λ (n : DutyNode). n.duty) from.2 in
          (from.0.1, subst (λ (x : Duty). Member (feed_of job.before) (x, from.0.1)) duty there);
    }

  abbrev settings-of : Inputs → Settings
  settings-of i = i.settings

  abbrev price-of : Inputs → Option ℤ
  price-of i = i.price

  local-in : (t : Timetable) → IsSound t → (job : DutyWork) (f : Entries) → IsNodeOf s t job.node → IsWorkOf (crew s) t (IsFrontOf s t) job → IsLocalOf job f → IsFrontOf s t job.node f
  local-in t sound job f is work local =
      let based : fin.get t.bases job.node.base ≡ Some local.price = sym (ap price-of work.input) ∙ local.based in
      let own : IsLocalAt s job.node.base local.price job.node.duty (feed_of job.before) f =
      subst (λ (z : Settings). IsLocalAt z job.node.base local.price job.node.duty (feed_of job.before) f) (ap settings-of work.input) local.local in
      record {
        price = local.price;
        based = based;
        front = front-of-local s t job.node.base local.price range sound job.node.duty is.legal (feed_of job.before) (fed t sound job work local.price based) f own;
        rises = local.rises;
      }

  local-out : (t : Timetable) → IsSound t → (job : DutyWork) (f : Entries) → IsNodeOf s t job.node → IsWorkOf (crew s) t (IsFrontOf s t) job → IsFrontOf s t job.node f → IsLocalOf job f
  local-out t sound job f is work front =
      let own = local-of-front s t job.node.base front.price range sound job.node.duty is.legal (feed_of job.before) (fed t sound job work front.price front.based) f front.front in
      record {
        price = front.price;
        based = ap price-of work.input ∙ front.based;
        local = subst (λ (z : Settings). IsLocalAt z job.node.base front.price job.node.duty (feed_of job.before) f) (sym (ap settings-of work.input)) own;
        rises = front.rises;
      }

  -- ---- a node that no change reaches

  Leads-more : (t : Timetable) (e n : DutyNode) → IsBefore (crew s) t e n → (m : DutyNode) (way : List DutyNode) → Leads (crew s) t m way e → Leads (crew s) t m (way ++ n ∷ []) n
  Leads-more t e n a m [] h = (subst (λ (z : DutyNode). IsBefore (crew s) t z n) (sym h) a, refl)
  Leads-more t e n a m (x ∷ xs) h = (h.0, Leads-more t e n a x xs h.1)

  module _ (t u : Timetable) (sound : IsSound t) (after : IsSound u) (base : List ℕ) (price : ℤ) (based : fin.get u.bases base ≡ Some price) where
    abbrev Clear : Duty → Type 0
    Clear d = IsUnreached (crew s) t u (node-of base d)

    now : (d : Duty) → IsDuty s (flights_of u) d → IsNodeOf s u (node-of base d)
    now d legal = record { price = price; based = based; legal = legal }

    kept-below : (k : ℕ) (d : Duty) → rank s u base price checked after d < k → IsDuty s (flights_of u) d → Clear d → (entries : Entries) → IsFrontAt s t base price d entries → IsFrontAt s u base price d entries
    kept-below zero d low legal clear entries front = absurd (omega (arith, low))
    kept-below (suc k) d low legal clear entries front =
        let n = node-of base d in
        let own = clear n [] (now d legal) refl in
        let old-based : fin.get t.bases base ≡ Some price = ap price-of own.input ∙ based in
        let was : (e : Duty) → IsDuty s (flights_of t) e → IsNodeOf s t (node-of base e) = λ e h. record { price = price; based = old-based; legal = h } in
        let arc : (e : Duty) → may_stand_after s e d ≡ true → MayPrecede s (node-of base e) n = λ e h. record { base = refl; rested = h } in
        let before = filter (λ e. may_stand_after s e d) (Known s u base price checked after) in
        let out : (e : Duty) → Member before e → Member (Known s u base price checked after) e × (may_stand_after s e d ≡ true) = λ e m.
        (let f = Member-filter_out (λ x. may_stand_after s x d) (Known s u base price checked after) e m in (f.0, f.1)) in
        let legal-now : (e : Duty) → Member before e → IsDuty s (flights_of u) e = λ e m. known-legal s u base price checked after e (out e m).0 in
        let legal-then : (e : Duty) → Member before e → IsDuty s (flights_of t) e = λ e m. ((own.before (node-of base e) (arc e (out e m).1)).1 (now e (legal-now e m))).legal in
        let made = feed-by (IsFrontAt s t base price) before (λ e m. node-front s t base price range sound e (legal-then e m)) in
        let feed = made.0 in
        let fed-then : AreFrontsBefore s t base price d feed = record {
          right = λ e es m. (let r = made.1.right e es m in (legal-then e r.0, (out e r.0).1, r.1));
          every = λ e h may. made.1.every e (Member-filter_in (λ x. may_stand_after s x d) (Known s u base price checked after) e (legal-known s u base price checked after e ((own.before (node-of base e) (arc e may)).0 (was e h)).legal) may);
        } in
        let fed-now : AreFrontsBefore s u base price d feed = record {
          right = λ e es m. (
              let r = made.1.right e es m in
              let f = out e r.0 in
              let there = Member-filter_in (λ x. may_stand_after s x d) (Known s u base price checked after) e f.0 f.1 in
              let less = arcs-rise s u base price checked after e d there in
              let clear-before : Clear e = λ m' way is leads. clear m' (way ++ n ∷ []) is (Leads-more u (node-of base e) n (now e (legal-now e r.0), arc e f.1) m' way leads) in
              (legal-now e r.0, f.1, kept-below k e (omega (arith, low, less)) (legal-now e r.0) clear-before es r.1));
          every = λ e h may. made.1.every e (Member-filter_in (λ x. may_stand_after s x d) (Known s u base price checked after) e (legal-known s u base price checked after e h) may);
        } in
        let here : IsDuty s (flights_of t) d = own.there.legal in
        front-of-local s u base price range after d legal feed fed-now entries (local-of-front s t base price range sound d here feed fed-then entries front)

  carried-over : (t u : Timetable) → IsSound t → IsSound u → (n : DutyNode) (f : Entries) → IsNodeOf s u n → IsUnreached (crew s) t u n → IsFrontOf s t n f → IsFrontOf s u n f
  carried-over t u sound after n f is clear front =
      let own = clear n [] is refl in
      let based : fin.get u.bases n.base ≡ Some front.price = sym (ap price-of own.input) ∙ front.based in
      record {
        price = front.price;
        based = based;
        front = kept-below t u sound after n.base front.price based (rank s u n.base front.price checked after n.duty + 1) n.duty (omega arith) is.legal clear f front.front;
        rises = front.rises;
      }

  -- ---- the least of what comes home

  abbrev front-by : (t : Timetable) → IsSound t → Option ℤ → List ℕ → Duty → Entries
  front-by t sound None base d = []
  front-by t sound (Some price) base d = map (λ e. (shown s t base price range sound d e.0, e.1)) (some s t base price range sound d).0

  module _ (t : Timetable) (sound : IsSound t) where
    abbrev canon : List ℕ → Duty → Entries
    canon base d = front-by t sound (fin.get t.bases base) base d

    canon-right : AreFronts s t canon
    canon-right base price d based legal =
        subst (λ (o : Option ℤ). IsFrontAt s t base price d (front-by t sound o base d)) (sym based)
        (shown-front s t base price range sound d legal (some s t base price range sound d).0 (some s t base price range sound d).1.0)

    module _ (fronts : List (DutyNode × Entries)) (nodes : AreNodes (crew s) t (map (λ e. e.0) fronts)) (right : (n : DutyNode) (f : Entries) → Member fronts (n, f) → IsFrontOf s t n f) where
      home-to : (base : List ℕ) (v : LongVector) (w : List (List Leg)) → ComesHome fronts base v w → IsHomeEntry s t canon base v w
      home-to base v w h =
          let is = (nodes.exact (node-of base h.duty)).0 (Member-map_in (λ (e : DutyNode × Entries). e.0) fronts (node-of base h.duty, h.entries) h.node) in
          let front = front-at t base is.price h.duty h.entries is.based (right (node-of base h.duty) h.entries h.node) in
          record {
            price = is.price;
            based = is.based;
            duty = h.duty;
            legal = is.legal;
            home = h.home;
            held = same-front s t base is.price h.duty h.entries (canon base h.duty) front (canon-right base is.price h.duty is.based is.legal) v w h.held;
          }

      home-from : (base : List ℕ) (v : LongVector) (w : List (List Leg)) → IsHomeEntry s t canon base v w → ComesHome fronts base v w
      home-from base v w h =
          let is : IsNodeOf s t (node-of base h.duty) = record { price = h.price; based = h.based; legal = h.legal } in
          let from = Member-map_out (λ (e : DutyNode × Entries). e.0) fronts (node-of base h.duty) ((nodes.exact (node-of base h.duty)).1 is) in
          let there : Member fronts (node-of base h.duty, from.0.1) = subst (λ (n : DutyNode). Member fronts (n, from.0.1)) from.2 from.1 in
          let front = front-at t base h.price h.duty from.0.1 h.based (right (node-of base h.duty) from.0.1 there) in
          record {
            duty = h.duty;
            entries = from.0.1;
            node = there;
            home = h.home;
            held = same-front s t base h.price h.duty (canon base h.duty) from.0.1 (canon-right base h.price h.duty h.based h.legal) front v w h.held;
          }

      least-best : (best : Option PricedPairing) → IsLeastOf s fronts best → IsBest s t best
      least-best None none = no-entry s t range sound canon canon-right (λ base v w h. none base v w (home-from base v w h))
      least-best (Some p) l =
          let one = l.0 in
          let base = one.0 in
          let v = one.1 in
          let w = one.2 in
          let q = entry-pairing s t canon canon-right base v w (home-to base v w one.3) in
          let same : q.0 ≡ p = told q.0 base v w q.2 q.3 q.4 q.5 q.6 ∙ sym one.4 in
          least-entry s t range sound canon p canon-right (subst (IsCleanPairing s t) same q.1) (λ b x y h. l.1 b x y (home-from b x y h))
        where
          told : (q : PricedPairing) (base : List ℕ) (v : LongVector) (w : List (List Leg)) → q.base ≡ base → q.walk ≡ w → q.cost ≡ reduced_cost v.sums → q.pay ≡ reduced_cost v.sums +ℤ (pos s.trip_rig *ℤ v.sums.away -ℤ v.sums.trip_rig) → q.away ≡ v.sums.away → q ≡ pairing_of s base v w
          told q base v w a b c d e =
              let o = pairing_of s base v w in
              ap (λ z. let r : PricedPairing = record { base = z; walk = q.walk; cost = q.cost; pay = q.pay; away = q.away } in r) a
              ∙ (ap (λ z. let r : PricedPairing = record { base = o.base; walk = z; cost = q.cost; pay = q.pay; away = q.away } in r) b
              ∙ (ap (λ z. let r : PricedPairing = record { base = o.base; walk = o.walk; cost = z; pay = q.pay; away = q.away } in r) c
              ∙ (ap (λ z. let r : PricedPairing = record { base = o.base; walk = o.walk; cost = o.cost; pay = z; away = q.away } in r) d
              ∙ ap (λ z. let r : PricedPairing = record { base = o.base; walk = o.walk; cost = o.cost; pay = o.pay; away = z } in r) e)))

  -- ---- before any entry

  no-entries : {X : Type 0} (es : List X) → length es ≡ 0 → es ≡ []
  no-entries [] e = refl
  no-entries (x ∷ es) e = absurd (omega (arith, e))

  no-flights : (flights_of empty_timetable).list ≡ []
  no-flights = ap (λ (es : List (ℕ × Flight)). map (placed empty_timetable) (map (λ (e : ℕ × Flight). e.1) es)) (no-entries (fin.entries empty_timetable.flights) (sym (fin.len-entries empty_timetable.flights) ∙ fin.len-empty nat_cmp Flight))

  none-known : {A : Type 0} (flight : Flight) → Member (flights_of empty_timetable).list flight → A
  none-known flight m = absurd (subst (λ (fs : List Flight). Member fs flight) no-flights m)

  pub no-duty : {A : Type 0} (d : Duty) → IsDuty s (flights_of empty_timetable) d → A
  no-duty d legal = none-known _ legal.2.known.0

  opening-few : HasFew s empty_timetable
  opening-few = ([], record { sound = λ d m. absurd m; every = λ first others legal. none-known _ (legal.known.0); rising = tt }, omega arith)

  pub opening-scratch : IsScratch (crew s) (timetable_of []) [] None
  opening-scratch = record {
    nodes = record { rise = tt; exact = λ n. (λ m. absurd m, λ is. no-duty n.duty is.legal) };
    right = λ n f m. absurd m;
    best_is = no-entry s empty_timetable range empty_sound (canon empty_timetable empty_sound) (canon-right empty_timetable empty_sound) (λ base v w h. no-duty h.duty h.legal);
    small = opening-few;
  }

  pub crew-laws : Laws (crew s)
  crew-laws = record {
    local_in = λ es job f is work local. local-in (timetable_of es) (timetable-sound es) job f is work local;
    local_out = λ es job f is work front. local-out (timetable_of es) (timetable-sound es) job f is work front;
    time = λ es n. time-of s checked (timetable_of es) (timetable-sound es) n;
    earlier = λ es p n b. earlier s checked (timetable_of es) (timetable-sound es) p n b.0 b.1;
    carried = λ es fs n f is clear front. carried-over (timetable_of es) (timetable_of fs) (timetable-sound es) (timetable-sound fs) n f is clear front;
    least = λ es fronts best nodes right l. least-best (timetable_of es) (timetable-sound es) fronts nodes right best l;
    opening = opening-scratch;
  }

  -- a node has one front in order of vector
  pub one-front : (t : Timetable) (n : DutyNode) (f g : Entries) → IsFrontOf s t n f → IsFrontOf s t n g → f ≡ g
  one-front t n f g h k = same-listed s t n.base h.price n.duty f g h.front (front-at t n.base h.price n.duty g h.based k) h.rises k.rises

  -- the front of a node, by a list of fronts
  abbrev front-in : List (DutyNode × Entries) → DutyNode → Entries
  front-in [] n = []
  front-in (e ∷ es) n = ⊎_elim {C = Entries} (λ _. e.1) (λ _. front-in es n) (told-node e.0 n)

  front-there : (es : List (DutyNode × Entries)) (n : DutyNode) → Member (map (λ e. e.0) es) n → Member es (n, front-in es n)
  front-there [] n m = absurd m
  front-there (e ∷ es) n m = elim (told-node e.0 n) as (λ told. Member (e ∷ es) (n, ⊎_elim {C = Entries} (λ _. e.1) (λ _. front-in es n) told)) [
    | inl same ↦ inl (ap (λ (x : DutyNode). let z : DutyNode × Entries = (x, e.1) in z) same)
    | inr other ↦ inr (front-there es n (⊎_elim (λ same. absurd (other same)) (λ k. k) m))
  ]

  -- a version that is right has each front from scratch
  pub version-from-scratch : (v : CrewVersion) → IsVersion (crew s) v → IsFromScratch s v
  version-from-scratch v is = record {
    front = λ base d. front-in v.fronts (node-of base d);
    scratch = record {
      fronts = λ base price d based legal.
          let node : IsNodeOf s (timetable_of v.entries) (node-of base d) = record { price = price; based = based; legal = legal } in
          let there = front-there v.fronts (node-of base d) ((is.nodes.exact (node-of base d)).1 node) in
          front-at (timetable_of v.entries) base price d (front-in v.fronts (node-of base d)) based (is.right (node-of base d) (front-in v.fronts (node-of base d)) there);
      best_is = is.best_is;
    };
    nodes = is.nodes;
    fronts = λ n entries m.
        let right = is.right n entries m in
        let there = front-there v.fronts n (Member-map_in (λ (e : DutyNode × Entries). e.0) v.fronts (n, entries) m) in
        (one-front (timetable_of v.entries) n entries (front-in v.fronts n) right (is.right n (front-in v.fronts n) there), right.rises);
    few = is.small;
  }

  -- .. and each has the front from scratch
  pub scratch-front : (v : CrewVersion) → IsFromScratch s v → (n : DutyNode) (entries : Entries) → Member v.fronts (n, entries) → IsFrontOf s (timetable_of v.entries) n entries
  scratch-front v scratch n entries m =
      let node : IsNodeOf s (timetable_of v.entries) n = (scratch.nodes.exact n).0 (Member-map_in (λ (e : DutyNode × Entries). e.0) v.fronts (n, entries) m) in
      let listed = scratch.fronts n entries m in
      record {
        price = node.price;
        based = node.based;
        front = subst (IsFrontAt s (timetable_of v.entries) n.base node.price n.duty) (sym listed.0) (scratch.scratch.fronts n.base node.price n.duty node.based node.legal);
        rises = listed.1;
      }
