-- Stretches of arrivals, an arrival more, and what stands at a departure of two of them.
use Rattle.std.proofs.Common.{◌≡◌, ◌∙◌, ◌<◌, ◌≤◌, ◌+◌, ◌++◌, ◌⊎◌, ℕ, Bool, true, false, List, [], map, get_or, inl, inr, refl, sym, subst, ⊎_elim, arith}
use Rattle.std.specs.Prelude.{length, nat_lt}
use Rattle.std.proofs.lemmas.Bool.Decides.{eqb_tells, nat_tests}
use Rattle.crew_label.specs.Pools.{ArePoolOf}
use Rattle.crew_label.specs.Walks.{shown}
use Rattle.crew_label.specs.declared.label.Label.{Label}
use Rattle.crew_label.specs.declared.label.Link.{Link}
use Rattle.crew_label.proofs.Waiting.{pool-itself}
use Rattle.crew_labelling.specs.Candidates.{AreGathered, Idles, Waits}
use Rattle.crew_labelling.specs.Held.{AreReady, HaveArrived, trail_of}
use Rattle.crew_labelling.specs.Labellings.{labelling_of, table_of}
use Rattle.crew_labelling.specs.Terms.{Terms}
use Rattle.crew_labelling.proofs.Right.{arrivals-gathered, arrivals-held}
use Rattle.crew_labelling.proofs.Waiting.{follows}
use Rattle.crew_net.specs.Events.{IsWindow}
use Rattle.crew_net.specs.declared.window.Window.{Window}
use Rattle.crew_net.proofs.Slices.{stands}
use Rattle.crew_pairing.specs.Events.{may_wait}
use Rattle.crew_pairing.specs.declared.duty.Duty.{Duty}
use Rattle.crew_pairing.specs.declared.events.Arrival.{Arrival}
use Rattle.crew_pairing.specs.declared.events.Departure.{Departure}
use Rattle.crew_resource.specs.Members.{Member}
use Rattle.crew_pass.specs.Machinery.Seen.{AreSeen}
use Rattle.crew_pass.specs.Machinery.Shelves.{AreKnown, IsThere, sighted}
use Rattle.crew_pass.specs.Machinery.Stretches.{CountThere, IsStretch, Within}
use Rattle.crew_pass.specs.Machinery.Terms.{MayPass}
use Rattle.crew_pass.specs.declared.seen.Seen.{Seen}
use Rattle.crew_pass.proofs.Gathered.{both-gathered, none-gathered, three-gathered}
use Rattle.crew_pass.proofs.Known.{arrival-known, counted-seen}

below-or-not : (a b : ℕ) → (a < b) ⊎ (b ≤ a)
below-or-not a b = by (nat_lt a b) refl
  where
    by : (c : Bool) → nat_lt a b ≡ c → (a < b) ⊎ (b ≤ a)
    by true e = let h : a < b = grind (arith, nat_tests) in inl h
    by false e = let h : b ≤ a = grind (arith, nat_tests) in inr h

module _ {V : Type 0} (w : Terms V) (may : MayPass w) where
  abbrev trail : Link → List ℕ
  trail = trail_of (table_of w (labelling_of w))

  abbrev arrivals : List (List (Label V))
  arrivals = (labelling_of w).arrivals

  abbrev At : ℕ → V → List ℕ → Type 0
  At place v k = Member (map (shown trail) (get_or arrivals place [])) (v, k)

  -- the pool of an arrival by itself
  pub one-arrival : (place : ℕ) → place < length w.net.arrivals → AreGathered w (trail_of (table_of w (labelling_of w)))
      (λ v k. Member (map (shown (trail_of (table_of w (labelling_of w)))) (get_or (labelling_of w).arrivals place [])) (v, k)) (get_or (labelling_of w).arrivals place [])
  one-arrival place h =
      let x = stands w.net.arrivals place h in
      let all = arrivals-gathered w may.terms may.lawful place x.0 x.1 in
      record {
        listed = map (shown trail) (get_or arrivals place []);
        pool = pool-itself w.below w.same trail w.cmp may.lawful.order may.lawful.forgets.same_itself may.lawful.forgets.same_between all.listed (get_or arrivals place []) all.pool;
        among = λ v k m. m;
        every = λ v k m. m;
      }

  -- no arrival
  pub none-stretches : (from end : ℕ) (labels : List (Label V)) → end ≤ from → labels ≡ [] → IsStretch w from end labels
  none-stretches from end labels h is = record {
    gathered = none-gathered w trail (Within trail arrivals from end) labels is (λ v k c. let a = c.1 in let b = c.2 in absurd (omega (arith, a, b, h)));
    stands = λ l m. absurd (subst (λ (ls : List (Label V)). Member ls l) is m);
  }

  module _ (shorter whole : List (Label V)) (place : ℕ) (within : place < length w.net.arrivals)
      (joins : (firsts seconds : List (V × List ℕ)) → ArePoolOf w.below w.same (trail_of (table_of w (labelling_of w))) firsts shorter
      → ArePoolOf w.below w.same (trail_of (table_of w (labelling_of w))) seconds (get_or (labelling_of w).arrivals place [])
      → ArePoolOf w.below w.same (trail_of (table_of w (labelling_of w))) (firsts ++ seconds) whole)
      (from : (l : Label V) → Member whole l → Member shorter l ⊎ Member (get_or (labelling_of w).arrivals place []) l) where
    -- an arrival more below
    pub longer-down : (middle : ℕ) → place < middle → IsStretch w (place + 1) middle shorter → IsStretch w place middle whole
    longer-down middle h is = record {
      gathered = both-gathered w trail (Within trail arrivals (place + 1) middle) (At place) (Within trail arrivals place middle) shorter (get_or arrivals place []) whole is.gathered (one-arrival place within) joins
          (λ v k. ⊎_elim {C = Within trail arrivals place middle v k} (λ c. let a = c.1 in (c.0, omega (arith, a), c.2, c.3)) (λ m. (place, omega arith, h, m)))
          (λ v k c. ⊎_elim {C = Within trail arrivals (place + 1) middle v k ⊎ At place v k}
          (λ t. inr (subst (λ (n : ℕ). At n v k) t.1 c.3))
          (λ f. let ne = f.1 in let a = c.1 in inl (c.0, omega (arith, ne, a), c.2, c.3))
          (eqb_tells c.0 place));
      stands = λ l m. ⊎_elim {C = (p : ℕ) × (place ≤ p) × (p < middle) × Member (get_or arrivals p []) l}
          (λ b. let s = is.stands l b in let a = s.1 in (s.0, omega (arith, a), s.2, s.3))
          (λ b. (place, omega arith, h, b)) (from l m);
    }

    -- an arrival more above
    pub longer-up : (middle : ℕ) → middle ≤ place → IsStretch w middle place shorter → IsStretch w middle (place + 1) whole
    longer-up middle h is = record {
      gathered = both-gathered w trail (Within trail arrivals middle place) (At place) (Within trail arrivals middle (place + 1)) shorter (get_or arrivals place []) whole is.gathered (one-arrival place within) joins
          (λ v k. ⊎_elim {C = Within trail arrivals middle (place + 1) v k} (λ c. let a = c.2 in (c.0, c.1, omega (arith, a), c.3)) (λ m. (place, h, omega arith, m)))
          (λ v k c. ⊎_elim {C = Within trail arrivals middle place v k ⊎ At place v k}
          (λ t. inr (subst (λ (n : ℕ). At n v k) t.1 c.3))
          (λ f. let ne = f.1 in let a = c.2 in inl (c.0, c.1, omega (arith, ne, a), c.3))
          (eqb_tells c.0 place));
      stands = λ l m. ⊎_elim {C = (p : ℕ) × (middle ≤ p) × (p < place + 1) × Member (get_or arrivals p []) l}
          (λ b. let s = is.stands l b in let a = s.2 in (s.0, s.1, omega (arith, a), s.3))
          (λ b. (place, h, omega arith, b)) (from l m);
    }

  -- labels that have arrived within a stretch
  pub stretch-held : (from end : ℕ) (labels : List (Label V)) → IsStretch w from end labels → HaveArrived w (table_of w (labelling_of w)) labels
  stretch-held from end labels is l m = let s = is.stands l m in arrivals-held w may.terms may.lawful s.0 l s.3

  -- are ready at a departure where they may wait
  module _ (g : Departure) (window : Window) (is : IsWindow (λ x. may_wait w.net.settings x g) w.net.arrivals window) (still : (v : V) (x : Arrival) → w.wait v x g ≡ v) where
    pub stretch-ready : (from end : ℕ) (labels : List (Label V)) → window.from ≤ from → end ≤ window.end → IsStretch w from end labels → AreReady w (table_of w (labelling_of w)) labels
    stretch-ready from end labels first last stretch l m =
        let s = stretch.stands l m in
        let k = arrivals-held w may.terms may.lawful s.0 l s.3 in
        let a = s.1 in
        let b = s.2 in
        let most = is.within in
        let n = length (shown trail l).1 in
        let x = stands w.net.arrivals s.0 (omega (arith, b, last, most)) in
        let waits = (is.exact s.0 x.0 x.1).1 (omega (arith, a, first), omega (arith, b, last)) in
        record {
          leading = k.leading;
          entry = record {
            counts = k.entry.counts;
            ranked = k.entry.ranked;
            few = k.entry.few;
            bound = subst (λ (v : V). w.ready n v) (still l.value x.0) (may.lawful.wait_ready n l.value x.0 g (follows w.net.settings x.0 g may.terms.passable.rests waits) k.entry.bound);
          };
        }

    -- two stretches and the empty label are all that may stand there
    pub all-stand : (middle : ℕ) (down up idle whole : List (Label V)) → window.from ≤ middle → middle ≤ window.end
        → IsStretch w window.from middle down → IsStretch w middle window.end up → AreGathered w (trail_of (table_of w (labelling_of w))) (Idles w g) idle
        → ((firsts seconds thirds : List (V × List ℕ)) → ArePoolOf w.below w.same (trail_of (table_of w (labelling_of w))) firsts down
        → ArePoolOf w.below w.same (trail_of (table_of w (labelling_of w))) seconds up → ArePoolOf w.below w.same (trail_of (table_of w (labelling_of w))) thirds idle
        → ArePoolOf w.below w.same (trail_of (table_of w (labelling_of w))) ((firsts ++ seconds) ++ thirds) whole)
        → AreGathered w (trail_of (table_of w (labelling_of w))) (Waits w (trail_of (table_of w (labelling_of w))) (labelling_of w).arrivals g) whole
    all-stand middle down up idle whole first last d u i joins =
        let Here = Waits w trail arrivals g in
        let most = is.within in
        let enters : (v : V) (k : List ℕ) (place : ℕ) → window.from ≤ place → place < window.end → At place v k → Here v k = λ v k place a b m.
        let x = stands w.net.arrivals place (omega (arith, b, most)) in
        let waits = (is.exact place x.0 x.1).1 (a, b) in
        inr (place, (x.0, v, x.1, waits, m, sym (still v x.0))) in
        three-gathered w trail (Within trail arrivals window.from middle) (Within trail arrivals middle window.end) (Idles w g) Here down up idle whole d.gathered u.gathered i joins
        (λ v k. ⊎_elim {C = Here v k}
        (⊎_elim {C = Here v k}
        (λ c. let b = c.2 in enters v k c.0 c.1 (omega (arith, b, last)) c.3)
        (λ c. let a = c.1 in enters v k c.0 (omega (arith, a, first)) c.2 c.3))
        (λ c. inl c))
        (λ v k. ⊎_elim {C = (Within trail arrivals window.from middle v k ⊎ Within trail arrivals middle window.end v k) ⊎ Idles w g v k}
        (λ c. inr c)
        (λ c.
        let inside = (is.exact c.0 c.1.0 c.1.2).0 c.1.3 in
        let a = inside.0 in
        let b = inside.1 in
        let value : c.1.1 ≡ v = sym (c.1.5 ∙ still c.1.1 c.1.0) in
        let m : At c.0 v k = subst (λ (u : V). At c.0 u k) value c.1.4 in
        inl (⊎_elim {C = Within trail arrivals window.from middle v k ⊎ Within trail arrivals middle window.end v k}
        (λ lt. let t : c.0 < middle = lt in inl (c.0, a, t, m))
        (λ ge. let t : middle ≤ c.0 = ge in inr (c.0, t, b, m))
        (below-or-not c.0 middle))))

module _ {R V : Type 0} (w : Terms V) (may : MayPass w) (seen : Seen R V Duty) (is : AreSeen w seen) where
  -- labels of a stretch lead to what is seen, where its arrivals are seen
  pub stretch-counts : (from end : ℕ) (labels : List (Label V)) → end ≤ length w.net.arrivals → ((place : ℕ) → from ≤ place → place < end → IsThere seen.arrivals place) → IsStretch w from end labels
      → CountThere w seen.departures labels
  stretch-counts from end labels most there stretch =
      let known : AreKnown w.leaves seen.departures labels = λ l m.
      let s = stretch.stands l m in
      let b = s.2 in
      let x = stands w.net.arrivals s.0 (omega (arith, b, most)) in
      arrival-known w may seen is s.0 x.0 x.1 (there s.0 s.1 s.2) l s.3 in
      counted-seen w may seen is w.arrived labels (stretch-held w may from end labels stretch) known (sighted w seen.departures) refl

  -- so do those of an arrival that is seen
  pub arrival-counts : (place : ℕ) → place < length w.net.arrivals → IsThere seen.arrivals place → (labels : List (Label V)) → labels ≡ get_or (labelling_of w).arrivals place [] → CountThere w seen.departures labels
  arrival-counts place within there labels own =
      let x = stands w.net.arrivals place within in
      let known : AreKnown w.leaves seen.departures labels = λ l m. arrival-known w may seen is place x.0 x.1 there l (subst (λ (ls : List (Label V)). Member ls l) own m) in
      let held : HaveArrived w (table_of w (labelling_of w)) labels = λ l m. arrivals-held w may.terms may.lawful place l (subst (λ (ls : List (Label V)). Member ls l) own m) in
      counted-seen w may seen is w.arrived labels held known (sighted w seen.departures) refl
