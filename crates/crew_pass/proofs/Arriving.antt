-- The fronts of the duties that arrive at an arrival, one after another.
use Rattle.std.proofs.Common.{◌≡◌, ◌∙◌, ◌<◌, ◌≤◌, ◌+◌, ◌++◌, ℕ, true, List, [], ◌∷◌, length, map, take, get_or, inl, refl, sym, subst, ⊎_elim}
use Rattle.std.proofs.lemmas.List.{take_all, take_more}
use Rattle.crew_label.specs.Pools.{ArePoolOf, ArePoolsOf}
use Rattle.crew_label.specs.Tables.{Tabled}
use Rattle.crew_label.specs.Walks.{shown}
use Rattle.crew_label.specs.declared.label.Label.{Label}
use Rattle.crew_labelling.specs.Candidates.{AreGathered, Arrives}
use Rattle.crew_labelling.specs.Held.{AreHeld, trail_of}
use Rattle.crew_labelling.specs.Terms.{Terms}
use Rattle.crew_net.specs.Events.{arrives_at}
use Rattle.crew_net.specs.Ranks.{ranks_where}
use Rattle.crew_net.proofs.ArrivalPlaces.{ranks-in, ranks-out}
use Rattle.crew_net.proofs.Numbers.{arrival-itself, same-arrival}
use Rattle.crew_pairing.specs.Events.{arrival_of}
use Rattle.crew_pairing.specs.declared.events.Arrival.{Arrival}
use Rattle.crew_resource.specs.Members.{Member}
use Rattle.crew_resource.proofs.Members.{Member-append, Member-append_left, Member-append_right}
use Rattle.crew_pass.specs.Machinery.Passing.{AreCollected}
use Rattle.crew_pass.proofs.Collected.{one-pool-more}

module _ {V : Type 0} (w : Terms V) (t : Tabled V) (fronts : List (List (Label V))) where
  -- an entry of the front of one of the first so many of these duties
  abbrev pub So : List ℕ → ℕ → V → List ℕ → Type 0
  So ranks n v k = (rank : ℕ) × Member (take n ranks) rank × Member (map (shown (trail_of t)) (get_or fronts rank [])) (v, k)

  -- the fronts of the first so many
  abbrev pub CollectedSo : List ℕ → ℕ → List (List (Label V)) → Type 0
  CollectedSo ranks n pools = ((labels : List (Label V)) → Member pools labels → AreHeld w w.arrived t labels) × AreCollected w (trail_of t) (So ranks n) pools

  pub none-collected : (ranks : List ℕ) (pools : List (List (Label V))) → pools ≡ [] → CollectedSo ranks 0 pools
  none-collected ranks pools is =
      subst (λ (ps : List (List (Label V))). CollectedSo ranks 0 ps) (sym is)
      (λ labels m. absurd m, record { listed = []; pools_of = refl; among = λ v k m. absurd m; every = λ v k c. absurd c.1 })

  -- the entries of one front more
  module _ (ranks : List ℕ) (n : ℕ) (h : n < length ranks) (front : List (Label V)) (own : get_or fronts (get_or ranks n 0) [] ≡ front) (listed : List (V × List ℕ)) where
    abbrev shows : List (V × List ℕ)
    shows = map (shown (trail_of t)) front

    abbrev Entry : V → List ℕ → List (Label V) → Type 0
    Entry v k ls = Member (map (shown (trail_of t)) ls) (v, k)

    pub more-among : ((v : V) (k : List ℕ) → Member listed (v, k) → So ranks n v k) → (v : V) (k : List ℕ) → Member (listed ++ map (shown (trail_of t)) front) (v, k) → So ranks (n + 1) v k
    more-among among v k a =
        let rank = get_or ranks n 0 in
        let longer = take_more ranks n 0 h in
        ⊎_elim {C = So ranks (n + 1) v k}
        (λ b. let s = among v k b in (s.0, subst (λ (rs : List ℕ). Member rs s.0) (sym longer) (Member-append_left (take n ranks) (rank ∷ []) s.0 s.1), s.2))
        (λ b. (rank, subst (λ (rs : List ℕ). Member rs rank) (sym longer) (Member-append_right (take n ranks) (rank ∷ []) rank (inl refl)), subst (λ (ls : List (Label V)). Entry v k ls) (sym own) b))
        (Member-append listed shows (v, k) a)

    pub more-every : ((v : V) (k : List ℕ) → So ranks n v k → Member listed (v, k)) → (v : V) (k : List ℕ) → So ranks (n + 1) v k → Member (listed ++ map (shown (trail_of t)) front) (v, k)
    more-every every v k c =
        let rank = get_or ranks n 0 in
        let longer = take_more ranks n 0 h in
        ⊎_elim {C = Member (listed ++ shows) (v, k)}
        (λ b. Member-append_left listed shows (v, k) (every v k (c.0, b, c.2)))
        (λ b. ⊎_elim {C = Member (listed ++ shows) (v, k)}
        (λ e. Member-append_right listed shows (v, k) (subst (λ (ls : List (Label V)). Entry v k ls) own (subst (λ (q : ℕ). Entry v k (get_or fronts q [])) (sym e) c.2)))
        (λ z. absurd z) b)
        (Member-append (take n ranks) (rank ∷ []) c.0 (subst (λ (rs : List ℕ). Member rs c.0) longer c.1))

  -- one more
  pub one-collected : ((rank : ℕ) → AreHeld w w.arrived t (get_or fronts rank []))
      → ((rank : ℕ) → ArePoolOf w.below w.same (trail_of t) (map (shown (trail_of t)) (get_or fronts rank [])) (get_or fronts rank []))
      → (ranks : List ℕ) (n : ℕ) → n < length ranks → (pools more : List (List (Label V))) (front : List (Label V)) → more ≡ pools ++ front ∷ []
      → get_or fronts (get_or ranks n 0) [] ≡ front → CollectedSo ranks n pools → CollectedSo ranks (n + 1) more
  one-collected held itself ranks n h pools more front is own so =
      let rank = get_or ranks n 0 in
      let listed = so.1.listed in
      let shows = map (shown (trail_of t)) front in
      subst (λ (ps : List (List (Label V))). CollectedSo ranks (n + 1) ps) (sym is) (
        λ labels a. ⊎_elim {C = AreHeld w w.arrived t labels} (so.0 labels)
            (λ b. ⊎_elim {C = AreHeld w w.arrived t labels} (λ e. subst (λ (ls : List (Label V)). AreHeld w w.arrived t ls) (own ∙ e) (held rank)) (λ z. absurd z) b)
            (Member-append pools (front ∷ []) labels a),
        record {
          listed = listed ++ shows;
          pools_of = one-pool-more w.below w.same (trail_of t) listed shows pools front so.1.pools_of (subst (λ (ls : List (Label V)). ArePoolOf w.below w.same (trail_of t) (map (shown (trail_of t)) ls) ls) own (itself rank));
          among = more-among ranks n h front own listed so.1.among;
          every = more-every ranks n h front own listed so.1.every;
        },
      )

  -- the pool of the first so many
  abbrev pub GatheredSo : List ℕ → ℕ → List (Label V) → Type 0
  GatheredSo ranks n labels = AreGathered w (trail_of t) (So ranks n) labels

  pub none-gathered : (ranks : List ℕ) (labels : List (Label V)) → labels ≡ [] → GatheredSo ranks 0 labels
  none-gathered ranks labels is =
      subst (λ (ls : List (Label V)). GatheredSo ranks 0 ls) (sym is)
      (record { listed = []; pool = record { among = λ v k m. m; covers = λ v k m. absurd m; alone = λ v k x y m. absurd m }; among = λ v k m. absurd m; every = λ v k c. absurd c.1 })

  pub one-gathered : (ranks : List ℕ) (n : ℕ) → n < length ranks → (front : List (Label V)) → get_or fronts (get_or ranks n 0) [] ≡ front → (labels more : List (Label V))
      → ((candidates : List (V × List ℕ)) → ArePoolOf w.below w.same (trail_of t) candidates labels → ArePoolOf w.below w.same (trail_of t) (candidates ++ map (shown (trail_of t)) front) more)
      → GatheredSo ranks n labels → GatheredSo ranks (n + 1) more
  one-gathered ranks n h front own labels more joins so = record {
    listed = so.listed ++ map (shown (trail_of t)) front;
    pool = joins so.listed so.pool;
    among = more-among ranks n h front own so.listed so.among;
    every = more-every ranks n h front own so.listed so.every;
  }

  -- all of them are those that arrive there
  pub so-gathered : (x : Arrival) (ranks : List ℕ) → ranks ≡ ranks_where (arrives_at x) w.net.duties → (n : ℕ) → length ranks ≤ n → (labels : List (Label V))
      → GatheredSo ranks n labels → AreGathered w (trail_of t) (Arrives w.net (trail_of t) fronts x) labels
  so-gathered x ranks is n all labels so =
      let every = take_all n ranks all in
      record {
        listed = so.listed;
        pool = so.pool;
        among = λ v k m.
            let s = so.among v k m in
            let here = subst (λ (rs : List ℕ). Member rs s.0) is (subst (λ (rs : List ℕ). Member rs s.0) every s.1) in
            let d = ranks-out (arrives_at x) w.net.duties s.0 here in
            (s.0, d.0, d.1, sym (same-arrival x (arrival_of d.0) d.2), s.2);
        every = λ v k c.
            let passes = subst (λ (z : Arrival). arrives_at z c.1 ≡ true) c.3 (arrival-itself (arrival_of c.1)) in
            let here = ranks-in (arrives_at x) w.net.duties c.0 c.1 c.2 passes in
            so.every v k (c.0, subst (λ (rs : List ℕ). Member rs c.0) (sym every) (subst (λ (rs : List ℕ). Member rs c.0) (sym is) here), c.4);
      }

  -- all of them: the pool of all is that of those that arrive there
  pub all-gathered : (x : Arrival) (ranks : List ℕ) → ranks ≡ ranks_where (arrives_at x) w.net.duties → (n : ℕ) → length ranks ≤ n → (pools : List (List (Label V))) (whole : List (Label V))
      → ((candidates : List (V × List ℕ)) → ArePoolsOf w.below w.same (trail_of t) candidates pools → ArePoolOf w.below w.same (trail_of t) candidates whole)
      → CollectedSo ranks n pools → AreGathered w (trail_of t) (Arrives w.net (trail_of t) fronts x) whole
  all-gathered x ranks is n all pools whole pool so =
      so-gathered x ranks is n all whole (record { listed = so.1.listed; pool = pool so.1.listed so.1.pools_of; among = so.1.among; every = so.1.every })
