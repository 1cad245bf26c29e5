-- What is right beside a right labelling is of it: labels that rise, link into it and are the pool of the same candidates are its labels.
use Rattle.std.proofs.Common.{◌≡◌, ◌∙◌, ◌<◌, ◌+◌, ◌++◌, ◌⊎◌, ℕ, zero, suc, true, List, [], ◌∷◌, Option, Some, None, length, map, get_or, inl, inr, refl, sym, ap, ap₂, subst, ⊎_elim, arith, length-append}
use Rattle.std.specs.Prelude.{slice_get, nat_lt}
use Rattle.std.proofs.lemmas.Bool.{and_parts}
use Rattle.crew_forgetful.specs.Forgetful.{IsPool}
use Rattle.crew_forgetful.proofs.Covered.{pool_unique}
use Rattle.crew_forgetful.proofs.Offers.{same_pool}
use Rattle.crew_label.specs.Pools.{AreRising}
use Rattle.crew_label.specs.Tables.{Tabled, departure_of, is_known, rank_of}
use Rattle.crew_label.specs.Walks.{Leads, ranks_at_most, shown, walk_of}
use Rattle.crew_label.specs.declared.label.Label.{Label}
use Rattle.crew_label.specs.declared.label.Link.{Link}
use Rattle.crew_label.proofs.MergedPools.{ranks_order}
use Rattle.crew_label.proofs.Tabled.{leads_to, trail_goes_on}
use Rattle.crew_net.specs.Positions.{in_order}
use Rattle.crew_net.proofs.Orders.{in-order-long}
use Rattle.crew_net.proofs.Slices.{member-got, some-same, stands}
use Rattle.crew_pairing.specs.Events.{arrival_of}
use Rattle.crew_pairing.specs.Events as events
use Rattle.crew_pairing.specs.declared.duty.Duty.{Duty}
use Rattle.crew_pairing.specs.declared.events.Arrival.{Arrival}
use Rattle.crew_pairing.specs.declared.events.Departure.{Departure}
use Rattle.crew_resource.specs.Events.{labelled}
use Rattle.crew_resource.specs.Members.{Member}
use Rattle.crew_resource.proofs.Covering.{local_unique}
use Rattle.crew_resource.proofs.Members.{Member-flat_map_out, Member-map_in, Member-map_out}
use Rattle.crew_resource.proofs.Snoc.{same_snoc}
use Rattle.crew_resource.proofs.Values.{below_order}
use Rattle.crew_labelling.specs.Candidates.{AreGathered, Arrives, Idles, Waits, boarding, waited_entries}
use Rattle.crew_labelling.specs.Held.{AreHeld, leads_of, trail_of}
use Rattle.crew_labelling.specs.Labellings.{Labelling, table_of}
use Rattle.crew_labelling.specs.Right.{IsArrivalPool, IsDeparturePool, IsDutyFront, IsRestedPool, IsRight}
use Rattle.crew_labelling.specs.Terms.{AreLawful, AreTerms, Terms}
use Rattle.crew_labelling.proofs.Alone.{one-place, same-labels}
use Rattle.crew_labelling.proofs.Labels.{labelled-out}
use Rattle.crew_labelling.proofs.Numbered.{one-number}

never-snoc : (xs : List ℕ) (x : ℕ) → [] ≡ xs ++ x ∷ [] → ⊥
never-snoc xs x e = let n = length-append xs (x ∷ []) in let l = ap length e in omega (arith, n, l)

module _ {V : Type 0} (w : Terms V) (terms : AreTerms w) (lawful : AreLawful w) (y : Labelling V) (right : IsRight w y) where
  abbrev t : Tabled V
  t = table_of w y

  abbrev trail : Link → List ℕ
  trail = trail_of t

  abbrev pool : ℕ → List (Label V)
  pool position = get_or y.departures position []

  abbrev entries : ℕ → List (V × List ℕ)
  entries position = map (shown trail) (pool position)

  -- the way by which an entry comes to a departure: from one of an earlier departure, over a duty
  pub record Comes (g : Departure) (v : V) (k : List ℕ) : Type 0 where
    pub rank : ℕ
    pub duty : Duty
    pub before : V
    pub walk : List ℕ
    pub after : V
    pub known : slice_get w.net.duties rank ≡ Some duty
    pub from : Member (entries (get_or w.leaves.positions rank 0)) (before, walk)
    pub boards : w.board before duty ≡ Some after
    pub walks : k ≡ walk ++ rank ∷ []
    pub waits : v ≡ w.wait after (arrival_of duty) g

  comes : (i : ℕ) (g : Departure) → slice_get (in_order w.net) i ≡ Some g → (v : V) (k : List ℕ) → Member (entries i) (v, k) → Idles w g v k ⊎ Comes g v k
  comes i g at v k m =
      let here = (right.departures i g at).gathered in
      ⊎_elim {C = Idles w g v k ⊎ Comes g v k} inl
      (λ c.
      let x = c.1.0 in
      let there = (right.arrivals c.0 x c.1.2).gathered in
      let a = there.among c.1.1 k (there.pool.among c.1.1 k c.1.4) in
      let local = (right.fronts a.0 a.1 a.2).front in
      let boards = λ (e : V × List ℕ). labelled (w.board e.0 a.1) (e.1 ++ a.0 ∷ []) in
      let b = Member-flat_map_out boards (entries (get_or w.leaves.positions a.0 0)) (c.1.1, k) (local.among c.1.1 k a.4) in
      let o = labelled-out (w.board b.0.0 a.1) (b.0.1 ++ a.0 ∷ []) (c.1.1, k) b.2 in
      inr (record {
        rank = a.0;
        duty = a.1;
        before = b.0.0;
        walk = b.0.1;
        after = c.1.1;
        known = a.2;
        from = b.1;
        boards = o.0;
        walks = o.1;
        waits = c.1.5 ∙ ap (λ (z : Arrival). w.wait c.1.1 z g) (sym a.3);
      }))
      (here.among v k (here.pool.among v k m))

  -- two ways of one walk have one value, if those before have
  same-ways : (g : Departure) (u v : V) (k : List ℕ) (a : Comes g u k) (b : Comes g v k)
      → ((x z : V) → Member (entries (get_or w.leaves.positions a.rank 0)) (x, a.walk) → Member (entries (get_or w.leaves.positions a.rank 0)) (z, a.walk) → x ≡ z) → u ≡ v
  same-ways g u v k a b tell =
      let snoc = same_snoc a.walk b.walk a.rank b.rank (sym a.walks ∙ b.walks) in
      let duty : a.duty ≡ b.duty = some-same (slice_get w.net.duties b.rank) a.duty b.duty (ap (slice_get w.net.duties) (sym snoc.1) ∙ a.known) b.known in
      let from = subst (λ (n : ℕ). Member (entries (get_or w.leaves.positions n 0)) (b.before, a.walk)) (sym snoc.1) (subst (λ (z : List ℕ). Member (entries (get_or w.leaves.positions b.rank 0)) (b.before, z)) (sym snoc.0) b.from) in
      let before : a.before ≡ b.before = tell a.before b.before a.from from in
      let after : a.after ≡ b.after = some-same (w.board b.before b.duty) a.after b.after (sym (ap₂ (λ (x : V) (d : Duty). w.board x d) before duty) ∙ a.boards) b.boards in
      a.waits ∙ (ap₂ (λ (x : V) (d : Duty). w.wait x (arrival_of d) g) after duty ∙ sym b.waits)

  -- at a departure a walk tells its value
  walks-tell : (n i : ℕ) (g : Departure) → slice_get (in_order w.net) i ≡ Some g → (k : List ℕ) → length k < n → (u v : V) → Member (entries i) (u, k) → Member (entries i) (v, k) → u ≡ v
  walks-tell zero i g at k h u v p q = absurd (omega (arith, h))
  walks-tell (suc n) i g at k h u v p q = ⊎_elim {C = u ≡ v}
      (λ a. ⊎_elim {C = u ≡ v} (λ b. sym a.2 ∙ b.2) (λ b. absurd (never-snoc b.walk b.rank (sym a.0 ∙ b.walks))) (comes i g at v k q))
      (λ a. ⊎_elim {C = u ≡ v} (λ b. absurd (never-snoc a.walk a.rank (sym b.0 ∙ a.walks)))
      (λ b.
      let shorter : length a.walk < n = let l = length-append a.walk (a.rank ∷ []) in let e = ap length a.walks in omega (arith, h, l, e) in
      same-ways g u v k a b (walks-tell n (get_or w.leaves.positions a.rank 0) (events.departure_of a.duty) (terms.passable.are_positions.exact a.rank a.duty a.known) a.walk shorter))
      (comes i g at v k q))
      (comes i g at u k p)

  -- and its link
  one-label : (link other : Link) (l m : Label V) → slice_get (pool (departure_of w.leaves link.duty)) link.place ≡ Some l → slice_get (pool (departure_of w.leaves other.duty)) other.place ≡ Some m
      → departure_of w.leaves link.duty < length y.departures → link.duty ≡ other.duty → walk_of trail l.before ≡ walk_of trail m.before → link ≡ other
  one-label link other l m at there within duty walk =
      let position = departure_of w.leaves link.duty in
      let all = in-order-long w.net terms.passable.departs terms.passable.ordered in
      let long = right.departures_long in
      let g = stands (in_order w.net) position (omega (arith, within, all, long)) in
      let here : slice_get (pool position) other.place ≡ Some m = ap (λ (n : ℕ). slice_get (pool (departure_of w.leaves n)) other.place) duty ∙ there in
      let one = Member-map_in (shown trail) (pool position) l (member-got (pool position) link.place l at) in
      let two = subst (λ (z : List ℕ). Member (entries position) (m.value, z)) (sym walk) (Member-map_in (shown trail) (pool position) m (member-got (pool position) other.place m here)) in
      let value = walks-tell (length (walk_of trail l.before) + 1) position g.0 g.1 (walk_of trail l.before) (omega arith) l.value m.value one two in
      let place = one-place w.cmp lawful.total (pool position) (right.departures position g.0 g.1).rises link.place other.place l m at here value in
      ap₂ {C = Link} (λ d p. record { duty = d; place = p }) duty place

  known : (link : Link) → leads_of t link ≡ true → is_known w.leaves link.duty ≡ true
  known link h = (and_parts (is_known w.leaves link.duty) (nat_lt link.place (length (get_or y.departures (departure_of w.leaves link.duty) []))) h).0

  pub links-tell : (o p : Option Link) → Leads (leads_of t) o → Leads (leads_of t) p → walk_of trail o ≡ walk_of trail p → o ≡ p
  links-tell None None h k e = refl
  links-tell None (Some other) h k e =
      let to = leads_to w.leaves y.departures other k in
      absurd (never-snoc (walk_of trail to.0.before) (rank_of w.leaves other.duty) (e ∙ trail_goes_on w.leaves y.departures right.linked other to.0 to.1 to.2))
  links-tell (Some link) None h k e =
      let to = leads_to w.leaves y.departures link h in
      absurd (never-snoc (walk_of trail to.0.before) (rank_of w.leaves link.duty) (sym e ∙ trail_goes_on w.leaves y.departures right.linked link to.0 to.1 to.2))
  links-tell (Some link) (Some other) h k e =
      let linked = right.linked in
      let one = leads_to w.leaves y.departures link h in
      let two = leads_to w.leaves y.departures other k in
      let snoc = same_snoc (walk_of trail one.0.before) (walk_of trail two.0.before) (rank_of w.leaves link.duty) (rank_of w.leaves other.duty)
      (sym (trail_goes_on w.leaves y.departures linked link one.0 one.1 one.2) ∙ (e ∙ trail_goes_on w.leaves y.departures linked other two.0 two.1 two.2)) in
      let duty = one-number w terms link.duty other.duty (known link h) (known other k) snoc.1 in
      ap (λ (z : Link). Some z) (one-label link other one.0 two.0 one.2 two.2 one.1 duty snoc.0)

  -- labels whose links lead into the labelling
  abbrev pub AreLeading : List (Label V) → Type 0
  AreLeading labels = (l : Label V) → Member labels l → Leads (leads_of t) l.before

  same-label : (l m : Label V) → Leads (leads_of t) l.before → Leads (leads_of t) m.before → shown trail m ≡ shown trail l → m ≡ l
  same-label l m h k e =
      ap₂ {C = Label V} (λ v b. record { value = v; before = b }) (ap (λ (p : V × List ℕ). p.0) e) (links-tell m.before l.before k h (ap (λ (p : V × List ℕ). p.1) e))

  carried : (ls ms : List (Label V)) → AreLeading ls → AreLeading ms → ((v : V) (k : List ℕ) → Member (map (shown trail) ls) (v, k) → Member (map (shown trail) ms) (v, k)) → (l : Label V) → Member ls l → Member ms l
  carried ls ms h k f l m =
      let s = Member-map_out (shown trail) ms (shown trail l) (f l.value (walk_of trail l.before) (Member-map_in (shown trail) ls l m)) in
      subst (λ (z : Label V). Member ms z) (same-label l s.0 (h l m) (k s.0 s.1) s.2) s.1

  -- such labels that rise and have the same entries are the same
  pub one-list : (ls ms : List (Label V)) → AreRising w.cmp ls → AreRising w.cmp ms → AreLeading ls → AreLeading ms
      → ((v : V) (k : List ℕ) → Member (map (shown trail) ls) (v, k) → Member (map (shown trail) ms) (v, k))
      → ((v : V) (k : List ℕ) → Member (map (shown trail) ms) (v, k) → Member (map (shown trail) ls) (v, k)) → ls ≡ ms
  one-list ls ms rises too h k f g = same-labels w.cmp lawful.total ls ms rises too (carried ls ms h k f) (carried ms ls k h g)

  one-pool : (C : V → List ℕ → Type 0) (ls ms : List (Label V)) → AreRising w.cmp ls → AreRising w.cmp ms → AreLeading ls → AreLeading ms
      → IsPool w.below w.same ranks_at_most C (map (shown trail) ls) → IsPool w.below w.same ranks_at_most C (map (shown trail) ms) → ls ≡ ms
  one-pool C ls ms rises too h k i j =
      let unique = pool_unique V (List ℕ) w.below w.same ranks_at_most (below_order lawful.order) ranks_order lawful.forgets.same_itself lawful.forgets.same_between C in
      one-list ls ms rises too h k (unique (map (shown trail) ls) (map (shown trail) ms) i j) (unique (map (shown trail) ms) (map (shown trail) ls) j i)

  gathered-pool : (C : V → List ℕ → Type 0) (ls : List (Label V)) → AreGathered w trail C ls → IsPool w.below w.same ranks_at_most C (map (shown trail) ls)
  gathered-pool C ls h =
      same_pool V (List ℕ) w.below w.same ranks_at_most (below_order lawful.order) ranks_order lawful.forgets.same_itself lawful.forgets.same_between
      (λ v k. Member h.listed (v, k)) C (map (shown trail) ls) h.among h.every h.pool

  leading : (Bound : ℕ → V → Type 0) (ls : List (Label V)) → AreHeld w Bound t ls → AreLeading ls
  leading Bound ls h l m = (h l m).leading

  -- the pool of a departure is one
  pub departure-only : (i : ℕ) (g : Departure) → slice_get (in_order w.net) i ≡ Some g → (labels : List (Label V)) → IsDeparturePool w y g labels → labels ≡ get_or y.departures i []
  departure-only i g at labels is =
      let own = right.departures i g at in
      let C = Waits w trail y.arrivals g in
      one-pool C labels (pool i) is.rises own.rises (leading w.ready labels is.ready) (leading w.ready (pool i) own.ready) (gathered-pool C labels is.gathered) (gathered-pool C (pool i) own.gathered)

  -- that of an arrival
  pub arrival-only : (place : ℕ) (x : Arrival) → slice_get w.net.arrivals place ≡ Some x → (labels : List (Label V)) → IsArrivalPool w y x labels → labels ≡ get_or y.arrivals place []
  arrival-only place x at labels is =
      let own = right.arrivals place x at in
      let C = Arrives w.net trail y.fronts x in
      let there = get_or y.arrivals place [] in
      one-pool C labels there is.rises own.rises (leading w.arrived labels is.held) (leading w.arrived there own.held) (gathered-pool C labels is.gathered) (gathered-pool C there own.gathered)

  -- what a rest goes by
  pub rested-only : (place : ℕ) (x : Arrival) → slice_get w.net.arrivals place ≡ Some x → (labels : List (Label V)) → IsRestedPool w y place labels → labels ≡ get_or y.rested place []
  rested-only place x at labels is =
      let own = right.rested place x at in
      let there = get_or y.rested place [] in
      one-pool (λ v k. Member (waited_entries w.rest (map (shown trail) (get_or y.arrivals place []))) (v, k)) labels there is.rises own.rises (leading w.arrived labels is.rested.held) (leading w.arrived there own.rested.held)
      is.rested.those own.rested.those

  -- and the front of a duty
  pub front-only : (rank : ℕ) (d : Duty) → slice_get w.net.duties rank ≡ Some d → (labels : List (Label V)) → IsDutyFront w y rank d labels → labels ≡ get_or y.fronts rank []
  front-only rank d known labels is =
      let own = right.fronts rank d known in
      let there = get_or y.fronts rank [] in
      let unique = local_unique V (List ℕ) w.below ranks_at_most (below_order lawful.order) ranks_order (λ v k. Member (boarding w d rank (entries (get_or w.leaves.positions rank 0))) (v, k)) in
      one-list labels there is.rises own.rises (leading w.arrived labels is.held) (leading w.arrived there own.held)
      (unique (map (shown trail) labels) (map (shown trail) there) is.front own.front) (unique (map (shown trail) there) (map (shown trail) labels) own.front is.front)
