-- A departure whose pool is mended: what it waits on where nothing has changed was waited on before.
use Rattle.std.proofs.Common.{◌≡◌, ◌∙◌, ◌<◌, ◌≤◌, ℕ, Bool, true, false, not, List, [], ◌∷◌, ◌++◌, ◌⊎◌, length, map, get_or, Option, Some, None, inl, inr, refl, sym, ap, subst, ⊎_elim, arith, zero, suc}
use Rattle.std.specs.Option.{is_some}
use Rattle.std.specs.Prelude.{slice_get}
use Rattle.std.specs.Cmp.Lexicographic.{slice_cmp}
use Rattle.std.specs.Ordering.{is_le, nat_cmp, ordering_reverse}
use Rattle.std.specs.Cmp.{nat_cmp_is}
use Rattle.std.specs.declared.cmp.Ordering.{Ordering}
use Rattle.std.specs.declared.cmp.Ordering.TheVariants.{Equal, Greater, Less}
use Rattle.std.proofs.lemmas.Bool.{and_parts}
use Rattle.std.proofs.lemmas.Cmp.{tied_itself}
use Rattle.crew_anchor.specs.declared.resource.AnchoredResource.{AnchoredResource}
use Rattle.crew_carry.specs.Twins.{HaveSameArriving, Twins}
use Rattle.crew_carry.proofs.Arriving.{rises}
use Rattle.crew_carry.proofs.Ties.{key-tie}
use Rattle.crew_net.specs.Events.{IsWindow}
use Rattle.crew_net.specs.Machinery.Numbered.{arrival_place, departure_place}
use Rattle.crew_net.specs.Nets.{AreArrivalPlaces, Net}
use Rattle.crew_net.specs.Positions.{in_order}
use Rattle.crew_net.specs.declared.window.Window.{Window}
use Rattle.crew_net.proofs.Numbers.{at-arrival, get-within, place-arrival}
use Rattle.crew_net.proofs.Orders.{arrivals-distinct, in-order-of}
use Rattle.crew_net.proofs.Slices.{at-within, get-at, listed-at, map-got, map-or, member-got, member-place, some-same}
use Rattle.crew_pairing.specs.Duties.{RiseByKey}
use Rattle.crew_pairing.specs.Events.{arrival_of, departure_of, may_wait}
use Rattle.crew_pairing.specs.Keys.{key_cmp, key_total, walk_at_most, walk_cmp}
use Rattle.crew_pairing.specs.Legs.{Leg}
use Rattle.crew_pairing.specs.declared.duty.Duty.{Duty}
use Rattle.crew_pairing.specs.declared.events.Arrival.{Arrival}
use Rattle.crew_pairing.specs.declared.events.Departure.{Departure}
use Rattle.crew_pairing.specs.declared.vector.PairingVector.{PairingVector}
use Rattle.crew_pool.specs.Arena.{walk_at}
use Rattle.crew_pool.specs.LabelWalks.{duty_of, ranks_at_most, shown, walk_of_label}
use Rattle.crew_pool.specs.Ranks.{by_key, key_at}
use Rattle.crew_pool.specs.declared.label_walk.LabelWalk.{LabelWalk}
use Rattle.crew_pool.proofs.LabelWalkLemmas.{duty_none}
use Rattle.crew_pool.proofs.RankLemmas.{pool_of_rising, walks_by_key}
use Rattle.crew_resource.specs.Events.{Arriving, FromFronts, Network, Views}
use Rattle.crew_resource.specs.Labels.{IsLocal}
use Rattle.crew_resource.specs.Members.{Each, Member}
use Rattle.crew_resource.proofs.Members.{Member-append, Member-append_left, Member-append_right, Member-map_in, Member-map_out}
use Rattle.crew_resource.proofs.Pools.{view_out}
use Rattle.crew_sweep.specs.Machinery.Kept.{keyed_pools}
use Rattle.crew_sweep.specs.Machinery.Mending.{AreSound, IsFresh, IsMended, IsNextPool, IsOldPool, ends_unchanged, is_unchanged}
use Rattle.crew_sweep.specs.Machinery.Numbered.{AreLocal, idle_at}
use Rattle.crew_sweep.specs.Machinery.Passing.{AreLabels, IsLabel, IsPassable, IsPassing, passed_network}
use Rattle.crew_sweep.specs.Machinery.Renewing.{HasSameLabels, IsEarlierPass, IsLaid, IsRenewing}
use Rattle.crew_sweep.specs.Sweeps.{BaseSweep, keyed}
use Rattle.crew_sweep.proofs.Keepings as keepings
use Rattle.crew_sweep.proofs.KeptSteps.{laid-of, pool-by-key, position-within}
use Rattle.crew_sweep.proofs.Renewed as renewed
use Rattle.crew_sweep.proofs.Shown.{by_rank, key-of, keyed-in, keyed-out}
use Rattle.crew_sweep.proofs.Unders.{Under, through}
use Rattle.crew_vector.specs.Dominance.{is_at_most}

abbrev Labels : Type 0
Labels = List (PairingVector × LabelWalk)

abbrev Shown : Type 0
Shown = List (PairingVector × List (List Leg))

less-equal : (o : Ordering) → o ≡ Less → o ≡ Equal → ⊥
less-equal o p q = cc

below-or-beside : (i j : ℕ) → (i < j) ⊎ ((j < i) ⊎ (i ≡ j))
below-or-beside i j = grind arith

-- duties that rise by key have different keys
one-duty : (ds : List Duty) → RiseByKey ds → (d e : Duty) → Member ds d → Member ds e → d.key ≡ e.key → d ≡ e
one-duty ds rise d e m n same =
    let i = member-place ds d m in
    let j = member-place ds e n in
    ⊎_elim {C = d ≡ e} (λ l. absurd (less-equal (key_cmp d.key e.key) (rises ds rise i.0 j.0 d e l i.1 j.1) (key-tie e d (sym same))))
    (λ k. ⊎_elim {C = d ≡ e} (λ l. absurd (less-equal (key_cmp e.key d.key) (rises ds rise j.0 i.0 e d l j.1 i.1) (key-tie d e same)))
    (λ one. some-same (slice_get ds j.0) d e (ap (slice_get ds) (sym one) ∙ i.1) j.1) k)
    (below-or-beside i.0 j.0)

duty-at : (ds : List Duty) (rank : ℕ) → rank < length ds → (d : Duty) × (slice_get ds rank ≡ Some d)
duty-at [] rank h = absurd (omega (arith, h))
duty-at (d ∷ ds) zero h = (d, refl)
duty-at (d ∷ ds) (suc rank) h = duty-at ds rank (omega (arith, h))

-- and ranks compare as their keys
ranks-by-key : (ds : List Duty) → RiseByKey ds → (a b : ℕ) → a < length ds → b < length ds → nat_cmp a b ≡ key_cmp (key_at ds a) (key_at ds b)
ranks-by-key ds rise a b p q =
    let d = duty-at ds a p in
    let e = duty-at ds b q in
    let keys : key_cmp (key_at ds a) (key_at ds b) ≡ key_cmp d.0.key e.0.key = ap (λ (k : List Leg). key_cmp k (key_at ds b)) (key-of ds a d.0 d.1) ∙ ap (key_cmp d.0.key) (key-of ds b e.0 e.1) in
    ⊎_elim {C = nat_cmp a b ≡ key_cmp (key_at ds a) (key_at ds b)}
    (λ l. sym (nat_cmp_is a b Less l) ∙ sym (keys ∙ rises ds rise a b d.0 e.0 l d.1 e.1))
    (λ k. ⊎_elim {C = nat_cmp a b ≡ key_cmp (key_at ds a) (key_at ds b)}
    (λ l. sym (nat_cmp_is a b Greater l) ∙ sym (keys ∙ (key_total.antisymm d.0.key e.0.key ∙ ap ordering_reverse (rises ds rise b a e.0 d.0 l e.1 d.1))))
    (λ one. sym (nat_cmp_is a b Equal one) ∙ (sym (tied_itself key_total (key_at ds a)) ∙ ap (λ n. key_cmp (key_at ds a) (key_at ds n)) one)) k)
    (below-or-beside a b)

each-of : (P : ℕ → Type 0) (n : ℕ) (ns : List ℕ) → Each P ns → Member ns n → P n
each-of P n [] h m = absurd m
each-of P n (a ∷ ns) h m = ⊎_elim {C = P n} (λ e. subst P e h.0) (λ k. each-of P n ns h.1 k) m

-- the duties of a walk arrive at places of the network
pub ranked-within : (net : Net) (places : List ℕ) → AreArrivalPlaces net places → (changed : List Bool) → length changed ≡ length net.arrivals → (walks : List (List ℕ)) (l : PairingVector × LabelWalk)
    → Each (λ n. n < length net.duties) (walk_of_label walks l.1) → (rank : ℕ) → Member (walk_at walks l.1.walk) rank → (rank < length places) × (get_or places rank 0 < length changed)
ranked-within net places are changed marks walks l ranked rank k =
    let short = each-of (λ n. n < length net.duties) rank (walk_of_label walks l.1) ranked (Member-append_left (walk_at walks l.1.walk) (duty_of l.1.duty) rank k) in
    let d = duty-at net.duties rank short in
    let there = get-within net.arrivals (get_or places rank 0) (arrival_of d.0) (are.exact rank d.0 d.1) in
    let long = are.long in
    (omega (arith, short, long), omega (arith, there, marks))

either : (b : Bool) → (b ≡ true) ⊎ (b ≡ false)
either true = inl refl
either false = inr refl

not-out : (b : Bool) → not b ≡ true → b ≡ false
not-out true h = sym h
not-out false h = refl

there-out : (o : Option ℕ) → is_some o ≡ true → (q : ℕ) × (o ≡ Some q)
there-out None h = absurd (let q : ⊥ = (cc) in q)
there-out (Some q) h = (q, refl)

got-some : (xs : List (Option ℕ)) (p q : ℕ) → get_or xs p None ≡ Some q → slice_get xs p ≡ Some (Some q)
got-some [] p q h = absurd (let e : ⊥ = (cc) in e)
got-some (x ∷ xs) zero q h = ap (λ o. Some o) h
got-some (x ∷ xs) (suc p) q h = got-some xs p q h

-- what isn't changed
pub unchanged-out : (t : Twins) (changed : List Bool) (p : ℕ) → is_unchanged t changed p ≡ true → (get_or changed p true ≡ false) × (q : ℕ) × (slice_get t.arrivals p ≡ Some (Some q))
unchanged-out t changed p h =
    let k = and_parts (not (get_or changed p true)) (is_some (get_or t.arrivals p None)) h in
    let q = there-out (get_or t.arrivals p None) k.1 in
    (not-out (get_or changed p true) k.0, q.0, got-some t.arrivals p q.0 q.1)

-- a walk ends with its last duty
pub ends-last : (t : Twins) (changed : List Bool) (places : List ℕ) (walk : List ℕ) (rank : ℕ) → ends_unchanged t changed places (walk ++ rank ∷ []) ≡ is_unchanged t changed (get_or places rank 0)
ends-last t changed places [] rank = refl
ends-last t changed places (a ∷ []) rank = refl
ends-last t changed places (a ∷ b ∷ walk) rank = ends-last t changed places (b ∷ walk) rank

-- what comes to a list with a last one has a last one itself
snoc-out : {A B : Type 0} (f : A → B) (xs : List A) (ys : List B) (y : B) → map f xs ≡ ys ++ y ∷ [] → (ws : List A) × (x : A) × (xs ≡ ws ++ x ∷ []) × (f x ≡ y)
snoc-out f [] [] y h = absurd (let q : ⊥ = (cc) in q)
snoc-out f [] (z ∷ ys) y h = absurd (let q : ⊥ = (cc) in q)
snoc-out f (x ∷ []) [] y h = ([], x, refl, (cc))
snoc-out f (x ∷ a ∷ xs) [] y h = absurd (let q : ⊥ = (cc) in q)
snoc-out f (x ∷ xs) (z ∷ ys) y h =
    let rest : map f xs ≡ ys ++ y ∷ [] = (cc) in
    let k = snoc-out f xs ys y rest in
    (x ∷ k.0, k.1, ap (λ (zs : List _). x ∷ zs) k.2, k.3)

each-last : (P : ℕ → Type 0) (ns : List ℕ) (n : ℕ) → Each P (ns ++ n ∷ []) → P n
each-last P [] n h = h.0
each-last P (m ∷ ns) n h = each-last P ns n h.1

module _ (old : BaseSweep) (net : Net) (t : Twins) (old-positions : List ℕ) (r : AnchoredResource) (earlier : IsEarlierPass old net t old-positions old.base r) (positions : List ℕ) (passable : IsPassable net positions)
    (walks : List (List ℕ)) (pools : List Labels) (made : List Bool) (held : List Labels) (passing : IsPassing net old.base r walks pools made held)
    (changed : List Bool) (alike : List (Option ℕ)) (renewing : IsRenewing old net walks pools changed alike) (places : List ℕ) (are : AreArrivalPlaces net places)
    (place : ℕ) (at-place : slice_get net.by_report (length pools) ≡ Some place) (g : Departure) (at-net : slice_get net.departures place ≡ Some g)
    (before : Labels) (was : IsOldPool old net walks place before) (w : Window) (window : IsWindow (λ x. may_wait net.settings x g) net.arrivals w)
    (fresh : Labels) (newly : IsFresh t changed walks made held w fresh) (result : Labels) (mended : IsMended walks fresh before result) where
  abbrev i : ℕ
  i = length pools

  abbrev j : ℕ
  j = was.position

  abbrev Num : Network Duty PairingVector (List (List Leg)) ℕ ℕ
  Num = passed_network net old.base r

  abbrev Old : Network Duty PairingVector (List (List Leg)) ℕ ℕ
  Old = passed_network old.net old.base r

  abbrev now-pools : List Shown
  now-pools = map (keyed net walks) pools

  abbrev cands : List (PairingVector × List ℕ)
  cands = map (shown walks) fresh ++ map (shown walks) before

  abbrev ByKey : PairingVector → List (List Leg) → Type 0
  ByKey v k = Member (by_key net.duties cands) (v, k)

  abbrev Candidate : PairingVector → List (List Leg) → Type 0
  Candidate = FromFronts Num (Views Num now-pools) i

  laid : IsLaid net
  laid = laid-of net positions passable

  at : slice_get (in_order net) i ≡ Some g
  at = in-order-of net passable.departs passable.ordered i place g at-place at-net

  old-at : slice_get (in_order old.net) j ≡ Some g
  old-at = was.at ∙ at-net

  within : j < length old.pools
  within = subst (λ n. j < n) (sym earlier.long) (position-within old.net j g old-at)

  before-are : keyed net walks before ≡ get_or (keyed_pools old) j []
  before-are = was.has.labels ∙ sym (pool-by-key old.net old.walks old.pools j)

  local-old : IsLocal is_at_most walk_at_most (FromFronts Old (Views Old (keyed_pools old)) j) (get_or (keyed_pools old) j [])
  local-old = subst (λ (z : AnchoredResource). AreLocal (passed_network old.net old.base z) (length old.pools) (keyed_pools old)) (sym earlier.resource) earlier.local j within

  abbrev place-of : Duty → ℕ
  place-of e = arrival_place net.arrivals (arrival_of e)

  stands-at : (e : Duty) → Member net.duties e → slice_get net.arrivals (place-of e) ≡ Some (arrival_of e)
  stands-at e m = at-arrival net.arrivals (arrival_of e) (passable.arrives.every e m)

  sealed : (e : Duty) → Member net.duties e → may_wait net.settings (arrival_of e) g ≡ true → departure_place (in_order net) (departure_of e) < length pools
  sealed e m waits = keepings.left-before net positions passable old.base r i e m (renewed.may-wait net laid i g at e m ∙ waits)

  -- the same duties arrive where nothing has changed
  twin-at : (p : ℕ) (x : Arrival) → slice_get net.arrivals p ≡ Some x → is_unchanged t changed p ≡ true → HaveSameArriving old.net net x
  twin-at p x h un =
      let k = unchanged-out t changed p un in
      let twin = earlier.twins.arrivals p k.1 k.2 in
      subst (HaveSameArriving old.net net) (some-same (slice_get net.arrivals p) twin.0 x twin.2 h) twin.3

  same-duty : (e : Duty) → Member net.duties e → may_wait net.settings (arrival_of e) g ≡ true → is_unchanged t changed (place-of e) ≡ true → Member old.net.duties e × HasSameLabels old net walks pools e
  same-duty e m waits un = ((twin-at (place-of e) (arrival_of e) (stands-at e m) un e refl).1 m, renewing.same (place-of e) (unchanged-out t changed (place-of e) un).0 e m refl (sealed e m waits))

  seen-old : (e : Duty) → HasSameLabels old net walks pools e → (v : PairingVector) (k : List (List Leg)) → Member (Views Num now-pools e) (v, k) → Member (Views Old (keyed_pools old) e) (v, k)
  seen-old = renewed.seen-old old net earlier.settings earlier.laid laid r walks pools

  seen-now : (e : Duty) → HasSameLabels old net walks pools e → (v : PairingVector) (k : List (List Leg)) → Member (Views Old (keyed_pools old) e) (v, k) → Member (Views Num now-pools e) (v, k)
  seen-now = renewed.seen-now old net earlier.settings earlier.laid laid r walks pools

  held-label : (p : ℕ) (e : PairingVector × List ℕ) → Member (map (shown walks) (get_or held p [])) e → IsLabel r (length net.duties) e
  held-label p e m =
      let l = Member-map_out (shown walks) (get_or held p []) e m in
      let h = listed-at held p l.0 l.1 in
      subst (IsLabel r (length net.duties)) l.2 (passing.arrived h.0 (member-got held p h.0 h.1) l.0 h.2)

  old-labels : AreLabels r (length net.duties) walks before
  old-labels = keepings.carried-labels r old.net.duties net.duties old.walks walks (get_or old.pools j []) before was.has.labels was.has.ranked
      (subst (λ (z : AnchoredResource). AreLabels z (length old.net.duties) old.walks (get_or old.pools j [])) (sym earlier.resource)
      (earlier.spared (get_or old.pools j []) (member-got old.pools j (get_or old.pools j []) (at-within old.pools j [] within))))

  fresh-labels : AreLabels r (length net.duties) walks fresh
  fresh-labels l m =
      let c = newly.local.among (shown walks l).0 (shown walks l).1 (Member-map_in (shown walks) fresh l m) in
      held-label c.0 (shown walks l) c.4

  pub labels : AreLabels r (length net.duties) walks result
  labels l m = ⊎_elim {C = IsLabel r (length net.duties) (shown walks l)} (fresh-labels l) (old-labels l) (mended.from l m)

  cand-label : (e : PairingVector × List ℕ) → Member cands e → IsLabel r (length net.duties) e
  cand-label e m = ⊎_elim {C = IsLabel r (length net.duties) e}
      (λ a. let l = Member-map_out (shown walks) fresh e a in subst (IsLabel r (length net.duties)) l.2 (fresh-labels l.0 l.1))
      (λ b. let l = Member-map_out (shown walks) before e b in subst (IsLabel r (length net.duties)) l.2 (old-labels l.0 l.1))
      (Member-append (map (shown walks) fresh) (map (shown walks) before) e m)

  by-keys : IsLocal is_at_most walk_at_most ByKey (keyed net walks result)
  by-keys = pool_of_rising is_at_most net.duties cands (map (shown walks) result) passable.rise (λ e m. (cand-label e m).ranked) mended.local

  cand-by : (e : PairingVector × List ℕ) (v : PairingVector) (k : List (List Leg)) → Member cands e → by_rank net.duties e ≡ (v, k) → ByKey v k
  cand-by e v k m is = subst (Member (by_key net.duties cands)) is (Member-map_in (by_rank net.duties) cands e m)

  -- what the old pool covers
  from-old : (x : PairingVector) (y : List (List Leg)) → FromFronts Old (Views Old (keyed_pools old)) j x y → Under ByKey x y
  from-old x y c =
      let k = local-old.covers x y c in
      let e = keyed-out net walks before (k.0, k.1) (subst (λ (ls : Shown). Member ls (k.0, k.1)) (sym before-are) k.2) in
      (k.0, k.1, cand-by e.0 k.0 k.1 (Member-append_right (map (shown walks) fresh) (map (shown walks) before) e.0 e.1) e.2, k.3, k.4)

  -- what comes from where something has changed
  from-changed : (p : ℕ) → w.from ≤ p → p < w.end → is_unchanged t changed p ≡ false → (u : PairingVector) (y : List (List Leg)) → Arriving Num (Views Num now-pools) p u y → Under ByKey u y
  from-changed p from end un u y c =
      let k = (passing.swept.arrived p (newly.all_made p from end un)).covers u y c in
      let listed = listed-at (map (keyed net walks) held) p (k.0, k.1) k.2 in
      let h = map-got (keyed net walks) held p listed.0 listed.1 in
      let e = keyed-out net walks h.0 (k.0, k.1) (subst (λ (ls : Shown). Member ls (k.0, k.1)) (sym h.2) listed.2) in
      let here = subst (λ (ls : Labels). Member (map (shown walks) ls) e.0) (sym (get-at held p h.0 [] h.1)) e.1 in
      let f = newly.local.covers e.0.0 e.0.1 (p, from, end, un, here) in
      let m = Member-append_left (map (shown walks) fresh) (map (shown walks) before) (f.0, f.1) f.2 in
      let value : e.0.0 ≡ k.0 = ap (λ z. z.0) e.2 in
      let walk : map (key_at net.duties) e.0.1 ≡ k.1 = ap (λ z. z.1) e.2 in
      let found : Under ByKey k.0 k.1 = (
        f.0,
        map (key_at net.duties) f.1,
        cand-by (f.0, f.1) f.0 (map (key_at net.duties) f.1) m refl,
        subst (λ (v : PairingVector). is_at_most f.0 v ≡ true) value f.3,
        λ same.
            let less = f.4 (same ∙ sym value) in
            let order = walks_by_key (length net.duties) (key_at net.duties) (ranks-by-key net.duties passable.rise) f.1 e.0.1 (cand-label (f.0, f.1) m).ranked (held-label p e.0 here).ranked in
            subst (λ (ks : List (List Leg)). walk_at_most (map (key_at net.duties) f.1) ks ≡ true) walk (by-order f.1 e.0.1 order less),
      ) in
      through ByKey u k.0 y k.1 k.3 k.4 found
    where
      by-order : (a b : List ℕ) → slice_cmp nat_cmp a b ≡ walk_cmp (map (key_at net.duties) a) (map (key_at net.duties) b) → ranks_at_most a b ≡ true → walk_at_most (map (key_at net.duties) a) (map (key_at net.duties) b) ≡ true
      by-order a b is h = ap is_le (sym is) ∙ h

  from-duty : (e : Duty) (x : PairingVector) (y : List (List Leg)) → Member net.duties e → may_wait net.settings (arrival_of e) g ≡ true → Member (Views Num now-pools e) (x, y) → Under ByKey x y
  from-duty e x y m waits seen = ⊎_elim {C = Under ByKey x y}
      (λ un.
      let k = same-duty e m waits un in
      from-old x y (inr (e, x, k.0, renewed.may-wait old.net earlier.laid j g old-at e k.0 ∙ (renewed.same-settings old.net.settings net.settings earlier.settings (arrival_of e) g ∙ waits), seen-old e k.1 x y seen, refl)))
      (λ un.
      let inside = (window.exact (place-of e) (arrival_of e) (stands-at e m)).0 waits in
      from-changed (place-of e) inside.0 inside.1 un x y (e, m, refl, seen))
      (either (is_unchanged t changed (place-of e)))

  all-under : (x : PairingVector) (y : List (List Leg)) → Candidate x y → Under ByKey x y
  all-under x y = ⊎_elim {C = Under ByKey x y}
      (λ c. from-old x y (inl (c.0, ap (idle_at r old.base) (old-at ∙ sym at) ∙ c.1)))
      (λ c.
      let waits : may_wait net.settings (arrival_of c.0) g ≡ true = sym (renewed.may-wait net laid i g at c.0 c.2) ∙ c.3 in
      subst (λ (v : PairingVector). Under ByKey v y) (sym c.5) (from-duty c.0 c.1 y c.2 waits c.4))

  -- what comes from a changed arrival is a candidate
  fresh-among : (l : PairingVector × LabelWalk) → Member fresh l → Candidate l.0 (by_rank net.duties (shown walks l)).1
  fresh-among l m =
      let c = newly.local.among (shown walks l).0 (shown walks l).1 (Member-map_in (shown walks) fresh l m) in
      let short : c.0 < length held = (let a = c.2 in let b = window.within in let d = passing.long in omega (arith, a, b, d)) in
      let there = subst (λ (ls : Shown). Member ls (by_rank net.duties (shown walks l))) (sym (map-or (keyed net walks) held c.0 short)) (keyed-in net walks (get_or held c.0 []) (shown walks l) c.4) in
      let a = (passing.swept.arrived c.0 (newly.all_made c.0 c.1 c.2 c.3)).among l.0 (by_rank net.duties (shown walks l)).1 there in
      let stands : slice_get net.arrivals c.0 ≡ Some (arrival_of a.0) = ap (slice_get net.arrivals) (sym a.2) ∙ stands-at a.0 a.1 in
      let waits = (window.exact c.0 (arrival_of a.0) stands).1 (c.1, c.2) in
      inr (a.0, l.0, a.1, renewed.may-wait net laid i g at a.0 a.1 ∙ waits, a.3, refl)

  whole-walk : (l : PairingVector × LabelWalk) → Member before l → walk_of_label walks l.1 ≡ walk_at walks l.1.walk
  whole-walk l m = ap (λ (ds : List ℕ). walk_at walks l.1.walk ++ ds) (duty_none l.1.duty (was.has.counts l m).stands) ∙ append-none (walk_at walks l.1.walk)
    where
      append-none : (ns : List ℕ) → ns ++ [] ≡ ns
      append-none [] = refl
      append-none (n ∷ ns) = ap (λ (ms : List ℕ). n ∷ ms) (append-none ns)

  -- the duty with which a walk ends where nothing has changed
  ending : (l : PairingVector × LabelWalk) → Member before l → ends_unchanged t changed places (walk_at walks l.1.walk) ≡ true → (e : Duty) → Member old.net.duties e → (keys : List (List Leg))
      → (by_rank net.duties (shown walks l)).1 ≡ keys ++ e.key ∷ [] → Member net.duties e × (is_unchanged t changed (place-of e) ≡ true)
  ending l m ends e known keys is =
      let k = snoc-out (key_at net.duties) (shown walks l).1 keys e.key is in
      let rank = k.1 in
      let ranked : Each (λ n. n < length net.duties) (k.0 ++ rank ∷ []) = subst (Each (λ n. n < length net.duties)) k.2 (was.has.ranked (shown walks l) (Member-map_in (shown walks) before l m)) in
      let d = duty-at net.duties rank (each-last (λ n. n < length net.duties) k.0 rank ranked) in
      let key : d.0.key ≡ e.key = sym (key-of net.duties rank d.0 d.1) ∙ k.3 in
      let stands = are.exact rank d.0 d.1 in
      let there : place-of d.0 ≡ get_or places rank 0 = place-arrival net.arrivals (arrival_of d.0) (get_or places rank 0) (arrivals-distinct net passable.arrives) stands in
      let un : is_unchanged t changed (get_or places rank 0) ≡ true = sym (ends-last t changed places k.0 rank) ∙ (ap (ends_unchanged t changed places) (sym k.2 ∙ whole-walk l m) ∙ ends) in
      let own = member-got net.duties rank d.0 d.1 in
      let same = one-duty old.net.duties earlier.rise d.0 e ((twin-at (get_or places rank 0) (arrival_of d.0) stands un d.0 refl).1 own) known key in
      (subst (Member net.duties) same own, subst (λ (z : Duty). is_unchanged t changed (place-of z) ≡ true) same (ap (is_unchanged t changed) there ∙ un))

  old-among : (l : PairingVector × LabelWalk) → Member before l → ends_unchanged t changed places (walk_at walks l.1.walk) ≡ true → Candidate l.0 (by_rank net.duties (shown walks l)).1
  old-among l m ends =
      let walk = (by_rank net.duties (shown walks l)).1 in
      let there = subst (λ (ls : Shown). Member ls (by_rank net.duties (shown walks l))) before-are (keyed-in net walks before (shown walks l) (Member-map_in (shown walks) before l m)) in
      ⊎_elim {C = Candidate l.0 walk}
      (λ c. inl (c.0, ap (idle_at r old.base) (at ∙ sym old-at) ∙ c.1))
      (λ c.
      let e = c.0 in
      let waits : may_wait net.settings (arrival_of e) g ≡ true = renewed.same-settings net.settings old.net.settings (sym earlier.settings) (arrival_of e) g ∙ (sym (renewed.may-wait old.net earlier.laid j g old-at e c.2) ∙ c.3) in
      let seen = view_out Duty PairingVector (List (List Leg)) ℕ ℕ Old e (get_or (keyed_pools old) (departure_place (in_order old.net) (departure_of e)) []) c.1 walk c.4 in
      let k = ending l m ends e c.2 seen.1 seen.4 in
      let same = same-duty e k.0 waits k.1 in
      inr (e, c.1, k.0, renewed.may-wait net laid i g at e k.0 ∙ waits, seen-now e same.1 c.1 walk c.4, c.5))
      (local-old.among l.0 walk there)

  -- the duties of its walks arrive at places of the network
  pub walks-within : (l : PairingVector × LabelWalk) → Member result l → (rank : ℕ) → Member (walk_at walks l.1.walk) rank → (rank < length places) × (get_or places rank 0 < length changed)
  walks-within l m = ranked-within net places are changed renewing.long walks l (labels l m).ranked

  module _ (added : ℕ) (standing : (l : PairingVector × LabelWalk) → Member before l → l.1.walk < added) (sound : AreSound t changed places walks added result) where
    among : (v : PairingVector) (k : List (List Leg)) → Member (keyed net walks result) (v, k) → Candidate v k
    among v k m =
        let e = keyed-out net walks result (v, k) m in
        let l = Member-map_out (shown walks) result e.0 e.1 in
        let is : by_rank net.duties (shown walks l.0) ≡ (v, k) = ap (by_rank net.duties) l.2 ∙ e.2 in
        let found : Candidate l.0.0 (by_rank net.duties (shown walks l.0)).1 = ⊎_elim {C = Candidate l.0.0 (by_rank net.duties (shown walks l.0)).1} (fresh-among l.0)
        (λ b. ⊎_elim {C = Candidate l.0.0 (by_rank net.duties (shown walks l.0)).1} (λ past. let short = standing l.0 b in absurd (omega (arith, past, short))) (old-among l.0 b) (sound l.0 l.1)) (mended.from l.0 l.1)
        in
        subst (λ (z : PairingVector × List (List Leg)). Candidate z.0 z.1) is found

    local : IsLocal is_at_most walk_at_most Candidate (keyed net walks result)
    local = record {
      among = among;
      covers = λ x y c.
          let k = all-under x y c in
          let entry = by-keys.covers k.0 k.1 k.2 in
          through (λ v z. Member (keyed net walks result) (v, z)) x k.0 y k.1 k.3 k.4 entry;
      alone = by-keys.alone;
    }

    pub next-pool : IsNextPool net old.base r walks pools result
    next-pool = record { local = local; counts = mended.counts; labels = labels }
