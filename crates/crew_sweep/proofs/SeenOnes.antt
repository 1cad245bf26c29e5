-- Arrivals of the earlier network, made from the pools that its sweep has, beside those of this one.
use Rattle.std.proofs.Common.{◌≡◌, ◌∙◌, ◌<◌, ℕ, zero, suc, Bool, false, List, [], ◌∷◌, length, map, get_or, inl, inr, sym, ap, subst, arith}
use Rattle.std.specs.Prelude.{slice_get}
use Rattle.std.proofs.lemmas.Bool.{false≢true}
use Rattle.std.proofs.lemmas.List.{length-map}
use Rattle.crew_anchor.specs.declared.resource.AnchoredResource.{AnchoredResource}
use Rattle.crew_net.specs.Machinery.Numbered.{departure_place}
use Rattle.crew_net.specs.Nets.{Net}
use Rattle.crew_net.specs.Positions.{in_order}
use Rattle.crew_net.proofs.Numbers.{at-departure}
use Rattle.crew_net.proofs.Orders.{leaves-in}
use Rattle.crew_net.proofs.Slices.{stands}
use Rattle.crew_pairing.specs.Events.{departure_of}
use Rattle.crew_pairing.specs.Keys.{walk_at_most}
use Rattle.crew_pairing.specs.Legs.{Leg}
use Rattle.crew_pairing.specs.declared.vector.PairingVector.{PairingVector}
use Rattle.crew_pool.specs.Counted.{AreCounted}
use Rattle.crew_pool.specs.LabelWalks.{IsPoolOf, shown}
use Rattle.crew_pool.specs.declared.label_walk.LabelWalk.{LabelWalk}
use Rattle.crew_resource.specs.Labels.{IsLocal}
use Rattle.crew_resource.specs.Members.{Member}
use Rattle.crew_sweep.specs.Machinery.Beside.{IsBeside, ShowsOld}
use Rattle.crew_sweep.specs.Machinery.Kept.{sparing_of}
use Rattle.crew_sweep.specs.Machinery.Passing.{AreLabels, IsArrivalPool, IsMade, IsPassable, IsPassing, IsSealed}
use Rattle.crew_sweep.specs.Machinery.Renewing.{Arrived, HaveSame, IsEarlierPass, ShowsSame}
use Rattle.crew_sweep.specs.Sweeps.{BaseSweep, keyed}
use Rattle.crew_sweep.specs.declared.earlier.Earlier.{Earlier}
use Rattle.crew_sweep.specs.declared.ground.Ground.{Ground}
use Rattle.crew_sweep.proofs.Keepings as keepings
use Rattle.crew_sweep.proofs.KeptSteps.{pool-by-key, position-within}
use Rattle.crew_sweep.proofs.Making as making
use Rattle.crew_vector.specs.Dominance.{is_at_most}

abbrev pub Labels : Type 0
Labels = List (PairingVector × LabelWalk)

abbrev Shown : Type 0
Shown = List (PairingVector × List (List Leg))

-- no arrival is made
abbrev pub unmade : {A : Type 0} (xs : List A) → List Bool
unmade xs = map (λ _. false) xs

abbrev pub empty : {A : Type 0} (xs : List A) → List Labels
empty xs = map (λ _. []) xs

none-made : {A : Type 0} (xs : List A) (p : ℕ) → IsMade (unmade xs) p → ⊥
none-made [] p h = false≢true h
none-made (x ∷ xs) zero h = false≢true h
none-made (x ∷ xs) (suc p) h = none-made xs p h

none-held : {A : Type 0} (xs : List A) (labels : Labels) → Member (empty xs) labels → labels ≡ []
none-held [] labels m = absurd m
none-held (x ∷ xs) labels (inl e) = sym e
none-held (x ∷ xs) labels (inr m) = none-held xs labels m

of-none : {A : Type 0} (P : Labels → Type 0) (xs : List A) → P [] → (labels : Labels) → Member (empty xs) labels → P labels
of-none P xs none labels m = subst P (sym (none-held xs labels m)) none

-- entries that others are too
local-members : (C : PairingVector → List (List Leg) → Type 0) (es fs : Shown) → HaveSame fs es → IsLocal is_at_most walk_at_most C es → IsLocal is_at_most walk_at_most C fs
local-members C es fs same i = record {
  among = λ v w m. i.among v w ((same (v, w)).0 m);
  covers = λ x y c.
      let k = i.covers x y c in
      (k.0, k.1, (same (k.0, k.1)).1 k.2, k.3, k.4);
  alone = λ v w x y m n. i.alone v w x y ((same (v, w)).0 m) ((same (x, y)).0 n);
}

module _ (e : Earlier) (g : Ground) (beside : IsBeside e g) where
  abbrev old : BaseSweep
  old = e.sweep.now

  abbrev positions : List ℕ
  positions = e.ground.positions.now

  abbrev sparing : AnchoredResource
  sparing = sparing_of old

  abbrev pub made : List Bool
  made = unmade old.net.arrivals

  abbrev pub held : List Labels
  held = empty old.net.arrivals

  passable : IsPassable old.net positions
  passable = subst (λ (n : Net). IsPassable n positions) beside.own_net beside.ground.passable

  earlier : IsEarlierPass old g.net.now e.twins.now e.positions.now g.base g.resource
  earlier = beside.earlier

  -- where the earlier pass stood at its end
  passing : IsPassing old.net old.base sparing old.walks old.pools made held
  passing = record {
    swept = record {
      long = length-map old.pools (keyed old.net old.walks);
      sealed = λ p m. absurd (none-made old.net.arrivals p m);
      arrived = λ p m. absurd (none-made old.net.arrivals p m);
      before = λ i h d m open'.
          let k = keepings.left-before old.net positions passable old.base sparing i d m open' in
          omega (arith, h, k);
      pooled = λ i h. earlier.local i h;
    };
    marks = length-map old.net.arrivals (λ _. false);
    long = length-map old.net.arrivals (λ _. []);
    settled = of-none (λ (ls : Labels). IsPoolOf is_at_most (map (shown old.walks) ls) (map (shown old.walks) ls)) old.net.arrivals
        (record { among = λ v w m. absurd m; covers = λ x y c. absurd c; alone = λ v w x y m. absurd m });
    whole = beside.whole;
    pending = of-none (AreCounted (λ (v : PairingVector). v.duties) old.walks false) old.net.arrivals (λ l m. absurd m);
    pooled = earlier.spared;
    arrived = of-none (AreLabels sparing (length old.net.duties) old.walks) old.net.arrivals (λ l m. absurd m);
  }

  -- and by its own ground
  pub own-passing : IsPassing e.ground.net.now e.ground.base e.ground.resource old.walks old.pools made held
  own-passing = subst (λ (n : Net). IsPassing n e.ground.base e.ground.resource old.walks old.pools made held) (sym beside.own_net)
      (subst (λ (b : List ℕ). IsPassing old.net b e.ground.resource old.walks old.pools made held) (sym beside.own_base)
      (subst (λ (r : AnchoredResource). IsPassing old.net old.base r old.walks old.pools made held) (sym beside.own_resource) passing))

  sealed : (place : ℕ) → IsSealed old.net (length old.pools) place
  sealed place d m is = subst (λ n. departure_place (in_order old.net) (departure_of d) < n) (sym earlier.long)
      (position-within old.net (departure_place (in_order old.net) (departure_of d)) (departure_of d) (at-departure (in_order old.net) (departure_of d) (leaves-in old.net passable.departs passable.ordered d m)))

  pub own-sealed : (place : ℕ) → IsSealed e.ground.net.now (length old.pools) place
  own-sealed place = subst (λ (n : Net). IsSealed n (length old.pools) place) (sym beside.own_net) (sealed place)

  -- an old arrival that is made shows what it showed
  pub shows-old : (place : ℕ) → place < length old.net.arrivals → (labels : Labels) → IsArrivalPool e.ground.net.now positions e.ground.resource old.walks old.pools place labels → ShowsOld e place labels
  shows-old place within labels is =
      let own = subst (λ (n : Net). IsArrivalPool n positions sparing old.walks old.pools place labels) beside.own_net
      (subst (λ (r : AnchoredResource). IsArrivalPool e.ground.net.now positions r old.walks old.pools place labels) beside.own_resource is) in
      let a = stands old.net.arrivals place within in
      record {
        local = making.arrived-by old.net positions passable old.base sparing old.walks old.pools made held passing place a.0 a.1 (sealed place) own.ranks (own.all a.0 a.1) labels own.local;
        counts = own.counts;
      }

  -- an arrival that is made here, with the labels of an old one
  module _ (walks : List (List ℕ)) (pools : List Labels) (made-now : List Bool) (held-now : List Labels) (now : IsPassing g.net.now g.base g.resource walks pools made-now held-now) where
    pub shows-same : (place was : ℕ) → place < length g.net.now.arrivals → IsSealed g.net.now (length pools) place → slice_get g.net.now.arrivals place ≡ slice_get old.net.arrivals was → IsMade made-now place
        → (labels : Labels) → labels ≡ get_or held-now place [] → (before : Labels) → ShowsOld e was before → HaveSame (keyed g.net.now walks labels) (keyed old.net old.walks before)
        → ShowsSame old g.net.now walks pools place was
    shows-same place was within shut event is-made labels is before shows same =
        let a = stands g.net.now.arrivals place within in
        let here : get_or (map (keyed g.net.now walks) held-now) place [] ≡ keyed g.net.now walks labels = pool-by-key g.net.now walks held-now place ∙ sym (ap (keyed g.net.now walks) is) in
        let local = subst (λ (ls : Shown). Arrived g.net.now g.base g.resource (map (keyed g.net.now walks) pools) place ls) here (now.swept.arrived place is-made) in
        let based = subst (λ (b : List ℕ). Arrived g.net.now b g.resource (map (keyed g.net.now walks) pools) place (keyed g.net.now walks labels)) earlier.own_base local in
        record {
          event = a.0;
          at = a.1;
          old_at = sym event ∙ a.1;
          sealed = shut;
          labels = keyed g.net.now walks labels;
          now = subst (λ (r : AnchoredResource). Arrived g.net.now old.base r (map (keyed g.net.now walks) pools) place (keyed g.net.now walks labels)) earlier.resource based;
          was = local-members _ (keyed old.net old.walks before) (keyed g.net.now walks labels) same shows.local;
        }
