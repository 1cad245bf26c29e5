-- Where all duties that arrive have left, and the pool of an arrival put beside those that are made.
use Rattle.std.proofs.Common.{◌≡◌, ◌∙◌, ◌<◌, ◌+◌, ◌++◌, ℕ, zero, suc, Bool, true, false, List, [], ◌∷◌, ◌⊎◌, inl, inr, length, set, get_or, Some, refl, sym, ap, subst, ⊎_elim, arith, true≢false, length-append}
use Rattle.std.specs.Prelude.{slice_get}
use Rattle.std.proofs.Math.Seq.{get_or-append_seam}
use Rattle.std.proofs.lemmas.List.{append_assoc}
use Rattle.crew_anchor.specs.declared.resource.AnchoredResource.{AnchoredResource}
use Rattle.crew_net.specs.Events.{arrives_at}
use Rattle.crew_net.specs.Nets.{Net}
use Rattle.crew_net.specs.Positions.{in_order}
use Rattle.crew_net.specs.Ranks.{ranks_where}
use Rattle.crew_net.proofs.ArrivalPlaces.{ranks-in, ranks-out}
use Rattle.crew_net.proofs.Numbers.{arrival-itself, at-arrival, get-within, place-departure}
use Rattle.crew_net.proofs.Orders.{in-order-distinct, place-within}
use Rattle.crew_net.proofs.Slices.{at-within, member-place, some-same, stands}
use Rattle.crew_pairing.specs.Events.{arrival_of, departure_of}
use Rattle.crew_pairing.specs.declared.duty.Duty.{Duty}
use Rattle.crew_pairing.specs.declared.events.Arrival.{Arrival}
use Rattle.crew_pairing.specs.declared.vector.PairingVector.{PairingVector}
use Rattle.crew_pool.specs.declared.label_walk.LabelWalk.{LabelWalk}
use Rattle.crew_resource.specs.Members.{Each, Member}
use Rattle.crew_sweep.specs.Machinery.Passing.{HaveStayed, IsArrivalPool, IsMade, IsPassable, IsPassing, IsSealed}
use Rattle.crew_sweep.proofs.Making as making
use Rattle.crew_sweep.specs.Machinery.Slides.{AreUnderWay}
use Rattle.crew_sweep.specs.declared.slides.Slides.{Slides}
use Rattle.crew_sweep.proofs.Slidings.{sliding-stayed, stayed-itself}

abbrev Labels : Type 0
Labels = List (PairingVector × LabelWalk)

pub each-at : {X : Type 0} (P : X → Type 0) (xs : List X) (i : ℕ) (d : X) → i < length xs → Each P xs → P (get_or xs i d)
each-at P [] i d h all = absurd (omega (arith, h))
each-at P (x ∷ xs) zero d h all = all.0
each-at P (x ∷ xs) (suc i) d h all = each-at P xs i d (omega (arith, h)) all.1

-- what is left of a list after so many items
abbrev pub AreLeft : {A : Type 0} → List A → ℕ → List A → Type 0
AreLeft {A} items place rest = (firsts : List A) × (length firsts ≡ place) × (items ≡ firsts ++ rest)

-- the next of them
pub left-next : {A : Type 0} (items rest more : List A) (place : ℕ) (x d : A) → AreLeft items place rest → rest ≡ x ∷ more → (get_or items place d ≡ x) × AreLeft items (place + 1) more
left-next {A} items rest more place x d left is =
    let whole = left.2 ∙ ap (λ (xs : List A). left.0 ++ xs) is in (
      ap (λ (xs : List A). get_or xs place d) whole ∙ (ap (λ n. get_or (left.0 ++ x ∷ more) n d) (sym left.1) ∙ get_or-append_seam left.0 x more d),
      (left.0 ++ x ∷ [], length-append left.0 (x ∷ []) ∙ ap (λ n. n + 1) left.1, whole ∙ sym (append_assoc left.0 (x ∷ []) more)),
    )

made-or-not : (made : List Bool) (place : ℕ) → IsMade made place ⊎ (IsMade made place → ⊥)
made-or-not made place = told (get_or made place false)
  where
    told : (b : Bool) → (b ≡ true) ⊎ (b ≡ true → ⊥)
    told true = inl refl
    told false = inr (λ e. true≢false (sym e))

module _ (net : Net) (positions : List ℕ) (passable : IsPassable net positions) where
  -- the departure at a position stands in the network
  pub stands-at : (position : ℕ) → position < length net.by_report → get_or net.by_report position 0 < length net.departures
  stands-at position within = place-within net passable.departs passable.ordered position (get_or net.by_report position 0) (at-within net.by_report position 0 within)

  -- the departures of the duties of a test have positions
  pub rank-within : (p : Duty → Bool) (rank : ℕ) → Member (ranks_where p net.duties) rank → rank < length positions
  rank-within p rank m =
      let d = ranks-out p net.duties rank m in
      let within = get-within net.duties rank d.0 d.1 in
      let long = passable.are_positions.long in
      omega (arith, within, long)

  -- where all duties that arrive have left, nothing more will arrive
  pub sealed-by : (place : ℕ) (a : Arrival) → slice_get net.arrivals place ≡ Some a → (passed : ℕ) → ((rank : ℕ) → Member (ranks_where (arrives_at a) net.duties) rank → get_or positions rank 0 < passed) → IsSealed net passed place
  sealed-by place a at passed left d m there =
      let reached = at-arrival net.arrivals (arrival_of d) (passable.arrives.every d m) in
      let same = some-same (slice_get net.arrivals place) a (arrival_of d) at (ap (slice_get net.arrivals) (sym there) ∙ reached) in
      let arrives = subst (λ (z : Arrival). arrives_at z d ≡ true) (sym same) (arrival-itself (arrival_of d)) in
      let rank = member-place net.duties d m in
      let leaves = place-departure (in_order net) (departure_of d) (get_or positions rank.0 0) (in-order-distinct net passable.departs passable.ordered) (passable.are_positions.exact rank.0 d rank.1) in
      subst (λ n. n < passed) (sym leaves) (left rank.0 (ranks-in (arrives_at a) net.duties rank.0 d rank.1 arrives))

-- a pool at a place that has none, beside what is made
module _ (made : List Bool) (held : List Labels) (place : ℕ) (pool : Labels) (made' : List Bool) (held' : List Labels)
    (kept : IsMade made place → (made' ≡ made) × (held' ≡ held)) (put : (IsMade made place → ⊥) → (made' ≡ set made place true) × (held' ≡ set held place pool)) where
  pub stayed-put : place < length made → HaveStayed made held made' held'
  stayed-put within = ⊎_elim {C = HaveStayed made held made' held'}
      (λ is. let k = kept is in subst (λ (bs : List Bool). HaveStayed made held bs held') (sym k.0) (subst (λ (hs : List Labels). HaveStayed made held made hs) (sym k.1) (stayed-itself made held)))
      (λ not. let k = put not in subst (λ (bs : List Bool). HaveStayed made held bs held') (sym k.0)
      (subst (λ (hs : List Labels). HaveStayed made held (set made place true) hs) (sym k.1) (making.made-stays made held place within pool not)))
      (made-or-not made place)

  pub passing-put : (net : Net) (positions : List ℕ) → IsPassable net positions → (r : AnchoredResource) (walks : List (List ℕ)) (pools : List Labels) → place < length net.arrivals → IsSealed net (length pools) place
      → IsArrivalPool net positions r walks pools place pool → (base : List ℕ) → IsPassing net base r walks pools made held → IsPassing net base r walks pools made' held'
  passing-put net positions passable r walks pools within sealed is base passing =
      let a = stands net.arrivals place within in
      ⊎_elim {C = IsPassing net base r walks pools made' held'}
      (λ was. let k = kept was in subst (λ (bs : List Bool). IsPassing net base r walks pools bs held') (sym k.0) (subst (λ (hs : List Labels). IsPassing net base r walks pools made hs) (sym k.1) passing))
      (λ not. let k = put not in subst (λ (bs : List Bool). IsPassing net base r walks pools bs held') (sym k.0) (subst (λ (hs : List Labels). IsPassing net base r walks pools (set made place true) hs) (sym k.1)
      (making.passing-made net positions passable base r walks pools made held passing place a.0 a.1 sealed is.ranks (is.all a.0 a.1) pool is.local is.counts not)))
      (made-or-not made place)

-- slides over what has stayed
pub under-way-stayed : (net : Net) (walks : List (List ℕ)) (made : List Bool) (held : List Labels) (made' : List Bool) (held' : List Labels) → HaveStayed made held made' held' → (s : Slides) → AreUnderWay net walks made held s → AreUnderWay net walks made' held' s
under-way-stayed net walks made held made' held' stayed s under = record {
  long = under.long;
  sliding = sliding-stayed walks made held made' held' stayed s under.covered under.sliding;
  covered = λ p c. (stayed p (under.covered p c)).0;
}
