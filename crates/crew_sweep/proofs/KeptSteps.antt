-- The pass goes on by a departure whose pool is kept.
use Rattle.std.proofs.Common.{◌≡◌, ◌∙◌, ◌<◌, ℕ, zero, suc, Bool, true, List, [], ◌∷◌, ◌++◌, length, map, get_or, Option, Some, None, refl, sym, ap, subst}
use Rattle.std.specs.Prelude.{IfOk, IfSome, Result, Ok, Err, slice_get}
use Rattle.std.proofs.lemmas.List.{length-map}
use Rattle.crew_anchor.specs.declared.resource.AnchoredResource.{AnchoredResource}
use Rattle.crew_carry.specs.Twins.{AreRankTwins, AreTwins, Twins}
use Rattle.crew_net.specs.Machinery.Numbered.{departure_place}
use Rattle.crew_net.specs.Nets.{Net}
use Rattle.crew_net.specs.Positions.{in_order}
use Rattle.crew_net.proofs.Numbers.{get-within, place-departure}
use Rattle.crew_net.proofs.Orders.{in-order-distinct, in-order-of}
use Rattle.crew_net.proofs.Slices.{at-within, member-got}
use Rattle.crew_pairing.specs.Events.{arrival_of, departure_of, may_wait}
use Rattle.crew_pairing.specs.Keys.{walk_at_most}
use Rattle.crew_pairing.specs.Legs.{Leg}
use Rattle.crew_pairing.specs.declared.duty.Duty.{Duty}
use Rattle.crew_pairing.specs.declared.events.Departure.{Departure}
use Rattle.crew_pairing.specs.declared.vector.PairingVector.{PairingVector}
use Rattle.crew_pool.specs.LabelWalks.{shown}
use Rattle.crew_pool.specs.Ranks.{AreRanked, by_key}
use Rattle.crew_pool.specs.declared.label_walk.LabelWalk.{LabelWalk}
use Rattle.crew_resource.specs.Events.{FromFronts, Views}
use Rattle.crew_resource.specs.Labels.{IsLocal}
use Rattle.crew_resource.specs.Members.{Member}
use Rattle.crew_carry.specs.crew_step.Walks.{HasGrown}
use Rattle.crew_sweep.specs.Machinery.Kept.{keyed_pools}
use Rattle.crew_sweep.specs.Machinery.Numbered.{AreLocal}
use Rattle.crew_sweep.specs.Machinery.Passing.{AreLabels, IsPassable, IsPassing, passed_network}
use Rattle.crew_sweep.specs.Machinery.Renewing.{HaveSame, IsEarlierPass, IsKeptPool, IsLaid, IsRenewing}
use Rattle.crew_sweep.specs.Sweeps.{BaseSweep, keyed}
use Rattle.crew_sweep.proofs.Keepings as keepings
use Rattle.crew_sweep.proofs.Renewed as renewed
use Rattle.crew_vector.specs.Dominance.{is_at_most}

abbrev Labels : Type 0
Labels = List (PairingVector × LabelWalk)

abbrev Shown : Type 0
Shown = List (PairingVector × List (List Leg))

-- the labels of a pool by key
pub pool-by-key : (net : Net) (walks : List (List ℕ)) (pools : List Labels) (i : ℕ) → get_or (map (keyed net walks) pools) i [] ≡ keyed net walks (get_or pools i [])
pool-by-key net walks [] i = refl
pool-by-key net walks (p ∷ ps) zero = refl
pool-by-key net walks (p ∷ ps) (suc i) = pool-by-key net walks ps i

pub position-within : (net : Net) (position : ℕ) (g : Departure) → slice_get (in_order net) position ≡ Some g → position < length net.by_report
position-within net position g at = subst (λ n. position < n) (length-map net.by_report _) (get-within (in_order net) position g at)

pub laid-of : (net : Net) (positions : List ℕ) → IsPassable net positions → IsLaid net
laid-of net positions p = record { departs = p.departs; arrives = p.arrives; ordered = p.ordered }

module _ (old : BaseSweep) (net : Net) (t : Twins) (old-positions : List ℕ) (r : AnchoredResource) (earlier : IsEarlierPass old net t old-positions old.base r) (positions : List ℕ) (passable : IsPassable net positions)
    (before after : List (List ℕ)) (grown : HasGrown before after) (pools : List Labels) (changed : List Bool) (alike : List (Option ℕ))
    (place : ℕ) (at-place : slice_get net.by_report (length pools) ≡ Some place) (pool : Labels) (kept : IsKeptPool old net t changed alike after place pool) where
  abbrev i : ℕ
  i = length pools

  abbrev j : ℕ
  j = kept.position

  abbrev g : Departure
  g = kept.stands.event

  laid : IsLaid net
  laid = laid-of net positions passable

  at : slice_get (in_order net) i ≡ Some g
  at = in-order-of net passable.departs passable.ordered i place g at-place kept.stands.at

  within : j < length old.pools
  within = subst (λ n. j < n) (sym earlier.long) (position-within old.net j g kept.stands.old_at)

  labels-are : keyed net after pool ≡ get_or (keyed_pools old) j []
  labels-are = kept.has.labels ∙ sym (pool-by-key old.net old.walks old.pools j)

  local-before : AreLocal (passed_network old.net old.base r) (length old.pools) (keyed_pools old)
  local-before = subst (λ (z : AnchoredResource). AreLocal (passed_network old.net old.base z) (length old.pools) (keyed_pools old)) (sym earlier.resource) earlier.local

  labels : AreLabels r (length net.duties) after pool
  labels = keepings.carried-labels r old.net.duties net.duties old.walks after (get_or old.pools j []) pool kept.has.labels kept.has.ranked
      (subst (λ (z : AnchoredResource). AreLabels z (length old.net.duties) old.walks (get_or old.pools j [])) (sym earlier.resource)
      (earlier.spared (get_or old.pools j []) (member-got old.pools j (get_or old.pools j []) (at-within old.pools j [] within))))

  module _ (made : List Bool) (held : List Labels) (passing : IsPassing net old.base r before pools made held) (renewing : IsRenewing old net before pools changed alike) where
    still : IsRenewing old net after pools changed alike
    still = renewed.renewing-grown old net before after pools changed alike grown passing.whole renewing

    sealed : (e : Duty) → Member net.duties e → may_wait net.settings (arrival_of e) g ≡ true → departure_place (in_order net) (departure_of e) < length pools
    sealed e m waits = keepings.left-before net positions passable old.base r i e m (renewed.may-wait net laid i g at e m ∙ waits)

    local : IsLocal is_at_most walk_at_most (FromFronts (passed_network net old.base r) (Views (passed_network net old.base r) (map (keyed net after) pools)) i) (keyed net after pool)
    local = renewed.kept-local old net earlier.settings earlier.laid laid r after pools earlier.resource i j g at kept.stands.old_at
        (renewed.window-in old net earlier.settings earlier.laid laid r after pools t earlier.twins changed alike still g kept.stands.window kept.stands.old_window kept.stands.is_window kept.stands.is_old_window kept.stands.kept sealed)
        (renewed.window-out old net earlier.settings earlier.laid laid r after pools t earlier.twins changed alike still g kept.stands.window kept.stands.old_window kept.stands.is_window kept.stands.is_old_window kept.stands.kept sealed)
        local-before within (keyed net after pool) labels-are

    pub passing-kept : IsPassing net old.base r after (pools ++ pool ∷ []) made held
    passing-kept = keepings.passing-with net positions passable old.base r before after grown pools made held passing pool local kept.has.counts labels

    own : HaveSame (keyed net after pool) (get_or (keyed_pools old) (departure_place (in_order old.net) g) [])
    own =
        let there : departure_place (in_order old.net) g ≡ j = place-departure (in_order old.net) g j (in-order-distinct old.net earlier.laid.departs earlier.laid.ordered) kept.stands.old_at in
        let same : keyed net after pool ≡ get_or (keyed_pools old) (departure_place (in_order old.net) g) [] = labels-are ∙ ap (λ n. get_or (keyed_pools old) n []) (sym there) in
        λ l. (subst (λ (ls : Shown). Member ls l) same, subst (λ (ls : Shown). Member ls l) (sym same))

    pub renewing-kept : IsRenewing old net after (pools ++ pool ∷ []) changed alike
    renewing-kept = renewed.renewing-more old net laid after pools changed changed alike still refl (λ p h. h) pool g at (λ p h d m is leaves. own)

-- pools that are alike have the same labels
pub alike-is : (old : BaseSweep) (net : Net) (t : Twins) (twins : AreTwins old.net net t) (laid : IsLaid old.net) (walks : List (List ℕ)) (place position : ℕ) → slice_get (in_order old.net) position ≡ slice_get net.departures place → (pool : Labels)
    → ((olds news : List Duty) → AreRankTwins olds news t.ranks → (e : PairingVector × List (List Leg))
    → (Member (by_key olds (map (shown old.walks) (get_or old.pools position []))) e → Member (by_key news (map (shown walks) pool)) e)
    × (Member (by_key news (map (shown walks) pool)) e → Member (by_key olds (map (shown old.walks) (get_or old.pools position []))) e))
    → (g : Departure) → slice_get net.departures place ≡ Some g → HaveSame (keyed net walks pool) (get_or (keyed_pools old) (departure_place (in_order old.net) g) [])
alike-is old net t twins laid walks place position at pool alike g here l =
    let k = alike old.net.duties net.duties twins.ranks l in
    let there : departure_place (in_order old.net) g ≡ position = place-departure (in_order old.net) g position (in-order-distinct old.net laid.departs laid.ordered) (at ∙ here) in
    let same : get_or (keyed_pools old) (departure_place (in_order old.net) g) [] ≡ keyed old.net old.walks (get_or old.pools position []) = ap (λ n. get_or (keyed_pools old) n []) there ∙ pool-by-key old.net old.walks old.pools position in
    (λ m. subst (λ (ls : Shown). Member ls l) (sym same) (k.1 m), λ m. k.0 (subst (λ (ls : Shown). Member ls l) same m))

-- two pools have the same labels by key
abbrev pub AreAlike : List (Option ℕ) → List (List ℕ) → Labels → List (List ℕ) → Labels → Type 0
AreAlike ranks from old to now = (olds news : List Duty) → AreRankTwins olds news ranks → (e : PairingVector × List (List Leg))
    → (Member (by_key olds (map (shown from) old)) e → Member (by_key news (map (shown to) now)) e)
    × (Member (by_key news (map (shown to) now)) e → Member (by_key olds (map (shown from) old)) e)

-- what three clauses give of what is carried, if anything is
pub if-carried : {A E : Type 0} (result : Result (Option A) E) (P Q S T : A → Type 0) → IfOk result (λ o. IfSome o P) → IfOk result (λ o. IfSome o Q) → IfOk result (λ o. IfSome o S)
    → ((a : A) → P a → Q a → S a → T a) → IfOk result (λ o. IfSome o T)
if-carried (Ok None) P Q S T p q s f = tt
if-carried (Ok (Some a)) P Q S T p q s f = f a p q s
if-carried (Err e) P Q S T p q s f = tt

-- what one clause gives of it
pub if-carried-is : {A E : Type 0} (result : Result (Option A) E) (P T : A → Type 0) → IfOk result (λ o. IfSome o P) → ((a : A) → P a → T a) → IfOk result (λ o. IfSome o T)
if-carried-is (Ok None) P T p f = tt
if-carried-is (Ok (Some a)) P T p f = f a p
if-carried-is (Err e) P T p f = tt

-- a pool has the labels by key of another, whose walks stand elsewhere
abbrev pub AreCarried : List (Option ℕ) → List (List ℕ) → Labels → List (List ℕ) → Labels → Type 0
AreCarried ranks from old to now = (olds news : List Duty) → AreRankTwins olds news ranks → by_key news (map (shown to) now) ≡ by_key olds (map (shown from) old)

abbrev pub AreRankedNow : List (Option ℕ) → List (List ℕ) → Labels → Type 0
AreRankedNow ranks to now = (olds news : List Duty) → AreRankTwins olds news ranks → AreRanked (length news) (map (shown to) now)
