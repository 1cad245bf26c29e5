-- The labels that board a duty.
use Rattle.std.proofs.Common.{◌≡◌, ◌∙◌, ◌<◌, ◌^◌, ℕ, zero, suc, ℤ, List, [], ◌∷◌, ◌++◌, Option, Some, None, get_or, length, map, refl, ap, subst, inl, inr}
use Rattle.std.specs.Prelude.{slice_get}
use Rattle.crew_anchor.specs.Anchors.{shown as as-of}
use Rattle.crew_solve.proofs.Listed.{each-push}
use Rattle.crew_solve.specs.Machinery.Homes.{boarding, ended_by, pairing_at, priced, resource_of, walk_by_key}
use Rattle.crew_sweep.specs.Sweeps.{BaseSweep}
use Rattle.std.specs.List.{flat_map}
use Rattle.std.proofs.lemmas.List.{map-append}
use Rattle.crew_anchor.specs.Machinery.AnchorLaws.{anchored_counting, in-room}
use Rattle.crew_anchor.specs.Machinery.Bounds.{AreWithin}
use Rattle.crew_anchor.specs.Stages.{anchored_board}
use Rattle.crew_anchor.specs.declared.resource.AnchoredResource.{AnchoredResource}
use Rattle.crew_pairing.specs.Events.{IsSound}
use Rattle.crew_pairing.specs.Legs.{Leg}
use Rattle.crew_pairing.specs.declared.duty.Duty.{Duty}
use Rattle.crew_pairing.specs.declared.vector.PairingVector.{PairingVector}
use Rattle.crew_pool.specs.Counted.{AreWhole, boarded_labels}
use Rattle.crew_pool.specs.LabelWalks.{shown, walk_of_label}
use Rattle.crew_pool.specs.Ranks.{by_key, key_at}
use Rattle.crew_pool.specs.declared.label_walk.LabelWalk.{LabelWalk}
use Rattle.crew_pool.proofs.BoardLemmas.{boarded_counted, is_rank, shown_boarded}
use Rattle.crew_resource.specs.Events.{labelled}
use Rattle.crew_resource.specs.Members.{Each, Member}
use Rattle.crew_resource.proofs.Members.{Member-flat_map_out, Member-map_in}
use Rattle.crew_sweep.specs.Machinery.Kept.{AreKept}

pub are-whole : (r : AnchoredResource) (count : ℕ) (walks : List (List ℕ)) (pool : List (PairingVector × LabelWalk)) → AreKept r count walks pool → AreWhole pool
are-whole r count walks pool k l m = (k.counts l m).stands

pub can-board : (r : AnchoredResource) (count : ℕ) (walks : List (List ℕ)) (pool : List (PairingVector × LabelWalk)) (d : Duty) → AreKept r count walks pool → IsSound d
    → (l : PairingVector × LabelWalk) → Member pool l → IsSound d × AreWithin (2 ^ 62) l.0
can-board r count walks pool d k s l m = (s, (in-room r l.0 (k.ready l m)).1)

labelled-walk : (o : Option PairingVector) (w : List ℕ) (e : PairingVector × List ℕ) → Member (labelled o w) e → w ≡ e.1
labelled-walk None w e m = absurd m
labelled-walk (Some v) w e (inl q) = ap (λ z. z.1) q
labelled-walk (Some v) w e (inr m) = absurd m

-- a label that boards has its walk, of duties that have ranks
pub boarded-kept : (r : AnchoredResource) (count rank : ℕ) (walks : List (List ℕ)) (pool : List (PairingVector × LabelWalk)) (d : Duty) → AreKept r count walks pool → rank < count → rank < 4294967295
    → (l : PairingVector × LabelWalk) → Member (boarded_labels (λ v. anchored_board r v d) rank pool) l → (l.1.walk < length walks) × Each (λ k. k < count) (walk_of_label walks l.1)
boarded-kept r count rank walks pool d k low least l m =
    let board = λ (v : PairingVector). anchored_board r v d in
    let is = is_rank rank least in
    let counted = boarded_counted (λ (v : PairingVector). v.duties) walks board rank is (λ v z e. (anchored_counting r r.max_duties refl).one_more v z d e) pool k.counts l m in
    let next = λ (e : PairingVector × List ℕ). labelled (board e.0) (e.1 ++ rank ∷ []) in
    let there = subst (λ (es : List (PairingVector × List ℕ)). Member es (shown walks l)) (shown_boarded walks board rank is pool (are-whole r count walks pool k)) (Member-map_in (shown walks) (boarded_labels board rank pool) l m) in
    let from = Member-flat_map_out next (map (shown walks) pool) (shown walks l) there in
    let walk : from.0.1 ++ rank ∷ [] ≡ walk_of_label walks l.1 = labelled-walk (board from.0.0) (from.0.1 ++ rank ∷ []) (shown walks l) from.2 in
    (counted.there, subst (Each (λ k. k < count)) walk (each-push (λ k. k < count) from.0.1 rank (k.ranked from.0 from.1) low))

-- and by key it is what the base's network shows
one-key : (duties : List Duty) (rank : ℕ) (key : List Leg) → key_at duties rank ≡ key → (o : Option PairingVector) (w : List ℕ)
    → by_key duties (labelled o (w ++ rank ∷ [])) ≡ labelled o (map (key_at duties) w ++ key ∷ [])
one-key duties rank key e None w = refl
one-key duties rank key e (Some v) w = ap (λ y. (v, y) ∷ []) (map-append (key_at duties) w (rank ∷ []) ∙ ap (λ y. map (key_at duties) w ++ y ∷ []) e)

all-keys : (duties : List Duty) (rank : ℕ) (key : List Leg) → key_at duties rank ≡ key → (board : PairingVector → Option PairingVector) (es : List (PairingVector × List ℕ))
    → by_key duties (flat_map (λ (e : PairingVector × List ℕ). labelled (board e.0) (e.1 ++ rank ∷ [])) es) ≡ flat_map (λ (e : PairingVector × List (List Leg)). labelled (board e.0) (e.1 ++ key ∷ [])) (by_key duties es)
all-keys duties rank key e board [] = refl
all-keys duties rank key e board (x ∷ es) =
    let f : PairingVector × List ℕ → PairingVector × List (List Leg) = λ z. (z.0, map (key_at duties) z.1) in
    map-append f (labelled (board x.0) (x.1 ++ rank ∷ [])) (flat_map (λ (e : PairingVector × List ℕ). labelled (board e.0) (e.1 ++ rank ∷ [])) es)
    ∙ (λ i. one-key duties rank key e (board x.0) x.1 i ++ all-keys duties rank key e board es i)

pub boarded-by-key : (r : AnchoredResource) (rank : ℕ) (walks : List (List ℕ)) (pool : List (PairingVector × LabelWalk)) (duties : List Duty) (d : Duty) → AreWhole pool → rank < 4294967295 → key_at duties rank ≡ d.key
    → by_key duties (map (shown walks) (boarded_labels (λ v. anchored_board r v d) rank pool))
    ≡ flat_map (λ (e : PairingVector × List (List Leg)). labelled (anchored_board r e.0 d) (e.1 ++ d.key ∷ [])) (by_key duties (map (shown walks) pool))
boarded-by-key r rank walks pool duties d whole least e =
    ap (by_key duties) (shown_boarded walks (λ (v : PairingVector). anchored_board r v d) rank (is_rank rank least) pool whole)
    ∙ all-keys duties rank d.key e (λ (v : PairingVector). anchored_board r v d) (map (shown walks) pool)

pub key-of : (duties : List Duty) (rank : ℕ) (d : Duty) → slice_get duties rank ≡ Some d → key_at duties rank ≡ d.key
key-of [] rank d e = absurd (let q : ⊥ = (cc) in q)
key-of (x ∷ ds) zero d e = let q : x ≡ d = (cc) in ap (λ (z : Duty). z.key) q
key-of (x ∷ ds) (suc rank) d e = key-of ds rank d e

-- a label that boards is among what the network shows, by key
pub boarded-shown : (b : BaseSweep) (index rank : ℕ) (d : Duty) → AreWhole (get_or b.pools index []) → rank < 4294967295 → slice_get b.net.duties rank ≡ Some d
    → (l : PairingVector × LabelWalk) → Member (boarded_labels (λ v. anchored_board (resource_of b) v d) rank (get_or b.pools index [])) l → Member (boarding b index d) (l.0, walk_by_key b l.1)
boarded-shown b index rank d whole least at l m =
    let ls = boarded_labels (λ v. anchored_board (resource_of b) v d) rank (get_or b.pools index []) in
    let f : PairingVector × List ℕ → PairingVector × List (List Leg) = λ e. (e.0, map (key_at b.net.duties) e.1) in
    let k = Member-map_in f (map (shown b.walks) ls) (shown b.walks l) (Member-map_in (shown b.walks) ls l m) in
    subst (λ (es : List (PairingVector × List (List Leg))). Member es (l.0, walk_by_key b l.1)) (boarded-by-key (resource_of b) rank b.walks (get_or b.pools index []) b.net.duties d whole least (key-of b.net.duties rank d at)) k

map-again : (b : BaseSweep) (minute : ℤ) (ls : List (PairingVector × LabelWalk))
    → map (pairing_at b minute) ls ≡ map (λ (e : PairingVector × List (List Leg)). priced b.net.settings.trip_rig b.base (as-of b.net.settings.trip_rig minute e.0) e.1) (by_key b.net.duties (map (shown b.walks) ls))
map-again b minute [] = refl
map-again b minute (l ∷ ls) = ap (λ ps. pairing_at b minute l ∷ ps) (map-again b minute ls)

-- the pairings of the labels that board are those that the duty ends
pub boarded-pairings : (b : BaseSweep) (index rank : ℕ) (d : Duty) → AreWhole (get_or b.pools index []) → rank < 4294967295 → slice_get b.net.duties rank ≡ Some d
    → map (pairing_at b d.release) (boarded_labels (λ v. anchored_board (resource_of b) v d) rank (get_or b.pools index [])) ≡ ended_by b index d
boarded-pairings b index rank d whole least at =
    map-again b d.release (boarded_labels (λ v. anchored_board (resource_of b) v d) rank (get_or b.pools index []))
    ∙ ap (map (λ (e : PairingVector × List (List Leg)). priced b.net.settings.trip_rig b.base (as-of b.net.settings.trip_rig d.release e.0) e.1))
    (boarded-by-key (resource_of b) rank b.walks (get_or b.pools index []) b.net.duties d whole least (key-of b.net.duties rank d at))
