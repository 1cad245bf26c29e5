-- The labels that board a duty, listed and shown as entries.
use Rattle.std.proofs.Common.{◌≡◌, ◌∙◌, ◌<◌, ℕ, ℤ, List, [], ◌∷◌, Some, get_or, length, map, refl, sym, ap, subst, arith, inl, inr}
use Rattle.std.specs.Prelude.{slice_get}
use Rattle.std.specs.List.Sorted.{IsPermutation}
use Rattle.std.proofs.lemmas.Bool.{false≢true}
use Rattle.std.specs.declared.cmp.Ordering.TheVariants.{Equal}
use Rattle.crew_anchor.specs.Machinery.Bounds.{fits_in, is_ready}
use Rattle.crew_anchor.specs.Stages.{anchored_board}
use Rattle.crew_anchor.specs.Sweeps.{shown_labels}
use Rattle.crew_anchor.specs.declared.resource.AnchoredResource.{AnchoredResource}
use Rattle.crew_pairing.specs.Events.{departure_of}
use Rattle.crew_pairing.specs.Legs.{Leg}
use Rattle.crew_pairing.specs.declared.duty.Duty.{Duty}
use Rattle.crew_pairing.specs.declared.vector.PairingVector.{PairingVector}
use Rattle.crew_pool.specs.Counted.{boarded_labels}
use Rattle.crew_pool.specs.LabelWalks.{shown, walk_of_label}
use Rattle.crew_pool.specs.Machinery.Meets.{vectors_of}
use Rattle.crew_pool.specs.Ranks.{by_key}
use Rattle.crew_pool.specs.declared.label_walk.LabelWalk.{LabelWalk}
use Rattle.crew_pool.specs.Apart.{ApartFromAll, AreApart}
use Rattle.crew_resource.specs.Machinery.Sum.{LiesWithin}
use Rattle.crew_resource.specs.Machinery.Uses.{HasRoom}
use Rattle.crew_resource.specs.Members.{Each, Member}
use Rattle.crew_solve.specs.Machinery.Homes.{IsFit, boarding, resource_of}
use Rattle.crew_solve.specs.Machinery.Solved.{AreShownAt}
use Rattle.crew_solve.proofs.Boarded.{are-whole, boarded-by-key, boarded-kept, boarded-shown, key-of}
use Rattle.crew_solve.proofs.Lent.{AreFresh, by_vector-permutes, by_vector-rises}
use Rattle.crew_solve.proofs.Shown.{shown-listed}
use Rattle.crew_solve.specs.Machinery.Lent.{AreLent, by_vector, entry_of}
use Rattle.crew_net.proofs.Numbers.{get-member, get-within}
use Rattle.crew_sweep.specs.Machinery.Kept.{AreKept}
use Rattle.crew_sweep.specs.Sweeps.{BaseSweep}
use Rattle.crew_net.specs.Positions.{in_order}
use Rattle.crew_vector.specs.Dominance.{is_at_most}
use Rattle.crew_vector.specs.Fronts.{RiseByVector, vector_cmp}
use Rattle.crew_vector.specs.Machinery.Named.{named_order}

-- the labels of a departure's pool that board the duty of a rank
abbrev pub boarders : BaseSweep → ℕ → ℕ → Duty → List (PairingVector × LabelWalk)
boarders b index rank d = boarded_labels (λ v. anchored_board (resource_of b) v d) rank (get_or b.pools index [])

pub boarders-are : (b : BaseSweep) (index rank : ℕ) (d : Duty) (r : AnchoredResource) (pool view : List (PairingVector × LabelWalk)) → view ≡ boarded_labels (λ v. anchored_board r v d) rank pool → r ≡ resource_of b → pool ≡ get_or b.pools index []
    → view ≡ boarders b index rank d
boarders-are b index rank d r pool view e f g = e ∙ (ap (λ (x : AnchoredResource). boarded_labels (λ v. anchored_board x v d) rank pool) f ∙ ap (boarded_labels (λ v. anchored_board (resource_of b) v d) rank) g)

has-rank : (b : BaseSweep) (rank : ℕ) (d : Duty) → IsFit b → slice_get b.net.duties rank ≡ Some d → rank < 4294967295
has-rank b rank d fit at = let low = get-within b.net.duties rank d at in omega (arith, low, fit.few)

-- a label that boards has its walk, of duties that have ranks
pub boarder-kept : (b : BaseSweep) (index rank : ℕ) (d : Duty) → IsFit b → slice_get b.net.duties rank ≡ Some d → AreKept (resource_of b) (length b.net.duties) b.walks (get_or b.pools index [])
    → (l : PairingVector × LabelWalk) → Member (boarders b index rank d) l → (l.1.walk < length b.walks) × Each (λ k. k < length b.net.duties) (walk_of_label b.walks l.1)
boarder-kept b index rank d fit at kept =
    boarded-kept (resource_of b) (length b.net.duties) rank b.walks (get_or b.pools index []) d kept (get-within b.net.duties rank d at) (has-rank b rank d fit at)

-- and its vector can be shown
pub boarder-room : (b : BaseSweep) (index rank : ℕ) (d : Duty) → IsFit b → slice_get b.net.duties rank ≡ Some d → AreKept (resource_of b) (length b.net.duties) b.walks (get_or b.pools index [])
    → slice_get (in_order b.net) index ≡ Some (departure_of d) → LiesWithin 2_147_483_648 d.release
    → (l : PairingVector × LabelWalk) → Member (boarders b index rank d) l → HasRoom (fits_in (resource_of b)) (is_ready (resource_of b)) l.0
boarder-room b index rank d fit at kept own within l m =
    let whole = are-whole (resource_of b) (length b.net.duties) b.walks (get_or b.pools index []) kept in
    (fit.shows index d (get-member b.net.duties rank d at) own within l.0 _ (boarded-shown b index rank d whole (has-rank b rank d fit at) at l m)).room

each-entry : (b : BaseSweep) (minute : ℤ) (ls : List (PairingVector × LabelWalk)) → map (entry_of b minute) ls ≡ shown_labels b.net.settings.trip_rig minute (by_key b.net.duties (map (shown b.walks) ls))
each-entry b minute [] = refl
each-entry b minute (l ∷ ls) = ap (λ es. entry_of b minute l ∷ es) (each-entry b minute ls)

-- the entries of the labels that board are what the departure's pool shows of the duty
boarders-shown : (b : BaseSweep) (index rank : ℕ) (d : Duty) → IsFit b → slice_get b.net.duties rank ≡ Some d → AreKept (resource_of b) (length b.net.duties) b.walks (get_or b.pools index [])
    → map (entry_of b d.release) (boarders b index rank d) ≡ shown_labels b.net.settings.trip_rig d.release (boarding b index d)
boarders-shown b index rank d fit at kept =
    let pool = get_or b.pools index [] in
    let whole = are-whole (resource_of b) (length b.net.duties) b.walks pool kept in
    each-entry b d.release (boarders b index rank d)
    ∙ ap (shown_labels b.net.settings.trip_rig d.release) (boarded-by-key (resource_of b) rank b.walks pool b.net.duties d whole (has-rank b rank d fit at) (key-of b.net.duties rank d at))

-- labels that are apart, shown as of a minute, rise in order of vector
fresh-from : (b : BaseSweep) (minute : ℤ) (l : PairingVector × LabelWalk) (ls : List (PairingVector × LabelWalk)) → ApartFromAll is_at_most l.0 (vectors_of ls)
    → (e : PairingVector × List (List Leg)) → Member (map (entry_of b minute) ls) e → vector_cmp (entry_of b minute l).0 e.0 ≡ Equal → ⊥
fresh-from b minute l [] h e m q = absurd m
fresh-from b minute l (x ∷ ls) h e (inl i) q =
    let same = sym (shown-listed b.net.settings.trip_rig minute l.0 x.0) ∙ (ap (λ (z : PairingVector × List (List Leg)). vector_cmp (entry_of b minute l).0 z.0) i ∙ q) in
    false≢true (sym h.0.0 ∙ (ap (is_at_most l.0) (sym (named_order.exact l.0 x.0 same)) ∙ named_order.reflexive l.0))
fresh-from b minute l (x ∷ ls) h e (inr m) q = fresh-from b minute l ls h.1 e m q

all-fresh : (b : BaseSweep) (minute : ℤ) (ls : List (PairingVector × LabelWalk)) → AreApart is_at_most (vectors_of ls) → AreFresh (map (entry_of b minute) ls)
all-fresh b minute [] h = tt
all-fresh b minute (l ∷ ls) h = (fresh-from b minute l ls h.0, all-fresh b minute ls h.1)

pub entries-rise : (b : BaseSweep) (minute : ℤ) (ls : List (PairingVector × LabelWalk)) → AreApart is_at_most (vectors_of ls) → RiseByVector (by_vector (map (entry_of b minute) ls))
entries-rise b minute ls h = by_vector-rises (map (entry_of b minute) ls) (all-fresh b minute ls h)

-- and the entries in order of vector are what the departure's pool shows of the duty
pub lent-shown : (b : BaseSweep) (index rank : ℕ) (d : Duty) → IsFit b → slice_get b.net.duties rank ≡ Some d → AreKept (resource_of b) (length b.net.duties) b.walks (get_or b.pools index [])
    → (view : List (PairingVector × LabelWalk)) → view ≡ boarders b index rank d → AreApart is_at_most (vectors_of view) → AreShownAt b index d (by_vector (map (entry_of b d.release) view))
lent-shown b index rank d fit at kept view is apart =
    let entries = map (entry_of b d.release) view in
    let all : entries ≡ shown_labels b.net.settings.trip_rig d.release (boarding b index d) = ap (λ (l : List (PairingVector × LabelWalk)). map (entry_of b d.release) l) is ∙ boarders-shown b index rank d fit at kept in
    record {
      same = subst (λ (es : List (PairingVector × List (List Leg))). IsPermutation es (by_vector entries)) all (by_vector-permutes entries);
      rises = entries-rise b d.release view apart;
    }

-- and they can be lent
pub are-lent : (b : BaseSweep) (index rank : ℕ) (d : Duty) → IsFit b → slice_get b.net.duties rank ≡ Some d → AreKept (resource_of b) (length b.net.duties) b.walks (get_or b.pools index [])
    → slice_get (in_order b.net) index ≡ Some (departure_of d) → (view : List (PairingVector × LabelWalk)) → view ≡ boarders b index rank d → AreApart is_at_most (vectors_of view) → AreLent b d view
are-lent b index rank d fit at kept own view is apart =
    record {
      room = λ within l m. boarder-room b index rank d fit at kept own within l (subst (λ (ls : List (PairingVector × LabelWalk)). Member ls l) is m);
      walks = λ l m. boarder-kept b index rank d fit at kept l (subst (λ (ls : List (PairingVector × LabelWalk)). Member ls l) is m);
      apart = apart;
    }

-- what is left once the first has been lent
pub lent-rest : (b : BaseSweep) (d : Duty) (all : List (PairingVector × LabelWalk)) (l : PairingVector × LabelWalk) (rest : List (PairingVector × LabelWalk)) → all ≡ l ∷ rest → AreLent b d all → AreLent b d rest
lent-rest b d all l rest is h =
    let g : AreLent b d (l ∷ rest) = subst (AreLent b d) is h in
    record { room = λ within x m. g.room within x (inr m); walks = λ x m. g.walks x (inr m); apart = g.apart.1 }
