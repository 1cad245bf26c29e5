-- Duties that arrive at an event, by rank.
use Rattle.std.proofs.Common.{◌≡◌, ◌+◌, ◌∷◌, [], ℕ, zero, suc, Bool, true, false, cond, List, Option, Some, map, refl, sym, ap, ◌∙◌, subst, arith}
use Rattle.std.specs.Prelude.{slice_get}
use Rattle.std.specs.List.{filter}
use Rattle.std.specs.Cmp.{IsTotalOrder, on_total, signed_Decides}
use Rattle.std.specs.declared.cmp.Ordering.{Ordering}
use Rattle.std.specs.declared.cmp.Ordering.TheVariants.{Less}
use Rattle.std.proofs.lemmas.Bool.{and_from}
use Rattle.crew_carry.specs.Machinery.Matches.{DoRise}
use Rattle.crew_carry.proofs.Pushed.{some-none, some-once}
use Rattle.crew_pairing.specs.Duties.{RiseByKey}
use Rattle.crew_pairing.specs.Keys.{key_cmp, key_total}
use Rattle.crew_pairing.proofs.Tree.{Each-member}
use Rattle.crew_resource.proofs.Rising.{Rising, same-rising}
use Rattle.crew_net.specs.Events.{arrives_at}
use Rattle.crew_net.specs.Nets.{Net}
use Rattle.crew_net.specs.Ranks.{places_from, ranks_where}
use Rattle.crew_net.proofs.ArrivalPlaces.{own-arrival, ranks-in}
use Rattle.crew_net.proofs.Geometry.{equal-code}
use Rattle.crew_net.proofs.Longest.{stands}
use Rattle.crew_pairing.specs.Events.{arrival_of}
use Rattle.crew_pairing.specs.declared.duty.Duty.{Duty}
use Rattle.crew_pairing.specs.declared.events.Arrival.{Arrival}
use Rattle.crew_resource.specs.Members.{Each, Member}
use Rattle.crew_resource.proofs.Members.{Member-at, Member-filter_in, Member-filter_out, Member-map_in, Member-map_out}
use Rattle.crew_carry.specs.Twins.{HaveSameArriving}

-- a duty arrives at its own arrival
arrives : (x : Arrival) (d : Duty) → arrival_of d ≡ x → arrives_at x d ≡ true
arrives x d e =
    subst (λ (y : Arrival). arrives_at y d ≡ true) e
    (and_from _ _ (equal-code d.to d.to refl) ((signed_Decides d.release d.release).1 refl))

one-way : (olds news : List Duty) (x : Arrival) (d : Duty) → map (slice_get olds) (ranks_where (arrives_at x) olds) ≡ map (slice_get news) (ranks_where (arrives_at x) news) → arrival_of d ≡ x → Member olds d → Member news d
one-way olds news x d e at m =
    let s = stands olds d m in
    let r = ranks-in (arrives_at x) olds s.0 d s.1 (arrives x d at) in
    let here = Member-map_in (slice_get olds) (ranks_where (arrives_at x) olds) s.0 r in
    let there = Member-map_out (slice_get news) (ranks_where (arrives_at x) news) (slice_get olds s.0) (subst (λ zs. Member zs (slice_get olds s.0)) e here) in
    Member-at news there.0 d (there.2 ∙ s.1)

-- where the duties are the same, one by one, the same arrive
pub same-arriving : (old new : Net) (x : Arrival) → map (slice_get old.duties) (ranks_where (arrives_at x) old.duties) ≡ map (slice_get new.duties) (ranks_where (arrives_at x) new.duties)
    → HaveSameArriving old new x
same-arriving old new x e d at = (one-way old.duties new.duties x d e at, one-way new.duties old.duties x d (sym e) at)

-- the duties of the ranks of those that pass a test are those that pass it
listed : (p : Duty → Bool) (all : List Duty) (i : ℕ) (ds : List Duty) → ((k : ℕ) (d : Duty) → slice_get ds k ≡ Some d → slice_get all (i + k) ≡ Some d)
    → map (slice_get all) (places_from i p ds) ≡ map (λ d. Some d) (filter p ds)
listed p all i [] h = refl
listed p all i (d ∷ ds) h =
    let some : Duty → Option Duty = λ e. Some e in
    let head : slice_get all i ≡ Some d = subst (λ (n : ℕ). slice_get all n ≡ Some d) (omega arith) (h 0 d refl) in
    let rest = listed p all (suc i) ds (λ k e at. subst (λ (n : ℕ). slice_get all n ≡ Some e) (omega arith) (h (suc k) e at)) in
    elim (p d) as (λ b. map (slice_get all) (cond b (i ∷ places_from (suc i) p ds) (places_from (suc i) p ds)) ≡ map some (cond b (d ∷ filter p ds) (filter p ds))) [
      | true ↦ (λ j. head j ∷ rest j)
      | false ↦ rest
    ]

passing : (p : Duty → Bool) (ds : List Duty) → map (slice_get ds) (ranks_where p ds) ≡ map (λ d. Some d) (filter p ds)
passing p ds = listed p ds 0 ds (λ k d e. subst (λ (n : ℕ). slice_get ds n ≡ Some d) (omega arith) e)

abbrev pub by_its_key : Duty → Duty → Ordering
by_its_key a b = key_cmp a.key b.key

pub by_its_key_total : IsTotalOrder by_its_key
by_its_key_total = on_total (λ d. d.key) key_total

each-filter : (P : Duty → Type 0) (p : Duty → Bool) (ds : List Duty) → Each P ds → Each P (filter p ds)
each-filter P p [] h = tt
each-filter P p (d ∷ ds) h =
    let rest = each-filter P p ds h.1 in
    elim (p d) as (λ b. Each P (cond b (d ∷ filter p ds) (filter p ds))) [ true ↦ (h.0, rest) | false ↦ rest ]

rising-filter : (p : Duty → Bool) (ds : List Duty) → RiseByKey ds → Rising by_its_key (filter p ds)
rising-filter p [] h = tt
rising-filter p (d ∷ ds) h =
    let rest = rising-filter p ds h.1 in
    elim (p d) as (λ b. Rising by_its_key (cond b (d ∷ filter p ds) (filter p ds))) [ true ↦ (each-filter (λ e. key_cmp d.key e.key ≡ Less) p ds h.0, rest) | false ↦ rest ]

kept-over : (olds news : List Duty) (x : Arrival) → ((d : Duty) → arrival_of d ≡ x → Member olds d → Member news d) → (d : Duty) → Member (filter (arrives_at x) olds) d → Member (filter (arrives_at x) news) d
kept-over olds news x same d m =
    let k = Member-filter_out (arrives_at x) olds d m in
    Member-filter_in (arrives_at x) news d (same d (sym (own-arrival x d k.1)) k.0) k.1

-- where the same arrive, and duties rise by key, they are the same one by one
pub arriving-same : (old new : Net) (x : Arrival) → RiseByKey old.duties → RiseByKey new.duties → HaveSameArriving old new x
    → map (slice_get old.duties) (ranks_where (arrives_at x) old.duties) ≡ map (slice_get new.duties) (ranks_where (arrives_at x) new.duties)
arriving-same old new x ro rn same =
    let p = arrives_at x in
    let one =
    same-rising by_its_key by_its_key_total (filter p old.duties) (filter p new.duties) (rising-filter p old.duties ro) (rising-filter p new.duties rn)
    (kept-over old.duties new.duties x (λ d at. (same d at).0)) (kept-over new.duties old.duties x (λ d at. (same d at).1)) in
    passing p old.duties ∙ (ap (map (λ d. Some d)) one ∙ sym (passing p new.duties))

-- duties that rise by key do so by place
pub rises : (ds : List Duty) → RiseByKey ds → DoRise by_its_key ds
rises [] h i j a b l p q = absurd (some-none i a p)
rises (d ∷ ds) h zero zero a b l p q = absurd (omega (arith, l))
rises (d ∷ ds) h zero (suc j) a b l p q = subst (λ (z : Duty). key_cmp z.key b.key ≡ Less) (some-once d a p) (Each-member (λ e. key_cmp d.key e.key ≡ Less) ds b h.0 (Member-at ds j b q))
rises (d ∷ ds) h (suc i) zero a b l p q = absurd (omega (arith, l))
rises (d ∷ ds) h (suc i) (suc j) a b l p q = rises ds h.1 i j a b (omega (arith, l)) p q
