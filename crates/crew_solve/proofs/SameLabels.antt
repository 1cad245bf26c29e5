-- Sweeps that have the same labels at a departure show the same at each duty that leaves there.
use Rattle.std.proofs.Common.{◌≡◌, ◌⊎◌, ◌+◌, zero, suc, slice_index_or, ◌<◌, ◌≤◌, ℕ, ℤ, List, [], ◌∷◌, ◌++◌, get_or, length, map, take, refl, sym, ap, subst, arith, inl, inr}
use Rattle.std.specs.List.{flat_map}
use Rattle.crew_anchor.specs.Anchors.{shown as shown_as_of}
use Rattle.crew_anchor.specs.Stages.{anchored_board, anchored_resource}
use Rattle.crew_pairing.specs.Events.{departure_of}
use Rattle.crew_pairing.specs.Legs.{Leg}
use Rattle.crew_pairing.specs.declared.duty.Duty.{Duty}
use Rattle.crew_pairing.specs.declared.events.Departure.{Departure}
use Rattle.crew_pairing.specs.declared.vector.PairingVector.{PairingVector}
use Rattle.crew_pool.specs.LabelWalks.{shown}
use Rattle.crew_pool.specs.declared.label_walk.LabelWalk.{LabelWalk}
use Rattle.crew_resource.proofs.Members.{Member-flat_map_in, Member-flat_map_out, Member-map_in, Member-map_out}
use Rattle.crew_resource.specs.Events.{labelled}
use Rattle.crew_resource.specs.Members.{Member}
use Rattle.crew_rules.specs.declared.settings.Settings.{Settings}
use Rattle.crew_solve.specs.Machinery.Homes.{resource_of}
use Rattle.crew_solve.specs.Machinery.Keyed.{AreReadable, keyed_label}
use Rattle.crew_solve.specs.Solutions.{ShowSame}
use Rattle.crew_sweep.specs.Machinery.Kept.{AreKept}
use Rattle.crew_net.specs.Machinery.Numbered.{departure_place}
use Rattle.crew_sweep.specs.Sweeps.{BaseSweep, front_at, keyed, pool_at}
use Rattle.crew_net.specs.Positions.{in_order}

abbrev Labels : Type 0
Labels = List (PairingVector × List (List Leg))

-- what a keyed label shows at a duty
abbrev boards_to : Settings → ℤ → Duty → PairingVector × List (List Leg) → Labels
boards_to s price d e = labelled (anchored_board (anchored_resource s price) e.0 d) (e.1 ++ d.key ∷ [])

abbrev shows_from : Settings → ℤ → Duty → Labels → Labels
shows_from s price d labels = map (λ l. (shown_as_of s.trip_rig d.release l.0, l.1)) (flat_map (boards_to s price d) labels)

-- more labels show more
more-shown : (s : Settings) (price : ℤ) (d : Duty) (xs ys : Labels) → ((e : PairingVector × List (List Leg)) → Member xs e → Member ys e)
    → (e : PairingVector × List (List Leg)) → Member (shows_from s price d xs) e → Member (shows_from s price d ys) e
more-shown s price d xs ys h e m =
    let out = Member-map_out (λ l. (shown_as_of s.trip_rig d.release l.0, l.1)) (flat_map (boards_to s price d) xs) e m in
    let from = Member-flat_map_out (boards_to s price d) xs out.0 out.1 in
    let in-ys = Member-flat_map_in (boards_to s price d) ys from.0 out.0 (h from.0 from.1) from.2 in
    subst (λ z. Member (shows_from s price d ys) z) out.2 (Member-map_in (λ l. (shown_as_of s.trip_rig d.release l.0, l.1)) (flat_map (boards_to s price d) ys) out.0 in-ys)

-- labels by key, one by one
keyed-one-by-one : (b : BaseSweep) (labels : List (PairingVector × LabelWalk)) → keyed b.net b.walks labels ≡ map (keyed_label b) labels
keyed-one-by-one b [] = refl
keyed-one-by-one b (l ∷ labels) = ap (λ ls. keyed_label b l ∷ ls) (keyed-one-by-one b labels)

abbrev AtPool : BaseSweep → Duty → Labels
AtPool b d = map (keyed_label b) (pool_at b d)

front-is : (b : BaseSweep) (d : Duty) → front_at b d ≡ shows_from b.net.settings b.price d (AtPool b d)
front-is b d = ap (shows_from b.net.settings b.price d) (keyed-one-by-one b (pool_at b d))

same-pool : (b : BaseSweep) (d e : Duty) → departure_of d ≡ departure_of e → pool_at b e ≡ pool_at b d
same-pool b d e h = ap (λ (g : Departure). get_or b.pools (departure_place (in_order b.net) g) []) (sym h)

-- and so what they show at a duty that leaves there
one-way : (a b : BaseSweep) (duty d : Duty) → a.net.settings ≡ b.net.settings → a.price ≡ b.price → departure_of d ≡ departure_of duty
    → ((e : PairingVector × List (List Leg)) → Member (AtPool a duty) e → Member (AtPool b duty) e)
    → (e : PairingVector × List (List Leg)) → Member (front_at a d) e → Member (front_at b d) e
one-way a b duty d same price leaves h e m =
    let here : (x : PairingVector × List (List Leg)) → Member (AtPool a d) x → Member (AtPool b d) x = λ x k.
    subst (λ ls. Member (map (keyed_label b) ls) x) (same-pool b d duty leaves) (h x (subst (λ ls. Member (map (keyed_label a) ls) x) (sym (same-pool a d duty leaves)) k)) in
    let at-a = subst (λ ls. Member ls e) (front-is a d) m in
    let moved = subst (λ (p : ℤ). Member (shows_from b.net.settings p d (AtPool a d)) e) price
    (subst (λ (s : Settings). Member (shows_from s a.price d (AtPool a d)) e) same at-a) in
    subst (λ ls. Member ls e) (sym (front-is b d)) (more-shown b.net.settings b.price d (AtPool a d) (AtPool b d) here e moved)

-- two sweeps have the same labels where a duty leaves
abbrev pub HaveSameAt : BaseSweep → BaseSweep → Duty → Type 0
HaveSameAt a b duty = (e : PairingVector × List (List Leg))
    → (Member (map (keyed_label a) (pool_at a duty)) e → Member (map (keyed_label b) (pool_at b duty)) e)
    × (Member (map (keyed_label b) (pool_at b duty)) e → Member (map (keyed_label a) (pool_at a duty)) e)

pub show-same : (a b : BaseSweep) (duty d : Duty) → HaveSameAt a b duty
    → a.net.settings ≡ b.net.settings → a.price ≡ b.price → departure_of d ≡ departure_of duty → ShowSame a b d
show-same a b duty d h same price leaves = λ e. (
  one-way a b duty d same price leaves (λ x. (h x).0) e,
  one-way b a duty d (sym same) (sym price) leaves (λ x. (h x).1) e,
)

-- the labels of a pool are readable
pub pool-readable : (b : BaseSweep) (labels : List (PairingVector × LabelWalk)) → AreKept (resource_of b) (length b.net.duties) b.walks labels → AreReadable b labels
pool-readable b labels kept = λ l m. ((kept.counts l m).there, kept.ranked (shown b.walks l) (Member-map_in (shown b.walks) labels l m))

-- ---- going over labels by place

pub index-member : {X : Type 0} (xs : List X) (k : ℕ) (d : X) → k < length xs → Member xs (slice_index_or xs k d)
index-member [] k d h = absurd (omega arith)
index-member (x ∷ xs) zero d h = inl refl
index-member (x ∷ xs) (suc k) d h = inr (index-member xs k d (omega arith))

member-take : {X : Type 0} (xs : List X) (k : ℕ) (d x : X) → k < length xs → Member (take (suc k) xs) x → Member (take k xs) x ⊎ (slice_index_or xs k d ≡ x)
member-take [] k d x h m = absurd (omega arith)
member-take (y ∷ ys) zero d x h (inl e) = inr e
member-take (y ∷ ys) zero d x h (inr m) = absurd m
member-take (y ∷ ys) (suc k) d x h (inl e) = inl (inl e)
member-take (y ∷ ys) (suc k) d x h (inr m) = elim (member-take ys k d x (omega arith) m) [
  | inl k ↦ inl (inr k)
  | inr e ↦ inr e
]

pub one-more : {X : Type 0} (xs : List X) (k : ℕ) (d x : X) → k < length xs → Member (take (k + 1) xs) x → Member (take k xs) x ⊎ (slice_index_or xs k d ≡ x)
one-more xs k d x h m = member-take xs k d x h (subst (λ (n : ℕ). Member (take n xs) x) (let e : k + 1 ≡ suc k = omega arith in e) m)

pub take-whole : {X : Type 0} (xs : List X) (n : ℕ) → length xs ≤ n → take n xs ≡ xs
take-whole [] zero h = refl
take-whole [] (suc n) h = refl
take-whole (x ∷ xs) zero h = absurd (omega arith)
take-whole (x ∷ xs) (suc n) h = ap (λ ys. x ∷ ys) (take-whole xs n (omega arith))
