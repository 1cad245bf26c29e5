-- The tree of partials stands in order of walk.
use Rattle.std.proofs.Common.{◌≡◌, ℕ, zero, suc, ℤ, Bool, true, false, List, [], ◌∷◌, ◌++◌, refl, sym, ap, ◌∙◌, map, append-nil, inl, inr, if◌then◌else◌}
use Rattle.std.specs.List.{flat_map}
use Rattle.std.specs.declared.cmp.Ordering.TheVariants.{Less}
use Rattle.std.specs.Ordering.{ordering_then}
use Rattle.std.proofs.lemmas.Cmp.{tied_itself}
use Rattle.std.proofs.lemmas.List.{map-append}
use Rattle.crew_flights.specs.Codes.{code_cmp_total}
use Rattle.crew_rules.specs.declared.settings.Settings.{Settings}
use Rattle.crew_pairing.specs.Duties.{RiseByKey}
use Rattle.crew_pairing.specs.Flights.{Flights}
use Rattle.crew_pairing.specs.Keys.{key_cmp, key_total, walk_cmp}
use Rattle.crew_pairing.specs.Machinery.Listing.{all_duties}
use Rattle.crew_resource.specs.Members.{Each, Member}
use Rattle.crew_pairing.specs.Machinery.Beginnings.{Rises}
use Rattle.crew_pairing.specs.declared.duty.Duty.{Duty}
use Rattle.crew_pairing.specs.Legs.{Leg}
use Rattle.crew_pairing.proofs.InList.{Each-join, flat_map-Member}
use Rattle.crew_pairing.proofs.InOrder.{all-rise}
use Rattle.crew_pairing.proofs.Tree.{Each-member}
use Rattle.crew_audit.specs.Machinery.Listing.{after, goes_on, listed, with_next}
use Rattle.crew_audit.specs.Partials.{Rise, partial_cmp}
use Rattle.crew_audit.specs.declared.partial.Partial.{Partial}
use Rattle.crew_audit.proofs.Sound.{after-form, next-form}
use Rattle.crew_audit.proofs.Steps.{after-none, after-open}

pub each-of : {X : Type 0} (P : X → Type 0) (xs : List X) → ((x : X) → Member xs x → P x) → Each P xs
each-of P [] h = tt
each-of P (x ∷ xs) h = (h x (inl refl), each-of P xs (λ y m. h y (inr m)))

-- two lists in order, each of the first before each of the second
pub rise-join : (ps qs : List Partial) → Rise ps → Rise qs → ((p q : Partial) → Member ps p → Member qs q → partial_cmp p q ≡ Less) → Rise (ps ++ qs)
rise-join [] qs r t h = t
rise-join (p ∷ ps) qs r t h =
    (Each-join (λ (q : Partial). partial_cmp p q ≡ Less) ps qs r.0 (each-of (λ (q : Partial). partial_cmp p q ≡ Less) qs (λ q m. h p q (inl refl) m)), rise-join ps qs r.1 t (λ x y m k. h x y (inr m) k))

-- walks with one beginning compare by what follows
common : (keys a b : List (List Leg)) → walk_cmp (keys ++ a) (keys ++ b) ≡ walk_cmp a b
common [] a b = refl
common (k ∷ keys) a b = ap (λ r. ordering_then r (walk_cmp (keys ++ a) (keys ++ b))) (tied_itself key_total k) ∙ common keys a b

-- within a base the walk decides
same-base : (s : Settings) (base : List ℕ) (price : ℤ) (xs ys : List Duty) → walk_cmp (map (λ d. d.key) xs) (map (λ d. d.key) ys) ≡ Less → partial_cmp (listed s base price xs) (listed s base price ys) ≡ Less
same-base s base price xs ys e = ap (λ r. ordering_then r (walk_cmp (map (λ d. d.key) xs) (map (λ d. d.key) ys))) (tied_itself code_cmp_total base) ∙ e

-- a list of duties stands before those that go on from it
shorter-first : (before : List Duty) (d : Duty) (more : List Duty) → walk_cmp (map (λ d. d.key) before) (map (λ d. d.key) (before ++ d ∷ more)) ≡ Less
shorter-first before d more =
    let keys = map (λ (x : Duty). x.key) before in
    let longer : map (λ (x : Duty). x.key) (before ++ d ∷ more) ≡ keys ++ d.key ∷ map (λ (x : Duty). x.key) more = map-append (λ (x : Duty). x.key) before (d ∷ more) in
    ap (walk_cmp keys) longer ∙ ap (λ (ks : List (List Leg)). walk_cmp ks (keys ++ d.key ∷ map (λ (x : Duty). x.key) more)) (sym (append-nil keys)) ∙ common keys [] (d.key ∷ map (λ (x : Duty). x.key) more)

-- and those that go on with a duty before those that go on with a later one
by-key : (before : List Duty) (d e : Duty) (xs ys : List Duty) → key_cmp d.key e.key ≡ Less → walk_cmp (map (λ d. d.key) (before ++ d ∷ xs)) (map (λ d. d.key) (before ++ e ∷ ys)) ≡ Less
by-key before d e xs ys less =
    let keys = map (λ (x : Duty). x.key) before in
    let a : map (λ (x : Duty). x.key) (before ++ d ∷ xs) ≡ keys ++ d.key ∷ map (λ (x : Duty). x.key) xs = map-append (λ (x : Duty). x.key) before (d ∷ xs) in
    let b : map (λ (x : Duty). x.key) (before ++ e ∷ ys) ≡ keys ++ e.key ∷ map (λ (x : Duty). x.key) ys = map-append (λ (x : Duty). x.key) before (e ∷ ys) in
    ap (λ (ks : List (List Leg)). walk_cmp ks (map (λ (x : Duty). x.key) (before ++ e ∷ ys))) a ∙ ap (walk_cmp (keys ++ d.key ∷ map (λ (x : Duty). x.key) xs)) b
    ∙ common keys (d.key ∷ map (λ (x : Duty). x.key) xs) (e.key ∷ map (λ (x : Duty). x.key) ys)
    ∙ ap (λ r. ordering_then r (walk_cmp (map (λ (x : Duty). x.key) xs) (map (λ (x : Duty). x.key) ys))) less

next-rises-by : (s : Settings) (flights : Flights) (base : List ℕ) (price : ℤ) (before : List Duty) (d : Duty) (room : ℕ) (b : Bool) → Rise (after room s flights base price (before ++ d ∷ []))
    → Rise (if b then listed s base price (before ++ d ∷ []) ∷ after room s flights base price (before ++ d ∷ []) else [])
next-rises-by s flights base price before d room true r =
    (each-of (λ (q : Partial). partial_cmp (listed s base price (before ++ d ∷ [])) q ≡ Less) (after room s flights base price (before ++ d ∷ [])) (λ q m. later q m), r)
  where
    later : (q : Partial) → Member (after room s flights base price (before ++ d ∷ [])) q → partial_cmp (listed s base price (before ++ d ∷ [])) q ≡ Less
    later q m =
        let on = after-form room s flights base price (before ++ d ∷ []) q m in
        ap (partial_cmp (listed s base price (before ++ d ∷ []))) on.given
        ∙ same-base s base price (before ++ d ∷ []) ((before ++ d ∷ []) ++ on.next ∷ on.more) (shorter-first (before ++ d ∷ []) on.next on.more)
next-rises-by s flights base price before d room false r = tt

all-rise-by : (room : ℕ) (s : Settings) (flights : Flights) (base : List ℕ) (price : ℤ) (before : List Duty) (ds : List Duty) → ((d : Duty) → Member ds d → Member (all_duties s flights) d) → RiseByKey ds
    → ((d : Duty) → Rise (with_next room s flights base price before d)) → Rise (flat_map (with_next room s flights base price before) ds)
all-rise-by room s flights base price before [] among r each = tt
all-rise-by room s flights base price before (d ∷ ds) among r each =
    rise-join (with_next room s flights base price before d) (flat_map (with_next room s flights base price before) ds) (each d)
    (all-rise-by room s flights base price before ds (λ e m. among e (inr m)) r.1 each) (λ p q m k. earlier p q m (flat_map-Member (with_next room s flights base price before) ds q k))
  where
    earlier : (p q : Partial) → Member (with_next room s flights base price before d) p → (e : Duty) × Member ds e × Member (with_next room s flights base price before e) q → partial_cmp p q ≡ Less
    earlier p q m found =
        let e = found.0 in
        let x = next-form room s flights base price before d p (among d (inl refl)) m in
        let y = next-form room s flights base price before e q (among e (inr found.1)) found.2 in
        let less : key_cmp d.key e.key ≡ Less = Each-member (λ (z : Duty). key_cmp d.key z.key ≡ Less) ds e r.0 found.1 in
        ap (λ (z : Partial). partial_cmp z q) x.given ∙ ap (partial_cmp (listed s base price (before ++ d ∷ x.more))) y.given
        ∙ same-base s base price (before ++ d ∷ x.more) (before ++ e ∷ y.more) (by-key before d e x.more y.more less)

pub after-rises : (room : ℕ) (s : Settings) (flights : Flights) (base : List ℕ) (price : ℤ) (before : List Duty) → Rises flights.list → Rise (after room s flights base price before)
after-rises zero s flights base price before h = rw (after-none s flights base price before) tt
after-rises (suc room) s flights base price before h =
    let each : (d : Duty) → Rise (with_next room s flights base price before d) =
    λ d. next-rises-by s flights base price before d room (goes_on base s before d) (after-rises room s flights base price (before ++ d ∷ []) h) in
    rw (after-open room s flights base price before) (all-rise-by room s flights base price before (all_duties s flights) (λ d m. m) (all-rise s flights h) each)
