-- Where the duties of a flight stand among earlier ones.
use Rattle.std.proofs.Common.{◌≡◌, ◌≤◌, ◌<◌, ◌+◌, ◌-◌, ℕ, zero, suc, ℤ, List, [], ◌∷◌, ◌++◌, Bool, true, false, Some, None, Option, nat_lt, nat_eq, length, refl, sym, ap, ◌∙◌, arith, filter, take, drop, get_or}
use Rattle.std.specs.Prelude.{IfSome, slice_get}
use Rattle.std.proofs.lemmas.Bool.Decides.{nat_tests}
use Rattle.std.proofs.lemmas.List.{get_or-drop, get_or_default, length-drop, take_more}
use Rattle.crew_flights.specs.declared.flight.Flight.{Flight}
use Rattle.crew_rules.specs.declared.settings.Settings.{Settings}
use Rattle.crew_resource.specs.Members.{Member}
use Rattle.crew_pairing.specs.Flights.{Flights}
use Rattle.crew_pairing.specs.Machinery.Blocks.{part_of}
use Rattle.crew_pairing.specs.Machinery.Listing.{from_flight, from_place}
use Rattle.crew_pairing.specs.declared.duty.Duty.{Duty}
use Rattle.crew_duty.specs.Machinery.Kept.{AreKept, ClimbByFirst, IsKept, IsPast, IsStart, MayBeKept, begins_with, first_of}
use Rattle.crew_duty.specs.declared.past.Block.{Block}
use Rattle.crew_duty.proofs.Parts.{place-gives, there}
use Rattle.crew_pairing.proofs.Windows.{window}

-- lesser numbers before a place, and none from it on
pub lesser-before : (duties : List Duty) (n place : ℕ) (e : Duty) → ClimbByFirst duties → place < length duties → first_of (get_or duties place e).key < n
    → (k : ℕ) (d : Duty) → k ≤ place → first_of (get_or duties k d).key < n
lesser-before duties n place e up within h k d o =
    let there = ap (λ (x : Duty). first_of x.key) (get_or_default duties place d e within) in
    let below = up k place d o within in
    omega (arith, h, there, below)

pub none-lesser : (duties : List Duty) (n place : ℕ) (e : Duty) → ClimbByFirst duties → n ≤ first_of (get_or duties place e).key
    → (k : ℕ) (d : Duty) → place ≤ k → k < length duties → n ≤ first_of (get_or duties k d).key
none-lesser duties n place e up h k d o within =
    let there = ap (λ (x : Duty). first_of x.key) (get_or_default duties place d e (omega (arith, o, within))) in
    let above = up place k d o within in
    omega (arith, h, there, above)

-- what stands at a place
pub got : {X : Type 0} (xs : List X) (i : ℕ) (x d : X) → slice_get xs i ≡ Some x → get_or xs i d ≡ x
got [] i x d e = absurd (let q : ⊥ = (cc) in q)
got (y ∷ xs) zero x d e = cc
got (y ∷ xs) (suc i) x d e = got xs i x d e

-- between two places
length-of : {X : Type 0} (n : ℕ) (xs : List X) → n ≤ length xs → length (take n xs) ≡ n
length-of zero xs h = refl
length-of (suc n) [] h = absurd (omega (arith, h))
length-of (suc n) (x ∷ xs) h = ap suc (length-of n xs (omega (arith, h)))

pub length-part : (duties : List Duty) (from to : ℕ) → from ≤ to → to ≤ length duties → length (part_of duties from to) ≡ to - from
length-part duties from to h k =
    let all = length-drop from duties in
    length-of (to - from) (drop from duties) (omega (arith, all, h, k))

take-none : (n : ℕ) → take {A = Duty} n [] ≡ []
take-none zero = refl
take-none (suc n) = refl

-- up to a later place
pub take-part : (duties : List Duty) (from to : ℕ) → from ≤ to → take to duties ≡ take from duties ++ part_of duties from to
take-part duties zero to h = ap (λ (n : ℕ). take n duties) {x = to} {y = to - 0} (omega arith)
take-part [] (suc from) to h = take-none to ∙ sym (take-none (to - suc from))
take-part (d ∷ duties) (suc from) zero h = absurd (omega (arith, h))
take-part (d ∷ duties) (suc from) (suc to) h =
    let long : to - from ≡ suc to - suc from = omega arith in
    ap (λ (ds : List Duty). d ∷ ds) (take-part duties from to (omega (arith, h)) ∙ ap (λ (n : ℕ). take from duties ++ take n (drop from duties)) long)

-- the starts of two neighbours
pub starts-ordered : (duties : List Duty) (n from to : ℕ) → IsStart duties n from → IsStart duties (n + 1) to → from ≤ to
starts-ordered duties n from to a b = by (nat_lt to from) refl
  where
    some-of : (ds : List Duty) (k : ℕ) → k < length ds → Duty
    some-of [] k h = absurd (omega (arith, h))
    some-of (d ∷ ds) k h = d

    by : (c : Bool) → nat_lt to from ≡ c → from ≤ to
    by true q =
        let less : to < from = grind (arith, nat_tests, q) in
        let under : to < length duties = omega (arith, less, a.within) in
        let e = some-of duties to under in
        let x = a.before to e less in
        let y = b.after to e (omega arith) under in
        absurd (omega (arith, x, y))
    by false q = grind (arith, nat_tests, q)

pub starts-apart : (duties : List Duty) (n from to : ℕ) → from ≤ to → IsStart duties n from → IsStart duties (n + 1) to → take (to - from) (drop from duties) ≡ filter (begins_with n) duties
starts-apart duties n from to h a b =
    let all = length-drop from duties in
    window (begins_with n) duties from (to - from) (omega (arith, all, h, b.within))
    (λ k d o p. not-less (first_of (get_or duties k d).key) (a.before k d o))
    (λ k d o.
    let read = ap (λ (x : Duty). first_of x.key) (get_or-drop from duties k d) in
    let least = a.after (from + k) d (omega arith) (omega (arith, o, h, b.within)) in
    let most = b.before (from + k) d (omega (arith, o, h)) in
    just (first_of (get_or (drop from duties) k d).key) (omega (arith, read, least)) (omega (arith, read, most)))
    (λ k d o p.
    let read = ap (λ (x : Duty). first_of x.key) (get_or-drop from duties k d) in
    let more = b.after (from + k) d (omega (arith, o)) (omega (arith, p, all)) in
    not-more (first_of (get_or (drop from duties) k d).key) (omega (arith, read, more)))
  where
    not-less : (x : ℕ) → x < n → nat_eq x n ≡ false
    not-less x o = grind (arith, nat_tests)

    just : (x : ℕ) → n ≤ x → x < n + 1 → nat_eq x n ≡ true
    just x o p = grind (arith, nat_tests)

    not-more : (x : ℕ) → n + 1 ≤ x → nat_eq x n ≡ false
    not-more x o = grind (arith, nat_tests)

-- what is known of the flights of a list
pub AreKept-push : (s : Settings) (flights : Flights) (duties : List Duty) (fs : List Flight) (blocks : List (Option Block)) (f : Flight) (block : Option Block) → AreKept s flights duties fs blocks → MayBeKept s flights duties f block
    → AreKept s flights duties (fs ++ f ∷ []) (blocks ++ block ∷ [])
AreKept-push s flights duties [] [] f block h e = (e, tt)
AreKept-push s flights duties [] (b ∷ blocks) f block h e = absurd h
AreKept-push s flights duties (g ∷ fs) [] f block h e = absurd h
AreKept-push s flights duties (g ∷ fs) (b ∷ blocks) f block h e = (h.0, AreKept-push s flights duties fs blocks f block h.1 e)

pub AreKept-more : (s : Settings) (flights : Flights) (duties : List Duty) (blocks : List (Option Block)) (block : Option Block) (i : ℕ) (d : Flight) → i < length flights.list
    → AreKept s flights duties (take i flights.list) blocks → MayBeKept s flights duties (get_or flights.list i d) block → AreKept s flights duties (take (i + 1) flights.list) (blocks ++ block ∷ [])
AreKept-more s flights duties blocks block i d h n e =
    rw (take_more flights.list i d h) (AreKept-push s flights duties (take i flights.list) blocks (get_or flights.list i d) block n e)

pub AreKept-length : (s : Settings) (flights : Flights) (duties : List Duty) (fs : List Flight) (blocks : List (Option Block)) → AreKept s flights duties fs blocks → length blocks ≡ length fs
AreKept-length s flights duties [] [] h = refl
AreKept-length s flights duties [] (b ∷ blocks) h = absurd h
AreKept-length s flights duties (f ∷ fs) [] h = absurd h
AreKept-length s flights duties (f ∷ fs) (b ∷ blocks) h = ap suc (AreKept-length s flights duties fs blocks h.1)

AreKept-at : (s : Settings) (flights : Flights) (duties : List Duty) (fs : List Flight) (blocks : List (Option Block)) (i : ℕ) (f : Flight) (block : Block) → AreKept s flights duties fs blocks → slice_get fs i ≡ Some f → slice_get blocks i ≡ Some (Some block)
    → IsKept s flights duties f block
AreKept-at s flights duties [] [] i f block h e k = cc
AreKept-at s flights duties [] (b ∷ blocks) i f block h e k = absurd h
AreKept-at s flights duties (g ∷ fs) [] i f block h e k = absurd h
AreKept-at s flights duties (g ∷ fs) (b ∷ blocks) zero f block h e k =
    let same : g ≡ f = cc in
    let row : b ≡ Some block = cc in
    let here = rw row at h.0 in
    rw (← same) here
AreKept-at s flights duties (g ∷ fs) (b ∷ blocks) (suc i) f block h e k = AreKept-at s flights duties fs blocks i f block h.1 e k

-- a kept block at a place
pub kept-at : (s : Settings) (flights : Flights) (duties : List Duty) (blocks : List (Option Block)) (place : ℕ) (block : Block) → AreKept s flights duties flights.list blocks → place < length flights.list → slice_get blocks place ≡ Some (Some block)
    → (block.from ≤ block.to) × (block.to ≤ length duties) × (part_of duties block.from block.to ≡ from_place s flights place)
kept-at s flights duties blocks place block h within k =
    let f = (there flights.list place within).0 in
    let e = (there flights.list place within).1 in
    let is = AreKept-at s flights duties flights.list blocks place f block h e k in
    (is.ordered, is.within, is.same ∙ sym (place-gives (from_flight s flights) flights.list place f e))

pub may-be-kept : (s : Settings) (flights : Flights) (duties : List Duty) (minutes : List ℤ) (f : Flight) (o : Option Block) → IsPast s flights duties minutes → Member flights.list f
    → IfSome o (λ b. (fs : Flights) → IsPast s fs duties minutes → Member fs.list f → IsKept s fs duties f b) → MayBeKept s flights duties f o
may-be-kept s flights duties minutes f None past m h = tt
may-be-kept s flights duties minutes f (Some b) past m h = h flights past m
