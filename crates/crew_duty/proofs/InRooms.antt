-- Rooms for the duties of all flights, and what stands in them once they are filled.
use Rattle.std.proofs.Common.{◌≡◌, ◌≤◌, ◌<◌, ◌+◌, ◌++◌, ◌∙◌, ℕ, List, [], ◌∷◌, All, ap, ap₂, append-nil, refl, subst, sym, arith, drop, get_or, length, map, sum, take}
use Rattle.std.proofs.Math.ListN.{set}
use Rattle.std.specs.List.{flat_map, range_with_len}
use Rattle.std.proofs.lemmas.List.{drop-drop, drop-set-lt, drop_at, get_or-drop, length-drop, map-append, take_at, take_more, take_more_set}
use Rattle.std.proofs.lemmas.Grind.{flat_map-append}
use Rattle.std.proofs.lemmas.List.Elements.{All-cons, All-drop, All-take}
use Rattle.std.proofs.lemmas.List.Folds.{flat_map-map}
use Rattle.std.proofs.lemmas.Simd.{map-map}
use Rattle.crew_rules.specs.declared.settings.Settings.{Settings}
use Rattle.crew_pairing.specs.Flights.{Flights}
use Rattle.crew_pairing.specs.Machinery.Listing.{from_place}
use Rattle.crew_pairing.specs.declared.duty.Duty.{Duty}
use Rattle.crew_duty.specs.Machinery.Counts.{AreExact}
use Rattle.crew_duty.specs.Machinery.Rooms.{IsRoom}
use Rattle.crew_duty.specs.declared.rooms.Room.{Room}
use Rattle.crew_duty.proofs.Counts.{sum-cons}

-- rooms for the duties of flights from a place on
pub are-rooms : (s : Settings) (flights : Flights) (from : ℕ) (counts : List ℕ) (rooms : List Room) → map (λ (r : Room). r.place) rooms ≡ range_with_len from (length counts) → map (λ (r : Room). r.count) rooms ≡ counts
    → AreExact (from_place s flights) from counts → from + length counts ≤ length flights.list → sum counts ≤ 200_000 → All (IsRoom s flights) rooms
are-rooms s flights from counts [] p c e h f = λ k d within. absurd (omega (arith, within))
are-rooms s flights from [] (r ∷ rooms) p c e h f = absurd (omega (arith, ap length c))
are-rooms s flights from (n ∷ counts) (r ∷ rooms) p c e h f =
    let place : r.place ≡ from = ap (λ (l : List ℕ). get_or l 0 0) p in
    let count : r.count ≡ n = ap (λ (l : List ℕ). get_or l 0 0) c in
    let more = sum-cons n counts in
    let rest = are-rooms s flights (from + 1) counts rooms (ap (drop 1) p) (ap (drop 1) c) e.1 (omega (arith, h)) (omega (arith, f, more)) in
    let here : IsRoom s flights r = record {
      place = omega (arith, place, h);
      count = count ∙ (e.0 ∙ ap (λ (k : ℕ). length (from_place s flights k)) (sym place));
      few = omega (arith, count, f, more);
    } in
    All-cons (IsRoom s flights) r rooms here rest

-- what stands in such rooms, one after another
pub all-filled : (F : ℕ → List Duty) (n : ℕ) (rooms filled : List Room) → map (λ (r : Room). r.place) rooms ≡ range_with_len 0 n → map (λ (r : Room). r.duties.items) filled ≡ map (λ (r : Room). F r.place) rooms
    → flat_map (λ (r : Room). r.duties.items) filled ≡ flat_map F (range_with_len 0 n)
all-filled F n rooms filled p e =
    let each = e ∙ (sym (map-map F (λ (r : Room). r.place) rooms) ∙ ap (map F) p) in
    sym (flat_map-map (λ (l : List Duty). l) (λ (r : Room). r.duties.items) filled) ∙ (ap (flat_map (λ (l : List Duty). l)) each ∙ flat_map-map (λ (l : List Duty). l) F (range_with_len 0 n))

-- what stands at a place where what is left stays
pub same-at : (before rooms : List Room) (i : ℕ) (d : Room) → drop i rooms ≡ drop i before → get_or rooms i d ≡ get_or before i d
same-at before rooms i d rest =
    let here : i + 0 ≡ i = omega arith in
    ap (λ (k : ℕ). get_or rooms k d) (sym here) ∙ (sym (get_or-drop i rooms 0 d) ∙ (ap (λ (l : List Room). get_or l 0 d) rest ∙ (get_or-drop i before 0 d ∙ ap (λ (k : ℕ). get_or before k d) here)))

-- one room more is filled
pub filled-more : (F : ℕ → List Duty) (before rooms : List Room) (i : ℕ) (d after : Room) → i < length rooms → map (λ (r : Room). r.duties.items) (take i rooms) ≡ map (λ (r : Room). F r.place) (take i before) → drop i rooms ≡ drop i before
    → after.duties.items ≡ F (get_or rooms i d).place → (map (λ (r : Room). r.duties.items) (take (i + 1) (set rooms i after)) ≡ map (λ (r : Room). F r.place) (take (i + 1) before)) × (drop (i + 1) (set rooms i after) ≡ drop (i + 1) before)
filled-more F before rooms i d after h done rest e =
    let D = λ (r : Room). r.duties.items in
    let G = λ (r : Room). F r.place in
    let h' : i < length before = omega (arith, h, ap length rest, length-drop i rooms, length-drop i before) in
    let same = same-at before rooms i d rest in
    let one : D after ∷ [] ≡ G (get_or before i d) ∷ [] = ap (λ (l : List Duty). l ∷ []) (e ∙ ap G same) in (
      ap (map D) (take_more_set rooms i after h) ∙ (map-append D (take i rooms) (after ∷ []) ∙ (ap₂ ◌++◌ done one ∙ (sym (map-append G (take i before) (get_or before i d ∷ [])) ∙ ap (map G) (sym (take_more before i d h'))))),
      drop-set-lt (i + 1) rooms i after (omega arith) ∙ (sym (drop-drop 1 i rooms) ∙ (ap (drop 1) rest ∙ drop-drop 1 i before)),
    )

-- the duties of one room more
pub joined-more : (rooms : List Room) (i : ℕ) (d : Room) → i < length rooms → flat_map (λ (r : Room). r.duties.items) (take (i + 1) rooms) ≡ flat_map (λ (r : Room). r.duties.items) (take i rooms) ++ (get_or rooms i d).duties.items
joined-more rooms i d h =
    let D = λ (r : Room). r.duties.items in
    ap (flat_map D) (take_more rooms i d h) ∙ (flat_map-append D (take i rooms) (get_or rooms i d ∷ []) ∙ ap (λ (l : List Duty). flat_map D (take i rooms) ++ l) (append-nil (D (get_or rooms i d))))

-- two lists of rooms are filled, so their sum is
pub filled-append : (F : ℕ → List Duty) (xs ys front back all : List Room) → all ≡ front ++ back → map (λ (r : Room). r.duties.items) xs ≡ map (λ (r : Room). F r.place) front → map (λ (r : Room). r.duties.items) ys ≡ map (λ (r : Room). F r.place) back
    → map (λ (r : Room). r.duties.items) (xs ++ ys) ≡ map (λ (r : Room). F r.place) all
filled-append F xs ys front back all e f b =
    let D = λ (r : Room). r.duties.items in
    let G = λ (r : Room). F r.place in
    map-append D xs ys ∙ (ap₂ ◌++◌ f b ∙ (sym (map-append G front back) ∙ ap (map G) (sym e)))

-- and parts of a list of rooms are rooms
pub rooms-front : (s : Settings) (flights : Flights) (front back all : List Room) → all ≡ front ++ back → All (IsRoom s flights) all → All (IsRoom s flights) front
rooms-front s flights front back all e are =
    subst (All (IsRoom s flights)) (take_at front back (length front) refl) (All-take (IsRoom s flights) (length front) (front ++ back) (subst (All (IsRoom s flights)) e are))

pub rooms-back : (s : Settings) (flights : Flights) (front back all : List Room) → all ≡ front ++ back → All (IsRoom s flights) all → All (IsRoom s flights) back
rooms-back s flights front back all e are =
    subst (All (IsRoom s flights)) (drop_at front back (length front) refl) (All-drop (IsRoom s flights) (length front) (front ++ back) (subst (All (IsRoom s flights)) e are))
