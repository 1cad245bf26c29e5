-- The slots between two moments are those of the flights that may follow, and in order of place they are theirs.
use Rattle.std.proofs.Common.{◌≡◌, ◌≤◌, ◌<◌, ◌+◌, ◌*◌, ℕ, zero, suc, ℤ, pos, ◌≤ℤ◌, ◌+ℤ◌, ◌-ℤ◌, List, [], ◌∷◌, ◌++◌, Bool, true, false, ◌&&◌, length, refl, sym, ap, subst, ◌∙◌, arith, take, drop, get_or, filter, int_le, if◌then◌else◌}
use Rattle.std.specs.Prelude.{◌==◌, int_lt, nat_lt}
use Rattle.std.specs.List.Sorted.{IsPartitionPoint, IsPartitionedBy}
use Rattle.std.specs.List.{list_all}
use Rattle.std.specs.Ordering.{eq_by_cmp, int_cmp, is_lt, nat_cmp, ordering_then}
use Rattle.std.specs.declared.cmp.Ordering.{Ordering}
use Rattle.std.specs.declared.cmp.Ordering.TheVariants.{Equal, Greater, Less}
use Rattle.std.specs.Cmp.{IsStrictWeakOrder, eq_by_cmp_equiv, int_cmp_total, nat_cmp_total, on_total, then_total}
use Rattle.std.proofs.lemmas.List.{get_or-drop, length-drop}
use Rattle.std.proofs.lemmas.List.Sorted.{ranks_by}
use Rattle.std.proofs.lemmas.Bool.{and_parts, and_from}
use Rattle.std.proofs.lemmas.Map.Text.{is_eq-slice_cmp}
use Rattle.std.proofs.lemmas.Slice.Eq.{bytes_eq-Decides}
use Rattle.std.proofs.lemmas.Cmp.{int_ranked}
use Rattle.std.proofs.lemmas.Int.{ints}
use Rattle.crew_resource.specs.Members.{Each}
use Rattle.crew_time.specs.Instant.{IsInstant}
use Rattle.crew_flights.specs.Codes.{code_cmp, code_cmp_total, is_code}
use Rattle.crew_flights.specs.Timetable.{Turns}
use Rattle.crew_flights.specs.declared.flight.Flight.{Flight}
use Rattle.crew_rules.specs.Settings.{IsChecked}
use Rattle.crew_rules.specs.declared.settings.Settings.{Settings}
use Rattle.crew_pairing.specs.Legality.{may_follow}
use Rattle.crew_pairing.proofs.Windows.{window}
use Rattle.crew_duty.specs.Machinery.Slots.{Ascend, IsNamed, earlier, follows_by, is_after, is_after_by, is_between, code_number, moment, slot_of, slots_from}
use Rattle.crew_duty.specs.declared.departures.Slot.{Slot}

abbrev is_byte : ℕ → Bool
is_byte x = nat_lt x 256

byte-within : (x : ℕ) → is_byte x ≡ true → x ≤ 255
byte-within x h = grind (arith)

code-apart : (a b c x y z : ℕ) → is_byte a ≡ true → is_byte b ≡ true → is_byte c ≡ true → is_byte x ≡ true → is_byte y ≡ true → is_byte z ≡ true
    → code_number (a ∷ b ∷ c ∷ []) ≡ code_number (x ∷ y ∷ z ∷ []) → (a ∷ b ∷ c ∷ []) ≡ (x ∷ y ∷ z ∷ [])
code-apart a b c x y z ha hb hc hx hy hz e =
    let ka = byte-within a ha in let kb = byte-within b hb in let kc = byte-within c hc in
    let kx = byte-within x hx in let ky = byte-within y hy in let kz = byte-within z hz in
    let first : a ≡ x = omega (arith, ka, kb, kc, kx, ky, kz, e) in
    let second : b ≡ y = omega (arith, first, kb, kc, ky, kz, e) in
    let third : c ≡ z = omega (arith, first, second, e) in
    λ i. first i ∷ second i ∷ third i ∷ []

three-bytes : (code : List ℕ) → length code ≡ 3 → (a : ℕ) × (b : ℕ) × (c : ℕ) × (code ≡ a ∷ b ∷ c ∷ [])
three-bytes [] e = absurd (omega arith)
three-bytes (a ∷ []) e = absurd (omega arith)
three-bytes (a ∷ b ∷ []) e = absurd (omega arith)
three-bytes (a ∷ b ∷ c ∷ []) e = (a, b, c, refl)
three-bytes (a ∷ b ∷ c ∷ d ∷ rest) e = absurd (omega arith)

code-parts : (code : List ℕ) → is_code code ≡ true → ((length code == 3) ≡ true) × (list_all is_byte code ≡ true)
code-parts code h = and_parts (length code == 3) (list_all is_byte code) h

has-three : (code : List ℕ) → is_code code ≡ true → length code ≡ 3
has-three code h = let p : (length code == 3) ≡ true = (code-parts code h).0 in grind (arith)

are-bytes : (a b c : ℕ) → is_code (a ∷ b ∷ c ∷ []) ≡ true → (is_byte a ≡ true) × (is_byte b ≡ true) × (is_byte c ≡ true)
are-bytes a b c h =
    let p = and_parts (is_byte a) (is_byte b && (is_byte c && true)) (code-parts (a ∷ b ∷ c ∷ []) h).1 in
    let q = and_parts (is_byte b) (is_byte c && true) p.1 in
    (p.0, q.0, (and_parts (is_byte c) true q.1).0)

same-three : (a b c x y z : ℕ) → is_code (a ∷ b ∷ c ∷ []) ≡ true → is_code (x ∷ y ∷ z ∷ []) ≡ true → code_number (a ∷ b ∷ c ∷ []) ≡ code_number (x ∷ y ∷ z ∷ []) → (a ∷ b ∷ c ∷ []) ≡ (x ∷ y ∷ z ∷ [])
same-three a b c x y z h k e =
    let p = are-bytes a b c h in
    let q = are-bytes x y z k in
    code-apart a b c x y z p.0 p.1 p.2 q.0 q.1 q.2 e

-- airports with one number are one
pub code-same : (a b : List ℕ) → is_code a ≡ true → is_code b ≡ true → code_number a ≡ code_number b → a ≡ b
code-same a b h k e =
    let p = three-bytes a (has-three a h) in
    let q = three-bytes b (has-three b k) in
    pa-then p.3 q.3 (same-three p.0 p.1 p.2 q.0 q.1 q.2 (subst (λ (x : List ℕ). is_code x ≡ true) p.3 h) (subst (λ (x : List ℕ). is_code x ≡ true) q.3 k) (sym (ap code_number p.3) ∙ (e ∙ ap code_number q.3)))
  where
    pa-then : {x y : List ℕ} → a ≡ x → b ≡ y → x ≡ y → a ≡ b
    pa-then f g h = f ∙ (h ∙ sym g)

-- the slot of a flight lies between them just where the flight leaves that airport between them
moments-in : (n m : ℕ) (t e l : ℤ) → IsInstant t → pos 0 ≤ℤ e → l ≤ℤ pos 100_000_000 → (pos (n * 134_217_728) +ℤ e) ≤ℤ (pos (m * 134_217_728) +ℤ t) → (pos (m * 134_217_728) +ℤ t) ≤ℤ (pos (n * 134_217_728) +ℤ l)
    → (m ≡ n) × (e ≤ℤ t) × (t ≤ℤ l)
moments-in n m t e l i a b h k =
    let lo = i.from in let hi = i.to in
    let same : m ≡ n = omega (arith, ints, lo, hi, a, b, h, k) in
    (same, omega (arith, ints, same, h), omega (arith, ints, same, k))

pub code-equal : (a b : List ℕ) → eq_by_cmp code_cmp a b ≡ true → a ≡ b
code-equal a b h = (bytes_eq-Decides a b).0 (sym (is_eq-slice_cmp a b) ∙ h)

both-ways : (a b : Bool) → (a ≡ true → b ≡ true) → (b ≡ true → a ≡ true) → a ≡ b
both-ways true true f g = refl
both-ways true false f g = sym (f refl)
both-ways false true f g = g refl
both-ways false false f g = refl

int-le-of : (a b : ℤ) → int_le a b ≡ true → a ≤ℤ b
int-le-of a b h = grind (arith, ints, h)

of-int-le : (a b : ℤ) → a ≤ℤ b → int_le a b ≡ true
of-int-le a b h = grind (arith, ints, h)

int-lt-cases : (a b : ℤ) (r : Bool) → int_lt a b ≡ r → ((if r then a else b) ≤ℤ a) × ((if r then a else b) ≤ℤ b)
int-lt-cases a b true e = (omega (arith, ints), grind (arith, ints, e))
int-lt-cases a b false e = (grind (arith, ints, e), omega (arith, ints))

-- the earlier of two is no later than either, and is one of them
pub earlier-most : (a b : ℤ) → (earlier a b ≤ℤ a) × (earlier a b ≤ℤ b)
earlier-most a b = int-lt-cases a b (int_lt a b) refl

earlier-by : (a b c : ℤ) (r : Bool) → c ≤ℤ a → c ≤ℤ b → c ≤ℤ (if r then a else b)
earlier-by a b c true h k = h
earlier-by a b c false h k = k

pub earlier-least : (a b c : ℤ) → c ≤ℤ a → c ≤ℤ b → c ≤ℤ earlier a b
earlier-least a b c h k = earlier-by a b c (int_lt a b) h k

pub between-follows : (s : Settings) (gap : ℕ) (before f : Flight) (place : ℕ) (latest : ℤ) → IsChecked s → gap ≤ s.connect → IsNamed f → is_code before.to ≡ true → IsInstant before.arr → latest ≤ℤ pos 100_000_000
    → is_between (moment before.to (before.arr +ℤ pos gap)) (moment before.to (earlier (before.arr +ℤ pos s.sit) latest)) (slot_of place f) ≡ is_after_by s gap latest before f
between-follows s gap before f place latest checked soon named code time far =
    both-ways (is_between low high (slot_of place f)) (is_after_by s gap latest before f) forth back
  where
    low : ℤ
    low = moment before.to (before.arr +ℤ pos gap)

    last : ℤ
    last = earlier (before.arr +ℤ pos s.sit) latest

    high : ℤ
    high = moment before.to last

    forth : is_between low high (slot_of place f) ≡ true → is_after_by s gap latest before f ≡ true
    forth h =
        let p = and_parts (int_le low (moment f.from f.dep)) (int_le (moment f.from f.dep) high) h in
        let a : low ≤ℤ moment f.from f.dep = int-le-of low (moment f.from f.dep) p.0 in
        let b : moment f.from f.dep ≤ℤ high = int-le-of (moment f.from f.dep) high p.1 in
        let lo = time.from in
        let most = earlier-most (before.arr +ℤ pos s.sit) latest in
        let q = moments-in (code_number before.to) (code_number f.from) f.dep (before.arr +ℤ pos gap) last named.time (omega (arith, ints, lo)) (omega (arith, ints, most.1, far)) a b in
        let same : before.to ≡ f.from = sym (code-same f.from before.to named.code code q.0) in
        let equal : eq_by_cmp code_cmp before.to f.from ≡ true = subst (λ (x : List ℕ). eq_by_cmp code_cmp before.to x ≡ true) same ((eq_by_cmp_equiv code_cmp_total).refl before.to) in
        let least : int_le (pos gap) (f.dep -ℤ before.arr) ≡ true = of-int-le (pos gap) (f.dep -ℤ before.arr) (omega (arith, ints, q.1)) in
        let sat : f.dep ≤ℤ (before.arr +ℤ pos s.sit) = omega (arith, ints, q.2, most.0) in
        let most-gap : int_le (f.dep -ℤ before.arr) (pos s.sit) ≡ true = of-int-le (f.dep -ℤ before.arr) (pos s.sit) (omega (arith, ints, sat)) in
        let by : f.dep ≤ℤ latest = omega (arith, ints, q.2, most.1) in
        let by-latest : int_le f.dep latest ≡ true = of-int-le f.dep latest by in
        and_from _ _ (and_from _ _ equal (and_from _ _ least most-gap)) by-latest

    back : is_after_by s gap latest before f ≡ true → is_between low high (slot_of place f) ≡ true
    back h =
        let apart = f.dep -ℤ before.arr in
        let r = and_parts (is_after s gap before f) (int_le f.dep latest) h in
        let p = and_parts (eq_by_cmp code_cmp before.to f.from) (int_le (pos gap) apart && int_le apart (pos s.sit)) r.0 in
        let q = and_parts (int_le (pos gap) apart) (int_le apart (pos s.sit)) p.1 in
        let same : before.to ≡ f.from = code-equal before.to f.from p.0 in
        let gap-least = int-le-of (pos gap) apart q.0 in
        let gap-most = int-le-of apart (pos s.sit) q.1 in
        let least : int_le (moment f.from (before.arr +ℤ pos gap)) (moment f.from f.dep) ≡ true = of-int-le (moment f.from (before.arr +ℤ pos gap)) (moment f.from f.dep) (omega (arith, ints, gap-least)) in
        let sat : f.dep ≤ℤ (before.arr +ℤ pos s.sit) = omega (arith, ints, gap-most) in
        let by : f.dep ≤ℤ latest = int-le-of f.dep latest r.1 in
        let end : f.dep ≤ℤ last = earlier-least (before.arr +ℤ pos s.sit) latest f.dep sat by in
        let most : int_le (moment f.from f.dep) (moment f.from last) ≡ true = of-int-le (moment f.from f.dep) (moment f.from last) (omega (arith, ints, end)) in
        subst (λ (x : List ℕ). is_between (moment x (before.arr +ℤ pos gap)) (moment x last) (slot_of place f) ≡ true) (sym same) (and_from _ _ least most)

-- no flight departs so late
pub follows-ever : (s : Settings) (turns : Turns) (before f : Flight) → IsNamed f → follows_by s turns (pos 100_000_000) before f ≡ may_follow s turns before f
follows-ever s turns before f named =
    let end = named.time.to in
    let never : int_le f.dep (pos 100_000_000) ≡ true = grind (arith, ints, end) in
    by (may_follow s turns before f) (int_le f.dep (pos 100_000_000)) never
  where
    by : (a b : Bool) → b ≡ true → (a && b) ≡ a
    by true b e = e
    by false b e = refl

-- one slot more
pub slots-more : (i : ℕ) (fs : List Flight) (k : ℕ) (d : Flight) → k < length fs → slots_from i (take (k + 1) fs) ≡ slots_from i (take k fs) ++ slot_of (i + k) (get_or fs k d) ∷ []
slots-more i [] k d h = absurd (omega (arith, h))
slots-more i (f ∷ fs) zero d h = let e : i + 0 ≡ i = omega arith in rw e refl
slots-more i (f ∷ fs) (suc k) d h =
    let e : suc i + k ≡ i + suc k = omega arith in
    let on : suc k + 1 ≡ suc (k + 1) = omega arith in
    rw on (ap (λ (l : List Slot). slot_of i f ∷ l) (slots-more (suc i) fs k d (omega (arith, h)) ∙ ap (λ (n : ℕ). slots_from (suc i) (take k fs) ++ slot_of n (get_or fs k d) ∷ []) e))

pub named-more : (fs : List Flight) (k : ℕ) (d : Flight) → k < length fs → Each IsNamed (take k fs) → IsNamed (get_or fs k d) → Each IsNamed (take (k + 1) fs)
named-more [] k d h a n = absurd (omega (arith, h))
named-more (f ∷ fs) zero d h a n = (n, tt)
named-more (f ∷ fs) (suc k) d h a n =
    let on : suc k + 1 ≡ suc (k + 1) = omega arith in
    rw on (a.0, named-more fs k d (omega (arith, h)) a.1 n)

pub later-at : (x y : Slot) → is_lt (ordering_then (int_cmp y.at x.at) (nat_cmp y.place x.place)) ≡ false → x.at ≤ℤ y.at
later-at x y h = by (int_cmp y.at x.at) (nat_cmp y.place x.place) refl h
  where
    by : (r s : Ordering) → int_cmp y.at x.at ≡ r → is_lt (ordering_then r s) ≡ false → x.at ≤ℤ y.at
    by Less s e h = absurd (cc)
    by Equal s e h = let r = int_ranked y.at x.at Equal (sym e) in omega (arith, ints, r)
    by Greater s e h = let r = int_ranked y.at x.at Greater (sym e) in omega (arith, ints, r)

pub each-follows : (s : Settings) (gap : ℕ) (before : Flight) (fs : List Flight) (place : ℕ) (latest : ℤ) → IsChecked s → gap ≤ s.connect → Each IsNamed fs → is_code before.to ≡ true → IsInstant before.arr → latest ≤ℤ pos 100_000_000
    → Each (λ f. is_between (moment before.to (before.arr +ℤ pos gap)) (moment before.to (earlier (before.arr +ℤ pos s.sit) latest)) (slot_of place f) ≡ is_after_by s gap latest before f) fs
each-follows s gap before [] place latest c soon n code time far = tt
each-follows s gap before (f ∷ fs) place latest c soon n code time far = (between-follows s gap before f place latest c soon n.0 code time far, each-follows s gap before fs place latest c soon n.1 code time far)

-- with no end in time, they are all that may follow
pub each-ever : (s : Settings) (turns : Turns) (before : Flight) (fs : List Flight) → Each IsNamed fs → filter (follows_by s turns (pos 100_000_000) before) fs ≡ filter (may_follow s turns before) fs
each-ever s turns before [] n = refl
each-ever s turns before (f ∷ fs) n = rw (follows-ever s turns before f n.0, each-ever s turns before fs n.1) refl

pub early-parted : (slots : List Slot) (m : ℤ) → Ascend slots → IsPartitionedBy (λ s. int_lt s.at m) slots
early-parted slots m up i j d a b h = let k = up i j d a b in grind (arith, ints)

pub late-parted : (slots : List Slot) (m : ℤ) → Ascend slots → IsPartitionedBy (λ s. int_le s.at m) slots
late-parted slots m up i j d a b h = let k = up i j d a b in grind (arith, ints)

pub ascend-drop : (slots : List Slot) (n : ℕ) → Ascend slots → Ascend (drop n slots)
ascend-drop slots zero up = up
ascend-drop [] (suc n) up = λ i j d a b. absurd (omega (arith, b))
ascend-drop (x ∷ slots) (suc n) up = ascend-drop slots n (λ i j d a b. up (suc i) (suc j) d (omega arith) (omega arith))

pub slot-order : IsStrictWeakOrder (λ (a b : Slot). is_lt (ordering_then (int_cmp a.at b.at) (nat_cmp a.place b.place)))
slot-order = ranks_by (then_total (on_total (λ (s : Slot). s.at) int_cmp_total) (on_total (λ (s : Slot). s.place) nat_cmp_total)) (λ s. s)

not-early : (a b : ℤ) (r : Bool) → int_lt a b ≡ true → int_le b a && r ≡ false
not-early a b r h = grind (arith, ints)

in-time : (a b l : ℤ) → int_lt a b ≡ false → int_le a l ≡ true → int_le b a && int_le a l ≡ true
in-time a b l h k = grind (arith, ints)

too-late : (a b l : ℤ) → int_le a l ≡ false → int_le b a && int_le a l ≡ false
too-late a b l h = grind (arith, ints)

-- what stands between two partition points
pub between-points : (slots : List Slot) (earliest latest : ℤ) (i n : ℕ) → i ≤ length slots → n ≤ length (drop i slots)
    → IsPartitionPoint (λ s. int_lt s.at earliest ≡ true) (λ s. int_lt s.at earliest ≡ false) slots i
    → IsPartitionPoint (λ s. int_le s.at latest ≡ true) (λ s. int_le s.at latest ≡ false) (drop i slots) n
    → take n (drop i slots) ≡ filter (is_between earliest latest) slots
between-points slots earliest latest i n a b early late =
    window (is_between earliest latest) slots i n b
    (λ k d m o. not-early (get_or slots k d).at earliest (int_le (get_or slots k d).at latest) (early.0 k d (omega arith) m))
    (λ k d m.
    let long = length-drop i slots in
    let place = get_or-drop i slots k d in
    let later = early.1 (i + k) d (omega arith) (omega (arith, long, b, m, a)) in
    in-time (get_or (drop i slots) k d).at earliest latest (rw place later) (late.0 k d (omega arith) m))
    (λ k d m o. too-late (get_or (drop i slots) k d).at earliest latest (late.1 k d m o))
