-- Events in the order of their moments.
use Rattle.std.proofs.Common.{◌≡◌, ◌≤◌, ◌<◌, ◌+◌, ◌⊎◌, inl, inr, ℕ, zero, suc, ℤ, pos, ◌<ℤ◌, List, [], ◌∷◌, Some, true, length, refl, sym, ap, subst, ◌∙◌, arith, get_or, map}
use Rattle.std.specs.Prelude.{slice_get}
use Rattle.std.specs.Ordering.{int_cmp, is_eq, nat_cmp, ordering_then}
use Rattle.std.specs.declared.cmp.Ordering.{Ordering}
use Rattle.std.specs.declared.cmp.Ordering.TheVariants.{Equal, Greater, Less}
use Rattle.std.proofs.lemmas.Int.{ints}
use Rattle.std.proofs.lemmas.List.{get_or-map, length-map}
use Rattle.std.proofs.lemmas.Option.{get_or_from_slice_get}
use Rattle.crew_flights.specs.Codes.{code_cmp, is_code}
use Rattle.crew_net.specs.Events.{AreEvents}
use Rattle.crew_net.specs.Machinery.Held.{AreAt}
use Rattle.crew_net.specs.Machinery.Moments.{IsReal, code_number, moment, slots_from}
use Rattle.crew_net.specs.Machinery.Timelines.{IsTimeline}
use Rattle.crew_net.specs.Machinery.Moments.{Slot}
use Rattle.crew_net.specs.declared.timeline.Timeline.{Timeline}
use Rattle.crew_net.proofs.Codes.{AreBytes, are-bytes, code-same, has-three, three-bytes}
use Rattle.crew_net.proofs.Geometry.{equal-code, moment-same}
use Rattle.crew_pairing.proofs.Tree.{slice_get-within}
use Rattle.crew_pairing.specs.declared.duty.Duty.{Duty}
use Rattle.crew_resource.specs.Members.{Member}
use Rattle.crew_resource.proofs.Members.{Member-get}
use Rattle.crew_pairing.proofs.Shuffled.{Member-shuffled}

nat-less : (a b : ℕ) → a < b → nat_cmp a b ≡ Less
nat-less a b h = grind (arith, h)

nat-tie : (a b : ℕ) → a ≡ b → nat_cmp a b ≡ Equal
nat-tie a b h = grind (arith, h)

int-less : (a b : ℤ) → a <ℤ b → int_cmp a b ≡ Less
int-less a b h = grind (arith, ints, h)

then-less : (r s : Ordering) → r ≡ Less → ordering_then r s ≡ Less
then-less r s e = rw e refl

then-tie : (r s : Ordering) → r ≡ Equal → s ≡ Less → ordering_then r s ≡ Less
then-tie r s e f = rw (e, f) refl

pick : (m n : ℕ) → m ≤ n → (m < n) ⊎ (m ≡ n)
pick zero zero h = inr refl
pick zero (suc n) h = inl (omega arith)
pick (suc m) zero h = absurd (omega (arith, h))
pick (suc m) (suc n) h = elim (pick m n (omega (arith, h))) [ inl l ↦ inl (omega (arith, l)) | inr e ↦ inr (ap suc e) ]

three-less : (a b c x y z : ℕ) → AreBytes a b c → AreBytes x y z → code_number (a ∷ b ∷ c ∷ []) < code_number (x ∷ y ∷ z ∷ []) → code_cmp (a ∷ b ∷ c ∷ []) (x ∷ y ∷ z ∷ []) ≡ Less
three-less a b c x y z p q h =
    let b1 = p.second in let c1 = p.third in
    let y1 = q.second in let z1 = q.third in
    elim (pick a x (omega (arith, b1, c1, y1, z1, h))) [
      | inl l ↦ then-less (nat_cmp a x) _ (nat-less a x l)
      | inr e ↦ then-tie (nat_cmp a x) _ (nat-tie a x e) (elim (pick b y (omega (arith, e, c1, z1, h))) [
        | inl l ↦ then-less (nat_cmp b y) _ (nat-less b y l)
        | inr f ↦ then-tie (nat_cmp b y) _ (nat-tie b y f) (then-less (nat_cmp c z) _ (nat-less c z (omega (arith, e, f, h))))
      ])
    ]

-- codes by number are codes in the order of the alphabet
pub code-less : (a b : List ℕ) → is_code a ≡ true → is_code b ≡ true → code_number a < code_number b → code_cmp a b ≡ Less
code-less a b ca cb h =
    let p = three-bytes a (has-three a ca) in
    let q = three-bytes b (has-three b cb) in
    let u = are-bytes p.0 p.1 p.2 (subst (λ (x : List ℕ). is_code x ≡ true) p.3 ca) in
    let v = are-bytes q.0 q.1 q.2 (subst (λ (x : List ℕ). is_code x ≡ true) q.3 cb) in
    let m = ap code_number p.3 in
    let n = ap code_number q.3 in
    let less = three-less p.0 p.1 p.2 q.0 q.1 q.2 u v (omega (arith, h, m, n)) in
    (λ i. code_cmp (p.3 i) (q.3 i)) ∙ less

pub code-tie : (a b : List ℕ) → a ≡ b → code_cmp a b ≡ Equal
code-tie a b e = by (code_cmp a b) (equal-code a b e)
  where
    by : (r : Ordering) → is_eq r ≡ true → r ≡ Equal
    by Less h = absurd (cc)
    by Equal h = refl
    by Greater h = absurd (cc)

-- lesser moments are lesser airports, or lesser minutes of one
pub moment-less : (a b : List ℕ) (t u : ℤ) → is_code a ≡ true → is_code b ≡ true → IsReal t → IsReal u → moment a t <ℤ moment b u → ordering_then (code_cmp a b) (int_cmp t u) ≡ Less
moment-less a b t u ca cb rt ru h =
    let tl = rt.least in let tm = rt.most in let ul = ru.least in let um = ru.most in
    elim (pick (code_number a) (code_number b) (omega (arith, ints, tl, tm, ul, um, h))) [
      | inl l ↦ then-less (code_cmp a b) (int_cmp t u) (code-less a b ca cb l)
      | inr e ↦ then-tie (code_cmp a b) (int_cmp t u) (code-tie a b (code-same a b ca cb e)) (int-less t u (omega (arith, ints, e, h)))
    ]

pub Member-index : {X : Type 0} (xs : List X) (x : X) → Member xs x → (k : ℕ) × (k < length xs) × ((d : X) → get_or xs k d ≡ x)
Member-index [] x m = absurd m
Member-index (y ∷ xs) x (inl e) = (0, omega arith, λ d. e)
Member-index (y ∷ xs) x (inr m) = let r = Member-index xs x m in (suc r.0, (let h = r.1 in omega (arith, h)), r.2)

slots-at : (i : ℕ) (ats : List ℤ) (k : ℕ) (d : ℤ) → k < length ats → Member (slots_from i ats) (record { at = get_or ats k d; place = i + k })
slots-at i [] k d h = absurd (omega (arith, h))
slots-at i (a ∷ ats) zero d h = inl (λ j. record { at = a; place = (let e : i ≡ i + 0 = omega arith in e) j })
slots-at i (a ∷ ats) (suc k) d h = inr (subst (λ (n : ℕ). Member (slots_from (suc i) ats) (record { at = get_or ats k d; place = n })) (omega arith) (slots-at (suc i) ats k d (omega (arith, h))))

-- each moment of the list is among those of the timeline
pub its-moment : (ats : List ℤ) (t : Timeline) → IsTimeline ats t → (n : ℕ) (d : ℤ) → n < length ats → (k : ℕ) × (k < length t.moments.items) × ((e : ℤ) → get_or t.moments.items k e ≡ get_or ats n d)
its-moment ats t it n d h =
    let s : Slot = record { at = get_or ats n d; place = 0 + n } in
    let here = Member-index it.slots s (Member-shuffled (slots_from 0 ats) it.slots s it.in_order.all (slots-at 0 ats n d h)) in
    let own = it.are_moments.every here.0 s here.1 in
    (own.0, own.1, λ e. own.2 e ∙ ap (λ (x : Slot). x.at) (here.2 s))

module _ {E : Type 0} (air : E → List ℕ) (minute : E → ℤ) (event_of : Duty → E) (cmp : E → E → Ordering)
    (same : (e f : E) → air e ≡ air f → minute e ≡ minute f → e ≡ f)
    (cmp-is : (e f : E) → cmp e f ≡ ordering_then (code_cmp (air e) (air f)) (int_cmp (minute e) (minute f)))
    (duties : List Duty) (fair : (d : Duty) → Member duties d → (is_code (air (event_of d)) ≡ true) × IsReal (minute (event_of d))) where
  abbrev at_of : Duty → ℤ
  at_of d = moment (air (event_of d)) (minute (event_of d))

  -- the event at a place: its airport is one, its minute of 32 bits, its moment the timeline's
  pub event-at : (moments : List ℤ) (events : List E) → AreAt event_of at_of duties moments events → (k : ℕ) (e : E) → slice_get events k ≡ Some e
      → (k < length moments) × (is_code (air e) ≡ true) × IsReal (minute e) × ((m : ℤ) → get_or moments k m ≡ moment (air e) (minute e))
  event-at moments events held k e h =
      let within = slice_get-within events k e h in
      let long = held.long in
      let here : get_or events k e ≡ e = get_or_from_slice_get events k e e h in
      let mine = held.own k e (pos 0) within in
      let is = mine.2 ∙ here in
      let f = fair mine.0 mine.1 in (
        omega (arith, within, long),
        subst (λ (x : E). is_code (air x) ≡ true) is f.0,
        subst (λ (x : E). IsReal (minute x)) is f.1,
        λ m. (let own = held.own k e m within in sym own.3 ∙ ap (λ (x : E). moment (air x) (minute x)) (own.2 ∙ here)),
      )

  pub are-events : (t : Timeline) (events : List E) → IsTimeline (map at_of duties) t → AreAt event_of at_of duties t.moments.items events → AreEvents event_of cmp duties events
  are-events t events it held = record {
    every = λ d m.
        let place = Member-index duties d m in
        let n = place.0 in
        let long = length-map duties at_of in
        let a = get_or-map at_of duties n d (pos 0) place.1 ∙ ap at_of (place.2 d) in
        let hit = its-moment (map at_of duties) t it n (pos 0) (let h = place.1 in omega (arith, long, h)) in
        let k = hit.0 in
        let e-long = held.long in
        let within : k < length events = let h = hit.1 in omega (arith, e-long, h) in
        let own = held.own k (event_of d) (pos 0) within in
        let f = fair own.0 own.1 in
        let g = fair d m in
        let one = moment-same (air (event_of own.0)) (air (event_of d)) (minute (event_of own.0)) (minute (event_of d)) f.0 g.0 f.1 g.1 (own.3 ∙ (hit.2 (pos 0) ∙ a)) in
        subst (Member events) (sym own.2 ∙ same (event_of own.0) (event_of d) one.0 one.1) (Member-get events k (event_of d) within);
    some = λ e m. (let place = Member-index events e m in let own = held.own place.0 e (pos 0) place.1 in (own.0, own.1, own.2 ∙ place.2 e));
    rising = λ i j a b l ha hb.
        let x = event-at t.moments.items events held i a ha in
        let y = event-at t.moments.items events held j b hb in
        let up = it.are_moments.rising i j (pos 0) l y.0 in
        let p = x.3 (pos 0) in
        let q = y.3 (pos 0) in
        cmp-is a b ∙ moment-less (air a) (air b) (minute a) (minute b) x.1 y.1 x.2 y.2 (omega (arith, ints, up, p, q));
  }
