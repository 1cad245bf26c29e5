-- Airports and minutes as one number: what lies between two such numbers.
use Rattle.std.proofs.Common.{◌≡◌, ◌≤◌, ◌*◌, ℕ, ℤ, pos, ◌≤ℤ◌, ◌+ℤ◌, ◌-ℤ◌, List, Bool, true, false, ◌&&◌, refl, sym, ap, subst, ◌∙◌, arith, int_le}
use Rattle.std.specs.Prelude.{◌↔◌}
use Rattle.std.specs.Ordering.{eq_by_cmp, int_eq}
use Rattle.std.specs.Cmp.{eq_by_cmp_equiv, signed_Decides}
use Rattle.std.proofs.lemmas.Bool.{and_parts, and_from}
use Rattle.std.proofs.lemmas.Map.Text.{is_eq-slice_cmp}
use Rattle.std.proofs.lemmas.Slice.Eq.{bytes_eq-Decides}
use Rattle.std.proofs.lemmas.Int.{ints}
use Rattle.crew_flights.specs.Codes.{code_cmp, code_cmp_total, is_code}
use Rattle.crew_net.specs.Machinery.Moments.{IsMinute, IsReal, code_number, moment}
use Rattle.crew_net.proofs.Codes.{code-same}
use Rattle.crew_net.proofs.Segments.{is_within}

-- moments of two airports in one narrow range are of one airport
near : (n m : ℕ) (t lo hi : ℤ) → IsReal t → IsMinute lo → IsMinute hi → (pos (n * 4_295_000_000) +ℤ lo) ≤ℤ (pos (m * 4_295_000_000) +ℤ t) → (pos (m * 4_295_000_000) +ℤ t) ≤ℤ (pos (n * 4_295_000_000) +ℤ hi)
    → (m ≡ n) × (lo ≤ℤ t) × (t ≤ℤ hi)
near n m t lo hi real low high h k =
    let a = real.least in let b = real.most in let c = low.least in let d = high.most in
    let same : m ≡ n = omega (arith, ints, a, b, c, d, h, k) in
    (same, omega (arith, ints, same, h), omega (arith, ints, same, k))

pub code-equal : (a b : List ℕ) → eq_by_cmp code_cmp a b ≡ true → a ≡ b
code-equal a b h = (bytes_eq-Decides a b).0 (sym (is_eq-slice_cmp a b) ∙ h)

pub equal-code : (a b : List ℕ) → a ≡ b → eq_by_cmp code_cmp a b ≡ true
equal-code a b e = subst (λ (x : List ℕ). eq_by_cmp code_cmp a x ≡ true) e ((eq_by_cmp_equiv code_cmp_total).refl a)

pub real-minute : (t : ℤ) → IsReal t → IsMinute t
real-minute t r = let a = r.least in let b = r.most in record { least = omega (arith, ints, a); most = omega (arith, ints, b) }

-- at one airport, from one minute to another
pub between-in : (a b : List ℕ) (t lo hi : ℤ) → is_code a ≡ true → is_code b ≡ true → IsReal t → IsMinute lo → IsMinute hi → moment a lo ≤ℤ moment b t → moment b t ≤ℤ moment a hi
    → (b ≡ a) × (lo ≤ℤ t) × (t ≤ℤ hi)
between-in a b t lo hi ca cb real low high h k =
    let p = near (code_number a) (code_number b) t lo hi real low high h k in
    (code-same b a cb ca p.0, p.1, p.2)

pub in-between : (a b : List ℕ) (t lo hi : ℤ) → b ≡ a → lo ≤ℤ t → t ≤ℤ hi → (moment a lo ≤ℤ moment b t) × (moment b t ≤ℤ moment a hi)
in-between a b t lo hi e h k =
    let n : code_number b ≡ code_number a = ap code_number e in
    (omega (arith, ints, n, h), omega (arith, ints, n, k))

-- one moment is one airport and one minute
pub moment-same : (a b : List ℕ) (t u : ℤ) → is_code a ≡ true → is_code b ≡ true → IsReal t → IsReal u → moment a t ≡ moment b u → (a ≡ b) × (t ≡ u)
moment-same a b t u ca cb rt ru e =
    let p = between-in b a t u u cb ca rt (real-minute u ru) (real-minute u ru) (omega (arith, ints, e)) (omega (arith, ints, e)) in
    (p.0, (let h = p.1 in let k = p.2 in omega (arith, ints, h, k)))

-- the same airport, and from 600 minutes to so many between two minutes
abbrev pub rests : ℕ → List ℕ → List ℕ → ℤ → ℤ → Bool
rests m a b t u = eq_by_cmp code_cmp a b && (int_le (pos 600) (u -ℤ t) && int_le (u -ℤ t) (pos m))

pub rests-parts : (m : ℕ) (a b : List ℕ) (t u : ℤ) → rests m a b t u ≡ true → (a ≡ b) × (pos 600 ≤ℤ (u -ℤ t)) × ((u -ℤ t) ≤ℤ pos m)
rests-parts m a b t u h =
    let p = and_parts (eq_by_cmp code_cmp a b) (int_le (pos 600) (u -ℤ t) && int_le (u -ℤ t) (pos m)) h in
    let q = and_parts (int_le (pos 600) (u -ℤ t)) (int_le (u -ℤ t) (pos m)) p.1 in
    (code-equal a b p.0, le-of (pos 600) (u -ℤ t) q.0, le-of (u -ℤ t) (pos m) q.1)
  where
    le-of : (x y : ℤ) → int_le x y ≡ true → x ≤ℤ y
    le-of x y h = grind (arith, ints, h)

pub rests-from : (m : ℕ) (a b : List ℕ) (t u : ℤ) → a ≡ b → pos 600 ≤ℤ (u -ℤ t) → (u -ℤ t) ≤ℤ pos m → rests m a b t u ≡ true
rests-from m a b t u e h k = and_from _ _ (equal-code a b e) (and_from _ _ (of-le (pos 600) (u -ℤ t) h) (of-le (u -ℤ t) (pos m) k))
  where
    of-le : (x y : ℤ) → x ≤ℤ y → int_le x y ≡ true
    of-le x y h = grind (arith, ints, h)

minutes-off : (m : ℕ) (t : ℤ) → m ≤ 8_280 → IsReal t → IsMinute (t -ℤ pos m) × IsMinute (t +ℤ pos m)
minutes-off m t h r =
    let a = r.least in let b = r.most in
    (record { least = omega (arith, ints, a, h); most = omega (arith, ints, b) }, record { least = omega (arith, ints, a); most = omega (arith, ints, b, h) })

-- as a window of moments of release
pub waits : (m : ℕ) (a b : List ℕ) (t u : ℤ) → m ≤ 8_280 → is_code a ≡ true → is_code b ≡ true → IsReal t → IsReal u
    → (rests m a b t u ≡ true) ↔ ((moment b (u -ℤ pos m) ≤ℤ moment a t) × (moment a t ≤ℤ moment b (u -ℤ pos 600)))
waits m a b t u few ca cb rt ru = (
  λ h. (let p = rests-parts m a b t u h in let x = p.1 in let y = p.2 in in-between b a t (u -ℤ pos m) (u -ℤ pos 600) p.0 (omega (arith, ints, y)) (omega (arith, ints, x))),
  λ h. (let p = between-in b a t (u -ℤ pos m) (u -ℤ pos 600) cb ca rt (minutes-off m u few ru).0 (minutes-off 600 u (omega arith) ru).0 h.0 h.1 in
      let x = p.1 in let y = p.2 in rests-from m a b t u p.0 (omega (arith, ints, y)) (omega (arith, ints, x))),
)

-- and as one of moments of report
pub follows : (m : ℕ) (a b : List ℕ) (t u : ℤ) → m ≤ 8_280 → is_code a ≡ true → is_code b ≡ true → IsReal t → IsReal u
    → (rests m a b t u ≡ true) ↔ ((moment a (t +ℤ pos 600) ≤ℤ moment b u) × (moment b u ≤ℤ moment a (t +ℤ pos m)))
follows m a b t u few ca cb rt ru = (
  λ h. (let p = rests-parts m a b t u h in let x = p.1 in let y = p.2 in in-between a b u (t +ℤ pos 600) (t +ℤ pos m) (sym p.0) (omega (arith, ints, x)) (omega (arith, ints, y))),
  λ h. (let p = between-in a b u (t +ℤ pos 600) (t +ℤ pos m) ca cb ru (minutes-off 600 t (omega arith) rt).1 (minutes-off m t few rt).1 h.0 h.1 in
      let x = p.1 in let y = p.2 in rests-from m a b t u (sym p.0) (omega (arith, ints, x)) (omega (arith, ints, y))),
)

pub both-ways : (a b : Bool) → (a ≡ true → b ≡ true) → (b ≡ true → a ≡ true) → a ≡ b
both-ways true true f g = refl
both-ways true false f g = sym (f refl)
both-ways false true f g = g refl
both-ways false false f g = refl

-- the same airport and minute, as a test
pub same-moment : (a b : List ℕ) (t u : ℤ) → is_code a ≡ true → is_code b ≡ true → IsReal t → IsReal u → int_eq (moment a t) (moment b u) ≡ (eq_by_cmp code_cmp a b && int_eq t u)
same-moment a b t u ca cb rt ru = both-ways (int_eq (moment a t) (moment b u)) (eq_by_cmp code_cmp a b && int_eq t u)
    (λ h. (let p = moment-same a b t u ca cb rt ru ((signed_Decides (moment a t) (moment b u)).0 h) in and_from _ _ (equal-code a b p.0) ((signed_Decides t u).1 p.1)))
    (λ h. (let p = and_parts (eq_by_cmp code_cmp a b) (int_eq t u) h in (signed_Decides (moment a t) (moment b u)).1 (λ i. moment (code-equal a b p.0 i) ((signed_Decides t u).0 p.1 i))))

-- a rest, as a test of a moment of release
pub rest-within : (m : ℕ) (a b : List ℕ) (t u : ℤ) → m ≤ 8_280 → is_code a ≡ true → is_code b ≡ true → IsReal t → IsReal u → is_within (moment b (u -ℤ pos m)) (moment b (u -ℤ pos 600)) (moment a t) ≡ rests m a b t u
rest-within m a b t u few ca cb rt ru = both-ways (is_within low high x) (rests m a b t u)
    (λ h. (let p = and_parts (int_le low x) (int_le x high) h in (waits m a b t u few ca cb rt ru).1 (le-of low x p.0, le-of x high p.1)))
    (λ h. (let p = (waits m a b t u few ca cb rt ru).0 h in and_from (int_le low x) (int_le x high) (of-le low x p.0) (of-le x high p.1)))
  where
    x : ℤ
    x = moment a t

    low : ℤ
    low = moment b (u -ℤ pos m)

    high : ℤ
    high = moment b (u -ℤ pos 600)

    le-of : (x y : ℤ) → int_le x y ≡ true → x ≤ℤ y
    le-of x y h = grind (arith, ints, h)

    of-le : (x y : ℤ) → x ≤ℤ y → int_le x y ≡ true
    of-le x y h = grind (arith, ints, h)
