-- The stages of a sum.
use Rattle.std.specs.Prelude.{◌≡◌, ℕ, suc, ◌+◌, ◌*◌, ◌^◌, ◌<◌, true, cond, Option, Some, None, ℤ, ◌+ℤ◌, ◌≤ℤ◌, int_le, FitsSigned, pos}
use Rattle.std.specs.Int.{w64}
use Rattle.std.specs.Ordering.{int_cmp}
use Rattle.std.proofs.Common.{refl, sym, ◌∙◌, ap, subst, arith, ⊎_elim}
use Rattle.std.proofs.Math.Nat.{suc-mul, mul-le-mul_right}
use Rattle.std.proofs.lemmas.Bool.{cases_Bool}
use Rattle.std.proofs.lemmas.Int.{ints}
use Rattle.std.proofs.lemmas.Cmp.{int_ranked}
use Rattle.crew_resource.specs.Machinery.Sum.{is_within, capped, first_adds, next_adds, LiesWithin}
use Rattle.crew_resource.specs.Machinery.SumLaws.{within_lower}
use Rattle.crew_resource.specs.Stages.{StagedLaws, ShiftLaws, CountingLaws, BoundLaws, AmountLaws, shifted, boarded}

pub capped_is : (cap : Option ℤ) (v c : ℤ) → capped cap v ≡ Some c → (is_within cap v ≡ true)
    × (v ≡ c)
capped_is cap v c e =
    ⊎_elim
    (λ t. (
      t,
      let q : Some v ≡ Some c = sym (ap (λ b. cond b (Some v) None) t) ∙ e in let r : v
          ≡ c = (cc) in r,
    ))
    (λ f. absurd (let q : None ≡ Some c = sym (ap (λ b. cond b (Some v) None) f) ∙ e in let r : ⊥
    = (cc) in r))
    (cases_Bool (is_within cap v))

capped_at : (cap : Option ℤ) (v : ℤ) → is_within cap v ≡ true → capped cap v ≡ Some v
capped_at cap v t = ap (λ b. cond b (Some v) None) t

cmp_shift : (a b d : ℤ) → int_cmp (a +ℤ d) (b +ℤ d) ≡ int_cmp a b
cmp_shift a b d =
    let r = int_ranked a b (int_cmp a b) refl in
    let s = int_ranked (a +ℤ d) (b +ℤ d) (int_cmp (a +ℤ d) (b +ℤ d)) refl in
    grind (arith, ints)

regroup : (v w b : ℤ) → v +ℤ (w +ℤ b) ≡ (v +ℤ w) +ℤ b
regroup v w b = omega (arith, ints)

pub sum_staged : {I X G : Type 0} (cap : Option ℤ) (arrives : I → X) (leaves : I → G)
    (idle : G → ℤ) (wait : X → G → ℤ) (own : I → ℤ)
    → StagedLaws (λ i. capped cap (first_adds leaves idle own i))
    (λ v last i. capped cap (v +ℤ next_adds arrives leaves wait own last i)) int_le arrives
    leaves idle (shifted wait) (boarded cap own)
sum_staged cap arrives leaves idle wait own = record {
  opening = λ i. refl;
  extension = λ v last i. ap (capped cap)
      (regroup v (wait (arrives last) (leaves i)) (own i));
  wait_monotone = λ a b x g h. grind (arith, ints);
  board_monotone = λ a b c i h e.
      let k = capped_is cap (b +ℤ own i) c e in
      let less : (a +ℤ own i) ≤ℤ (b +ℤ own i) = grind (arith, ints) in (
        a +ℤ own i,
        capped_at cap (a +ℤ own i)
            (within_lower cap (a +ℤ own i) (b +ℤ own i) less k.0),
        subst
            (λ z. int_le (a +ℤ own i) z ≡ true) k.1 (grind (arith, ints)),
      );
}

pub sum_shifts : {I X G : Type 0} (wait : X → G → ℤ) (own : I → ℤ) (cap : Option ℤ)
    → ShiftLaws int_cmp int_le (shifted wait) (boarded cap own)
sum_shifts wait own cap = record {
  wait_strict = λ a b x g e. omega (arith, ints);
  wait_reflects = λ a b x g h. grind (arith, ints);
  wait_listed = λ a b x g. cmp_shift a b (wait x g);
  board_reflects = λ a b y z i p q h.
      let j = (capped_is cap (a +ℤ own i) y p).1 in
      let k = (capped_is cap (b +ℤ own i) z q).1 in
      grind (arith, ints);
  board_listed = λ a b y z i p q.
      let j = (capped_is cap (a +ℤ own i) y p).1 in
      let k = (capped_is cap (b +ℤ own i) z q).1 in
      ap (λ n. int_cmp n z) (sym j) ∙ (ap (int_cmp (a +ℤ own i)) (sym k) ∙ cmp_shift a b (own i));
}

-- a sum alone counts nothing
pub no_counting : {V I X G : Type 0} (count : V → ℤ) (idle : G → V) (wait : V → X → G → V)
    (board : V → I → Option V) (m : ℕ) → ◌≡◌ {A = Option ℕ} None (Some m)
    → CountingLaws count m idle wait board
no_counting count idle wait board m e = absurd (let q : ⊥ = (cc) in q)

-- a list of n items passes 2n stages, and one more up to its departure
abbrev pub sum_fits : ℕ → ℕ → Type 0
sum_fits share n = n * (2 * share) < 2 ^ 63

abbrev pub sum_arrived : ℕ → ℕ → ℤ → Type 0
sum_arrived share n = LiesWithin (n * (2 * share))

abbrev pub sum_ready : ℕ → ℕ → ℤ → Type 0
sum_ready share n = LiesWithin (n * (2 * share) + share)

-- nothing lies within any reach
pub still : (reach : ℕ) → LiesWithin reach (pos 0)
still reach = record { least = omega (arith, ints); most = omega (arith, ints) }

-- a number within a reach of 63 bits fits
pub fitting : (r : ℕ) (z : ℤ) → LiesWithin r z → r < 2 ^ 63 → FitsSigned w64 z
fitting r z p h =
    let l = p.least in let m = p.most in
    grind (arith, ints)

added : (r s : ℕ) (a b : ℤ) → LiesWithin r a → LiesWithin s b → LiesWithin (r + s) (a +ℤ b)
added r s a b p q =
    let l = p.least in let m = p.most in let o = q.least in let n = q.most in
    record { least = omega (arith, ints); most = omega (arith, ints) }

-- in a list of one item more each stage's sum fits
wait_fits : (share n : ℕ) (v w : ℤ) → sum_fits share (suc n) → sum_arrived share n v
    → LiesWithin share w → FitsSigned w64 (v +ℤ w)
wait_fits share n v w h a p =
    let m = suc-mul n (2 * share) in
    fitting (n * (2 * share) + share) (v +ℤ w) (added (n * (2 * share)) share v w a p)
    (omega (arith, m, h))

board_fits : (share n : ℕ) (v w : ℤ) → sum_fits share (suc n) → sum_ready share n v
    → LiesWithin share w → FitsSigned w64 (v +ℤ w)
board_fits share n v w h r p =
    let m = suc-mul n (2 * share) in
    fitting (n * (2 * share) + share + share) (v +ℤ w)
    (added (n * (2 * share) + share) share v w r p) (omega (arith, m, h))

none_ready : (share : ℕ) (v : ℤ) → LiesWithin share v → sum_ready share 0 v
none_ready share v p = subst (λ r. LiesWithin r v) (omega arith) p

pub sum_bounds : {I X G : Type 0} (is_sound : I → Type 0) (may_begin : G → Type 0)
    (may_follow : X → G → Type 0) (arrives : I → X) (leaves : I → G) (cap : Option ℤ)
    (idle : G → ℤ) (wait : X → G → ℤ) (own : I → ℤ) (share : ℕ)
    → AmountLaws is_sound may_begin may_follow idle wait own share
    → BoundLaws is_sound may_begin may_follow arrives leaves idle (shifted wait) (boarded cap own)
    (λ i. may_begin (leaves i) × (is_sound i × FitsSigned w64 (idle (leaves i) +ℤ own i)))
    (λ v last i. (may_follow (arrives last) (leaves i)
    × FitsSigned w64 (v +ℤ wait (arrives last) (leaves i)))
    × (is_sound i × FitsSigned w64 ((v +ℤ wait (arrives last) (leaves i)) +ℤ own i))) may_begin
    (λ v x g. may_follow x g × FitsSigned w64 (v +ℤ wait x g))
    (λ v i. is_sound i × FitsSigned w64 (v +ℤ own i))
    (sum_fits share) (sum_ready share) (sum_arrived share)
sum_bounds is_sound may_begin may_follow arrives leaves cap idle wait own share laws = record {
  idle_ready = λ g b. none_ready share (idle g) (laws.idle_share g b);
  wait_ready = λ n v x g f a. added (n * (2 * share)) share v (wait x g) a (laws.wait_share x g f);
  board_arrived = λ n v z i s r e.
      let k = (capped_is cap (v +ℤ own i) z e).1 in
      let t = added (n * (2 * share) + share) share v (own i) r (laws.own_share i s) in
      let m = suc-mul n (2 * share) in
      subst (λ z. LiesWithin (suc n * (2 * share)) z) k
      (subst (λ r. LiesWithin r (v +ℤ own i)) (omega (arith, m)) t);
  fewer = λ n k h f. let m = mul-le-mul_right (2 * share) h in omega (arith, m, f);
  starts = λ i s b f.
      let ready = none_ready share (idle (leaves i)) (laws.idle_share (leaves i) b) in
      (b, (s, board_fits share 0 (idle (leaves i)) (own i) f ready (laws.own_share i s)));
  extends = λ n v last i s t f h a.
      let w = wait (arrives last) (leaves i) in
      let p = laws.wait_share (arrives last) (leaves i) f in
      let ready = added (n * (2 * share)) share v w a p in (
        (f, wait_fits share n v w h a p),
        (t, board_fits share n (v +ℤ w) (own i) h ready (laws.own_share i t)),
      );
  idles = λ g b f. b;
  waits = λ n v x g f h a. (f, wait_fits share n v (wait x g) h a (laws.wait_share x g f));
  boards = λ n v i s h r. (s, board_fits share n v (own i) h r (laws.own_share i s));
}
