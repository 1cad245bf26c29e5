-- Values that end with one duty are listed as their vectors are.
use Rattle.std.proofs.Common.{◌≡◌, ℕ, zero, suc, ◌+◌, ◌-◌, Bool, true, false, cond, List, [], ◌∷◌, ◌++◌, length, replicate, ℤ, pos, ◌-ℤ◌, int_le, refl, sym, ◌∙◌, ap, subst, ⊎_elim, arith, Ordering}
use Rattle.std.specs.Prelude.{◌≤ℤ◌, ◌<ℤ◌, int_lt}
use Rattle.std.specs.Cmp.{IsTotalOrder, int_cmp_total, nat_cmp_total, on_total, then_total}
use Rattle.std.specs.Cmp.Lexicographic.{lists_total, slice_cmp}
use Rattle.std.specs.Int.{int_max}
use Rattle.std.specs.Ordering.{int_cmp, nat_cmp, ordering_then}
use Rattle.std.specs.declared.cmp.Ordering.TheVariants.{Equal, Greater, Less}
use Rattle.std.proofs.lemmas.Bool.{cases_Bool}
use Rattle.std.proofs.lemmas.Cmp.{tied_itself}
use Rattle.std.proofs.lemmas.Int.{clamps, ints}
use Rattle.std.proofs.lemmas.List.{length-take, take-append-drop}
use Rattle.crew_resource.specs.Members.{Each}
use Rattle.crew_resource.proofs.ListOrder.{lists_exact}
use Rattle.crew_history.specs.Histories.{IsHistory, cut}
use Rattle.crew_history.specs.HistoryValues.{periods_of}
use Rattle.crew_history.specs.declared.history.History.{History}
use Rattle.crew_history.proofs.FixedHistories.{history_cmp, pair_exact}
use Rattle.crew_history.proofs.Histories.{history_after}
use Rattle.crew_answers.specs.Fronts.{period_cmp}
use Rattle.crew_answers.proofs.Tests.{same-tests}

abbrev nothing : ℤ × ℤ
nothing = (pos 0, pos 0)

pub period-total : IsTotalOrder period_cmp
period-total = then_total (on_total (λ (p : ℤ × ℤ). p.0) int_cmp_total) (on_total (λ (p : ℤ × ℤ). p.1) int_cmp_total)

not-less : (a : ℤ) → pos 0 ≤ℤ a → int_lt (pos 0) a ≡ false → a ≡ pos 0
not-less a h e = grind (arith, ints)

less-yes : (a b : ℤ) → a <ℤ b → int_lt a b ≡ true
less-yes a b h = grind (arith, ints)

less-no : (a b : ℤ) → a <ℤ b → int_lt b a ≡ false
less-no a b h = grind (arith, ints)

less : (a b : ℤ) → a <ℤ b → int_cmp a b ≡ Less
less a b h = ap (λ t. cond t Less (cond (int_lt b a) Greater Equal)) (less-yes a b h)

greater : (a b : ℤ) → b <ℤ a → int_cmp a b ≡ Greater
greater a b h =
    ap (λ t. cond t Less (cond (int_lt b a) Greater Equal)) (less-no b a h) ∙ ap (λ t. cond t Greater Equal) (less-yes b a h)

is-below : (a b : ℤ) → int_lt a b ≡ true → a <ℤ b
is-below a b h = grind (arith, ints)

-- a period that starts no earlier than instant 0 stands after no period
after-nothing : (p : ℤ × ℤ) → pos 0 ≤ℤ p.0 → p.0 <ℤ p.1 → period_cmp nothing p ≡ Less
after-nothing p h k = ⊎_elim
    (λ e. ap (λ o. ordering_then o (int_cmp (pos 0) p.1)) (less (pos 0) p.0 (is-below (pos 0) p.0 e)))
    (λ e.
    let z : p.0 ≡ pos 0 = not-less p.0 h e in
    ap (λ a. ordering_then (int_cmp (pos 0) a) (int_cmp (pos 0) p.1)) z ∙ less (pos 0) p.1 (let l : p.0 <ℤ p.1 = k in subst (λ a. a <ℤ p.1) z l))
    (cases_Bool (int_lt (pos 0) p.0))

before-period : (p : ℤ × ℤ) → pos 0 ≤ℤ p.0 → p.0 <ℤ p.1 → period_cmp p nothing ≡ Greater
before-period p h k = ⊎_elim
    (λ e. ap (λ o. ordering_then o (int_cmp p.1 (pos 0))) (greater p.0 (pos 0) (is-below (pos 0) p.0 e)))
    (λ e.
    let z : p.0 ≡ pos 0 = not-less p.0 h e in
    ap (λ a. ordering_then (int_cmp a (pos 0)) (int_cmp p.1 (pos 0))) z ∙ greater p.1 (pos 0) (subst (λ a. a <ℤ p.1) z k))
    (cases_Bool (int_lt (pos 0) p.0))

abbrev pub StartsLate : List (ℤ × ℤ) → Type 0
StartsLate = Each (λ p. pos 0 ≤ℤ p.0)

-- zeros behind periods list them as a proper beginning comes first
padded : (h k : List (ℤ × ℤ)) (m n : ℕ) → StartsLate h → StartsLate k → IsHistory h → IsHistory k → length h + m ≡ length k + n
    → slice_cmp period_cmp (h ++ replicate m nothing) (k ++ replicate n nothing) ≡ slice_cmp period_cmp h k
padded [] [] m n a b i j e =
    let same : m ≡ n = omega (arith, e) in
    ap (λ z. slice_cmp period_cmp (replicate m nothing) (replicate z nothing)) (sym same) ∙ tied_itself (lists_total period-total) (replicate m nothing)
padded [] (q ∷ k) zero n a b i j e = absurd (omega (arith, e))
padded [] (q ∷ k) (suc m) n a b i j e =
    ap (λ o. ordering_then o (slice_cmp period_cmp (replicate m nothing) (k ++ replicate n nothing))) (after-nothing q b.0 j.0)
padded (p ∷ h) [] m zero a b i j e = absurd (omega (arith, e))
padded (p ∷ h) [] m (suc n) a b i j e =
    ap (λ o. ordering_then o (slice_cmp period_cmp (h ++ replicate m nothing) (replicate n nothing))) (before-period p a.0 i.0)
padded (p ∷ h) (q ∷ k) m n a b i j e =
    ap (ordering_then (period_cmp p q))
    (padded h k m n a.1 b.1 (history_after h p.1 i.1) (history_after k q.1 j.1) (let l : length h + m ≡ length k + n = omega (arith, e) in l))

then-settled : (o x : Ordering) → (o ≡ Equal → x ≡ Equal) → ordering_then o x ≡ o
then-settled Less x f = refl
then-settled Equal x f = f refl
then-settled Greater x f = refl

pub then-equal : (o : Ordering) → ordering_then o Equal ≡ o
then-equal Less = refl
then-equal Equal = refl
then-equal Greater = refl

pub then-under : (o x y : Ordering) → (o ≡ Equal → x ≡ y) → ordering_then o x ≡ ordering_then o y
then-under Less x y f = refl
then-under Equal x y f = f refl
then-under Greater x y f = refl

long : (v : History) → length (periods_of v) ≡ v.len
long v = let l = v.kept.0 in let m = v.kept.1 in length-take v.len v.periods ∙ omega (arith, l, m)

whole : (v : History) → v.periods ≡ periods_of v ++ replicate (12 - v.len) nothing
whole v = sym (take-append-drop v.len v.periods) ∙ ap (λ z. periods_of v ++ z) v.kept.3

-- histories of fixed size are listed as their periods are
pub histories-listed : (a b : History) → StartsLate (periods_of a) → StartsLate (periods_of b) → history_cmp a b ≡ slice_cmp period_cmp (periods_of a) (periods_of b)
histories-listed a b p q =
    let sizes : length (periods_of a) + (12 - a.len) ≡ length (periods_of b) + (12 - b.len) =
    let l = long a in let m = long b in let x = a.kept.0 in let y = b.kept.0 in omega (arith, l, m, x, y) in
    let arrays : slice_cmp period_cmp a.periods b.periods ≡ slice_cmp period_cmp (periods_of a) (periods_of b) =
    ap (λ z. slice_cmp period_cmp z b.periods) (whole a) ∙ (ap (slice_cmp period_cmp (periods_of a ++ replicate (12 - a.len) nothing)) (whole b)
    ∙ padded (periods_of a) (periods_of b) (12 - a.len) (12 - b.len) p q a.kept.2 b.kept.2 sizes) in
    ap (λ o. ordering_then o (nat_cmp a.len b.len)) arrays
    ∙ then-settled (slice_cmp period_cmp (periods_of a) (periods_of b)) (nat_cmp a.len b.len) (λ e.
    let same : periods_of a ≡ periods_of b = lists_exact period_cmp pair_exact (periods_of a) (periods_of b) e in
    let lens : a.len ≡ b.len = sym (long a) ∙ (ap length same ∙ long b) in
    ap (λ z. nat_cmp a.len z) (sym lens) ∙ tied_itself nat_cmp_total a.len)

later-start : (a c : ℤ) → pos 0 ≤ℤ a → pos 0 ≤ℤ int_max a c
later-start a c h = omega (arith, ints, clamps)

pub cut-starts : (c : ℤ) (h : List (ℤ × ℤ)) → StartsLate h → StartsLate (cut c h)
cut-starts c [] s = tt
cut-starts c (p ∷ h) s = by (int_le p.1 c) (cut-starts c h s.1)
  where
    by : (t : Bool) → StartsLate (cut c h) → StartsLate (cond t (cut c h) ((int_max p.0 c, p.1) ∷ cut c h))
    by true k = k
    by false k = (later-start p.0 c s.0, k)

lt-turned : (r a b : ℤ) → int_lt (r -ℤ a) (r -ℤ b) ≡ int_lt b a
lt-turned r a b = same-tests (int_lt (r -ℤ a) (r -ℤ b)) (int_lt b a) (there r a b) (back r a b)
  where
    there : (r a b : ℤ) → int_lt (r -ℤ a) (r -ℤ b) ≡ true → int_lt b a ≡ true
    there r a b h = grind (arith, ints)

    back : (r a b : ℤ) → int_lt b a ≡ true → int_lt (r -ℤ a) (r -ℤ b) ≡ true
    back r a b h = grind (arith, ints)

-- minutes to one report are listed the other way round than instants
pub turned : (r a b : ℤ) → int_cmp (r -ℤ a) (r -ℤ b) ≡ int_cmp b a
turned r a b =
    ap (λ t. cond t Less (cond (int_lt (r -ℤ b) (r -ℤ a)) Greater Equal)) (lt-turned r a b)
    ∙ ap (λ t. cond (int_lt b a) Less (cond t Greater Equal)) (lt-turned r b a)
