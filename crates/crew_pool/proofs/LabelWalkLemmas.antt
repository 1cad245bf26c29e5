-- The order of the walks of tails.
use Rattle.std.proofs.Common.{◌≡◌, ℕ, true, false, List, [], ◌∷◌, ◌++◌, ◌⊎◌, inl, inr, length, refl, sym, ◌∙◌, ap, subst, arith, ⊎_elim, Ordering}
use Rattle.std.specs.Prelude.{nat_eq, reverse}
use Rattle.std.specs.Cmp.Lexicographic.{slice_cmp}
use Rattle.std.specs.Ordering.{is_le, is_lt, nat_cmp, ordering_then, ordering_reverse}
use Rattle.std.specs.declared.cmp.Ordering.TheVariants.{Less, Equal, Greater}
use Rattle.std.proofs.lemmas.Bool.{cases_Bool, false≢true, cond-true, cond-false}
use Rattle.std.proofs.lemmas.Cmp.{nat_cmp_total, tied_itself, lists_total}
use Rattle.std.proofs.lemmas.Map.Lookups.{exact_unsigned}
use Rattle.std.proofs.lemmas.Map.Views.{exact_unsigned_eq}
use Rattle.crew_resource.proofs.ListOrder.{at_most_order, lists_exact}
use Rattle.crew_resource.proofs.Order.{IsOrder}
use Rattle.crew_pool.specs.Arena.{walk_at}
use Rattle.crew_pool.specs.LabelWalks.{duty_of, walk_of_label, ranks_at_most, lesser_label_walk, AreAlike}
use Rattle.crew_pool.specs.declared.label_walk.LabelWalk.{LabelWalk}

then_again : (a b c : Ordering) → ordering_then (ordering_then a b) c ≡ ordering_then a (ordering_then b c)
then_again Less b c = refl
then_again Equal b c = refl
then_again Greater b c = refl

then_equal : (a : Ordering) → ordering_then a Equal ≡ a
then_equal Less = refl
then_equal Equal = refl
then_equal Greater = refl

-- lists of one length, and then what comes after them
cmp_append : (w v s t : List ℕ) → length w ≡ length v → slice_cmp nat_cmp (w ++ s) (v ++ t) ≡ ordering_then (slice_cmp nat_cmp w v) (slice_cmp nat_cmp s t)
cmp_append [] [] s t e = refl
cmp_append [] (y ∷ v) s t e = absurd (let z : ⊥ = omega arith in z)
cmp_append (x ∷ w) [] s t e = absurd (let z : ⊥ = omega arith in z)
cmp_append (x ∷ w) (y ∷ v) s t e =
    ap (ordering_then (nat_cmp x y)) (cmp_append w v s t (omega arith)) ∙ sym (then_again (nat_cmp x y) (slice_cmp nat_cmp w v) (slice_cmp nat_cmp s t))

pub duty_none : (d : ℕ) → nat_eq d 4294967295 ≡ true → duty_of d ≡ []
duty_none d h = cond-true (nat_eq d 4294967295) [] (d ∷ []) h

pub duty_some : (d : ℕ) → nat_eq d 4294967295 ≡ false → duty_of d ≡ d ∷ []
duty_some d h = cond-false (nat_eq d 4294967295) [] (d ∷ []) h

duties_cmp : (d e : ℕ) → nat_eq d 4294967295 ≡ nat_eq e 4294967295 → slice_cmp nat_cmp (duty_of d) (duty_of e) ≡ nat_cmp d e
duties_cmp d e h =
    ⊎_elim {C = slice_cmp nat_cmp (duty_of d) (duty_of e) ≡ nat_cmp d e}
    (λ t.
    let u : nat_eq e 4294967295 ≡ true = sym h ∙ t in
    let same : d ≡ e = exact_unsigned_eq d 4294967295 t ∙ sym (exact_unsigned_eq e 4294967295 u) in
    ap (λ z. slice_cmp nat_cmp z (duty_of e)) (duty_none d t) ∙ (ap (slice_cmp nat_cmp []) (duty_none e u) ∙ (sym (tied_itself nat_cmp_total e) ∙ ap (λ z. nat_cmp z e) (sym same))))
    (λ f.
    let u : nat_eq e 4294967295 ≡ false = sym h ∙ f in
    ap (λ z. slice_cmp nat_cmp z (duty_of e)) (duty_some d f) ∙ (ap (slice_cmp nat_cmp (d ∷ [])) (duty_some e u) ∙ then_equal (nat_cmp d e)))
    (cases_Bool (nat_eq d 4294967295))

-- the walks' order, and then their duties'
pub tails_cmp : (walks : List (List ℕ)) (a b : LabelWalk) → AreAlike walks b a
    → slice_cmp nat_cmp (walk_of_label walks a) (walk_of_label walks b) ≡ ordering_then (slice_cmp nat_cmp (walk_at walks a.walk) (walk_at walks b.walk)) (nat_cmp a.duty b.duty)
tails_cmp walks a b h =
    cmp_append (walk_at walks a.walk) (walk_at walks b.walk) (duty_of a.duty) (duty_of b.duty) (sym h.long)
    ∙ ap (ordering_then (slice_cmp nat_cmp (walk_at walks a.walk) (walk_at walks b.walk))) (duties_cmp a.duty b.duty (sym h.duties))

-- walks by rank are ordered, and equal in the order is the same
pub ranks_order : IsOrder ranks_at_most
ranks_order = at_most_order (slice_cmp nat_cmp) (lists_total nat_cmp_total) (lists_exact nat_cmp exact_unsigned)

less_is : (o r : Ordering) → r ≡ ordering_reverse o → is_lt o ≡ false → is_le r ≡ true
less_is Less r e h = absurd (false≢true (sym h))
less_is Equal r e h = ap is_le e
less_is Greater r e h = ap is_le e

lt_le : (o : Ordering) → is_lt o ≡ true → is_le o ≡ true
lt_le Less h = refl
lt_le Equal h = refl
lt_le Greater h = absurd (false≢true h)

-- the lesser walk is one of the two, and at most both
pub lesser_label_walk_facts : (walks : List (List ℕ)) (a b : LabelWalk)
    → ((lesser_label_walk walks a b ≡ a) ⊎ (lesser_label_walk walks a b ≡ b)) × (ranks_at_most (walk_of_label walks (lesser_label_walk walks a b)) (walk_of_label walks a) ≡ true) × (ranks_at_most (walk_of_label walks (lesser_label_walk walks a b)) (walk_of_label walks b) ≡ true)
lesser_label_walk_facts walks a b =
    let R = slice_cmp nat_cmp in
    let wa = walk_of_label walks a in
    let wb = walk_of_label walks b in
    ⊎_elim {C = ((lesser_label_walk walks a b ≡ a) ⊎ (lesser_label_walk walks a b ≡ b)) × (ranks_at_most (walk_of_label walks (lesser_label_walk walks a b)) wa ≡ true) × (ranks_at_most (walk_of_label walks (lesser_label_walk walks a b)) wb ≡ true)}
    (λ t. let is : lesser_label_walk walks a b ≡ b = cond-true (is_lt (R wb wa)) b a t in
    (inr is, subst (λ z. ranks_at_most (walk_of_label walks z) wa ≡ true) (sym is) (lt_le (R wb wa) t), subst (λ z. ranks_at_most (walk_of_label walks z) wb ≡ true) (sym is) (ranks_order.reflexive wb)))
    (λ f. let is : lesser_label_walk walks a b ≡ a = cond-false (is_lt (R wb wa)) b a f in
    (inl is, subst (λ z. ranks_at_most (walk_of_label walks z) wa ≡ true) (sym is) (ranks_order.reflexive wa), subst (λ z. ranks_at_most (walk_of_label walks z) wb ≡ true) (sym is) (less_is (R wb wa) (R wa wb) ((lists_total nat_cmp_total).antisymm wa wb) f)))
    (cases_Bool (is_lt (R wb wa)))

-- a duty alone, or none, is the same turned round
pub reverse-duty : (d : ℕ) → reverse (duty_of d) ≡ duty_of d
reverse-duty d =
    ⊎_elim {C = reverse (duty_of d) ≡ duty_of d}
    (λ t. ap reverse (duty_none d t) ∙ sym (duty_none d t))
    (λ f. ap reverse (duty_some d f) ∙ sym (duty_some d f))
    (cases_Bool (nat_eq d 4294967295))
