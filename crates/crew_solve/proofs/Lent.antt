-- Entries put in order of vector.
use Rattle.std.proofs.Common.{◌≡◌, ◌∙◌, ◌++◌, ◌⊎◌, ◌&&◌, append-nil, true, false, cond, List, [], ◌∷◌, Option, Some, None, suc, refl, sym, ap, subst, inl, inr, ⊎_elim, length, map}
use Rattle.std.specs.Prelude.{slice_get}
use Rattle.std.specs.List.Sorted.{IsPermutation}
use Rattle.std.proofs.lemmas.Bool.{cases_Bool, false≢true}
use Rattle.std.proofs.lemmas.List.{map-append}
use Rattle.std.proofs.lemmas.List.Sorted.{IsPermutation-cons, IsPermutation-middle, IsPermutation-refl, IsPermutation-sym, IsPermutation-trans, IsPermutation-append, length_permutation}
use Rattle.std.specs.Cmp.{IsTotalOrder, int_cmp_total, on_total, then_total}
use Rattle.std.specs.Ordering.{is_lt, ordering_reverse}
use Rattle.std.specs.declared.cmp.Ordering.{Ordering}
use Rattle.std.specs.declared.cmp.Ordering.TheVariants.{Less, Equal, Greater}
use Rattle.crew_pairing.specs.Legs.{Leg}
use Rattle.crew_pairing.specs.declared.vector.PairingVector.{PairingVector}
use Rattle.crew_resource.specs.Members.{Each, Member}
use Rattle.crew_solve.specs.Machinery.Lent.{after, by_vector, is_after, is_next, next_of, put, put_all}
use Rattle.crew_vector.specs.Fronts.{RiseByVector, vector_cmp}
use Rattle.crew_vector.specs.Machinery.Named.{named_order}

abbrev pub Entry : Type 0
Entry = PairingVector × List (List Leg)

pub vector-total : IsTotalOrder vector_cmp
vector-total =
    then_total (on_total (λ (v : PairingVector). v.duty_pay) int_cmp_total)
    (then_total (on_total (λ (v : PairingVector). v.trip_rig) int_cmp_total)
    (then_total (on_total (λ (v : PairingVector). v.guarantee) int_cmp_total)
    (then_total (on_total (λ (v : PairingVector). v.fdp) int_cmp_total)
    (then_total (on_total (λ (v : PairingVector). v.fly) int_cmp_total)
    (then_total (on_total (λ (v : PairingVector). v.duties) int_cmp_total)
    (on_total (λ (v : PairingVector). v.away) int_cmp_total))))))

-- what an order's test says
less-is : (o : Ordering) → is_lt o ≡ true → o ≡ Less
less-is Less e = refl
less-is Equal e = absurd (false≢true e)
less-is Greater e = absurd (false≢true e)

not-less : (o r : Ordering) → o ≡ ordering_reverse r → is_lt o ≡ false → (r ≡ Less) ⊎ (r ≡ Equal)
not-less o Less e f = inl refl
not-less o Equal e f = inr refl
not-less o Greater e f = absurd (false≢true (sym f ∙ ap is_lt e))

-- x before y, and z not before y: x before z
before-rest : (x y z : PairingVector) → is_lt (vector_cmp x y) ≡ true → is_lt (vector_cmp z y) ≡ false → is_lt (vector_cmp x z) ≡ true
before-rest x y z h k =
    let less = less-is (vector_cmp x y) h in
    ⊎_elim {C = is_lt (vector_cmp x z) ≡ true} (λ q. ap is_lt (vector-total.trans x y z less q)) (λ q. ap (λ (v : PairingVector). is_lt (vector_cmp x v)) (sym (named_order.exact y z q)) ∙ h)
    (not-less (vector_cmp z y) (vector_cmp y z) (vector-total.antisymm z y) k)

itself : (v : PairingVector) → is_lt (vector_cmp v v) ≡ false
itself v = elim-itself (vector_cmp v v) (vector-total.antisymm v v)
  where
    elim-itself : (o : Ordering) → o ≡ ordering_reverse o → is_lt o ≡ false
    elim-itself Less e = absurd (false≢true (sym (ap is_lt e)))
    elim-itself Equal e = refl
    elim-itself Greater e = refl

-- no later entry comes before an earlier one
abbrev pub AreOrdered : List Entry → Type 0
AreOrdered [] = Unit {0}
AreOrdered (e ∷ es) = Each (λ later. is_lt (vector_cmp later.0 e.0) ≡ false) es × AreOrdered es

each-put : (P : Entry → Type 0) (es : List Entry) (x : Entry) → P x → Each P es → Each P (put es x)
each-put P [] x p h = (p, tt)
each-put P (e ∷ es) x p h = elim (is_lt (vector_cmp x.0 e.0)) as (λ b. Each P (cond b (x ∷ e ∷ es) (e ∷ put es x))) [ true ↦ (p, h) | false ↦ (h.0, each-put P es x p h.1) ]

asymmetric : (x y : PairingVector) → is_lt (vector_cmp x y) ≡ true → is_lt (vector_cmp y x) ≡ false
asymmetric x y h = ap is_lt (vector-total.antisymm y x ∙ ap ordering_reverse (less-is (vector_cmp x y) h))

each-later : (x y : PairingVector) (es : List Entry) → is_lt (vector_cmp x y) ≡ true → Each (λ later. is_lt (vector_cmp later.0 y) ≡ false) es → Each (λ later. is_lt (vector_cmp later.0 x) ≡ false) es
each-later x y [] h k = tt
each-later x y (e ∷ es) h k = (asymmetric x e.0 (before-rest x y e.0 h k.0), each-later x y es h k.1)

put-ordered : (es : List Entry) (x : Entry) → AreOrdered es → AreOrdered (put es x)
put-ordered [] x h = (tt, tt)
put-ordered (e ∷ es) x h =
    ⊎_elim {C = AreOrdered (put (e ∷ es) x)}
    (λ t. let r : AreOrdered (x ∷ e ∷ es) = ((asymmetric x.0 e.0 t, each-later x.0 e.0 es t h.0), h) in subst (λ b. AreOrdered (cond b (x ∷ e ∷ es) (e ∷ put es x))) (sym t) r)
    (λ f. let r : AreOrdered (e ∷ put es x) = (each-put (λ later. is_lt (vector_cmp later.0 e.0) ≡ false) es x f h.0, put-ordered es x h.1) in subst (λ b. AreOrdered (cond b (x ∷ e ∷ es) (e ∷ put es x))) (sym f) r)
    (cases_Bool (is_lt (vector_cmp x.0 e.0)))

all-ordered : (so_far es : List Entry) → AreOrdered so_far → AreOrdered (put_all so_far es)
all-ordered so_far [] h = h
all-ordered so_far (e ∷ es) h = all-ordered (put so_far e) es (put-ordered so_far e h)

pub by_vector-ordered : (es : List Entry) → AreOrdered (by_vector es)
by_vector-ordered es = all-ordered [] es tt

-- an entry more at the end
put_all-more : (so_far es : List Entry) (x : Entry) → put_all so_far (es ++ x ∷ []) ≡ put (put_all so_far es) x
put_all-more so_far [] x = refl
put_all-more so_far (e ∷ es) x = put_all-more (put so_far e) es x

pub by_vector-more : (es : List Entry) (x : Entry) → by_vector (es ++ x ∷ []) ≡ put (by_vector es) x
by_vector-more es x = put_all-more [] es x

-- they are the same entries
put-permutes : (es : List Entry) (x : Entry) → IsPermutation (x ∷ es) (put es x)
put-permutes [] x = IsPermutation-refl (x ∷ [])
put-permutes (e ∷ es) x =
    let swapped : IsPermutation (x ∷ e ∷ es) (e ∷ x ∷ es) = IsPermutation-middle (x ∷ []) e es in
    elim (is_lt (vector_cmp x.0 e.0)) as (λ b. IsPermutation (x ∷ e ∷ es) (cond b (x ∷ e ∷ es) (e ∷ put es x)))
    [ true ↦ IsPermutation-refl (x ∷ e ∷ es) | false ↦ IsPermutation-trans (x ∷ e ∷ es) (e ∷ x ∷ es) (e ∷ put es x) swapped (IsPermutation-cons e (x ∷ es) (put es x) (put-permutes es x)) ]

put_all-permutes : (so_far es : List Entry) → IsPermutation (es ++ so_far) (put_all so_far es)
put_all-permutes so_far [] = IsPermutation-refl so_far
put_all-permutes so_far (e ∷ es) =
    let back : IsPermutation (e ∷ (es ++ so_far)) (es ++ e ∷ so_far) = IsPermutation-sym (es ++ e ∷ so_far) (e ∷ (es ++ so_far)) (IsPermutation-middle es e so_far) in
    let on : IsPermutation (es ++ e ∷ so_far) (es ++ put so_far e) = IsPermutation-append es es (e ∷ so_far) (put so_far e) (IsPermutation-refl es) (put-permutes so_far e) in
    IsPermutation-trans (e ∷ (es ++ so_far)) (es ++ e ∷ so_far) (put_all (put so_far e) es) back (IsPermutation-trans (es ++ e ∷ so_far) (es ++ put so_far e) (put_all (put so_far e) es) on (put_all-permutes (put so_far e) es))

pub by_vector-permutes : (es : List Entry) → IsPermutation es (by_vector es)
by_vector-permutes es = subst (λ (l : List Entry). IsPermutation l (by_vector es)) (append-nil es) (put_all-permutes [] es)

pub by_vector-long : (es : List Entry) → length (by_vector es) ≡ length es
by_vector-long es = length_permutation es (by_vector es) (by_vector-permutes es)

pub map-long : {X Y : Type 0} (f : X → Y) (xs : List X) → length (map f xs) ≡ length xs
map-long f [] = refl
map-long f (x ∷ xs) = ap suc (map-long f xs)

-- entries of which no two have one vector rise
abbrev pub AreFresh : List Entry → Type 0
AreFresh [] = Unit {0}
AreFresh (e ∷ es) = ((x : Entry) → Member es x → vector_cmp e.0 x.0 ≡ Equal → ⊥) × AreFresh es

after-fresh : (e : Entry) (es : List Entry) → Each (λ later. is_lt (vector_cmp later.0 e.0) ≡ false) es → ((x : Entry) → Member es x → vector_cmp e.0 x.0 ≡ Equal → ⊥) → Each (λ later. vector_cmp e.0 later.0 ≡ Less) es
after-fresh e [] h f = tt
after-fresh e (x ∷ es) h f =
    (⊎_elim {C = vector_cmp e.0 x.0 ≡ Less} (λ q. q) (λ q. absurd (f x (inl refl) q)) (not-less (vector_cmp x.0 e.0) (vector_cmp e.0 x.0) (vector-total.antisymm x.0 e.0) h.0), after-fresh e es h.1 (λ y m. f y (inr m)))

ordered-rise : (es : List Entry) → AreOrdered es → AreFresh es → RiseByVector es
ordered-rise [] h f = tt
ordered-rise (e ∷ es) h f = (after-fresh e es h.0 f.0, ordered-rise es h.1 f.1)

equal-back : (x y : PairingVector) → vector_cmp x y ≡ Equal → vector_cmp y x ≡ Equal
equal-back x y q = vector-total.antisymm y x ∙ ap ordering_reverse q

put-from : (es : List Entry) (x y : Entry) → Member (put es x) y → (x ≡ y) ⊎ Member es y
put-from [] x y m = m
put-from (e ∷ es) x y m =
    ⊎_elim {C = (x ≡ y) ⊎ Member (e ∷ es) y}
    (λ t. subst (λ b. Member (cond b (x ∷ e ∷ es) (e ∷ put es x)) y) t m)
    (λ f.
    ⊎_elim {C = (x ≡ y) ⊎ Member (e ∷ es) y}
    (λ i. inr (inl i))
    (λ k. ⊎_elim {C = (x ≡ y) ⊎ Member (e ∷ es) y} inl (λ g. inr (inr g)) (put-from es x y k))
    (subst (λ b. Member (cond b (x ∷ e ∷ es) (e ∷ put es x)) y) f m))
    (cases_Bool (is_lt (vector_cmp x.0 e.0)))

put-fresh : (es : List Entry) (x : Entry) → AreFresh es → ((e : Entry) → Member es e → vector_cmp x.0 e.0 ≡ Equal → ⊥) → AreFresh (put es x)
put-fresh [] x h f = ((λ y m q. absurd m), tt)
put-fresh (e ∷ es) x h f =
    elim (is_lt (vector_cmp x.0 e.0)) as (λ b. AreFresh (cond b (x ∷ e ∷ es) (e ∷ put es x))) [
      | true ↦ (f, h)
      | false ↦ (
        λ y m q. ⊎_elim {C = ⊥} (λ i. f e (inl refl) (ap (λ (z : Entry). vector_cmp z.0 e.0) i ∙ equal-back e.0 y.0 q)) (λ k. h.0 y k q) (put-from es x y m),
        put-fresh es x h.1 (λ y m. f y (inr m)),
      )
    ]

all-fresh : (so_far es : List Entry) → AreFresh so_far → AreFresh es → ((e x : Entry) → Member so_far e → Member es x → vector_cmp x.0 e.0 ≡ Equal → ⊥) → AreFresh (put_all so_far es)
all-fresh so_far [] h k f = h
all-fresh so_far (x ∷ es) h k f =
    all-fresh (put so_far x) es (put-fresh so_far x h (λ e m. f e x m (inl refl))) k.1
    (λ e y m n q. ⊎_elim {C = ⊥} (λ i. k.0 y n (ap (λ (z : Entry). vector_cmp z.0 y.0) i ∙ equal-back y.0 e.0 q)) (λ g. f e y g (inr n) q) (put-from so_far x e m))

pub by_vector-rises : (es : List Entry) → AreFresh es → RiseByVector (by_vector es)
by_vector-rises es h = ordered-rise (by_vector es) (by_vector-ordered es) (all-fresh [] es tt h (λ e x m. absurd m))

-- the first after a vector, once one more is put among the entries
first-later : (last : Option PairingVector) (es : List Entry) (x y : PairingVector) (e : Entry) → is_lt (vector_cmp x y) ≡ true → Each (λ later. is_lt (vector_cmp later.0 y) ≡ false) es
    → slice_get (after last es) 0 ≡ Some e → is_lt (vector_cmp x e.0) ≡ true
first-later last [] x y e h k q = absurd (let z : ⊥ = (cc) in z)
first-later last (z ∷ es) x y e h k q =
    ⊎_elim {C = is_lt (vector_cmp x e.0) ≡ true}
    (λ t. let i : z ≡ e = let r = ap (λ b. slice_get (cond b (z ∷ after last es) (after last es)) 0) (sym t) ∙ q in (cc) in ap (λ (w : Entry). is_lt (vector_cmp x w.0)) (sym i) ∙ before-rest x y z.0 h k.0)
    (λ f. first-later last es x y e h k.1 (ap (λ b. slice_get (cond b (z ∷ after last es) (after last es)) 0) (sym f) ∙ q))
    (cases_Bool (is_after last z.0))

next-none : (last : Option PairingVector) (least : Option Entry) (x : Entry) → is_after last x.0 ≡ false → next_of last least x ≡ least
next-none last None x f = ap (λ b. cond b (Some x) None) f
next-none last (Some e) x f = ap (λ b. cond (b && is_lt (vector_cmp x.0 e.0)) (Some x) (Some e)) f

next-some : (last : Option PairingVector) (least : Option Entry) (x : Entry) → is_after last x.0 ≡ true → ((e : Entry) → least ≡ Some e → is_lt (vector_cmp x.0 e.0) ≡ true) → next_of last least x ≡ Some x
next-some last None x t h = ap (λ b. cond b (Some x) None) t
next-some last (Some e) x t h = (λ i. cond (t i && h e refl i) (Some x) (Some e))

next-stays : (last : Option PairingVector) (e x : Entry) → is_lt (vector_cmp x.0 e.0) ≡ false → next_of last (Some e) x ≡ Some e
next-stays last e x f = elim (is_after last x.0) as (λ b. cond (b && is_lt (vector_cmp x.0 e.0)) (Some x) (Some e) ≡ Some e) [ true ↦ ap (λ b. cond b (Some x) (Some e)) f | false ↦ refl ]

pub first-put : (last : Option PairingVector) (es : List Entry) (x : Entry) → AreOrdered es → slice_get (after last (put es x)) 0 ≡ next_of last (slice_get (after last es) 0) x
first-put last [] x h = elim (is_after last x.0) as (λ b. slice_get (cond b (x ∷ []) []) 0 ≡ cond b (Some x) None) [ true ↦ refl | false ↦ refl ]
first-put last (y ∷ es) x h =
    let all = after last (y ∷ es) in
    let rest = after last es in
    ⊎_elim {C = slice_get (after last (put (y ∷ es) x)) 0 ≡ next_of last (slice_get all 0) x}
    (λ t.
    let out : after last (put (y ∷ es) x) ≡ cond (is_after last x.0) (x ∷ all) all = ap (λ b. after last (cond b (x ∷ y ∷ es) (y ∷ put es x))) t in
    ⊎_elim {C = slice_get (after last (put (y ∷ es) x)) 0 ≡ next_of last (slice_get all 0) x}
    (λ a. ap (λ (l : List Entry). slice_get l 0) out ∙ (ap (λ b. slice_get (cond b (x ∷ all) all) 0) a ∙ sym (next-some last (slice_get all 0) x a (λ e q. first-later last (y ∷ es) x.0 y.0 e t (itself y.0, h.0) q))))
    (λ a. ap (λ (l : List Entry). slice_get l 0) out ∙ (ap (λ b. slice_get (cond b (x ∷ all) all) 0) a ∙ sym (next-none last (slice_get all 0) x a)))
    (cases_Bool (is_after last x.0)))
    (λ f.
    let out : after last (put (y ∷ es) x) ≡ cond (is_after last y.0) (y ∷ after last (put es x)) (after last (put es x)) = ap (λ b. after last (cond b (x ∷ y ∷ es) (y ∷ put es x))) f in
    ⊎_elim {C = slice_get (after last (put (y ∷ es) x)) 0 ≡ next_of last (slice_get all 0) x}
    (λ a.
    let first : slice_get all 0 ≡ Some y = ap (λ b. slice_get (cond b (y ∷ rest) rest) 0) a in
    ap (λ (l : List Entry). slice_get l 0) out ∙ (ap (λ b. slice_get (cond b (y ∷ after last (put es x)) (after last (put es x))) 0) a ∙ (sym (next-stays last y x f) ∙ ap (λ o. next_of last o x) (sym first))))
    (λ a.
    let first : slice_get all 0 ≡ slice_get rest 0 = ap (λ b. slice_get (cond b (y ∷ rest) rest) 0) a in
    ap (λ (l : List Entry). slice_get l 0) out ∙ (ap (λ b. slice_get (cond b (y ∷ after last (put es x)) (after last (put es x))) 0) a ∙ (first-put last es x h.1 ∙ ap (λ o. next_of last o x) (sym first))))
    (cases_Bool (is_after last y.0)))
    (cases_Bool (is_lt (vector_cmp x.0 y.0)))

-- what comes after the first after a vector
all-after : (v : PairingVector) (es : List Entry) → Each (λ later. vector_cmp v later.0 ≡ Less) es → after (Some v) es ≡ es
all-after v [] h = refl
all-after v (e ∷ es) h = ap (λ b. cond (is_lt b) (e ∷ after (Some v) es) (after (Some v) es)) h.0 ∙ ap (λ (l : List Entry). e ∷ l) (all-after v es h.1)

pub after-none : (es : List Entry) → after None es ≡ es
after-none [] = refl
after-none (e ∷ es) = ap (λ (l : List Entry). e ∷ l) (after-none es)

-- an entry that comes before one after it
passed : (last : Option PairingVector) (y e : Entry) (es : List Entry) → RiseByVector (y ∷ es) → slice_get (after last es) 0 ≡ Some e → is_lt (vector_cmp e.0 y.0) ≡ false
passed last y e [] h q = absurd (let z : ⊥ = (cc) in z)
passed last y e (x ∷ es) h q =
    ⊎_elim {C = is_lt (vector_cmp e.0 y.0) ≡ false}
    (λ t. let i : x ≡ e = let r = ap (λ b. slice_get (cond b (x ∷ after last es) (after last es)) 0) (sym t) ∙ q in (cc) in ap (λ (w : Entry). is_lt (vector_cmp w.0 y.0)) (sym i) ∙ asymmetric y.0 x.0 (ap is_lt h.0.0))
    (λ f. passed last y e es (h.0.1, h.1.1) (ap (λ b. slice_get (cond b (x ∷ after last es) (after last es)) 0) (sym f) ∙ q))
    (cases_Bool (is_after last x.0))

-- what comes after one that comes after a vector comes after it too
after-too : (last : Option PairingVector) (y z : PairingVector) → is_after last y ≡ true → vector_cmp y z ≡ Less → is_after last z ≡ true
after-too None y z t h = refl
after-too (Some v) y z t h = ap is_lt (vector-total.trans v y z (less-is (vector_cmp v y) t) h)

all-later : (last : Option PairingVector) (y : Entry) (es : List Entry) → is_after last y.0 ≡ true → Each (λ later. vector_cmp y.0 later.0 ≡ Less) es → after last es ≡ es
all-later last y [] t h = refl
all-later last y (e ∷ es) t h = ap (λ b. cond b (e ∷ after last es) (after last es)) (after-too last y.0 e.0 t h.0) ∙ ap (λ (l : List Entry). e ∷ l) (all-later last y es t h.1)

pub after-first : (last : Option PairingVector) (es : List Entry) (e : Entry) → RiseByVector es → slice_get (after last es) 0 ≡ Some e → after last es ≡ e ∷ after (Some e.0) es
after-first last [] e h q = absurd (let z : ⊥ = (cc) in z)
after-first last (y ∷ es) e h q =
    ⊎_elim {C = after last (y ∷ es) ≡ e ∷ after (Some e.0) (y ∷ es)}
    (λ t.
    let i : y ≡ e = let r = ap (λ b. slice_get (cond b (y ∷ after last es) (after last es)) 0) (sym t) ∙ q in (cc) in
    let own : after (Some y.0) (y ∷ es) ≡ es = ap (λ b. cond b (y ∷ after (Some y.0) es) (after (Some y.0) es)) (itself y.0) ∙ all-after y.0 es h.0 in
    ap (λ b. cond b (y ∷ after last es) (after last es)) t ∙ (ap (λ (l : List Entry). y ∷ l) (all-later last y es t h.0 ∙ sym own) ∙ ap (λ (z : Entry). z ∷ after (Some z.0) (y ∷ es)) i))
    (λ f.
    let q' : slice_get (after last es) 0 ≡ Some e = ap (λ b. slice_get (cond b (y ∷ after last es) (after last es)) 0) (sym f) ∙ q in
    let own : after (Some e.0) (y ∷ es) ≡ after (Some e.0) es = ap (λ b. cond b (y ∷ after (Some e.0) es) (after (Some e.0) es)) (passed last y e es h q') in
    ap (λ b. cond b (y ∷ after last es) (after last es)) f ∙ (after-first last es e h.1 q' ∙ ap (λ (l : List Entry). e ∷ l) (sym own)))
    (cases_Bool (is_after last y.0))

pub first-none : (es : List Entry) → slice_get es 0 ≡ None → es ≡ []
first-none [] e = refl
first-none (x ∷ es) e = absurd (let z : ⊥ = (cc) in z)

-- a label more
pub first-more : {L : Type 0} (f : L → Entry) (last : Option PairingVector) (ls : List L) (l : L)
    → slice_get (after last (by_vector (map f (ls ++ l ∷ [])))) 0 ≡ next_of last (slice_get (after last (by_vector (map f ls))) 0) (f l)
first-more f last ls l =
    ap (λ (es : List Entry). slice_get (after last es) 0) (ap by_vector (map-append f ls (l ∷ [])) ∙ by_vector-more (map f ls) (f l))
    ∙ first-put last (by_vector (map f ls)) (f l) (by_vector-ordered (map f ls))

-- and so the least so far, where the label's entry is the next one, and where it isn't
pub taken : {L : Type 0} (f : L → Entry) (last : Option PairingVector) (ls : List L) (l : L) (least : Option Entry) (e : Entry) → least ≡ slice_get (after last (by_vector (map f ls))) 0
    → e ≡ f l → is_next last least e.0 ≡ true → Some e ≡ slice_get (after last (by_vector (map f (ls ++ l ∷ [])))) 0
taken f last ls l least e h i t =
    ap (λ b. cond b (Some e) least) (sym t) ∙ (ap (λ (x : Entry). next_of last least x) i ∙ (ap (λ o. next_of last o (f l)) h ∙ sym (first-more f last ls l)))

pub left : {L : Type 0} (f : L → Entry) (last : Option PairingVector) (ls : List L) (l : L) (least : Option Entry) (v : PairingVector) → least ≡ slice_get (after last (by_vector (map f ls))) 0
    → v ≡ (f l).0 → is_next last least v ≡ false → least ≡ slice_get (after last (by_vector (map f (ls ++ l ∷ [])))) 0
left f last ls l least v h i t =
    ap (λ b. cond b (Some (f l)) least) (sym t ∙ ap (is_next last least) i) ∙ (ap (λ o. next_of last o (f l)) h ∙ sym (first-more f last ls l))
