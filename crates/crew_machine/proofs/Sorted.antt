-- The front of each node, in order of vector.
use Rattle.std.proofs.Common.{◌≡◌, ℤ, pos, List, [], ◌∷◌, ◌⊎◌, inl, inr, refl, sym, ◌∙◌, ap, subst, ⊎_elim}
use Rattle.std.specs.Cmp.Lexicographic.{slice_cmp}
use Rattle.std.specs.Ordering.{int_cmp, ordering_reverse, ordering_then}
use Rattle.std.specs.declared.cmp.Ordering.{Ordering}
use Rattle.std.specs.declared.cmp.Ordering.TheVariants.{Less, Equal, Greater}
use Rattle.crew_answers.proofs.PlainNodes.{node-front}
use Rattle.crew_answers.proofs.Unique.{vector-total}
use Rattle.crew_answers.specs.Fronts.{IsFrontAt, RiseByVector, period_cmp, vector_cmp}
use Rattle.crew_answers.specs.LongVectors.{LongVector}
use Rattle.crew_answers.proofs.crew_history_lemmas.FixedHistories.{pair_exact}
use Rattle.crew_resource.proofs.ListOrder.{lists_exact}
use Rattle.crew_flights.specs.Timetable.{IsSound, Timetable}
use Rattle.crew_machine.specs.Crew.{DutyNode, Entries, IsFrontOf, IsNodeOf}
use Rattle.crew_pairing.specs.Legs.{Leg}
use Rattle.crew_pairing.specs.declared.vector.PairingVector.{PairingVector}
use Rattle.crew_resource.specs.Members.{Each, Member}
use Rattle.crew_rules.specs.Settings.{IsChecked}
use Rattle.crew_rules.specs.declared.settings.Settings.{Settings}
use Rattle.crew_answers.specs.crew_vector.Fronts as Sums
use Rattle.crew_answers.specs.crew_vector.Machinery.Named.{named_order}

abbrev Entry : Type 0
Entry = LongVector × List (List Leg)

abbrev choose : {X : Type 0} → Ordering → X → X → X → X
choose Less a b c = a
choose Equal a b c = b
choose Greater a b c = c

-- an entry put in its place; the one with its vector stays
abbrev insert : Entry → Entries → Entries
insert e [] = e ∷ []
insert e (x ∷ xs) = choose (vector_cmp e.0 x.0) (e ∷ x ∷ xs) (x ∷ xs) (x ∷ insert e xs)

abbrev sorted : Entries → Entries
sorted [] = []
sorted (e ∷ es) = insert e (sorted es)

both-equal : (o p : Ordering) → ordering_then o p ≡ Equal → (o ≡ Equal) × (p ≡ Equal)
both-equal Less p e = absurd (cc)
both-equal Equal p e = (refl, e)
both-equal Greater p e = absurd (cc)

int-exact : (a b : ℤ) → int_cmp a b ≡ Equal → a ≡ b
int-exact a b e = ap (λ (p : ℤ × ℤ). p.0) (pair_exact (a, pos 0) (b, pos 0) (ap (λ (o : Ordering). ordering_then o (int_cmp (pos 0) (pos 0))) e))

-- vectors that are listed alike are one
exact : (u v : LongVector) → vector_cmp u v ≡ Equal → u ≡ v
exact u v e =
    let p = both-equal (Sums.vector_cmp u.sums v.sums) (ordering_then (int_cmp u.since_rest v.since_rest) (slice_cmp period_cmp u.history v.history)) e in
    let q = both-equal (int_cmp u.since_rest v.since_rest) (slice_cmp period_cmp u.history v.history) p.1 in
    ap (λ (z : PairingVector). let r : LongVector = record { sums = z; since_rest = u.since_rest; history = u.history } in r) (named_order.exact u.sums v.sums p.0)
    ∙ (ap (λ (z : ℤ). let r : LongVector = record { sums = v.sums; since_rest = z; history = u.history } in r) (int-exact u.since_rest v.since_rest q.0)
    ∙ ap (λ (z : List (ℤ × ℤ)). let r : LongVector = record { sums = v.sums; since_rest = v.since_rest; history = z } in r) (lists_exact period_cmp pair_exact u.history v.history q.1))

from-order : (o : Ordering) (e x : Entry) (xs ys : Entries) (z : Entry) → (Member ys z → (e ≡ z) ⊎ Member xs z) → Member (choose o (e ∷ x ∷ xs) (x ∷ xs) (x ∷ ys)) z → (e ≡ z) ⊎ Member (x ∷ xs) z
from-order Less e x xs ys z f m = m
from-order Equal e x xs ys z f m = inr m
from-order Greater e x xs ys z f m = ⊎_elim (λ q. inr (inl q)) (λ k. ⊎_elim inl (λ h. inr (inr h)) (f k)) m

insert-from : (e : Entry) (xs : Entries) (z : Entry) → Member (insert e xs) z → (e ≡ z) ⊎ Member xs z
insert-from e [] z m = ⊎_elim inl (λ k. absurd k) m
insert-from e (x ∷ xs) z m = from-order (vector_cmp e.0 x.0) e x xs (insert e xs) z (insert-from e xs z) m

keep-order : (o : Ordering) (e x : Entry) (xs ys : Entries) (z : Entry) → (Member xs z → Member ys z) → Member (x ∷ xs) z → Member (choose o (e ∷ x ∷ xs) (x ∷ xs) (x ∷ ys)) z
keep-order Less e x xs ys z f m = inr m
keep-order Equal e x xs ys z f m = m
keep-order Greater e x xs ys z f m = ⊎_elim inl (λ k. inr (f k)) m

insert-keeps : (e : Entry) (xs : Entries) (z : Entry) → Member xs z → Member (insert e xs) z
insert-keeps e [] z m = absurd m
insert-keeps e (x ∷ xs) z m = keep-order (vector_cmp e.0 x.0) e x xs (insert e xs) z (insert-keeps e xs z) m

abbrev Has : LongVector → Entries → Type 0
Has v es = (w : List (List Leg)) × Member es (v, w)

has-order : (o : Ordering) (e x : Entry) (xs ys : Entries) → vector_cmp e.0 x.0 ≡ o → Has e.0 ys → Has e.0 (choose o (e ∷ x ∷ xs) (x ∷ xs) (x ∷ ys))
has-order Less e x xs ys q h = (e.1, inl refl)
has-order Equal e x xs ys q h = (x.1, inl (ap (λ (v : LongVector). let z : Entry = (v, x.1) in z) (sym (exact e.0 x.0 q))))
has-order Greater e x xs ys q h = (h.0, inr h.1)

insert-has : (e : Entry) (xs : Entries) → Has e.0 (insert e xs)
insert-has e [] = (e.1, inl refl)
insert-has e (x ∷ xs) = has-order (vector_cmp e.0 x.0) e x xs (insert e xs) refl (insert-has e xs)

abbrev After : LongVector → Entries → Type 0
After v es = Each (λ l. vector_cmp v l.0 ≡ Less) es

after-order : (o : Ordering) (v : LongVector) (e x : Entry) (xs ys : Entries) → vector_cmp v e.0 ≡ Less → After v (x ∷ xs) → After v ys → After v (choose o (e ∷ x ∷ xs) (x ∷ xs) (x ∷ ys))
after-order Less v e x xs ys q h k = (q, h)
after-order Equal v e x xs ys q h k = h
after-order Greater v e x xs ys q h k = (h.0, k)

insert-after : (v : LongVector) (e : Entry) (xs : Entries) → vector_cmp v e.0 ≡ Less → After v xs → After v (insert e xs)
insert-after v e [] q h = (q, tt)
insert-after v e (x ∷ xs) q h = after-order (vector_cmp e.0 x.0) v e x xs (insert e xs) q h (insert-after v e xs q h.1)

after-less : (u v : LongVector) (xs : Entries) → vector_cmp u v ≡ Less → After v xs → After u xs
after-less u v [] q h = tt
after-less u v (x ∷ xs) q h = (vector-total.trans u v x.0 q h.0, after-less u v xs q h.1)

rise-order : (o : Ordering) (e x : Entry) (xs ys : Entries) → vector_cmp e.0 x.0 ≡ o → RiseByVector (x ∷ xs) → (vector_cmp x.0 e.0 ≡ Less → After x.0 ys) → RiseByVector ys → RiseByVector (choose o (e ∷ x ∷ xs) (x ∷ xs) (x ∷ ys))
rise-order Less e x xs ys q h f k = ((q, after-less e.0 x.0 xs q h.0), h)
rise-order Equal e x xs ys q h f k = h
rise-order Greater e x xs ys q h f k = (f (vector-total.antisymm x.0 e.0 ∙ ap ordering_reverse q), k)

insert-rises : (e : Entry) (xs : Entries) → RiseByVector xs → RiseByVector (insert e xs)
insert-rises e [] h = (tt, tt)
insert-rises e (x ∷ xs) h = rise-order (vector_cmp e.0 x.0) e x xs (insert e xs) refl h (λ q. insert-after x.0 e xs q h.0) (insert-rises e xs h.1)

sorted-rises : (es : Entries) → RiseByVector (sorted es)
sorted-rises [] = tt
sorted-rises (e ∷ es) = insert-rises e (sorted es) (sorted-rises es)

sorted-from : (es : Entries) (z : Entry) → Member (sorted es) z → Member es z
sorted-from [] z m = m
sorted-from (e ∷ es) z m = ⊎_elim inl (λ k. inr (sorted-from es z k)) (insert-from e (sorted es) z m)

sorted-has : (es : Entries) (v : LongVector) (w : List (List Leg)) → Member es (v, w) → Has v (sorted es)
sorted-has [] v w m = absurd m
sorted-has (e ∷ es) v w m =
    ⊎_elim
    (λ q. subst (λ (z : Entry). Has z.0 (insert e (sorted es))) q (insert-has e (sorted es)))
    (λ k. let r = sorted-has es v w k in (r.0, insert-keeps e (sorted es) (v, r.0) r.1))
    m

-- each node has a front in order of vector
pub rising-front : (s : Settings) (t : Timetable) → IsChecked s → IsSound t → (n : DutyNode) → IsNodeOf s t n → (f : Entries) × IsFrontOf s t n f
rising-front s t checked sound n is =
    let some = node-front s t n.base is.price checked sound n.duty is.legal in
    let es = some.0 in
    let f = some.1 in
    let front : IsFrontAt s t n.base is.price n.duty (sorted es) = record {
      clean = λ v w m. f.clean v w (sorted-from es (v, w) m);
      undominated = λ v w m. f.undominated v w (sorted-from es (v, w) m);
      least = λ v w y m c. f.least v w y (sorted-from es (v, w) m) c;
      every = λ v u. (let r = f.every v u in sorted-has es v r.0 r.1);
    } in
    (sorted es, record { price = is.price; based = is.based; front = front; rises = sorted-rises es })
