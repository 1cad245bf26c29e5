-- The entries of fronts that are gone over as their labels stand.
use Rattle.std.proofs.Common.{◌≡◌, ◌∙◌, ◌++◌, List, [], ◌∷◌, inl, refl, sym, ap, append-nil, length, subst}
use Rattle.std.specs.Cmp.{on_total}
use Rattle.std.specs.Iterator.{Yields, YieldsFirst}
use Rattle.std.proofs.lemmas.List.Sorted.{IsPermutation-sym}
use Rattle.crew_pairing.proofs.Shuffled.{Member-shuffled}
use Rattle.crew_resource.proofs.Members.{Member-append_right}
use Rattle.crew_resource.proofs.Rising.{Rising}
use Rattle.crew_resource.specs.Members.{Member}
use Rattle.crew_solve.proofs.Lent.{Entry, by_vector-permutes, vector-total}
use Rattle.crew_solve.proofs.Within.{as-long}
use Rattle.crew_solve.specs.Machinery.Lent.{by_vector}
use Rattle.crew_vector.specs.Fronts.{RiseByVector, vector_cmp}

-- what an iterator has left
pub left-first : {S A : Type 0} (rest : S → List A) (s : S) (xs : List A) (t : S) → Yields (YieldsFirst rest) s xs t → rest s ≡ xs ++ rest t
left-first rest s [] t y = ap rest y
left-first {A = A} rest s (x ∷ xs) t y = y.1 ∙ ap (λ (l : List A). x ∷ l) (left-first rest y.0 xs t y.2)

-- all that is shown has been gone over
pub gone-over : {A : Type 0} (xs ys rest : List A) → xs ≡ ys ++ rest → rest ≡ [] → xs ≡ ys
gone-over {A} xs ys rest e n = e ∙ (ap (λ (l : List A). ys ++ l) n ∙ append-nil ys)

-- an entry that stands between others
pub stands-between : {X : Type 0} (xs ys : List X) (x : X) → Member (xs ++ x ∷ ys) x
stands-between xs ys x = Member-append_right xs (x ∷ ys) x (inl refl)

-- a front has the entries that are shown of it, and no others
pub shows : (front shown : List Entry) → front ≡ by_vector shown → (e : Entry) → Member shown e → Member front e
shows front shown is e m = subst (λ (l : List Entry). Member l e) (sym is) (Member-shuffled shown (by_vector shown) e (by_vector-permutes shown) m)

pub shown-of : (front shown : List Entry) → front ≡ by_vector shown → (e : Entry) → Member front e → Member shown e
shown-of front shown is e m = Member-shuffled (by_vector shown) shown e (IsPermutation-sym shown (by_vector shown) (by_vector-permutes shown)) (subst (λ (l : List Entry). Member l e) is m)

-- fronts of which one has all entries of the other, and which are as long, are one
rising : (es : List Entry) → RiseByVector es → Rising (λ (x y : Entry). vector_cmp x.0 y.0) es
rising [] h = tt
rising (e ∷ es) h = (h.0, rising es h.1)

pub one-front : (xs ys : List Entry) → RiseByVector xs → RiseByVector ys → ((e : Entry) → Member xs e → Member ys e) → length xs ≡ length ys → xs ≡ ys
one-front xs ys h k f long = as-long (λ (x y : Entry). vector_cmp x.0 y.0) (on_total (λ (e : Entry). e.0) vector-total) ys xs (rising xs h) (rising ys k) f long
