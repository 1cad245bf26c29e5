-- Keeping the least of many pairings.
use Rattle.std.proofs.Common.{◌≡◌, ◌∙◌, ◌⊎◌, ◌≤◌, ℕ, zero, suc, Bool, true, false, cond, ◌&&◌, ◌||◌, List, [], ◌∷◌, ◌++◌, Option, Some, None, ℤ, inl, inr, refl, sym, ap, subst, ⊎_elim, arith, length, map, take}
use Rattle.std.specs.Prelude.{filter, int_lt, ◌<ℤ◌, slice_get}
use Rattle.std.specs.BTreeSet.{insert_key}
use Rattle.std.specs.Ordering.{int_cmp, is_eq, is_lt, match_ordering, ordering_reverse, ordering_then}
use Rattle.std.specs.declared.cmp.Ordering.{Ordering}
use Rattle.std.specs.declared.cmp.Ordering.TheVariants.{Less, Equal, Greater}
use Rattle.std.proofs.lemmas.Cmp.{tied_itself}
use Rattle.std.proofs.lemmas.Int.{ints}
use Rattle.crew_pairing.specs.Keys.{walk_cmp}
use Rattle.crew_pairing.proofs.Tree.{Each-member}
use Rattle.crew_resource.specs.Members.{Each, Member}
use Rattle.crew_solve.specs.Cheapest.{RiseByCost, pairing_cmp, pairing_total}
use Rattle.crew_solve.specs.Machinery.Homes.{is_cheaper, least_of, lesser}
use Rattle.crew_solve.specs.Machinery.Keeps.{CheapestSoFar, is_wanted, keep, keep_all, nothing, nothing_beside}
use Rattle.crew_solve.specs.Machinery.Takes.{Taken, may_take}
use Rattle.crew_vector.specs.declared.priced.PricedPairing.{PricedPairing}

abbrev Ps : Type 0
Ps = List PricedPairing

-- ---- list by list

pub keep-append : (k : CheapestSoFar) (ps qs : Ps) → keep_all k (ps ++ qs) ≡ keep_all (keep_all k ps) qs
keep-append k [] qs = refl
keep-append k (p ∷ ps) qs = keep-append (keep k p) ps qs

pub keep-one-more : {X : Type 0} (k : CheapestSoFar) (f : X → PricedPairing) (xs : List X) (x : X) → keep_all k (map f (xs ++ x ∷ [])) ≡ keep (keep_all k (map f xs)) (f x)
keep-one-more k f [] x = refl
keep-one-more k f (y ∷ xs) x = keep-one-more (keep k (f y)) f xs x

-- ---- one is the least

abbrev listed : Option PricedPairing → Ps
listed None = []
listed (Some p) = p ∷ []

abbrev one : Option PricedPairing → CheapestSoFar
one o = record { limit = 1; beside = None; pairings = listed o }

cheaper-by : (a b : Bool) (r : Ordering) → (a || (is_eq (cond a Less (cond b Greater Equal)) && is_lt r)) ≡ is_lt (ordering_then (cond a Less (cond b Greater Equal)) r)
cheaper-by true b r = refl
cheaper-by false true r = refl
cheaper-by false false r = refl

is-cheaper : (p q : PricedPairing) → is_cheaper p q ≡ is_lt (pairing_cmp p q)
is-cheaper p q = cheaper-by (int_lt p.cost q.cost) (int_lt q.cost p.cost) (walk_cmp p.walk q.walk)

one-by : (p q : PricedPairing) (r : Ordering) → take 1 (match_ordering r (p ∷ q ∷ []) (q ∷ []) (q ∷ p ∷ [])) ≡ cond (is_lt r) p q ∷ []
one-by p q Less = refl
one-by p q Equal = refl
one-by p q Greater = refl

keep-lesser : (o : Option PricedPairing) (p : PricedPairing) → keep (one o) p ≡ one (lesser o p)
keep-lesser None p = refl
keep-lesser (Some q) p = ap (λ l. let k : CheapestSoFar = record { limit = 1; beside = None; pairings = l } in k) (one-by p q (pairing_cmp p q) ∙ ap (λ b. cond b p q ∷ []) (sym (is-cheaper p q)))

keep-least : (o : Option PricedPairing) (ps : Ps) → keep_all (one o) ps ≡ one (least_of o ps)
keep-least o [] = refl
keep-least o (p ∷ ps) = ap (λ k. keep_all k ps) (keep-lesser o p) ∙ keep-least (lesser o p) ps

first-listed : (o : Option PricedPairing) → slice_get (listed o) 0 ≡ o
first-listed None = refl
first-listed (Some p) = refl

pub first-is-least : (ps : Ps) → slice_get (keep_all (nothing 1) ps).pairings 0 ≡ least_of None ps
first-is-least ps = ap (λ (k : CheapestSoFar). slice_get k.pairings 0) (keep-least None ps) ∙ first-listed (least_of None ps)

-- ---- what is dearer than all, where there is no room

more : (a b : ℤ) → b <ℤ a → int_cmp a b ≡ Greater
more a b h = grind (arith, ints)

less : (a b : ℤ) → a <ℤ b → int_cmp a b ≡ Less
less a b h = grind (arith, ints)

either : (a b c : ℤ) → a <ℤ c → (a <ℤ b) ⊎ (b <ℤ c)
either a b c h = grind (arith, ints)

pub dearer : (last p q : PricedPairing) → is_lt (pairing_cmp last q) ≡ false → last.cost <ℤ p.cost → pairing_cmp p q ≡ Greater
dearer last p q h k =
    ⊎_elim {C = pairing_cmp p q ≡ Greater}
    (λ l. let both = sym (ap (λ r. is_lt (ordering_then r (walk_cmp last.walk q.walk))) (less last.cost q.cost l)) ∙ h in absurd (let z : ⊥ = (cc) in z))
    (λ l. ap (λ r. ordering_then r (walk_cmp p.walk q.walk)) (more p.cost q.cost l))
    (either last.cost q.cost p.cost k)

cut-end : (ks : Ps) (p : PricedPairing) → ((q : PricedPairing) → Member ks q → pairing_cmp p q ≡ Greater) → take (length ks) (insert_key pairing_cmp ks p) ≡ ks
cut-end [] p h = refl
cut-end (q ∷ ks) p h =
    ap (λ r. take (suc (length ks)) (match_ordering r (p ∷ q ∷ ks) (q ∷ ks) (q ∷ insert_key pairing_cmp ks p))) (h q (inl refl))
    ∙ ap (λ (l : Ps). q ∷ l) (cut-end ks p (λ r m. h r (inr m)))

either-way : (b : Bool) (xs ys : Ps) → xs ≡ ys → cond b xs ys ≡ ys
either-way true xs ys e = e
either-way false xs ys e = refl

pub keep-none : (k : CheapestSoFar) (p : PricedPairing) → length k.pairings ≡ k.limit → ((q : PricedPairing) → Member k.pairings q → pairing_cmp p q ≡ Greater) → keep k p ≡ k
keep-none k p full h =
    let at : take k.limit (insert_key pairing_cmp k.pairings p) ≡ k.pairings = ap (λ n. take n (insert_key pairing_cmp k.pairings p)) (sym full) ∙ cut-end k.pairings p h in
    let same = either-way (is_wanted k.beside p) (take k.limit (insert_key pairing_cmp k.pairings p)) k.pairings at in
    ap (λ l. let z : CheapestSoFar = record { limit = k.limit; beside = k.beside; pairings = l } in z) same

-- ---- all in order, of which the first are kept

abbrev pub sorted : Ps → Ps → Ps
sorted ys [] = ys
sorted ys (p ∷ ps) = sorted (insert_key pairing_cmp ys p) ps

take-less : (n : ℕ) (ys : Ps) → take n (take (suc n) ys) ≡ take n ys
take-less zero ys = refl
take-less (suc n) [] = refl
take-less (suc n) (y ∷ ys) = ap (λ (l : Ps). y ∷ l) (take-less n ys)

take-twice : (n : ℕ) (ys : Ps) → take n (take n ys) ≡ take n ys
take-twice zero ys = refl
take-twice (suc n) [] = refl
take-twice (suc n) (y ∷ ys) = ap (λ (l : Ps). y ∷ l) (take-twice n ys)

take-after : (n : ℕ) (y : PricedPairing) (ys : Ps) → take n (y ∷ take n ys) ≡ take n (y ∷ ys)
take-after zero y ys = refl
take-after (suc n) y ys = ap (λ (l : Ps). y ∷ l) (take-less n ys)

cut-by : (n : ℕ) (y p : PricedPairing) (ys : Ps) (r : Ordering) → take n (insert_key pairing_cmp (take n ys) p) ≡ take n (insert_key pairing_cmp ys p)
    → take (suc n) (match_ordering r (p ∷ y ∷ take n ys) (y ∷ take n ys) (y ∷ insert_key pairing_cmp (take n ys) p)) ≡ take (suc n) (match_ordering r (p ∷ y ∷ ys) (y ∷ ys) (y ∷ insert_key pairing_cmp ys p))
cut-by n y p ys Less e = ap (λ (l : Ps). p ∷ l) (take-after n y ys)
cut-by n y p ys Equal e = ap (λ (l : Ps). y ∷ l) (take-twice n ys)
cut-by n y p ys Greater e = ap (λ (l : Ps). y ∷ l) e

cut-insert : (n : ℕ) (ys : Ps) (p : PricedPairing) → take n (insert_key pairing_cmp (take n ys) p) ≡ take n (insert_key pairing_cmp ys p)
cut-insert zero ys p = refl
cut-insert (suc n) [] p = refl
cut-insert (suc n) (y ∷ ys) p = cut-by n y p ys (pairing_cmp p y) (cut-insert n ys p)

abbrev cut : Option Taken → ℕ → Ps → CheapestSoFar
cut beside n ys = record { limit = n; beside = beside; pairings = take n ys }

cut-if : (n : ℕ) (ys : Ps) (p : PricedPairing) (b : Bool) → cond b (take n (insert_key pairing_cmp (take n ys) p)) (take n ys) ≡ take n (cond b (insert_key pairing_cmp ys p) ys)
cut-if n ys p true = cut-insert n ys p
cut-if n ys p false = refl

sorted-if : (ys ps : Ps) (p : PricedPairing) (b : Bool) → sorted (cond b (insert_key pairing_cmp ys p) ys) ps ≡ sorted ys (cond b (p ∷ ps) ps)
sorted-if ys ps p true = refl
sorted-if ys ps p false = refl

keep-cut : (beside : Option Taken) (n : ℕ) (ys ps : Ps) → keep_all (cut beside n ys) ps ≡ cut beside n (sorted ys (filter (is_wanted beside) ps))
keep-cut beside n ys [] = refl
keep-cut beside n ys (p ∷ ps) =
    let b = is_wanted beside p in
    ap (λ l. let k : CheapestSoFar = record { limit = n; beside = beside; pairings = l } in keep_all k ps) (cut-if n ys p b)
    ∙ (keep-cut beside n (cond b (insert_key pairing_cmp ys p) ys) ps
    ∙ ap (cut beside n) (sorted-if ys (filter (is_wanted beside) ps) p b))

take-none : (n : ℕ) → take n (let l : Ps = [] in l) ≡ []
take-none zero = refl
take-none (suc n) = refl

kept-of : (beside : Option Taken) (n : ℕ) (ps : Ps) → (let k : CheapestSoFar = record { limit = n; beside = beside; pairings = [] } in (keep_all k ps).pairings) ≡ take n (sorted [] (filter (is_wanted beside) ps))
kept-of beside n ps =
    ap (λ l. let k : CheapestSoFar = record { limit = n; beside = beside; pairings = l } in (keep_all k ps).pairings) (sym (take-none n))
    ∙ ap (λ (k : CheapestSoFar). k.pairings) (keep-cut beside n [] ps)

all-wanted : (ps : Ps) → filter (is_wanted None) ps ≡ ps
all-wanted [] = refl
all-wanted (p ∷ ps) = ap (λ (l : Ps). p ∷ l) (all-wanted ps)

pub kept-first : (n : ℕ) (ps : Ps) → (keep_all (nothing n) ps).pairings ≡ take n (sorted [] ps)
kept-first n ps = kept-of None n ps ∙ ap (λ (l : Ps). take n (sorted [] l)) (all-wanted ps)

pub kept-beside : (n : ℕ) (taken : Taken) (ps : Ps) → (keep_all (nothing_beside n taken) ps).pairings ≡ take n (sorted [] (filter (may_take taken) ps))
kept-beside n taken ps = kept-of (Some taken) n ps

pub still-beside : (k : CheapestSoFar) (ps : Ps) → (keep_all k ps).beside ≡ k.beside
still-beside k [] = refl
still-beside k (p ∷ ps) = still-beside (keep k p) ps

-- ---- they rise

each-with : (P : PricedPairing → Type 0) (ys : Ps) (y p : PricedPairing) (r : Ordering) → P p → P y → Each P ys → Each P (insert_key pairing_cmp ys p)
    → Each P (match_ordering r (p ∷ y ∷ ys) (y ∷ ys) (y ∷ insert_key pairing_cmp ys p))
each-with P ys y p Less a b e f = (a, (b, e))
each-with P ys y p Equal a b e f = (b, e)
each-with P ys y p Greater a b e f = (b, f)

each-insert : (P : PricedPairing → Type 0) (ys : Ps) (p : PricedPairing) → Each P ys → P p → Each P (insert_key pairing_cmp ys p)
each-insert P [] p e a = (a, tt)
each-insert P (y ∷ ys) p e a = each-with P ys y p (pairing_cmp p y) a e.0 e.1 (each-insert P ys p e.1 a)

each-later : (p y : PricedPairing) (ys : Ps) → pairing_cmp p y ≡ Less → Each (λ l. pairing_cmp y l ≡ Less) ys → Each (λ l. pairing_cmp p l ≡ Less) ys
each-later p y [] h e = tt
each-later p y (z ∷ ys) h e = (pairing_total.trans p y z h e.0, each-later p y ys h e.1)

rise-by : (ys : Ps) (y p : PricedPairing) (r : Ordering) → pairing_cmp p y ≡ r → RiseByCost (y ∷ ys) → RiseByCost (insert_key pairing_cmp ys p)
    → RiseByCost (match_ordering r (p ∷ y ∷ ys) (y ∷ ys) (y ∷ insert_key pairing_cmp ys p))
rise-by ys y p Less e h f = ((e, each-later p y ys e h.0), h)
rise-by ys y p Equal e h f = h
rise-by ys y p Greater e h f = (each-insert (λ l. pairing_cmp y l ≡ Less) ys p h.0 (pairing_total.antisymm y p ∙ ap ordering_reverse e), f)

rise-insert : (ys : Ps) (p : PricedPairing) → RiseByCost ys → RiseByCost (insert_key pairing_cmp ys p)
rise-insert [] p h = (tt, tt)
rise-insert (y ∷ ys) p h = rise-by ys y p (pairing_cmp p y) refl h (rise-insert ys p h.1)

rise-sorted : (ys ps : Ps) → RiseByCost ys → RiseByCost (sorted ys ps)
rise-sorted ys [] h = h
rise-sorted ys (p ∷ ps) h = rise-sorted (insert_key pairing_cmp ys p) ps (rise-insert ys p h)

each-take : (P : PricedPairing → Type 0) (n : ℕ) (ys : Ps) → Each P ys → Each P (take n ys)
each-take P zero ys h = tt
each-take P (suc n) [] h = tt
each-take P (suc n) (y ∷ ys) h = (h.0, each-take P n ys h.1)

pub rise-take : (n : ℕ) (ys : Ps) → RiseByCost ys → RiseByCost (take n ys)
rise-take zero ys h = tt
rise-take (suc n) [] h = tt
rise-take (suc n) (y ∷ ys) h = (each-take (λ l. pairing_cmp y l ≡ Less) n ys h.0, rise-take n ys h.1)

-- ---- what stands among them

out-by : (ys : Ps) (y p q : PricedPairing) (r : Ordering) → (Member (insert_key pairing_cmp ys p) q → (p ≡ q) ⊎ Member ys q) → Member (match_ordering r (p ∷ y ∷ ys) (y ∷ ys) (y ∷ insert_key pairing_cmp ys p)) q
    → (p ≡ q) ⊎ Member (y ∷ ys) q
out-by ys y p q Less f m = m
out-by ys y p q Equal f m = inr m
out-by ys y p q Greater f (inl e) = inr (inl e)
out-by ys y p q Greater f (inr m) = ⊎_elim {C = (p ≡ q) ⊎ Member (y ∷ ys) q} (λ e. inl e) (λ k. inr (inr k)) (f m)

insert-out : (ys : Ps) (p q : PricedPairing) → Member (insert_key pairing_cmp ys p) q → (p ≡ q) ⊎ Member ys q
insert-out [] p q m = m
insert-out (y ∷ ys) p q m = out-by ys y p q (pairing_cmp p y) (insert-out ys p q) m

in-by : (ys : Ps) (y p q : PricedPairing) (r : Ordering) → (Member ys q → Member (insert_key pairing_cmp ys p) q) → Member (y ∷ ys) q
    → Member (match_ordering r (p ∷ y ∷ ys) (y ∷ ys) (y ∷ insert_key pairing_cmp ys p)) q
in-by ys y p q Less f m = inr m
in-by ys y p q Equal f m = m
in-by ys y p q Greater f (inl e) = inl e
in-by ys y p q Greater f (inr m) = inr (f m)

insert-in : (ys : Ps) (p q : PricedPairing) → Member ys q → Member (insert_key pairing_cmp ys p) q
insert-in [] p q m = absurd m
insert-in (y ∷ ys) p q m = in-by ys y p q (pairing_cmp p y) (insert-in ys p q) m

-- one that ties with it
abbrev Tied : Ps → PricedPairing → Type 0
Tied ys q = (r : PricedPairing) × Member ys r × (pairing_cmp r q ≡ Equal)

tied-by : (ys : Ps) (y p : PricedPairing) (r : Ordering) → pairing_cmp p y ≡ r → Tied (insert_key pairing_cmp ys p) p → Tied (match_ordering r (p ∷ y ∷ ys) (y ∷ ys) (y ∷ insert_key pairing_cmp ys p)) p
tied-by ys y p Less e t = (p, inl refl, tied_itself pairing_total p)
tied-by ys y p Equal e t = (y, inl refl, pairing_total.antisymm y p ∙ ap ordering_reverse e)
tied-by ys y p Greater e t = (t.0, inr t.1, t.2)

tied-insert : (ys : Ps) (p : PricedPairing) → Tied (insert_key pairing_cmp ys p) p
tied-insert [] p = (p, inl refl, tied_itself pairing_total p)
tied-insert (y ∷ ys) p = tied-by ys y p (pairing_cmp p y) refl (tied-insert ys p)

sorted-in : (ys ps : Ps) (q : PricedPairing) → Member ys q → Member (sorted ys ps) q
sorted-in ys [] q m = m
sorted-in ys (p ∷ ps) q m = sorted-in (insert_key pairing_cmp ys p) ps q (insert-in ys p q m)

pub sorted-out : (ys ps : Ps) (q : PricedPairing) → Member (sorted ys ps) q → Member ys q ⊎ Member ps q
sorted-out ys [] q m = inl m
sorted-out ys (p ∷ ps) q m =
    ⊎_elim {C = Member ys q ⊎ Member (p ∷ ps) q}
    (λ k. ⊎_elim {C = Member ys q ⊎ Member (p ∷ ps) q} (λ e. inr (inl e)) (λ j. inl j) (insert-out ys p q k))
    (λ k. inr (inr k))
    (sorted-out (insert_key pairing_cmp ys p) ps q m)

sorted-has : (ys ps : Ps) (q : PricedPairing) → Member ps q → Tied (sorted ys ps) q
sorted-has ys [] q m = absurd m
sorted-has ys (p ∷ ps) q (inl e) =
    let t = tied-insert ys p in
    (t.0, sorted-in (insert_key pairing_cmp ys p) ps t.0 t.1, subst (λ z. pairing_cmp t.0 z ≡ Equal) e t.2)
sorted-has ys (p ∷ ps) q (inr m) = sorted-has (insert_key pairing_cmp ys p) ps q m

pub take-out : (n : ℕ) (ys : Ps) (q : PricedPairing) → Member (take n ys) q → Member ys q
take-out zero ys q m = absurd m
take-out (suc n) [] q m = absurd m
take-out (suc n) (y ∷ ys) q (inl e) = inl e
take-out (suc n) (y ∷ ys) q (inr m) = inr (take-out n ys q m)

-- it stands among the first, or these are so many and each comes before it
abbrev pub StandsFirst : ℕ → Ps → PricedPairing → Type 0
StandsFirst n ps q = Member ps q ⊎ ((length ps ≡ n) × Each (λ p. pairing_cmp p q ≡ Less) ps)

pub take-or : (n : ℕ) (ys : Ps) (q : PricedPairing) → RiseByCost ys → Member ys q → StandsFirst n (take n ys) q
take-or zero ys q h m = inr (refl, tt)
take-or (suc n) [] q h m = absurd m
take-or (suc n) (y ∷ ys) q h (inl e) = inl (inl e)
take-or (suc n) (y ∷ ys) q h (inr m) =
    ⊎_elim {C = StandsFirst (suc n) (y ∷ take n ys) q}
    (λ k. inl (inr k))
    (λ k. inr (ap suc k.0, (Each-member (λ l. pairing_cmp y l ≡ Less) ys q h.0 m, k.1)))
    (take-or n ys q h.1 m)

pub take-few : (n : ℕ) (ys : Ps) → length (take n ys) ≤ n
take-few zero ys = omega arith
take-few (suc n) [] = omega arith
take-few (suc n) (y ∷ ys) = let h = take-few n ys in omega (arith, h)

-- of a list whose ties are the same the first by cost and walk
module _ (ps : Ps) (same : (p q : PricedPairing) → Member ps p → Member ps q → pairing_cmp p q ≡ Equal → p ≡ q) (n : ℕ) where
  abbrev pub Firsts : Ps
  Firsts = take n (sorted [] ps)

  among : (p : PricedPairing) → Member (sorted [] ps) p → Member ps p
  among p m = ⊎_elim {C = Member ps p} (λ k. absurd k) (λ k. k) (sorted-out [] ps p m)

  pub in-order-rise : RiseByCost (sorted [] ps)
  in-order-rise = rise-sorted [] ps tt

  pub in-order-among : (p : PricedPairing) → Member (sorted [] ps) p → Member ps p
  in-order-among = among

  pub in-order-each : (q : PricedPairing) → Member ps q → Member (sorted [] ps) q
  in-order-each q m =
      let t = sorted-has [] ps q m in
      let e = same t.0 q (among t.0 t.1) m t.2 in
      subst (Member (sorted [] ps)) e t.1

  pub firsts-rise : RiseByCost Firsts
  firsts-rise = rise-take n (sorted [] ps) (rise-sorted [] ps tt)

  pub firsts-few : length Firsts ≤ n
  firsts-few = take-few n (sorted [] ps)

  pub firsts-among : (p : PricedPairing) → Member Firsts p → Member ps p
  firsts-among p m = among p (take-out n (sorted [] ps) p m)

  pub firsts-least : (q : PricedPairing) → Member ps q → StandsFirst n Firsts q
  firsts-least q m =
      let t = sorted-has [] ps q m in
      let e = same t.0 q (among t.0 t.1) m t.2 in
      take-or n (sorted [] ps) q (rise-sorted [] ps tt) (subst (Member (sorted [] ps)) e t.1)
