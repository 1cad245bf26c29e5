-- The fronts of a base among those of all, and lists that are gone through from their first item on.
use Rattle.std.proofs.Common.{◌≡◌, ◌∙◌, ◌<◌, ◌≤◌, ◌+◌, ◌++◌, append-nil, ℕ, zero, suc, Bool, true, false, cond, List, [], ◌∷◌, Some, inl, inr, refl, sym, ap, subst, map, length, take, get_or, arith}
use Rattle.std.specs.Prelude.{slice_get}
use Rattle.std.specs.List.{flat_map}
use Rattle.std.proofs.lemmas.List.{map-append}
use Rattle.std.specs.Ordering.{eq_by_cmp}
use Rattle.crew_flights.specs.Codes.{code_cmp}
use Rattle.crew_fronts.specs.Fronts.{BaseFronts, IsOfSweep, front_at, is_plain}
use Rattle.crew_pairing.specs.declared.duty.Duty.{Duty}
use Rattle.crew_net.specs.Nets.{Net}
use Rattle.crew_pairing.proofs.Tree.{Each-member}
use Rattle.crew_plan.specs.Machinery.Homes.{alone}
use Rattle.crew_plan.specs.Machinery.Kept.{AreOfSweeps, IsSolved}
use Rattle.crew_plan.specs.Solutions.{front_among}
use Rattle.crew_resource.specs.Members.{Each, Member}
use Rattle.crew_fronts.proofs.crew_solve_lemmas.Listed.{flat-append, take-more}
use Rattle.crew_fronts.specs.crew_solve.Machinery.Solved as Plain
use Rattle.crew_fronts.specs.crew_sweep.Sweeps.{BaseSweep}
use Rattle.crew_fronts.proofs.crew_solve_lemmas.crew_vector_lemmas.Orders.{code-itself, same-code}

-- the fronts of a base, among those that stand for others
module _ {A : Type 0} (f : A → BaseFronts) where
  pub among-at : (xs : List A) (i : ℕ) (a : A) (base : List ℕ) → slice_get xs i ≡ Some a → Each (λ x. eq_by_cmp code_cmp (f x).base base ≡ false) (take i xs)
      → eq_by_cmp code_cmp (f a).base base ≡ true → (d : Duty) → front_among (map f xs) base d ≡ front_at (f a) d
  among-at [] i a base e h t d = absurd (let q : ⊥ = (cc) in q)
  among-at (x ∷ xs) zero a base e h t d =
      let q : x ≡ a = (cc) in
      ap (λ k. cond k (front_at (f x) d) (front_among (map f xs) base d)) (ap (λ y. eq_by_cmp code_cmp (f y).base base) q ∙ t) ∙ ap (λ y. front_at (f y) d) q
  among-at (x ∷ xs) (suc i) a base e h t d = ap (λ k. cond k (front_at (f x) d) (front_among (map f xs) base d)) h.0 ∙ among-at xs i a base e h.1 t d

  pub none-at : (xs : List A) (i : ℕ) (base : List ℕ) → length xs ≤ i → Each (λ x. eq_by_cmp code_cmp (f x).base base ≡ false) (take i xs)
      → (b : BaseFronts) → Member (map f xs) b → b.base ≡ base → ⊥
  none-at [] i base h e b m own = absurd m
  none-at (x ∷ xs) zero base h e b m own = absurd (omega (arith, h))
  none-at (x ∷ xs) (suc i) base h e b (inl q) own = let t = code-itself (f x).base base (ap (λ (y : BaseFronts). y.base) q ∙ own) in let both = sym t ∙ e.0 in let z : ⊥ = (cc) in z
  none-at (x ∷ xs) (suc i) base h e b (inr m) own = none-at xs i base (omega (arith, h)) e.1 b m own

  pub alone-at : (xs : List A) (i : ℕ) (a : A) (base : List ℕ) → slice_get xs i ≡ Some a → Each (λ x. eq_by_cmp code_cmp (f x).base base ≡ false) (take i xs)
      → eq_by_cmp code_cmp (f a).base base ≡ true → alone base (map f xs) ≡ f a ∷ []
  alone-at [] i a base e h t = absurd (let q : ⊥ = (cc) in q)
  alone-at (x ∷ xs) zero a base e h t =
      let q : x ≡ a = (cc) in
      ap (λ k. cond k (f x ∷ []) (alone base (map f xs))) (ap (λ y. eq_by_cmp code_cmp (f y).base base) q ∙ t) ∙ ap (λ y. f y ∷ []) q
  alone-at (x ∷ xs) (suc i) a base e h t = ap (λ k. cond k (f x ∷ []) (alone base (map f xs))) h.0 ∙ alone-at xs i a base e h.1 t

-- where no fronts are of a base there are none of it
none-by : (b : BaseFronts) (bs : List BaseFronts) (base : List ℕ) (k : Bool) → eq_by_cmp code_cmp b.base base ≡ k → ((c : BaseFronts) → Member (b ∷ bs) c → c.base ≡ base → ⊥) → alone base bs ≡ [] → cond k (b ∷ []) (alone base bs) ≡ []
none-by b bs base true e none rest = absurd (none b (inl refl) (same-code b.base base e))
none-by b bs base false e none rest = rest

pub none-alone : (bs : List BaseFronts) (base : List ℕ) → ((c : BaseFronts) → Member bs c → c.base ≡ base → ⊥) → alone base bs ≡ []
none-alone [] base none = refl
none-alone (b ∷ bs) base none = none-by b bs base (eq_by_cmp code_cmp b.base base) refl none (none-alone bs base (λ c m. none c (inr m)))

-- they are among all, and they are of the base
alone-by : (b : BaseFronts) (bs : List BaseFronts) (base : List ℕ) (k : Bool) → eq_by_cmp code_cmp b.base base ≡ k → ((c : BaseFronts) → Member (alone base bs) c → Member bs c × (c.base ≡ base))
    → (c : BaseFronts) → Member (cond k (b ∷ []) (alone base bs)) c → Member (b ∷ bs) c × (c.base ≡ base)
alone-by b bs base true e rest c (inl q) = (inl q, ap (λ (x : BaseFronts). x.base) (sym q) ∙ same-code b.base base e)
alone-by b bs base true e rest c (inr m) = absurd m
alone-by b bs base false e rest c m = let k = rest c m in (inr k.0, k.1)

pub alone-out : (bs : List BaseFronts) (base : List ℕ) (c : BaseFronts) → Member (alone base bs) c → Member bs c × (c.base ≡ base)
alone-out [] base c m = absurd m
alone-out (b ∷ bs) base c m = alone-by b bs base (eq_by_cmp code_cmp b.base base) refl (alone-out bs base) c m

-- what holds of each holds of them
pub each-alone : (P : BaseFronts → Type 0) (bs : List BaseFronts) (base : List ℕ) → Each P bs → Each P (alone base bs)
each-alone P bs base h = each-of (alone base bs) (λ c m. Each-member P bs c h (alone-out bs base c m).0)
  where
    each-of : (cs : List BaseFronts) → ((c : BaseFronts) → Member cs c → P c) → Each P cs
    each-of [] g = tt
    each-of (c ∷ cs) g = (g c (inl refl), each-of cs (λ x m. g x (inr m)))

-- ---- an item more

pub map-more : {A X : Type 0} (f : A → X) (xs : List A) (k : ℕ) (d : A) → k < length xs → map f (take (k + 1) xs) ≡ map f (take k xs) ++ f (get_or xs k d) ∷ []
map-more f xs k d h = ap (map f) (take-more xs k d h) ∙ map-append f (take k xs) (get_or xs k d ∷ [])

pub take-all : {X : Type 0} (xs : List X) (k : ℕ) → length xs ≤ k → take k xs ≡ xs
take-all [] zero h = refl
take-all [] (suc k) h = refl
take-all (x ∷ xs) zero h = absurd (omega (arith, h))
take-all {X} (x ∷ xs) (suc k) h = ap (λ (l : List X). x ∷ l) (take-all xs k (omega (arith, h)))

of-more : (cs : List BaseSweep) (bs : List BaseFronts) (c : BaseSweep) (b : BaseFronts) → AreOfSweeps cs bs → IsOfSweep c b → AreOfSweeps (cs ++ c ∷ []) (bs ++ b ∷ [])
of-more [] [] c b h k = (k, tt)
of-more [] (x ∷ bs) c b h k = absurd h
of-more (y ∷ cs) [] c b h k = absurd h
of-more (y ∷ cs) (x ∷ bs) c b h k = (h.0, of-more cs bs c b h.1 k)

-- the fronts of a sweep more
pub one-more : {A B : Type 0} (f : A → BaseSweep) (g : B → BaseFronts) (xs : List A) (k : ℕ) (d : A) (ys more : List B) (y : B) → k < length xs → AreOfSweeps (map f (take k xs)) (map g ys)
    → IsOfSweep (f (get_or xs k d)) (g y) → more ≡ ys ++ y ∷ [] → AreOfSweeps (map f (take (k + 1) xs)) (map g more)
one-more f g xs k d ys more y h are own is =
    subst (λ cs. AreOfSweeps cs (map g more)) (sym (map-more f xs k d h))
    (subst (λ bs. AreOfSweeps (map f (take k xs) ++ f (get_or xs k d) ∷ []) bs) (sym (ap (map g) is ∙ map-append g ys (y ∷ []))) (of-more (map f (take k xs)) (map g ys) (f (get_or xs k d)) (g y) are own))

-- what one solution has of its network the other has too
own-bases : (cs : List BaseSweep) (bs : List BaseFronts) → AreOfSweeps cs bs → map (λ (b : BaseFronts). b.base) bs ≡ map (λ (c : BaseSweep). c.base) cs
own-bases [] [] h = refl
own-bases [] (b ∷ bs) h = absurd h
own-bases (c ∷ cs) [] h = absurd h
own-bases (c ∷ cs) (b ∷ bs) h = λ i. h.0.base i ∷ own-bases cs bs h.1 i

own-nets : (net : Net) (cs : List BaseSweep) (bs : List BaseFronts) → AreOfSweeps cs bs → Each (λ (c : BaseSweep). c.net ≡ net) cs → Each (λ (b : BaseFronts). b.net ≡ net) bs
own-nets net [] [] h k = tt
own-nets net [] (b ∷ bs) h k = absurd h
own-nets net (c ∷ cs) [] h k = absurd h
own-nets net (c ∷ cs) (b ∷ bs) h k = (h.0.net ∙ k.0, own-nets net cs bs h.1 k.1)

pub still-solved : (net : Net) (cs : List BaseSweep) (bs : List BaseFronts) → AreOfSweeps cs bs → Plain.IsSolved net cs → IsSolved net bs
still-solved net cs bs h k = record { nets = own-nets net cs bs h k.nets; all = own-bases cs bs h ∙ k.bases }

pub each-plain : (net : Net) (cs : List BaseSweep) → is_plain net.settings ≡ true → Each (λ (c : BaseSweep). c.net ≡ net) cs → Each (λ (c : BaseSweep). is_plain c.net.settings ≡ true) cs
each-plain net [] h k = tt
each-plain net (c ∷ cs) h k = (subst (λ (n : Net). is_plain n.settings ≡ true) (sym k.0) h, each-plain net cs h k.1)

-- a key more
pub key-more : {X : Type 0} (xs : List X) (k : ℕ) (x : X) → slice_get xs k ≡ Some x → take (k + 1) xs ≡ take k xs ++ x ∷ []
key-more [] k x h = absurd (let q : ⊥ = (cc) in q)
key-more {X} (y ∷ xs) zero x h = let q : y ≡ x = (cc) in ap (λ (z : X). z ∷ []) q
key-more {X} (y ∷ xs) (suc k) x h =
    let on : suc k + 1 ≡ suc (k + 1) = omega arith in
    rw on (ap (λ (l : List X). y ∷ l) (key-more xs k x h))

-- a duty more
pub duty-more : {X Y : Type 0} (f : X → List Y) (xs : List X) (k : ℕ) (x : X) → slice_get xs k ≡ Some x → flat_map f (take (k + 1) xs) ≡ flat_map f (take k xs) ++ f x
duty-more f xs k x h = ap (flat_map f) (key-more xs k x h) ∙ (flat-append f (take k xs) (x ∷ []) ∙ ap (λ l. flat_map f (take k xs) ++ l) (append-nil (f x)))

-- what holds at each place, with one more
pub places-more : {X : Type 0} (P : ℕ → X → Type 0) (xs : List X) (x : X) → ((k : ℕ) (y : X) → slice_get xs k ≡ Some y → P k y) → P (length xs) x → (k : ℕ) (y : X) → slice_get (xs ++ x ∷ []) k ≡ Some y → P k y
places-more P [] x f p zero y h = let q : x ≡ y = (cc) in subst (P 0) q p
places-more P [] x f p (suc k) y h = absurd (let q : ⊥ = (cc) in q)
places-more P (z ∷ xs) x f p zero y h = f 0 y h
places-more P (z ∷ xs) x f p (suc k) y h = places-more (λ j. P (suc j)) xs x (λ j w e. f (suc j) w e) p k y h
