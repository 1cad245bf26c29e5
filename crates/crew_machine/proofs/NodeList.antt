-- The nodes of a timetable in node order: each base with each legal duty.
use Rattle.std.proofs.Common.{◌≡◌, ℕ, ℤ, Bool, true, false, List, [], ◌∷◌, ◌++◌, ◌&&◌, map, Option, Some, None, inl, inr, refl, sym, ◌∙◌, ap, subst, ⊎_elim}
use lib.Dec.{T}
use Rattle.std.specs.declared.cmp.Ordering.{Ordering}
use Rattle.std.specs.declared.cmp.Ordering.TheVariants.{Less, Equal, Greater}
use Rattle.std.specs.Ordering.{eq_by_cmp, is_lt, ordering_then}
use Rattle.std.specs.FinMap as fin
use Rattle.std.specs.FinMap.{is_sorted}
use Rattle.std.specs.FinMap.Entries.{below_all}
use Rattle.std.specs.List.{flat_map, list_any}
use Rattle.std.specs.Option.{is_some}
use Rattle.std.proofs.lemmas.Bool.{cases_Bool}
use Rattle.std.proofs.lemmas.Cmp.{tied_itself}
use Rattle.crew_flights.specs.Codes.{code_cmp, code_cmp_total}
use Rattle.crew_flights.specs.Timetable.{Timetable}
use Rattle.crew_machine.specs.Crew.{DutyNode, IsNodeOf, RiseByNode, crew, node_cmp}
use Rattle.crew_machine.specs.Worlds.{AreNodes}
use Rattle.crew_pairing.specs.Duties.{AreDuties, HasFew, RiseByKey}
use Rattle.crew_pairing.specs.Keys.{key_cmp}
use Rattle.crew_pairing.specs.declared.duty.Duty.{Duty}
use Rattle.crew_resource.proofs.Members.{Member-flat_map_in, Member-flat_map_out, Member-map_in, Member-map_out, list_any_false, list_any_true}
use Rattle.crew_resource.specs.Members.{Each, Member}
use Rattle.crew_rules.specs.declared.settings.Settings.{Settings}
use Rattle.crew_answers.proofs.crew_vector_lemmas.Orders.{code-itself, same-code}

-- ---- the bases, in order

both-first : (a b : Bool) → (a && b) ≡ true → a ≡ true
both-first true b e = refl
both-first false b e = cc

both-second : (a b : Bool) → (a && b) ≡ true → b ≡ true
both-second true b e = e
both-second false b e = cc

is-less : (r : Ordering) → is_lt r ≡ true → r ≡ Less
is-less Less e = refl
is-less Equal e = cc
is-less Greater e = cc

true-of : (b : Bool) → T b → b ≡ true
true-of true h = refl
true-of false h = absurd h

abbrev pub RiseByCode : List (List ℕ) → Type 0
RiseByCode [] = Unit {0}
RiseByCode (b ∷ bs) = Each (λ c. code_cmp b c ≡ Less) bs × RiseByCode bs

each-below : (k : List ℕ) (es : List (List ℕ × ℤ)) → below_all code_cmp k es ≡ true → Each (λ l. code_cmp k l ≡ Less) (map (λ (e : List ℕ × ℤ). e.0) es)
each-below k [] b = tt
each-below k (h ∷ es) b = (is-less (code_cmp k h.0) (both-first _ _ b), each-below k es (both-second _ _ b))

rises : (es : List (List ℕ × ℤ)) → is_sorted code_cmp es ≡ true → RiseByCode (map (λ (e : List ℕ × ℤ). e.0) es)
rises [] s = tt
rises (h ∷ es) s = (each-below h.0 es (both-first _ _ s), rises es (both-second _ _ s))

pub bases-rise : (t : Timetable) → RiseByCode (fin.keys t.bases)
bases-rise t = rises (fin.entries t.bases) (true-of (is_sorted code_cmp (fin.entries t.bases)) (fin.entries_sorted t.bases))

some-of : (o : Option ℤ) → is_some o ≡ true → (p : ℤ) × (o ≡ Some p)
some-of None e = absurd (let q : ⊥ = (cc) in q)
some-of (Some p) e = (p, refl)

never-both : {A : Type 0} (b : Bool) → b ≡ true → b ≡ false → A
never-both b t f = absurd (let e : true ≡ false = sym t ∙ f in let q : ⊥ = (cc) in q)

pub has-price : (t : Timetable) (base : List ℕ) → Member (fin.keys t.bases) base → (p : ℤ) × (fin.get t.bases base ≡ Some p)
has-price t base m =
    some-of (fin.get t.bases base)
    (fin.contains_key-keys t.bases base
    ∙ ⊎_elim
    (λ (h : list_any (eq_by_cmp code_cmp base) (fin.keys t.bases) ≡ true). h)
    (λ f. never-both (eq_by_cmp code_cmp base base) (code-itself base base refl) (list_any_false (eq_by_cmp code_cmp base) (fin.keys t.bases) f base m))
    (cases_Bool (list_any (eq_by_cmp code_cmp base) (fin.keys t.bases))))

pub is-base : (t : Timetable) (base : List ℕ) (p : ℤ) → fin.get t.bases base ≡ Some p → Member (fin.keys t.bases) base
is-base t base p e =
    let any : list_any (eq_by_cmp code_cmp base) (fin.keys t.bases) ≡ true = sym (fin.contains_key-keys t.bases base) ∙ ap is_some e in
    let x = list_any_true (eq_by_cmp code_cmp base) (fin.keys t.bases) any in
    subst (Member (fin.keys t.bases)) (sym (same-code base x.0 x.2)) x.1

-- ---- nodes, in order

pub each-member : {X : Type 0} (P : X → Type 0) (xs : List X) (x : X) → Each P xs → Member xs x → P x
each-member P [] x h m = absurd m
each-member P (y ∷ ys) x h (inl e) = subst P e h.0
each-member P (y ∷ ys) x h (inr m) = each-member P ys x h.1 m

each-append : {X : Type 0} (P : X → Type 0) (xs ys : List X) → Each P xs → ((y : X) → Member ys y → P y) → Each P (xs ++ ys)
each-append P [] [] h f = tt
each-append P [] (y ∷ ys) h f = (f y (inl refl), each-append P [] ys tt (λ z m. f z (inr m)))
each-append P (x ∷ xs) ys h f = (h.0, each-append P xs ys h.1 f)

append-rises : (xs ys : List DutyNode) → RiseByNode xs → RiseByNode ys → ((x y : DutyNode) → Member xs x → Member ys y → node_cmp x y ≡ Less) → RiseByNode (xs ++ ys)
append-rises [] ys h k f = k
append-rises (x ∷ xs) ys h k f = (each-append (λ m. node_cmp x m ≡ Less) xs ys h.0 (λ y m. f x y (inl refl) m), append-rises xs ys h.1 k (λ z y m n. f z y (inr m) n))

abbrev pub node-of : List ℕ → Duty → DutyNode
node-of base d = record { base = base; duty = d }

at-one-base : (b : List ℕ) (o : Ordering) → ordering_then (code_cmp b b) o ≡ o
at-one-base b o = ap (λ z. ordering_then z o) (tied_itself code_cmp_total b)

own-each : (b : List ℕ) (d : Duty) (ds : List Duty) → Each (λ e. key_cmp d.key e.key ≡ Less) ds → Each (λ m. node_cmp (node-of b d) m ≡ Less) (map (node-of b) ds)
own-each b d [] h = tt
own-each b d (e ∷ ds) h = (at-one-base b (key_cmp d.key e.key) ∙ h.0, own-each b d ds h.1)

own-rises : (b : List ℕ) (ds : List Duty) → RiseByKey ds → RiseByNode (map (node-of b) ds)
own-rises b [] h = tt
own-rises b (d ∷ ds) h = (own-each b d ds h.0, own-rises b ds h.1)

abbrev pub listed : List (List ℕ) → List Duty → List DutyNode
listed bases ds = flat_map (λ b. map (node-of b) ds) bases

listed-rises : (bases : List (List ℕ)) (ds : List Duty) → RiseByCode bases → RiseByKey ds → RiseByNode (listed bases ds)
listed-rises [] ds h k = tt
listed-rises (b ∷ bases) ds h k =
    append-rises (map (node-of b) ds) (listed bases ds) (own-rises b ds k) (listed-rises bases ds h.1 k)
    (λ x y m n.
    (
    let d = Member-map_out (node-of b) ds x m in
    let f = Member-flat_map_out (λ c. map (node-of c) ds) bases y n in
    let e = Member-map_out (node-of f.0) ds y f.2 in
    let less : code_cmp b f.0 ≡ Less = each-member (λ c. code_cmp b c ≡ Less) bases f.0 h.0 f.1 in
    let here : node_cmp (node-of b d.0) (node-of f.0 e.0) ≡ Less = ap (λ z. ordering_then z (key_cmp d.0.key e.0.key)) less in
    subst (λ (z : DutyNode). node_cmp z y ≡ Less) d.2 (subst (λ (z : DutyNode). node_cmp (node-of b d.0) z ≡ Less) e.2 here)))

-- each base of a timetable with each of its legal duties
pub listed-nodes : (s : Settings) (t : Timetable) (ds : List Duty) → AreDuties s t ds → AreNodes (crew s) t (listed (fin.keys t.bases) ds)
listed-nodes s t ds are =
    let bases = fin.keys t.bases in
    let from : (n : DutyNode) → Member (listed bases ds) n → IsNodeOf s t n = λ n m.
    (
    let f = Member-flat_map_out (λ c. map (node-of c) ds) bases n m in
    let d = Member-map_out (node-of f.0) ds n f.2 in
    let p = has-price t f.0 f.1 in
    let here : IsNodeOf s t (node-of f.0 d.0) = record { price = p.0; based = p.1; legal = are.sound d.0 d.1 } in
    subst (IsNodeOf s t) d.2 here) in
    let to : (n : DutyNode) → IsNodeOf s t n → Member (listed bases ds) n = λ n is.
    (
    let duty : Member ds n.duty = subst (Member ds) (sym is.legal.3) (are.every is.legal.0 is.legal.1 is.legal.2) in
    Member-flat_map_in (λ c. map (node-of c) ds) bases n.base n (is-base t n.base is.price is.based) (Member-map_in (node-of n.base) ds n.duty duty)) in
    record { rise = listed-rises bases ds (bases-rise t) are.rising; exact = λ n. (from n, to n) }

pub some-nodes : (s : Settings) (t : Timetable) → HasFew s t → (nodes : List DutyNode) × AreNodes (crew s) t nodes
some-nodes s t few = (listed (fin.keys t.bases) few.0, listed-nodes s t few.0 few.1)
