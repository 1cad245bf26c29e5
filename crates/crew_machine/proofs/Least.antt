-- Of the entries that come home there is a least one, by cost and walk, or none.
use Rattle.std.proofs.Common.{◌≡◌, ℕ, true, false, cond, List, [], ◌∷◌, map, Option, Some, None, ◌⊎◌, inl, inr, ℤ, refl, sym, ◌∙◌, ap, subst, ⊎_elim, arith}
use Rattle.std.specs.Prelude.{◌<ℤ◌, int_le}
use Rattle.std.specs.Ordering.{eq_by_cmp}
use Rattle.std.proofs.lemmas.Bool.{cases_Bool}
use Rattle.std.proofs.lemmas.Int.{ints}
use Rattle.crew_answers.specs.LongVectors.{LongVector}
use Rattle.crew_flights.specs.Codes.{code_cmp}
use Rattle.crew_machine.specs.Crew.{ComesHome, DutyNode, Entries, IsLeastOf, pairing_of}
use Rattle.crew_pairing.specs.Keys.{walk_at_most}
use Rattle.crew_pairing.specs.Legs.{Leg}
use Rattle.crew_pairing.specs.Vectors.{reduced_cost}
use Rattle.crew_resource.proofs.Members.{Member-flat_map_in, Member-flat_map_out, Member-map_in, Member-map_out}
use Rattle.crew_resource.specs.Members.{Member}
use Rattle.crew_rules.specs.declared.settings.Settings.{Settings}
use Rattle.crew_answers.proofs.crew_vector_lemmas.Orders.{code-itself, same-code, walk-either, walk-order}
use Rattle.crew_answers.specs.crew_vector.Bests.{NoDearer}
use Rattle.crew_answers.specs.crew_vector.declared.priced.PricedPairing.{PricedPairing}
use Rattle.std.specs.List.{flat_map}

-- a base, a vector and a walk
record Home : Type 0 where
  pub base : List ℕ
  pub vector : LongVector
  pub walk : List (List Leg)

abbrev NotOver : Home → Home → Type 0
NotOver h k = NoDearer (reduced_cost h.vector.sums) h.walk (reduced_cost k.vector.sums) k.walk

less-or-not : (a b : ℤ) → (a <ℤ b) ⊎ ((b <ℤ a) ⊎ (a ≡ b))
less-or-not a b =
    ⊎_elim
    (λ h. ⊎_elim (λ k. inr (inr (omega (arith, ints, test-le a b h, test-le b a k)))) (λ k. inl (omega (arith, ints, test-not b a k))) (cases_Bool (int_le b a)))
    (λ h. inr (inl (omega (arith, ints, test-not a b h))))
    (cases_Bool (int_le a b))
  where
    test-le : (x y : ℤ) → int_le x y ≡ true → (x <ℤ y) ⊎ (x ≡ y)
    test-le x y h = grind (arith, ints)

    test-not : (x y : ℤ) → int_le x y ≡ false → y <ℤ x
    test-not x y h = grind (arith, ints)

either : (h k : Home) → NotOver h k ⊎ NotOver k h
either h k =
    ⊎_elim
    (λ l. inl (inl l))
    (λ r. ⊎_elim
    (λ l. inr (inl l))
    (λ e. ⊎_elim (λ w. inl (inr (e, w))) (λ w. inr (inr (sym e, walk-either h.walk k.walk w))) (cases_Bool (walk_at_most h.walk k.walk)))
    r)
    (less-or-not (reduced_cost h.vector.sums) (reduced_cost k.vector.sums))

through : (h k l : Home) → NotOver h k → NotOver k l → NotOver h l
through h k l (inl a) (inl b) = inl (omega (arith, ints, a, b))
through h k l (inl a) (inr b) = inl (let e = b.0 in omega (arith, ints, a, e))
through h k l (inr a) (inl b) = inl (let e = a.0 in omega (arith, ints, b, e))
through h k l (inr a) (inr b) = inr (a.0 ∙ b.0, walk-order.transitive h.walk k.walk l.walk a.1 b.1)

record IsLeastIn (hs : List Home) (h : Home) : Type 0 where
  pub there : Member hs h
  pub least : (k : Home) → Member hs k → NotOver h k

least-in : (hs : List Home) → ((h : Home) × IsLeastIn hs h) ⊎ ((h : Home) → Member hs h → ⊥)
least-in [] = inr (λ h m. m)
least-in (x ∷ hs) =
    ⊎_elim
    (λ r. ⊎_elim
    (λ n. inl (x, record { there = inl refl; least = λ k m. ⊎_elim (λ e. subst (NotOver x) e (inr (refl, walk-order.reflexive x.walk))) (λ m'. through x r.0 k n (r.1.least k m')) m }))
    (λ n. inl (r.0, record { there = inr r.1.there; least = λ k m. ⊎_elim (λ e. subst (NotOver r.0) e n) (λ m'. r.1.least k m') m }))
    (either x r.0))
    (λ none. inl (x, record { there = inl refl; least = λ k m. ⊎_elim (λ e. subst (NotOver x) e (inr (refl, walk-order.reflexive x.walk))) (λ m'. absurd (none k m')) m }))
    (least-in hs)

abbrev home-of : DutyNode → LongVector × List (List Leg) → Home
home-of n e = record { base = n.base; vector = e.0; walk = e.1 }

abbrev homes-at : DutyNode × Entries → List Home
homes-at x = cond (eq_by_cmp code_cmp x.0.duty.to x.0.base) (map (home-of x.0) x.1) []

abbrev homes : List (DutyNode × Entries) → List Home
homes fronts = flat_map homes-at fronts

home-in : (fronts : List (DutyNode × Entries)) (base : List ℕ) (v : LongVector) (w : List (List Leg)) → ComesHome fronts base v w → Member (homes fronts) (record { base = base; vector = v; walk = w })
home-in fronts base v w h =
    let n : DutyNode = record { base = base; duty = h.duty } in
    let is : eq_by_cmp code_cmp h.duty.to base ≡ true = code-itself h.duty.to base h.home in
    let x : DutyNode × Entries = (n, h.entries) in
    let there : Member (map (home-of n) h.entries) (home-of n (v, w)) = Member-map_in (home-of n) h.entries (v, w) h.held in
    let here : Member (homes-at x) (home-of n (v, w)) = subst (λ b. Member (cond b (map (home-of n) h.entries) []) (home-of n (v, w))) (sym is) there in
    Member-flat_map_in homes-at fronts x (home-of n (v, w)) h.node here

opened : {X : Type 0} (b : _) (xs : List X) (x : X) → Member (cond b xs []) x → (b ≡ true) × Member xs x
opened true xs x m = (refl, m)
opened false xs x m = absurd m

home-out : (fronts : List (DutyNode × Entries)) (h : Home) → Member (homes fronts) h → ComesHome fronts h.base h.vector h.walk
home-out fronts h m =
    let from = Member-flat_map_out homes-at fronts h m in
    let x = from.0 in
    let open-at = opened (eq_by_cmp code_cmp x.0.duty.to x.0.base) (map (home-of x.0) x.1) h from.2 in
    let e = Member-map_out (home-of x.0) x.1 h open-at.1 in
    let base : x.0.base ≡ h.base = ap (λ (k : Home). k.base) e.2 in
    let entry : e.0 ≡ (h.vector, h.walk) = ap (λ (k : Home). let z : LongVector × List (List Leg) = (k.vector, k.walk) in z) e.2 in
    let node : x ≡ (record { base = h.base; duty = x.0.duty }, x.1) = ap (λ (b : List ℕ). let z : DutyNode × Entries = (record { base = b; duty = x.0.duty }, x.1) in z) base in
    record {
      duty = x.0.duty;
      entries = x.1;
      node = subst (Member fronts) node from.1;
      home = same-code x.0.duty.to x.0.base open-at.0 ∙ base;
      held = subst (Member x.1) entry e.1;
    }

pub some-least : (s : Settings) (fronts : List (DutyNode × Entries)) → (best : Option PricedPairing) × IsLeastOf s fronts best
some-least s fronts =
    ⊎_elim
    (λ r.
    let h = r.0 in (
      Some (pairing_of s h.base h.vector h.walk),
      ((h.base, h.vector, h.walk, home-out fronts h r.1.there, refl), λ base v w c. r.1.least (record { base = base; vector = v; walk = w }) (home-in fronts base v w c)),
    ))
    (λ none. (None, λ base v w c. none (record { base = base; vector = v; walk = w }) (home-in fronts base v w c)))
    (least-in (homes fronts))
