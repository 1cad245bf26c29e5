-- The end of the last long rest: an order, kept by the stages; and what it tells of free minutes.
use Rattle.std.proofs.Common.{◌≡◌, true, false, cond, List, [], ◌∷◌, Some, None, ℤ, pos, ◌+ℤ◌, ◌⊎◌, inl, inr, refl, sym, ◌∙◌, ap, subst, ⊎_elim, arith}
use Rattle.std.specs.Prelude.{◌-ℤ◌, ◌≤ℤ◌, ◌<ℤ◌, int_le}
use Rattle.std.proofs.lemmas.Int.{ints}
use Rattle.std.proofs.lemmas.Bool.{cases_Bool}
use Rattle.crew_resource.specs.Members.{Member}
use Rattle.crew_resource.proofs.Order.{IsOrder}
use Rattle.crew_history.specs.Machinery.Rests.{rested_after, rested_at_most, rested_boarded, since_extended, rested_from, IsFree, HasRest, AreBefore}

le_yes : (a b : ℤ) → a ≤ℤ b → int_le a b ≡ true
le_yes a b h = grind (arith, ints)

le_is : (a b : ℤ) → int_le a b ≡ true → a ≤ℤ b
le_is a b h = grind (arith, ints)

le_not : (a b : ℤ) → int_le a b ≡ false → b <ℤ a
le_not a b h = grind (arith, ints)

le_refl : (a : ℤ) → a ≤ℤ a
le_refl a = omega (arith, ints)

pub rested_order : IsOrder rested_at_most
rested_order = record {
  reflexive = λ a. le_yes a a (le_refl a);
  transitive = λ a b c h k. let p = le_is b a h in let q = le_is c b k in le_yes c a (omega (arith, ints));
  antisymmetric = λ a b h k. let p = le_is b a h in let q = le_is a b k in omega (arith, ints);
}

-- waiting: a long rest makes all one, another changes nothing
pub rested_after_monotone : (long a b release report : ℤ) → rested_at_most a b ≡ true → rested_at_most (rested_after long a release report) (rested_after long b release report) ≡ true
rested_after_monotone long a b release report h = ⊎_elim
    (λ y. rw y (le_yes report report (le_refl report)))
    (λ n. rw n h)
    (cases_Bool (int_le long (report -ℤ release)))

pub rested_boarded_monotone : (most report a b c : ℤ) → rested_at_most a b ≡ true → rested_boarded most report b ≡ Some c
    → (z : ℤ) × (rested_boarded most report a ≡ Some z) × (rested_at_most z c ≡ true)
rested_boarded_monotone most report a b c h e = ⊎_elim
    (λ y.
    let is : Some b ≡ Some c = sym (ap (λ t. cond t (Some b) None) y) ∙ e in
    let same : b ≡ c = (cc) in
    let less = le_is b a h in
    let fits = le_is (report -ℤ b) most y in
    (a, ap (λ t. cond t (Some a) None) (le_yes (report -ℤ a) most (omega (arith, ints))), subst (λ z. int_le z a ≡ true) same h))
    (λ n. absurd (let is : None ≡ Some c = sym (ap (λ t. cond t (Some b) None) n) ∙ e in let q : ⊥ = (cc) in q))
    (cases_Bool (int_le (report -ℤ b) most))

-- in minutes since
pub since_is : (long rested last_report last_release report : ℤ)
    → report -ℤ rested_after long rested last_release report ≡ since_extended long (last_report -ℤ rested) last_report last_release report
since_is long rested last_report last_release report = ⊎_elim
    (λ y. rw y (none report))
    (λ n. rw n (moved report rested last_report))
    (cases_Bool (int_le long (report -ℤ last_release)))
  where
    none : (r : ℤ) → r -ℤ r ≡ pos 0
    none r = omega (arith, ints)

    moved : (r a l : ℤ) → r -ℤ a ≡ (l -ℤ a) +ℤ (r -ℤ l)
    moved r a l = omega (arith, ints)

-- what a rest leaves
rested_cases : (long rested release report : ℤ) → ((long ≤ℤ (report -ℤ release)) × (rested_after long rested release report ≡ report)) ⊎ (((report -ℤ release) <ℤ long) × (rested_after long rested release report ≡ rested))
rested_cases long rested release report = ⊎_elim
    (λ y. inl (le_is long (report -ℤ release) y, ap (λ b. cond b report rested) y))
    (λ n. inr (le_not long (report -ℤ release) n, ap (λ b. cond b report rested) n))
    (cases_Bool (int_le long (report -ℤ release)))

-- free minutes end no later than the last long rest
step_later : (long t rested release report : ℤ) → (release ≤ℤ t) ⊎ ((t +ℤ long) ≤ℤ rested) → (t +ℤ long) ≤ℤ report → (t +ℤ long) ≤ℤ rested_after long rested release report
step_later long t rested release report h k = ⊎_elim
    (λ y. subst (λ z. (t +ℤ long) ≤ℤ z) (sym y.1) k)
    (λ n. subst (λ z. (t +ℤ long) ≤ℤ z) (sym n.1) (⊎_elim {C = (t +ℤ long) ≤ℤ rested} (λ l. absurd (let q = n.0 in let r : ⊥ = omega (arith, ints) in r)) (λ l. l) h))
    (rested_cases long rested release report)

pub rests_end : (long t rested release : ℤ) (ds : List (ℤ × ℤ)) (report : ℤ) → IsFree long ds t → (release ≤ℤ t) ⊎ ((t +ℤ long) ≤ℤ rested) → (t +ℤ long) ≤ℤ report
    → (t +ℤ long) ≤ℤ rested_from long rested release ds report
rests_end long t rested release [] report free h k = step_later long t rested release report h k
rests_end long t rested release (d ∷ ds) report free h k =
    rests_end long t (rested_after long rested release d.0) d.1 ds report (λ x m. free x (inr m))
    (⊎_elim inl (λ l. inr (step_later long t rested release d.0 h l)) (free d (inl refl))) k

release_before : (release : ℤ) (ds : List (ℤ × ℤ)) (report : ℤ) → AreBefore release ds report → release ≤ℤ report
release_before release [] report a = a
release_before release (d ∷ ds) report a = let r = release_before d.1 ds report a.2 in let p = a.0 in let q = a.1 in omega (arith, ints)

-- and a long rest ends with it: it lies between duties, and after the release or with the one before
pub rest_ends : (long rested release : ℤ) (ds : List (ℤ × ℤ)) (report : ℤ) → pos 0 ≤ℤ long → rested ≤ℤ release → AreBefore release ds report
    → (rested ≤ℤ rested_from long rested release ds report) × (rested_from long rested release ds report ≤ℤ report)
    × ((release ≤ℤ (rested_from long rested release ds report -ℤ long)) ⊎ (rested_from long rested release ds report ≤ℤ rested))
    × ((d : ℤ × ℤ) → Member ds d → (d.1 ≤ℤ (rested_from long rested release ds report -ℤ long)) ⊎ (rested_from long rested release ds report ≤ℤ d.0))
rest_ends long rested release [] report w h a = ⊎_elim
    (λ y. let e = y.1 in let l = y.0 in (omega (arith, ints), omega (arith, ints), inl (omega (arith, ints)), λ d m. absurd m))
    (λ n. let e = n.1 in (omega (arith, ints), omega (arith, ints), inr (omega (arith, ints)), λ d m. absurd m))
    (rested_cases long rested release report)
rest_ends long rested release (d ∷ ds) report w h a =
    let next = rested_after long rested release d.0 in
    let end = rested_from long next d.1 ds report in
    let in_order = a.0 in
    let nonempty = a.1 in
    let next_early : next ≤ℤ d.0 = ⊎_elim (λ y. let e = y.1 in let q : next ≤ℤ d.0 = omega (arith, ints) in q) (λ n. let e = n.1 in let q : next ≤ℤ d.0 = omega (arith, ints) in q) (rested_cases long rested release d.0) in
    let next_late : rested ≤ℤ next = ⊎_elim (λ y. let e = y.1 in let q : rested ≤ℤ next = omega (arith, ints) in q) (λ n. let e = n.1 in let q : rested ≤ℤ next = omega (arith, ints) in q) (rested_cases long rested release d.0) in
    let k = rest_ends long next d.1 ds report w (let q : next ≤ℤ d.1 = omega (arith, ints) in q) a.2 in
    let up = k.0 in (
      let q : rested ≤ℤ end = omega (arith, ints) in q,
      k.1,
      ⊎_elim
          (λ l. inl (let q : release ≤ℤ (end -ℤ long) = omega (arith, ints) in q))
          (λ l. ⊎_elim
          (λ y. let e = y.1 in let f = y.0 in inl (let q : release ≤ℤ (end -ℤ long) = omega (arith, ints) in q))
          (λ n. let e = n.1 in inr (let q : end ≤ℤ rested = omega (arith, ints) in q))
          (rested_cases long rested release d.0))
          k.2,
      λ x m. ⊎_elim
          (λ e. subst (λ z. (z.1 ≤ℤ (end -ℤ long)) ⊎ (end ≤ℤ z.0)) e (⊎_elim inl (λ l. inr (let q : end ≤ℤ d.0 = omega (arith, ints) in q)) k.2))
          (λ n. k.3 x n)
          m,
    )

-- there are so many free minutes in the window where the last long rest ended late enough, and nowhere else
pub rest_found : (long window : ℤ) (first : ℤ × ℤ) (others : List (ℤ × ℤ)) (report : ℤ) → pos 0 ≤ℤ long → first.0 ≤ℤ first.1 → AreBefore first.1 others report
    → (HasRest long window first others report → (report -ℤ rested_from long first.0 first.1 others report) ≤ℤ (window -ℤ long))
    × ((report -ℤ rested_from long first.0 first.1 others report) ≤ℤ (window -ℤ long) → HasRest long window first others report)
rest_found long window first others report w h a =
    let end = rested_from long first.0 first.1 others report in
    let k = rest_ends long first.0 first.1 others report w h a in (
      λ r.
          let t = r.0 in
          let late = rests_end long t first.0 first.1 others report (λ d m. r.4 d (inr m)) (r.4 first (inl refl)) r.3 in
          let within = r.2 in
          let q : (report -ℤ end) ≤ℤ (window -ℤ long) = omega (arith, ints) in q,
      λ l.
          let up = k.0 in
          let back : (end -ℤ long) +ℤ long ≡ end = omega (arith, ints) in (
            end -ℤ long,
            let q : (first.0 -ℤ long) ≤ℤ (end -ℤ long) = omega (arith, ints) in q,
            let q : (report -ℤ window) ≤ℤ (end -ℤ long) = omega (arith, ints) in q,
            subst (λ z. z ≤ℤ report) (sym back) k.1,
            λ d m. ⊎_elim
                (λ e. subst (λ z. (z.1 ≤ℤ (end -ℤ long)) ⊎ (((end -ℤ long) +ℤ long) ≤ℤ z.0)) e (subst (λ z. (first.1 ≤ℤ (end -ℤ long)) ⊎ (z ≤ℤ first.0)) (sym back) k.2))
                (λ n. subst (λ z. (d.1 ≤ℤ (end -ℤ long)) ⊎ (z ≤ℤ d.0)) (sym back) (k.3 d n))
                m,
          ),
    )
