-- One more node is done: the counts that fall.
use Rattle.std.proofs.Common.{◌≡◌, ℕ, zero, suc, ◌+◌, ◌-◌, ◌<◌, ◌≤◌, nat_lt, Bool, true, false, not, cond, List, [], ◌∷◌, Some, drop, filter, get_or, length, take, slice_set, ◌⊎◌, inl, inr, refl, sym, ◌∙◌, ap, subst, ⊎_elim, arith, tests}
use Rattle.std.specs.Prelude.{slice_get}
use Rattle.std.specs.Cmp.{IsTotalOrder, int_cmp_total, on_total, then_total}
use Rattle.std.specs.declared.cmp.Ordering.TheVariants.{Less, Equal}
use Rattle.std.proofs.lemmas.Bool.{cases_Bool, cases_lt}
use Rattle.std.proofs.lemmas.Cmp.{tied_itself}
use Rattle.std.proofs.lemmas.List.{get_or-set_other, get_or-set_same}
use Rattle.crew_flights.specs.Codes.{code_cmp_total}
use Rattle.crew_net.proofs.ArrivalPlaces.{arrives, own-arrival, ranks-in, ranks-out}
use Rattle.crew_net.specs.Events.{AreEvents, IsWindow, arrival_cmp, arrives_at}
use Rattle.crew_net.specs.Nets.{Net}
use Rattle.crew_net.specs.Ranks.{places_from, ranks_where}
use Rattle.crew_pairing.specs.Events.{arrival_of, may_wait}
use Rattle.crew_pairing.specs.declared.duty.Duty.{Duty}
use Rattle.crew_pairing.specs.declared.events.Arrival.{Arrival}
use Rattle.crew_net.specs.declared.window.Window.{Window}
use Rattle.crew_pairing.specs.declared.events.Departure.{Departure}
use Rattle.crew_ready.proofs.Counted.{is-nought, more, same}
use Rattle.crew_ready.specs.Counts.{AreCounts, AreUndoneUpTo, Counts, IsBlocked, undone_of}
use Rattle.crew_resource.specs.Members.{Member}

same-or-not : (a b : ℕ) → (a ≡ b) ⊎ (a ≡ b → ⊥)
same-or-not a b = ⊎_elim (λ h. inr (λ e. omega (arith, h, e))) (λ h. ⊎_elim (λ k. inr (λ e. omega (arith, k, e))) (λ k. inl (omega (arith, h, k))) (cases_lt b a)) (cases_lt a b)

-- one place more of a window is lowered
pub one-lower : (was now : List ℕ) (from i : ℕ) → from ≤ i → i < length now
    → ((k : ℕ) → from ≤ k → k < i → get_or now k 0 ≡ get_or was k 0 - 1)
    → ((k : ℕ) → (k < from) ⊎ (i ≤ k) → get_or now k 0 ≡ get_or was k 0)
    → ((k : ℕ) → from ≤ k → k < i + 1 → get_or (slice_set now i (get_or now i 0 - 1)) k 0 ≡ get_or was k 0 - 1)
    × ((k : ℕ) → (k < from) ⊎ (i + 1 ≤ k) → get_or (slice_set now i (get_or now i 0 - 1)) k 0 ≡ get_or was k 0)
one-lower was now from i low within inside outside = (
  λ k a b.
      ⊎_elim {C = get_or (slice_set now i (get_or now i 0 - 1)) k 0 ≡ get_or was k 0 - 1}
      (λ e. ap (λ z. get_or (slice_set now i (get_or now i 0 - 1)) z 0) e ∙ (get_or-set_same now i (get_or now i 0 - 1) 0 within ∙ (ap (λ z. z - 1) (outside i (inr (omega arith))) ∙ ap (λ z. get_or was z 0 - 1) (sym e))))
      (λ f. get_or-set_other now i k (get_or now i 0 - 1) 0 f ∙ inside k a (omega (arith, b, f)))
      (same-or-not k i),
  λ k h.
      let apart : k ≡ i → ⊥ = λ e. ⊎_elim {C = ⊥} (λ a. omega (arith, a, e, low)) (λ b. omega (arith, b, e)) h in
      get_or-set_other now i k (get_or now i 0 - 1) 0 apart ∙ outside k (⊎_elim {C = (k < from) ⊎ (i ≤ k)} inl (λ b. inr (omega (arith, b))) h),
)

-- ---- how many pass

count-same : (p q : ℕ → Bool) (xs : List ℕ) → ((x : ℕ) → Member xs x → p x ≡ q x) → length (filter p xs) ≡ length (filter q xs)
count-same p q [] h = refl
count-same p q (y ∷ xs) h =
    let rest = count-same p q xs (λ x m. h x (inr m)) in
    let own = h y (inl refl) in
    ⊎_elim {C = length (filter p (y ∷ xs)) ≡ length (filter q (y ∷ xs))}
    (λ t. more p y xs t ∙ (ap suc rest ∙ sym (more q y xs (sym own ∙ t))))
    (λ f. ap length (same p y xs f) ∙ (rest ∙ sym (ap length (same q y xs (sym own ∙ f)))))
    (cases_Bool (p y))

above : {X : Type 0} (at : ℕ) (passes : X → Bool) (items : List X) (k : ℕ) → Member (places_from at passes items) k → at ≤ k
above at passes [] k m = absurd m
above at passes (x ∷ items) k m =
    ⊎_elim {C = at ≤ k}
    (λ t. ⊎_elim {C = at ≤ k} (λ e. omega (arith, e)) (λ n. (let b = above (suc at) passes items k n in omega (arith, b))) (subst (λ b. Member (cond b (at ∷ places_from (suc at) passes items) (places_from (suc at) passes items)) k) t m))
    (λ f. (let b = above (suc at) passes items k (subst (λ b. Member (cond b (at ∷ places_from (suc at) passes items) (places_from (suc at) passes items)) k) f m) in omega (arith, b)))
    (cases_Bool (passes x))

-- one of the ranks passes no more
module _ {X : Type 0} (p q : ℕ → Bool) (r : ℕ) (was : p r ≡ true) (now : q r ≡ false) (others : (x : ℕ) → (x ≡ r → ⊥) → p x ≡ q x) (passes : X → Bool) where
  abbrev Falls : List ℕ → Type 0
  Falls xs = length (filter p xs) ≡ suc (length (filter q xs))

  falls-head : (at : ℕ) (ps : List ℕ) → at ≡ r → ((x : ℕ) → Member ps x → x ≡ r → ⊥) → Falls (at ∷ ps)
  falls-head at ps e none =
      more p at ps (ap p e ∙ was) ∙ ap suc (count-same p q ps (λ x m. others x (none x m)) ∙ sym (ap length (same q at ps (ap q e ∙ now))))

  falls-tail : (at : ℕ) (ps : List ℕ) → (at ≡ r → ⊥) → Falls ps → Falls (at ∷ ps)
  falls-tail at ps n rest =
      ⊎_elim {C = Falls (at ∷ ps)}
      (λ t. more p at ps t ∙ (ap suc rest ∙ sym (ap suc (more q at ps (sym (others at n) ∙ t)))))
      (λ f. ap length (same p at ps f) ∙ (rest ∙ sym (ap suc (ap length (same q at ps (sym (others at n) ∙ f))))))
      (cases_Bool (p at))

  falls-from : (at : ℕ) (items : List X) → Member (places_from at passes items) r → Falls (places_from at passes items)
  falls-from at [] m = absurd m
  falls-from at (x ∷ items) m =
      let ps = places_from (suc at) passes items in
      ⊎_elim {C = Falls (places_from at passes (x ∷ items))}
      (λ t. subst (λ b. Falls (cond b (at ∷ ps) ps)) (sym t)
      (⊎_elim {C = Falls (at ∷ ps)}
      (λ e. falls-head at ps e (λ y n f. (let b = above (suc at) passes items y n in omega (arith, b, e, f))))
      (λ n. (let b = above (suc at) passes items r n in falls-tail at ps (λ e. omega (arith, b, e)) (falls-from (suc at) items n)))
      (subst (λ b. Member (cond b (at ∷ ps) ps) r) t m)))
      (λ f. subst (λ b. Falls (cond b (at ∷ ps) ps)) (sym f) (falls-from (suc at) items (subst (λ b. Member (cond b (at ∷ ps) ps) r) f m)))
      (cases_Bool (passes x))

-- ---- windows of counts, after a write

abbrev wait : List ℕ → ℕ → ℕ → ℕ
wait xs from n = length (filter (nat_lt 0) (take n (drop from xs)))

wait-apart : (xs : List ℕ) (from n k v : ℕ) → (k < from) ⊎ (from + n ≤ k) → wait (slice_set xs k v) from n ≡ wait xs from n
wait-apart xs from n k v h = ap (λ (z : List ℕ). length (filter (nat_lt 0) z)) (part xs from n k v h)
  where
    part : (xs : List ℕ) (from n k v : ℕ) → (k < from) ⊎ (from + n ≤ k) → take n (drop from (slice_set xs k v)) ≡ take n (drop from xs)
    part [] from n k v h = refl
    part (x ∷ xs) zero zero k v h = refl
    part (x ∷ xs) zero (suc n) zero v h = absurd (⊎_elim {C = ⊥} (λ a. omega (arith, a)) (λ a. omega (arith, a)) h)
    part (x ∷ xs) zero (suc n) (suc k) v h = ap (λ z. x ∷ z) (part xs zero n k v (⊎_elim {C = (k < 0) ⊎ (0 + n ≤ k)} (λ a. absurd (omega (arith, a))) (λ a. inr (omega (arith, a))) h))
    part (x ∷ xs) (suc from) n zero v h = refl
    part (x ∷ xs) (suc from) n (suc k) v h = part xs from n k v (⊎_elim {C = (k < from) ⊎ (from + n ≤ k)} (λ a. inl (omega (arith, a))) (λ a. inr (omega (arith, a))) h)

head : (x : ℕ) (xs ys : List ℕ) → length (filter (nat_lt 0) xs) ≡ length (filter (nat_lt 0) ys) → length (filter (nat_lt 0) (x ∷ xs)) ≡ length (filter (nat_lt 0) (x ∷ ys))
head x xs ys e =
    ⊎_elim {C = length (filter (nat_lt 0) (x ∷ xs)) ≡ length (filter (nat_lt 0) (x ∷ ys))}
    (λ t. more (nat_lt 0) x xs t ∙ (ap suc e ∙ sym (more (nat_lt 0) x ys t)))
    (λ f. ap length (same (nat_lt 0) x xs f) ∙ (e ∙ sym (ap length (same (nat_lt 0) x ys f))))
    (cases_Bool (nat_lt 0 x))

head-less : (x : ℕ) (xs ys : List ℕ) → length (filter (nat_lt 0) xs) ≡ suc (length (filter (nat_lt 0) ys)) → length (filter (nat_lt 0) (x ∷ xs)) ≡ suc (length (filter (nat_lt 0) (x ∷ ys)))
head-less x xs ys e =
    ⊎_elim {C = length (filter (nat_lt 0) (x ∷ xs)) ≡ suc (length (filter (nat_lt 0) (x ∷ ys)))}
    (λ t. more (nat_lt 0) x xs t ∙ (ap suc e ∙ sym (ap suc (more (nat_lt 0) x ys t))))
    (λ f. ap length (same (nat_lt 0) x xs f) ∙ (e ∙ sym (ap suc (ap length (same (nat_lt 0) x ys f)))))
    (cases_Bool (nat_lt 0 x))

wait-same : (xs : List ℕ) (from n k v : ℕ) → nat_lt 0 v ≡ true → nat_lt 0 (get_or xs k 0) ≡ true → wait (slice_set xs k v) from n ≡ wait xs from n
wait-same [] from n k v a b = refl
wait-same (x ∷ xs) zero zero k v a b = refl
wait-same (x ∷ xs) zero (suc n) zero v a b = more (nat_lt 0) v (take n xs) a ∙ sym (more (nat_lt 0) x (take n xs) b)
wait-same (x ∷ xs) zero (suc n) (suc k) v a b = head x (take n (slice_set xs k v)) (take n xs) (wait-same xs zero n k v a b)
wait-same (x ∷ xs) (suc from) n zero v a b = refl
wait-same (x ∷ xs) (suc from) n (suc k) v a b = wait-same xs from n k v a b

wait-less : (xs : List ℕ) (from n k v : ℕ) → from ≤ k → k < from + n → k < length xs → nat_lt 0 v ≡ false → nat_lt 0 (get_or xs k 0) ≡ true → wait xs from n ≡ suc (wait (slice_set xs k v) from n)
wait-less [] from n k v l h i a b = absurd (omega (arith, i))
wait-less (x ∷ xs) zero zero k v l h i a b = absurd (omega (arith, h))
wait-less (x ∷ xs) zero (suc n) zero v l h i a b = more (nat_lt 0) x (take n xs) b ∙ sym (ap suc (ap length (same (nat_lt 0) v (take n xs) a)))
wait-less (x ∷ xs) zero (suc n) (suc k) v l h i a b = head-less x (take n xs) (take n (slice_set xs k v)) (wait-less xs zero n k v (omega arith) (omega (arith, h)) (omega (arith, i)) a b)
wait-less (x ∷ xs) (suc from) n zero v l h i a b = absurd (omega (arith, l))
wait-less (x ∷ xs) (suc from) n (suc k) v l h i a b = wait-less xs from n k v (omega (arith, l)) (omega (arith, h)) (omega (arith, i)) a b

-- ---- a node more is done

arrival-total : IsTotalOrder arrival_cmp
arrival-total = then_total (on_total (λ x. x.airport) code_cmp_total) (on_total (λ x. x.release) int_cmp_total)

not-itself : (x : Arrival) → arrival_cmp x x ≡ Less → ⊥
not-itself x e = let tied : arrival_cmp x x ≡ Equal = tied_itself arrival-total x in let clash : Less ≡ Equal = sym e ∙ tied in let q : ⊥ = (cc) in q

length-set_lem : {X : Type 0} (xs : List X) (i : ℕ) (x : X) → length (slice_set xs i x) ≡ length xs
length-set_lem [] i x = refl
length-set_lem (y ∷ ys) zero x = refl
length-set_lem (y ∷ ys) (suc i) x = let k = length-set_lem ys i x in omega (arith, k)

some-of : (n : ℕ) → 0 < n → nat_lt 0 n ≡ true
some-of n h = grind (arith, tests, h)

module _ (net : Net) (done : List Bool) (c : Counts) (rank a : ℕ) (d : Duty) (counts : AreCounts net done c) (events : AreEvents arrival_of arrival_cmp net.duties net.arrivals) (at : slice_get net.duties rank ≡ Some d) (arrived : slice_get net.arrivals a ≡ Some (arrival_of d)) (known : rank < length done) (undone : get_or done rank false ≡ false) (within : a < length net.arrivals) where
  abbrev after : List Bool
  after = slice_set done rank true

  abbrev fewer : List ℕ
  fewer = slice_set c.undone a (get_or c.undone a 0 - 1)

  abbrev own-ranks : Arrival → List ℕ
  own-ranks x = ranks_where (arrives_at x) net.duties

  elsewhere-done : (x : ℕ) → (x ≡ rank → ⊥) → not (get_or done x false) ≡ not (get_or after x false)
  elsewhere-done x n = ap not (sym (get_or-set_other done rank x true false n))

  once : undone_of done (own-ranks (arrival_of d)) ≡ suc (undone_of after (own-ranks (arrival_of d)))
  once =
      falls-from (λ x. not (get_or done x false)) (λ x. not (get_or after x false)) rank (ap not undone) (ap not (get_or-set_same done rank true false known)) elsewhere-done (arrives_at (arrival_of d)) 0 net.duties
      (ranks-in (arrives_at (arrival_of d)) net.duties rank d at (arrives (arrival_of d) d refl))

  pub own-count : get_or c.undone a 0 ≡ suc (undone_of after (own-ranks (arrival_of d)))
  own-count = counts.undone a (arrival_of d) within arrived ∙ once

  long : a < length c.undone
  long = let l = counts.long in omega (arith, l, within)

  one-arrival : (k : ℕ) (x : Arrival) → slice_get net.arrivals k ≡ Some x → (k ≡ a → ⊥) → Member (own-ranks x) rank → ⊥
  one-arrival k x there n m =
      let e = ranks-out (arrives_at x) net.duties rank m in
      let same-duty : e.0 ≡ d = one e.0 d (sym e.1 ∙ at) in
      let is : x ≡ arrival_of d = own-arrival x e.0 e.2 ∙ ap arrival_of same-duty in
      let here : slice_get net.arrivals k ≡ Some (arrival_of d) = there ∙ ap Some is in
      ⊎_elim {C = ⊥}
      (λ l. not-itself (arrival_of d) (events.rising k a (arrival_of d) (arrival_of d) l here arrived))
      (λ l. not-itself (arrival_of d) (events.rising a k (arrival_of d) (arrival_of d) (omega (arith, l, n)) arrived here))
      (cases_lt k a)
    where
      one : (e f : Duty) → Some e ≡ Some f → e ≡ f
      one e f s = let q : e ≡ f = (cc) in q

  pub fewer-undone : AreUndoneUpTo net after (length net.arrivals) fewer
  fewer-undone k x low there =
      ⊎_elim {C = get_or fewer k 0 ≡ undone_of after (own-ranks x)}
      (λ e.
      let is : arrival_of d ≡ x = one (arrival_of d) x (sym arrived ∙ (ap (slice_get net.arrivals) (sym e) ∙ there)) in
      let down : get_or c.undone a 0 - 1 ≡ undone_of after (own-ranks (arrival_of d)) = (let o = own-count in omega (arith, o)) in
      ap (λ z. get_or fewer z 0) e ∙ (get_or-set_same c.undone a (get_or c.undone a 0 - 1) 0 long ∙ (down ∙ ap (λ z. undone_of after (own-ranks z)) is)))
      (λ n.
      get_or-set_other c.undone a k (get_or c.undone a 0 - 1) 0 n
      ∙ (counts.undone k x low there
      ∙ count-same (λ r. not (get_or done r false)) (λ r. not (get_or after r false)) (own-ranks x) (λ r m. elsewhere-done r (λ e. one-arrival k x there n (subst (Member (own-ranks x)) e m)))))
      (same-or-not k a)
    where
      one : (x y : Arrival) → Some x ≡ Some y → x ≡ y
      one x y s = let q : x ≡ y = (cc) in q

  was-some : nat_lt 0 (get_or c.undone a 0) ≡ true
  was-some = some-of (get_or c.undone a 0) (let o = own-count in omega (arith, o))

  now-at : get_or fewer a 0 ≡ get_or c.undone a 0 - 1
  now-at = get_or-set_same c.undone a (get_or c.undone a 0 - 1) 0 long

  -- others of the arrival are left: no departure is nearer
  pub kept-counts : (get_or fewer a 0 ≡ 0 → ⊥) → AreCounts net after (record { undone = fewer; blocked = c.blocked })
  kept-counts n = record {
    long = length-set_lem c.undone a (get_or c.undone a 0 - 1) ∙ counts.long;
    undone = fewer-undone;
    long_blocked = counts.long_blocked;
    blocked = λ k g low there.
        let b = counts.blocked k g low there in
        let some : 0 < get_or c.undone a 0 - 1 = (let is = now-at in ⊎_elim {C = 0 < get_or c.undone a 0 - 1} (λ h. h) (λ h. absurd (n (omega (arith, is, h)))) (cases_lt 0 (get_or c.undone a 0 - 1))) in
        record {
          window = b.window;
          is_window = b.is_window;
          counted = b.counted ∙ sym (wait-same c.undone b.window.from (b.window.end - b.window.from) a (get_or c.undone a 0 - 1) (some-of (get_or c.undone a 0 - 1) some) was-some);
        };
  }

  -- none is left: each departure that may follow waits on one arrival less
  pub last-counts : (blocked : List ℕ) (f : Window) → get_or fewer a 0 ≡ 0 → IsWindow (may_wait net.settings (arrival_of d)) net.departures f → length blocked ≡ length c.blocked
      → ((k : ℕ) → f.from ≤ k → k < f.end → get_or blocked k 0 ≡ get_or c.blocked k 0 - 1) → ((k : ℕ) → (k < f.from) ⊎ (f.end ≤ k) → get_or blocked k 0 ≡ get_or c.blocked k 0)
      → AreCounts net after (record { undone = fewer; blocked = blocked })
  last-counts blocked f last is same-long inside outside = record {
    long = length-set_lem c.undone a (get_or c.undone a 0 - 1) ∙ counts.long;
    undone = fewer-undone;
    long_blocked = same-long ∙ counts.long_blocked;
    blocked = λ k g low there. one-departure k g there (counts.blocked k g low there);
  }
    where
      one-departure : (k : ℕ) (g : Departure) → slice_get net.departures k ≡ Some g → IsBlocked net c.undone g (get_or c.blocked k 0) → IsBlocked net fewer g (get_or blocked k 0)
      one-departure k g there b =
          let w = b.window in
          let v = get_or c.undone a 0 - 1 in
          let zero-now : nat_lt 0 v ≡ false = is-nought v (sym now-at ∙ last) in
          let ordered = b.is_window.ordered in
          ⊎_elim {C = IsBlocked net fewer g (get_or blocked k 0)}
          (λ may.
          let in-f = (is.exact k g there).0 may in
          let in-w = (b.is_window.exact a (arrival_of d) arrived).0 may in
          let low = in-w.0 in
          let high = in-w.1 in
          let falls = wait-less c.undone w.from (w.end - w.from) a v low (omega (arith, low, high, ordered)) long zero-now was-some in
          let was = b.counted in
          let now = inside k in-f.0 in-f.1 in
          record { window = w; is_window = b.is_window; counted = omega (arith, falls, was, now) })
          (λ no.
          let out-f : (k < f.from) ⊎ (f.end ≤ k) = out (λ l h. never (may_wait net.settings (arrival_of d) g) ((is.exact k g there).1 (l, h)) no) in
          let out-w : (a < w.from) ⊎ (w.end ≤ a) = out (λ l h. never (may_wait net.settings (arrival_of d) g) ((b.is_window.exact a (arrival_of d) arrived).1 (l, h)) no) in
          let apart : (a < w.from) ⊎ (w.from + (w.end - w.from) ≤ a) = ⊎_elim {C = (a < w.from) ⊎ (w.from + (w.end - w.from) ≤ a)} inl (λ h. inr (omega (arith, h, ordered))) out-w in
          record { window = w; is_window = b.is_window; counted = outside k out-f ∙ (b.counted ∙ sym (wait-apart c.undone w.from (w.end - w.from) a v apart)) })
          (cases_Bool (may_wait net.settings (arrival_of d) g))
        where
          never : (b : Bool) → b ≡ true → b ≡ false → ⊥
          never b t f = let e : true ≡ false = sym t ∙ f in let q : ⊥ = (cc) in q

          out : {l h x : ℕ} → (l ≤ x → x < h → ⊥) → (x < l) ⊎ (h ≤ x)
          out {l} {h} {x} n = ⊎_elim {C = (x < l) ⊎ (h ≤ x)} inl (λ a. ⊎_elim {C = (x < l) ⊎ (h ≤ x)} (λ b. absurd (n a b)) inr (cases_lt x h)) (cases_lt x l)
