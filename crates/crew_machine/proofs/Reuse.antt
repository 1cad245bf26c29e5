-- Reusing nodes until none is left ends in one list of cells, whichever are reused; and after a round is begun none is left.
use Rattle.std.proofs.Common.{◌≡◌, ◌≢◌, ℕ, zero, suc, ◌<◌, List, [], ◌∷◌, slice_set, Option, Some, None, ◌⊎◌, inl, inr, refl, sym, ◌∙◌, ap, subst, ⊎_elim, arith}
use Rattle.std.specs.List.{slice_get}
use Rattle.crew_resource.specs.Members.{Member}
use Rattle.crew_machine.specs.Worlds.{IsBefore, IsUnreached, IsUntouched, IsWorkOf, Leads, Work, World}
use Rattle.crew_machine.specs.declared.rounds.Cell.{Cell}
use Rattle.crew_machine.specs.declared.rounds.Cell.TheVariants.{Waiting, Done}
use Rattle.crew_machine.specs.Rounds.{IsCarried, IsDone, IsReusable, IsReused, IsUndone, NoneReusable, Reuses, StaysOrReused, Version}
use Rattle.crew_machine.proofs.Cells.{Some-same, set-keeps}
use Rattle.crew_resource.proofs.Members.{Member-at, Member-map_in, Member-map_out}

pub place-of-member : {X : Type 0} (xs : List X) (x : X) → Member xs x → (i : ℕ) × (slice_get xs i ≡ Some x)
place-of-member [] x m = absurd m
place-of-member (y ∷ ys) x m = ⊎_elim (λ e. (zero, ap Some e)) (λ k. let r = place-of-member ys x k in (suc r.0, r.1)) m

pub waits-not-done : {N F : Type 0} (n m : N) (f : F) → ◌≡◌ {A = Option (N × Cell F)} (Some (n, Done f)) (Some (m, Waiting)) → ⊥
waits-not-done {N} {F} n m f e =
    let a : N × Cell F = (n, Done f) in
    let b : N × Cell F = (m, Waiting) in
    let q : Done f ≡ Waiting = ap (λ z. z.1) (Some-same a b e) in let r : ⊥ = (cc) in r

waiting-other : {N F : Type 0} (n m : N) (f : F) → ◌≡◌ {A = N × Cell F} (n, Waiting) (m, Done f) → ⊥
waiting-other {N} {F} n m f e = waits-not-done m n f (ap Some (sym e))

pub slice_get-set_split : {X : Type 0} (xs : List X) (i k : ℕ) (v : X) → ((k ≡ i) × (slice_get (slice_set xs i v) k ≡ slice_get (slice_set xs i v) i)) ⊎ (slice_get (slice_set xs i v) k ≡ slice_get xs k)
slice_get-set_split [] i k v = inr refl
slice_get-set_split (y ∷ ys) zero zero v = inl (refl, refl)
slice_get-set_split (y ∷ ys) zero (suc k) v = inr refl
slice_get-set_split (y ∷ ys) (suc i) zero v = inr refl
slice_get-set_split (y ∷ ys) (suc i) (suc k) v = ⊎_elim (λ e. inl (ap suc e.0, e.1)) inr (slice_get-set_split ys i k v)

pub slice_get-set_here : {X : Type 0} (xs : List X) (i : ℕ) (x v : X) → slice_get xs i ≡ Some x → slice_get (slice_set xs i v) i ≡ Some v
slice_get-set_here [] i x v e = absurd (let q : ⊥ = (cc) in q)
slice_get-set_here (y ∷ ys) zero x v e = refl
slice_get-set_here (y ∷ ys) (suc i) x v e = slice_get-set_here ys i x v e

same-list : {X : Type 0} (xs ys : List X) → ((i : ℕ) → slice_get xs i ≡ slice_get ys i) → xs ≡ ys
same-list [] [] h = refl
same-list [] (y ∷ ys) h = absurd (let e : None ≡ Some y = h zero in let q : ⊥ = (cc) in q)
same-list (x ∷ xs) [] h = absurd (let e : Some x ≡ None = h zero in let q : ⊥ = (cc) in q)
same-list (x ∷ xs) (y ∷ ys) h = ap (λ z. z ∷ xs) (Some-same x y (h zero)) ∙ ap (λ z. y ∷ z) (same-list xs ys (λ i. h (suc i)))

same-pair : {N F : Type 0} (n m : N) (f g : F) → n ≡ m → f ≡ g → ◌≡◌ {A = N × Cell F} (n, Done f) (m, Done g)
same-pair {N} {F} n m f g node front = ap (λ z. let c : N × Cell F = (z, Done f) in c) node ∙ ap (λ z. let c : N × Cell F = (m, Done z) in c) front

same-told : {X : Type 0} (a b : List X) (i : ℕ) (x y : X) → slice_get b i ≡ Some x → x ≡ y → slice_get a i ≡ Some y → slice_get b i ≡ slice_get a i
same-told a b i x y e same f = e ∙ (ap Some same ∙ sym f)

module _ {E D N I F B : Type 0} (w : World E D N I F B) (sealed : Version E N F B) (entries : List E) where
  -- what is done stays done
  stays-done : (old new : List (N × Cell F)) → Reuses w sealed entries old new → (i : ℕ) (n : N) (f : F) → slice_get old i ≡ Some (n, Done f) → slice_get new i ≡ Some (n, Done f)
  stays-done old new r i n f at = ⊎_elim {C = slice_get new i ≡ Some (n, Done f)} (λ s. s ∙ at) (λ u. absurd (waits-not-done n u.job.node f (sym at ∙ u.waited))) (r i)

  same-done : (old new : List (N × Cell F)) → Reuses w sealed entries old new → (n : N) (f : F) → IsDone w old n f → IsDone w new n f
  same-done old new r n f m =
      let at = place-of-member old (n, Done f) m in
      Member-at new at.0 (n, Done f) (stays-done old new r at.0 n f at.1)

  -- a node that can be reused, and others after it, one after another
  pub reuse-first : (old : List (N × Cell F)) (i : ℕ) (job : Work N I F) (f : F) (new : List (N × Cell F)) → IsReusable w sealed (record { entries = entries; cells = old }) i job f
      → Reuses w sealed entries (slice_set old i (job.node, Done f)) new → Reuses w sealed entries old new
  reuse-first old i job f new can rest k =
      let was : N × Cell F = (job.node, Waiting) in
      let now : N × Cell F = (job.node, Done f) in
      let next : List (N × Cell F) = slice_set old i now in
      let here : slice_get next i ≡ Some now = slice_get-set_here old i was now can.0.0 in
      let work : IsWorkOf w (w.fold entries) (IsDone w new) job = record {
        input = can.0.1.input;
        before = can.0.1.before;
        fronts = λ p g x. same-done next new rest p g (set-keeps old i was now (p, Done g) can.0.0 (waiting-other job.node p g) (can.0.1.fronts p g x));
      } in
      ⊎_elim {C = StaysOrReused w sealed entries old new k}
      (λ e.
      ⊎_elim {C = StaysOrReused w sealed entries old new k}
      (λ s. inr (record { job = job; front = f; waited = ap (slice_get old) e.0 ∙ can.0.0; own = (s ∙ (e.1 ∙ here), work); of_version = can.1 }))
      (λ u. absurd (waits-not-done job.node u.job.node f (sym (e.1 ∙ here) ∙ u.waited)))
      (rest k))
      (λ e.
      ⊎_elim {C = StaysOrReused w sealed entries old new k}
      (λ s. inl (s ∙ e))
      (λ u. inr (record { job = u.job; front = u.front; waited = sym e ∙ u.waited; own = u.own; of_version = u.of_version }))
      (rest k))
      (slice_get-set_split old i k now)

  -- where a node is stored first, it has its front in the end
  pub stored-there : (cells : List (N × Cell F)) (place : ℕ) (n : N) (c : Cell F) (f : F) (new : List (N × Cell F)) → slice_get cells place ≡ Some (n, c)
      → Reuses w sealed entries (slice_set cells place (n, Done f)) new → slice_get new place ≡ Some (n, Done f)
  stored-there cells place n c f new at r = stays-done (slice_set cells place (n, Done f)) new r place n f (slice_get-set_here cells place (n, c) (n, Done f) at)

  -- .. and the other cells stay, or are reused
  pub stored-others : (cells : List (N × Cell F)) (place : ℕ) (n : N) (f : F) (new : List (N × Cell F))
      → Reuses w sealed entries (slice_set cells place (n, Done f)) new → (k : ℕ) → k ≢ place → StaysOrReused w sealed entries cells new k
  stored-others cells place n f new r k other =
      let v : N × Cell F = (n, Done f) in
      let e : slice_get (slice_set cells place v) k ≡ slice_get cells k = ⊎_elim {C = slice_get (slice_set cells place v) k ≡ slice_get cells k} (λ z. absurd (other z.0)) (λ z. z) (slice_get-set_split cells place k v) in
      ⊎_elim {C = StaysOrReused w sealed entries cells new k}
      (λ s. inl (s ∙ e))
      (λ u. inr (record { job = u.job; front = u.front; waited = sym e ∙ u.waited; own = u.own; of_version = u.of_version }))
      (r k)

  module _ (functional : (n : N) (f g : F) → Member sealed.fronts (n, f) → Member sealed.fronts (n, g) → f ≡ g) (time : N → ℕ) (earlier : (p n : N) → IsBefore w (w.fold entries) p n → time p < time n) where
    -- a node that is reused is reused wherever none is left, the earlier ones first
    reused-below : (bound : ℕ) (old a b : List (N × Cell F)) → Reuses w sealed entries old a → Reuses w sealed entries old b → NoneReusable w sealed entries b
        → (i : ℕ) → (u : IsReused w sealed entries old a i) → time u.job.node < bound → slice_get b i ≡ slice_get a i
    reused-below zero old a b r q none i u low = absurd (omega (arith, low))
    reused-below (suc bound) old a b r q none i u low =
        let job = u.job in
        let work : IsWorkOf w (w.fold entries) (IsDone w b) job = record {
          input = u.own.1.input;
          before = u.own.1.before;
          fronts = λ p g x.
              let at = place-of-member a (p, Done g) (u.own.1.fronts p g x) in
              let less = earlier p job.node ((u.own.1.before.exact p).0 (Member-map_in (λ e. e.0) job.before (p, g) x)) in
              Member-at b at.0 (p, Done g)
              (⊎_elim {C = slice_get b at.0 ≡ Some (p, Done g)}
              (λ s. stays-done old b q at.0 p g (sym s ∙ at.1))
              (λ v. (
              let node : v.job.node ≡ p = ap (λ z. z.0) (Some-same (v.job.node, Done v.front) (p, Done g) (sym v.own.0 ∙ at.1)) in
              let same : time v.job.node ≡ time p = ap time node in
              let now : slice_get b at.0 ≡ slice_get a at.0 = reused-below bound old a b r q none at.0 v (omega (arith, low, less, same)) in
              now ∙ at.1))
              (r at.0));
        } in
        ⊎_elim {C = slice_get b i ≡ slice_get a i}
        (λ s. absurd (none i job u.front ((s ∙ u.waited, work), u.of_version)))
        (λ v.
        let node : v.job.node ≡ job.node = ap (λ z. z.0) (Some-same (v.job.node, Waiting) (job.node, Waiting) (sym v.waited ∙ u.waited)) in
        let front : v.front ≡ u.front = functional job.node v.front u.front (subst (λ z. Member sealed.fronts (z, v.front)) node v.of_version.front_is) u.of_version.front_is in
        same-told a b i (v.job.node, Done v.front) (job.node, Done u.front) v.own.0 (same-pair v.job.node job.node v.front u.front node front) u.own.0)
        (q i)

    reused-same : (old a b : List (N × Cell F)) → Reuses w sealed entries old a → Reuses w sealed entries old b → NoneReusable w sealed entries b
        → (i : ℕ) → IsReused w sealed entries old a i → slice_get b i ≡ slice_get a i
    reused-same old a b r q none i u = reused-below (suc (time u.job.node)) old a b r q none i u (omega arith)

    -- where none is left the cells are the same
    pub one-end : (old a b : List (N × Cell F))
        → Reuses w sealed entries old a → NoneReusable w sealed entries a → Reuses w sealed entries old b → NoneReusable w sealed entries b → a ≡ b
    one-end old a b r none q none' =
        same-list a b (λ i. ⊎_elim {C = slice_get a i ≡ slice_get b i}
        (λ s. ⊎_elim {C = slice_get a i ≡ slice_get b i} (λ t. s ∙ sym t) (λ v. reused-same old b a q r none i v) (q i))
        (λ u. sym (reused-same old a b r q none' i u))
        (r i))

-- an arc list ends at its node, or goes on from a node just before
pub Leads-last : {E D N I F B : Type 0} (w : World E D N I F B) (d : D) (m : N) (way : List N) (n : N) → Leads w d m way n → (m ≡ n) ⊎ ((p : N) × (rest : List N) × IsBefore w d p n × Leads w d m rest p)
Leads-last w d m [] n h = inl h
Leads-last w d m (x ∷ xs) n h =
    ⊎_elim
    (λ e. inr (m, [], subst (λ z. IsBefore w d m z) e h.0, refl))
    (λ r. inr (r.0, x ∷ r.1, r.2, (h.0, r.3)))
    (Leads-last w d x xs n h.1)

module _ {E D N I F B : Type 0} (w : World E D N I F B) where
  -- a job that is the version's, in a round, is of a node that isn't touched
  same-untouched : (sealed : Version E N F B) (entries : List E) (cells : List (N × Cell F)) (job : Work N I F)
      → w.IsNode (w.fold sealed.entries) job.node → IsWorkOf w (w.fold sealed.entries) (λ p g. Member sealed.fronts (p, g)) job → IsWorkOf w (w.fold entries) (IsDone w cells) job
      → IsUntouched w (w.fold sealed.entries) (w.fold entries) job.node
  same-untouched sealed entries cells job there was now = record {
    there = there;
    input = sym was.input ∙ now.input;
    before = λ p arc. (
      λ is. (let m = (was.before.exact p).1 (is, arc) in ((now.before.exact p).0 m).0),
      λ is. (let m = (now.before.exact p).1 (is, arc) in ((was.before.exact p).0 m).0),
    );
  }

  -- what is carried over when a round begins leaves nothing to be reused
  pub carried-none : (sealed : Version E N F B) (entries : List E) (cells : List (N × Cell F)) → IsCarried w sealed entries cells → NoneReusable w sealed entries cells
  carried-none sealed entries cells carried i job f u =
      let old : D = w.fold sealed.entries in
      let new : D = w.fold entries in
      let untouched : IsUntouched w old new job.node = same-untouched sealed entries cells job u.1.there u.1.work u.0.1 in
      let unreached : IsUnreached w old new job.node = λ m way is h. ⊎_elim {C = IsUntouched w old new m}
      (λ e. subst (IsUntouched w old new) (sym e) untouched)
      (λ r.
      let at = Member-map_out (λ b. b.0) job.before r.0 ((u.0.1.before.exact r.0).1 r.2) in
      let there : Member job.before (r.0, at.0.1) = subst (λ z. Member job.before (z, at.0.1)) at.2 at.1 in
      let k = (carried.done r.0 at.0.1 (u.0.1.fronts r.0 at.0.1 there)).0 in
      k m r.1 is r.3)
      (Leads-last w new m way job.node h) in
      let kept = carried.kept job.node Waiting (Member-at cells i (job.node, Waiting) u.0.0) unreached in
      subst IsUndone kept.1 tt
