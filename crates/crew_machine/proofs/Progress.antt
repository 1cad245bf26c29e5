-- A round never gets stuck: where nothing is out, and a node isn't done, some node can be claimed.
use Rattle.std.proofs.Common.{◌≡◌, ℕ, zero, suc, ◌+◌, ◌<◌, true, false, List, [], ◌∷◌, map, Some, ◌⊎◌, inl, inr, pos, refl, sym, ◌∙◌, ap, subst, ⊎_elim, arith}
use Rattle.std.specs.List.{slice_get}
use Rattle.std.specs.Ordering.{eq_by_cmp}
use Rattle.std.specs.declared.cmp.Ordering.TheVariants.{Less}
use Rattle.std.proofs.lemmas.Bool.{cases_Bool}
use Rattle.crew_flights.specs.Codes.{code_cmp}
use Rattle.crew_flights.specs.Timetable.{IsSound, Timetable}
use Rattle.crew_resource.proofs.Members.{Member-map_in, Member-map_out}
use Rattle.crew_machine.proofs.Reuse.{place-of-member}
use Rattle.crew_machine.specs.Crew.{DutyNode, DutyWork, Entries, IsNodeOf, MayPrecede, RiseByNode, crew, node_cmp}
use Rattle.crew_machine.specs.Rounds.{IsDone, IsReady, IsUndone}
use Rattle.crew_machine.specs.Worlds.{AreNodes, IsBefore, IsWorkOf}
use Rattle.crew_machine.specs.declared.rounds.Cell.{Cell}
use Rattle.crew_machine.specs.declared.rounds.Cell.TheVariants.{Waiting, Out, Done}
use Rattle.crew_pairing.specs.Pairings.{may_stand_after}
use Rattle.crew_pairing.specs.declared.duty.Duty.{Duty}
use Rattle.crew_resource.proofs.Members.{Member-filter_in}
use Rattle.crew_resource.specs.Members.{Each, Member}
use Rattle.crew_rules.specs.Settings.{IsChecked}
use Rattle.crew_rules.specs.declared.settings.Settings.{Settings}
use Rattle.crew_answers.proofs.crew_vector_lemmas.Nodes.{Known, arcs-rise, rank}
use Rattle.crew_answers.proofs.crew_vector_lemmas.Orders.{code-itself, same-code}
use Rattle.crew_answers.proofs.crew_vector_lemmas.Paths.{legal-known}

done-or-not : (c : Cell Entries) → ((f : Entries) × (c ≡ Done f)) ⊎ IsUndone c
done-or-not Waiting = inr tt
done-or-not Out = inr tt
done-or-not (Done f) = inl (f, refl)

never-both : {A : Type 0} (b : _) → b ≡ true → b ≡ false → A
never-both b t f = absurd (let e : true ≡ false = sym t ∙ f in let q : ⊥ = (cc) in q)

module _ (s : Settings) where
  pub arc-or-not : (p n : DutyNode) → MayPrecede s p n ⊎ (MayPrecede s p n → ⊥)
  arc-or-not p n =
      ⊎_elim
      (λ b.
      ⊎_elim
      (λ r. inl (record { base = same-code p.base n.base b; rested = r }))
      (λ r. inr (λ a. never-both (may_stand_after s p.duty n.duty) a.rested r))
      (cases_Bool (may_stand_after s p.duty n.duty)))
      (λ b. inr (λ a. never-both (eq_by_cmp code_cmp p.base n.base) (code-itself p.base n.base a.base) b))
      (cases_Bool (eq_by_cmp code_cmp p.base n.base))

  abbrev pub AllDone : DutyNode → List (DutyNode × Cell Entries) → Type 0
  AllDone n cells = (p : DutyNode) (c : Cell Entries) → Member cells (p, c) → MayPrecede s p n → (f : Entries) × (c ≡ Done f)

  pub record Undone (n : DutyNode) (cells : List (DutyNode × Cell Entries)) : Type 0 where
    pub before : DutyNode
    pub cell : Cell Entries
    pub there : Member cells (before, cell)
    pub arc : MayPrecede s before n
    pub undone : IsUndone cell

  all-more : (n : DutyNode) (x : DutyNode × Cell Entries) (cells : List (DutyNode × Cell Entries)) → (MayPrecede s x.0 n → (f : Entries) × (x.1 ≡ Done f)) → AllDone n cells → AllDone n (x ∷ cells)
  all-more n x cells here rest p c m a =
      ⊎_elim
      (λ e. let r = here (subst (λ (z : DutyNode). MayPrecede s z n) (sym (ap (λ (z : DutyNode × Cell Entries). z.0) e)) a) in (r.0, sym (ap (λ (z : DutyNode × Cell Entries). z.1) e) ∙ r.1))
      (λ k. rest p c k a)
      m

  pub look : (n : DutyNode) (cells : List (DutyNode × Cell Entries)) → AllDone n cells ⊎ Undone n cells
  look n [] = inl (λ p c m a. absurd m)
  look n (x ∷ cells) =
      ⊎_elim
      (λ u. inr (record { before = u.before; cell = u.cell; there = inr u.there; arc = u.arc; undone = u.undone }))
      (λ rest.
      ⊎_elim
      (λ a.
      ⊎_elim
      (λ d. inl (all-more n x cells (λ _. d) rest))
      (λ u. inr (record { before = x.0; cell = x.1; there = inl refl; arc = a; undone = u }))
      (done-or-not x.1))
      (λ none. inl (all-more n x cells (λ a. absurd (none a)) rest))
      (arc-or-not x.0 n))
      (turned (look n cells))
    where
      turned : {A B : Type 0} → A ⊎ B → B ⊎ A
      turned (inl a) = inr a
      turned (inr b) = inl b

  -- the nodes before one, each with its front, where all of them are done
  record AreBefores (n : DutyNode) (cells : List (DutyNode × Cell Entries)) (before : List (DutyNode × Entries)) : Type 0 where
    pub names-out : (p : DutyNode) → Member (map (λ b. b.0) before) p → Member (map (λ c. c.0) cells) p × MayPrecede s p n
    pub names-in : (p : DutyNode) → Member (map (λ c. c.0) cells) p → MayPrecede s p n → Member (map (λ b. b.0) before) p
    pub fronts : (p : DutyNode) (f : Entries) → Member before (p, f) → Member cells (p, Done f)
    pub each : (x : DutyNode) → Each (λ m. node_cmp x m ≡ Less) (map (λ c. c.0) cells) → Each (λ m. node_cmp x m ≡ Less) (map (λ b. b.0) before)
    pub rise : RiseByNode (map (λ c. c.0) cells) → RiseByNode (map (λ b. b.0) before)

  befores-more : (n : DutyNode) (x : DutyNode × Cell Entries) (cells : List (DutyNode × Cell Entries)) (f : Entries) (before : List (DutyNode × Entries)) → x.1 ≡ Done f → MayPrecede s x.0 n → AreBefores n cells before → AreBefores n (x ∷ cells) ((x.0, f) ∷ before)
  befores-more n x cells f before is arc b = record {
    names-out = λ p m. ⊎_elim (λ e. (inl e, subst (λ (z : DutyNode). MayPrecede s z n) e arc)) (λ k. let r = b.names-out p k in (inr r.0, r.1)) m;
    names-in = λ p m a. ⊎_elim (λ e. inl e) (λ k. inr (b.names-in p k a)) m;
    fronts = λ p g m. ⊎_elim
        (λ e. inl (ap (λ (c : Cell Entries). let z : DutyNode × Cell Entries = (x.0, c) in z) is ∙ ap (λ (y : DutyNode × Entries). let z : DutyNode × Cell Entries = (y.0, Done y.1) in z) e))
        (λ k. inr (b.fronts p g k))
        m;
    each = λ y h. (h.0, b.each y h.1);
    rise = λ h. (b.each x.0 h.0, b.rise h.1);
  }

  befores-same : (n : DutyNode) (x : DutyNode × Cell Entries) (cells : List (DutyNode × Cell Entries)) (before : List (DutyNode × Entries)) → (MayPrecede s x.0 n → ⊥) → AreBefores n cells before → AreBefores n (x ∷ cells) before
  befores-same n x cells before none b = record {
    names-out = λ p m. (let r = b.names-out p m in (inr r.0, r.1));
    names-in = λ p m a. ⊎_elim (λ e. absurd (none (subst (λ (z : DutyNode). MayPrecede s z n) (sym e) a))) (λ k. b.names-in p k a) m;
    fronts = λ p g m. inr (b.fronts p g m);
    each = λ y h. b.each y h.1;
    rise = λ h. b.rise h.1;
  }

  befores : (n : DutyNode) (cells : List (DutyNode × Cell Entries)) → AllDone n cells → (before : List (DutyNode × Entries)) × AreBefores n cells before
  befores n [] all = ([], record { names-out = λ p m. absurd m; names-in = λ p m a. m; fronts = λ p f m. absurd m; each = λ y h. h; rise = λ h. h })
  befores n (x ∷ cells) all =
      let rest = befores n cells (λ p c m a. all p c (inr m) a) in
      ⊎_elim
      (λ arc. let d = all x.0 x.1 (inl refl) arc in ((x.0, d.0) ∷ rest.0, befores-more n x cells d.0 rest.0 d.1 arc rest.1))
      (λ none. (rest.0, befores-same n x cells rest.0 none rest.1))
      (arc-or-not x.0 n)

  module _ (checked : IsChecked s) (t : Timetable) (sound : IsSound t) where
    pub time-of : DutyNode → ℕ
    time-of n = rank s t [] (pos 0) checked sound n.duty

    pub earlier : (p n : DutyNode) → IsNodeOf s t p → MayPrecede s p n → time-of p < time-of n
    unfolding time-of
    earlier p n is a =
        arcs-rise s t [] (pos 0) checked sound p.duty n.duty (Member-filter_in (λ (x : Duty). may_stand_after s x n.duty) (Known s t [] (pos 0) checked sound) p.duty (legal-known s t [] (pos 0) checked sound p.duty is.legal) a.rested)

  module _ (t : Timetable) (cells : List (DutyNode × Cell Entries)) (nodes : AreNodes (crew s) t (map (λ c. c.0) cells)) where
    pub node-in : (n : DutyNode) (c : Cell Entries) → Member cells (n, c) → IsNodeOf s t n
    node-in n c m = (nodes.exact n).0 (Member-map_in (λ (x : DutyNode × Cell Entries). x.0) cells (n, c) m)

    pub befores-done : (n p : DutyNode) → AllDone n cells → IsBefore (crew s) t p n → (e : Entries) × IsDone (crew s) cells p e
    befores-done n p all b =
        let from = Member-map_out (λ (x : DutyNode × Cell Entries). x.0) cells p ((nodes.exact p).1 b.0) in
        let arc : MayPrecede s from.0.0 n = subst (λ (z : DutyNode). MayPrecede s z n) (sym from.2) b.1 in
        let done = all from.0.0 from.0.1 from.1 arc in
        let there : Member cells (p, from.0.1) = subst (λ (z : DutyNode). Member cells (z, from.0.1)) from.2 from.1 in
        (done.0, subst (λ (c : Cell Entries). Member cells (p, c)) done.1 there)

    -- the own job of a node, where all that may stand just before it is done
    pub own-job : (n : DutyNode) → AllDone n cells → (job : DutyWork) × (job.node ≡ n) × IsWorkOf (crew s) t (IsDone (crew s) cells) job
    own-job n all =
        let b = befores n cells all in
        let job : DutyWork = record { node = n; input = (crew s).input t n; before = b.0 } in (
          job,
          refl,
          record {
            input = refl;
            before = record {
              rise = b.1.rise nodes.rise;
              exact = λ p. (
                λ m. (let k = b.1.names-out p m in ((nodes.exact p).0 k.0, k.1)),
                λ k. b.1.names-in p ((nodes.exact p).1 k.0) k.1,
              );
            };
            fronts = b.1.fronts;
          },
        )

  module _ (checked : IsChecked s) (t : Timetable) (sound : IsSound t) (cells : List (DutyNode × Cell Entries)) (nodes : AreNodes (crew s) t (map (λ c. c.0) cells)) (none_out : (n : DutyNode) → Member cells (n, Out) → ⊥) where
    -- a node that waits, where all that may stand just before it is done
    record Found : Type 0 where
      pub node : DutyNode
      pub waits : Member cells (node, Waiting)
      pub all : AllDone node cells

    found-at : (n : DutyNode) (c : Cell Entries) → Member cells (n, c) → IsUndone c → AllDone n cells → Found
    found-at n (Done f) m u all = absurd u
    found-at n Out m u all = absurd (none_out n m)
    found-at n Waiting m u all = record { node = n; waits = m; all = all }

    found-below : (k : ℕ) (n : DutyNode) (c : Cell Entries) → time-of checked t sound n < k → Member cells (n, c) → IsUndone c → Found
    found-below zero n c low m u = absurd (omega (arith, low))
    found-below (suc k) n c low m u =
        ⊎_elim
        (λ all. found-at n c m u all)
        (λ r. let less = earlier checked t sound r.before n (node-in t cells nodes r.before r.cell r.there) r.arc in found-below k r.before r.cell (omega (arith, low, less)) r.there r.undone)
        (look n cells)

    -- the step that claims it
    pub some-claim : (n : DutyNode) (c : Cell Entries) → Member cells (n, c) → IsUndone c → (place : ℕ) × (job : DutyWork) × IsReady (crew s) t cells place job.node × (slice_get cells place ≡ Some (job.node, Waiting)) × IsWorkOf (crew s) t (IsDone (crew s) cells) job
    unfolding found-below
    some-claim n c m u =
        let f = found-below (time-of checked t sound n + 1) n c (omega arith) m u in
        let at = place-of-member cells (f.node, Waiting) f.waits in
        let own = own-job t cells nodes f.node f.all in
        let here : slice_get cells at.0 ≡ Some (own.0.node, Waiting) = subst (λ (z : DutyNode). slice_get cells at.0 ≡ Some (z, Waiting)) (sym own.1) at.1 in
        (at.0, own.0, (here, λ p b. befores-done t cells nodes f.node p f.all (subst (IsBefore (crew s) t p) own.1 b)), here, own.2)
