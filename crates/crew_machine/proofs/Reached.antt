-- Which nodes a change reaches can be told, so each round can be begun.
use Rattle.std.proofs.Common.{◌≡◌, ℕ, zero, suc, ◌+◌, ◌<◌, List, [], ◌∷◌, ◌++◌, map, Option, ◌⊎◌, inl, inr, ℤ, refl, sym, ap, subst, ⊎_elim, arith}
use Rattle.std.specs.FinMap as fin
use Rattle.crew_flights.specs.Timetable.{Timetable}
use Rattle.crew_flights.specs.declared.entries.Entry.{Entry}
use Rattle.crew_machine.proofs.CrewLaws.{timetable-sound}
use Rattle.crew_machine.proofs.Decided.{Decided, is-in, told-price}
use Rattle.crew_machine.proofs.Progress.{arc-or-not, earlier, time-of}
use Rattle.crew_machine.proofs.Reuse.{Leads-last}
use Rattle.crew_machine.specs.Crew.{CrewVersion, DutyNode, Entries, Inputs, MayPrecede, crew, timetable_of}
use Rattle.crew_machine.specs.Machinery.Sound.{IsVersion}
use Rattle.crew_machine.specs.Rounds.{IsCarried}
use Rattle.crew_machine.specs.Worlds.{AreNodes, IsBefore, IsUnreached, IsUntouched, Leads, World}
use Rattle.crew_machine.specs.declared.rounds.Cell.{Cell}
use Rattle.crew_machine.specs.declared.rounds.Cell.TheVariants.{Waiting, Out, Done}
use Rattle.crew_resource.proofs.Members.{Member-map_out}
use Rattle.crew_resource.specs.Members.{Member}
use Rattle.crew_rules.specs.Settings.{IsChecked}
use Rattle.crew_rules.specs.declared.settings.Settings.{Settings}

-- a list of arcs, and one more
Leads-on : {E D N I F B : Type 0} (w : World E D N I F B) (d : D) (m : N) (way : List N) (p n : N) → Leads w d m way p → IsBefore w d p n → Leads w d m (way ++ n ∷ []) n
Leads-on w d m [] p n h b = (subst (λ z. IsBefore w d z n) (sym h) b, refl)
Leads-on w d m (x ∷ xs) p n h b = (h.0, Leads-on w d x xs p n h.1 b)

module _ (s : Settings) (checked : IsChecked s) where
  -- of some nodes, those that may stand before one are among others
  abbrev Among : DutyNode → List DutyNode → List DutyNode → Type 0
  Among n xs ys = (p : DutyNode) → Member xs p → MayPrecede s p n → Member ys p

  among : (n : DutyNode) (xs ys : List DutyNode) → Decided (Among n xs ys)
  among n [] ys = inl (λ p m a. absurd m)
  among n (x ∷ xs) ys =
      ⊎_elim {C = Decided (Among n (x ∷ xs) ys)}
      (λ rest.
      ⊎_elim {C = Decided (Among n (x ∷ xs) ys)}
      (λ a.
      ⊎_elim {C = Decided (Among n (x ∷ xs) ys)}
      (λ i. inl (λ p m b. ⊎_elim (λ e. subst (Member ys) e i) (λ k. rest p k b) m))
      (λ f. inr (λ all. f (all x (inl refl) a)))
      (is-in ys x))
      (λ f. inl (λ p m b. ⊎_elim (λ e. absurd (f (subst (λ (z : DutyNode). MayPrecede s z n) (sym e) b))) (λ k. rest p k b) m))
      (arc-or-not s x n))
      (λ f. inr (λ all. f (λ p m a. all p (inr m) a)))
      (among n xs ys)

  module _ (sealed : CrewVersion) (is : IsVersion (crew s) sealed) (entries : List Entry) (nodes : List DutyNode) (are : AreNodes (crew s) (timetable_of entries) nodes) where
    abbrev old : Timetable
    old = timetable_of sealed.entries

    abbrev new : Timetable
    new = timetable_of entries

    abbrev before-nodes : List DutyNode
    before-nodes = map (λ (e : DutyNode × Entries). e.0) sealed.fronts

    abbrev Untouched : DutyNode → Type 0
    Untouched n = IsUntouched (crew s) old new n

    abbrev Unreached : DutyNode → Type 0
    Unreached n = IsUnreached (crew s) old new n

    untouched-or-not : (n : DutyNode) → Decided (Untouched n)
    untouched-or-not n =
        ⊎_elim {C = Decided (Untouched n)}
        (λ there.
        ⊎_elim {C = Decided (Untouched n)}
        (λ price.
        ⊎_elim {C = Decided (Untouched n)}
        (λ kept.
        ⊎_elim {C = Decided (Untouched n)}
        (λ none-new. inl (record {
          there = (is.nodes.exact n).0 there;
          input = ap (λ (z : Option ℤ). let i : Inputs = record { settings = s; price = z } in i) price;
          before = λ p arc. (
            λ h. (are.exact p).0 (kept p ((is.nodes.exact p).1 h) arc),
            λ h. (is.nodes.exact p).0 (none-new p ((are.exact p).1 h) arc),
          );
        }))
        (λ f. inr (λ u. f (λ p m arc. (is.nodes.exact p).1 ((u.before p arc).1 ((are.exact p).0 m)))))
        (among n nodes before-nodes))
        (λ f. inr (λ u. f (λ p m arc. (are.exact p).1 ((u.before p arc).0 ((is.nodes.exact p).0 m)))))
        (among n before-nodes nodes))
        (λ f. inr (λ u. f (ap (λ (i : Inputs). i.price) u.input)))
        (told-price (fin.get old.bases n.base) (fin.get new.bases n.base)))
        (λ f. inr (λ u. f ((is.nodes.exact n).1 u.there)))
        (is-in before-nodes n)

    from-before : (n : DutyNode) → Untouched n → ((p : DutyNode) → IsBefore (crew s) new p n → Unreached p) → Unreached n
    from-before n u all m way node leads =
        ⊎_elim {C = Untouched m} (λ e. subst Untouched (sym e) u) (λ r. all r.0 r.2 m r.1 node r.3) (Leads-last (crew s) new m way n leads)

    to-before : (n p : DutyNode) → Unreached n → IsBefore (crew s) new p n → Unreached p
    to-before n p u b m way node leads = u m (way ++ n ∷ []) node (Leads-on (crew s) new m way p n leads b)

    -- a node that may stand before one, and is reached
    record ReachedBefore (n : DutyNode) : Type 0 where
      pub node : DutyNode
      pub there : Member nodes node
      pub arc : MayPrecede s node n
      pub is_reached : Unreached node → ⊥

    abbrev NoneReached : DutyNode → List DutyNode → Type 0
    NoneReached n ns = (p : DutyNode) → Member ns p → MayPrecede s p n → Unreached p

    look-before : (n : DutyNode) (ns : List DutyNode) → ((p : DutyNode) → Member ns p → Member nodes p) → ((p : DutyNode) → Member nodes p → MayPrecede s p n → Decided (Unreached p)) → NoneReached n ns ⊎ ReachedBefore n
    look-before n [] sub ask = inl (λ p m a. absurd m)
    look-before n (x ∷ ns) sub ask =
        ⊎_elim {C = NoneReached n (x ∷ ns) ⊎ ReachedBefore n}
        (λ rest.
        ⊎_elim {C = NoneReached n (x ∷ ns) ⊎ ReachedBefore n}
        (λ a.
        ⊎_elim {C = NoneReached n (x ∷ ns) ⊎ ReachedBefore n}
        (λ u. inl (λ p m b. ⊎_elim {C = Unreached p} (λ e. subst Unreached e u) (λ k. rest p k b) m))
        (λ f. inr (record { node = x; there = sub x (inl refl); arc = a; is_reached = f }))
        (ask x (sub x (inl refl)) a))
        (λ f. inl (λ p m b. ⊎_elim {C = Unreached p} (λ e. absurd (f (subst (λ (z : DutyNode). MayPrecede s z n) (sym e) b))) (λ k. rest p k b) m))
        (arc-or-not s x n))
        (λ r. inr r)
        (look-before n ns (λ p m. sub p (inr m)) ask)

    abbrev time : DutyNode → ℕ
    time n = time-of s checked new (timetable-sound entries) n

    unreached-below : (k : ℕ) (n : DutyNode) → time n < k → Member nodes n → Decided (Unreached n)
    unreached-below zero n low m = absurd (omega (arith, low))
    unreached-below (suc k) n low m =
        ⊎_elim {C = Decided (Unreached n)}
        (λ u.
        ⊎_elim {C = Decided (Unreached n)}
        (λ none. inl (from-before n u (λ p b. none p ((are.exact p).1 b.0) b.1)))
        (λ r. inr (λ h. r.is_reached (to-before n r.node h ((are.exact r.node).0 r.there, r.arc))))
        (look-before n nodes (λ p q. q)
        (λ p there arc. (let less = earlier s checked new (timetable-sound entries) p n ((are.exact p).0 there) arc in unreached-below k p (omega (arith, low, less)) there))))
        (λ f. inr (λ h. f (h n [] ((are.exact n).0 m) refl)))
        (untouched-or-not n)

    unreached-or-not : (n : DutyNode) → Member nodes n → Decided (Unreached n)
    unreached-or-not n m = unreached-below (time n + 1) n (omega arith) m

    record Carrying (ns : List DutyNode) (cells : List (DutyNode × Cell Entries)) : Type 0 where
      pub names : map (λ (c : DutyNode × Cell Entries). c.0) cells ≡ ns
      pub done : (n : DutyNode) (f : Entries) → Member cells (n, Done f) → Unreached n × Member sealed.fronts (n, f)
      pub kept : (n : DutyNode) (c : Cell Entries) → Member cells (n, c) → Unreached n → (f : Entries) × (c ≡ Done f)
      pub none_out : (n : DutyNode) → Member cells (n, Out) → ⊥

    abbrev node : DutyNode × Cell Entries → DutyNode
    node c = c.0

    abbrev cell : DutyNode × Cell Entries → Cell Entries
    cell c = c.1

    carry-one : (n : DutyNode) (ns : List DutyNode) (f : Entries) (cells : List (DutyNode × Cell Entries)) → Unreached n → Member sealed.fronts (n, f) → Carrying ns cells → Carrying (n ∷ ns) ((n, Done f) ∷ cells)
    carry-one n ns f cells u there rest = record {
      names = ap (λ z. n ∷ z) rest.names;
      done = λ m g h.
          ⊎_elim {C = Unreached m × Member sealed.fronts (m, g)}
          (λ e.
          (
          let same : n ≡ m = ap node e in
          let is-done : Done f ≡ Done g = ap cell e in
          let front : f ≡ g = (cc) in
          (subst Unreached same u, subst (λ (z : Entries). Member sealed.fronts (m, z)) front (subst (λ (z : DutyNode). Member sealed.fronts (z, f)) same there))))
          (rest.done m g)
          h;
      kept = λ m c h v. ⊎_elim {C = (g : Entries) × (c ≡ Done g)} (λ e. (f, sym (ap cell e))) (λ k. rest.kept m c k v) h;
      none_out = λ m h. ⊎_elim {C = ⊥} (λ e. (let q : Done f ≡ Out = ap cell e in let r : ⊥ = (cc) in r)) (rest.none_out m) h;
    }

    wait-one : (n : DutyNode) (ns : List DutyNode) (cells : List (DutyNode × Cell Entries)) → (Unreached n → ⊥) → Carrying ns cells → Carrying (n ∷ ns) ((n, Waiting) ∷ cells)
    wait-one n ns cells reached rest = record {
      names = ap (λ z. n ∷ z) rest.names;
      done = λ m g h. ⊎_elim {C = Unreached m × Member sealed.fronts (m, g)} (λ e. absurd (let q : Waiting ≡ Done g = ap cell e in let r : ⊥ = (cc) in r)) (rest.done m g) h;
      kept = λ m c h v. ⊎_elim {C = (g : Entries) × (c ≡ Done g)} (λ e. absurd (reached (subst Unreached (sym (ap node e)) v))) (λ k. rest.kept m c k v) h;
      none_out = λ m h. ⊎_elim {C = ⊥} (λ e. (let q : Waiting ≡ Out = ap cell e in let r : ⊥ = (cc) in r)) (rest.none_out m) h;
    }

    kept-front : (n : DutyNode) → Unreached n → Member nodes n → (f : Entries) × Member sealed.fronts (n, f)
    kept-front n u m =
        let there = (u n [] ((are.exact n).0 m) refl).there in
        let from = Member-map_out (λ (e : DutyNode × Entries). e.0) sealed.fronts n ((is.nodes.exact n).1 there) in
        (from.0.1, subst (λ (z : DutyNode). Member sealed.fronts (z, from.0.1)) from.2 from.1)

    carrying : (ns : List DutyNode) → ((n : DutyNode) → Member ns n → Member nodes n) → (cells : List (DutyNode × Cell Entries)) × Carrying ns cells
    carrying [] sub = ([], record { names = refl; done = λ n f m. absurd m; kept = λ n c m u. absurd m; none_out = λ n m. m })
    carrying (n ∷ ns) sub =
        let rest = carrying ns (λ p m. sub p (inr m)) in
        ⊎_elim {C = (cells : List (DutyNode × Cell Entries)) × Carrying (n ∷ ns) cells}
        (λ u. (let f = kept-front n u (sub n (inl refl)) in ((n, Done f.0) ∷ rest.0, carry-one n ns f.0 rest.0 u f.1 rest.1)))
        (λ r. ((n, Waiting) ∷ rest.0, wait-one n ns rest.0 r rest.1))
        (unreached-or-not n (sub n (inl refl)))

    -- the cells of a round over these entries
    pub some-carried : (cells : List (DutyNode × Cell Entries)) × IsCarried (crew s) sealed entries cells
    some-carried =
        let c = carrying nodes (λ n m. m) in
        (c.0, record { nodes = subst (AreNodes (crew s) new) (sym c.1.names) are; done = c.1.done; kept = c.1.kept; none_out = c.1.none_out })
