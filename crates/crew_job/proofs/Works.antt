-- The work of a node in two timetables: whether it is the same.
use Rattle.std.proofs.Common.{◌≡◌, ◌∙◌, ℕ, ℤ, true, List, [], ◌∷◌, Option, Some, inl, inr, map, refl, sym, ap, subst, ⊎_elim}
use Rattle.std.specs.FinMap as fin
use Rattle.crew_flights.specs.Timetable.{IsSound, Timetable}
use Rattle.crew_machine.proofs.Alike.{same-front-of}
use Rattle.crew_machine.proofs.Boards.{IsWorkOf-weaker}
use Rattle.crew_machine.proofs.NodeList.{some-nodes}
use Rattle.crew_machine.proofs.OwnJobs.{one-job}
use Rattle.crew_machine.proofs.Progress.{own-job}
use Rattle.crew_machine.proofs.Sorted.{rising-front}
use Rattle.crew_machine.specs.Crew.{DutyNode, DutyWork, Entries, Inputs, IsFrontOf, IsNodeOf, MayPrecede, crew}
use Rattle.crew_machine.specs.Rounds.{IsDone}
use Rattle.crew_machine.specs.Worlds.{AreNodes, IsBefore, IsWorkOf}
use Rattle.crew_machine.specs.declared.rounds.Cell.{Cell}
use Rattle.crew_machine.specs.declared.rounds.Cell.TheVariants.{Done}
use Rattle.crew_pairing.specs.Duties.{HasFew, flights_of}
use Rattle.crew_pairing.specs.Pairings.{IsDuty, may_stand_after}
use Rattle.crew_pairing.specs.declared.duty.Duty.{Duty}
use Rattle.crew_resource.proofs.Members.{Member-map_in, Member-map_out}
use Rattle.crew_resource.specs.Members.{Member}
use Rattle.crew_rules.specs.Settings.{IsChecked}
use Rattle.crew_rules.specs.declared.settings.Settings.{Settings}

abbrev node-of : List ℕ → Duty → DutyNode
node-of base d = record { base = base; duty = d }

abbrev pub own-work : Settings → Timetable → DutyWork → Type 0
own-work s t w = IsWorkOf (crew s) t (IsFrontOf s t) w

module _ (s : Settings) (checked : IsChecked s) where
  -- duties that are legal in both timetables are nodes of both
  moved-before : (t u : Timetable) (n p : DutyNode) → fin.get t.bases n.base ≡ fin.get u.bases n.base → ((e : Duty) → may_stand_after s e n.duty ≡ true → IsDuty s (flights_of t) e → IsDuty s (flights_of u) e) → IsBefore (crew s) t p n → IsBefore (crew s) u p n
  moved-before t u n p price duties b =
      let based : fin.get u.bases p.base ≡ Some b.0.price = ap (fin.get u.bases) b.1.base ∙ (sym price ∙ (ap (fin.get t.bases) (sym b.1.base) ∙ b.0.based)) in
      (record { price = b.0.price; based = based; legal = duties p.duty b.1.rested b.0.legal }, b.1)

  -- a node's work is its own in another timetable too, where the price of its base, the nodes just before it and their fronts are the same
  pub own-from : (t u : Timetable) → IsSound u → (w : DutyWork) → fin.get t.bases w.node.base ≡ fin.get u.bases w.node.base
      → ((e : Duty) → may_stand_after s e w.node.duty ≡ true → IsDuty s (flights_of t) e → IsDuty s (flights_of u) e)
      → ((e : Duty) → may_stand_after s e w.node.duty ≡ true → IsDuty s (flights_of u) e → IsDuty s (flights_of t) e)
      → ((p : DutyNode) (f g : Entries) → IsBefore (crew s) u p w.node → IsFrontOf s t p f → IsFrontOf s u p g → f ≡ g)
      → own-work s t w → own-work s u w
  own-from t u sound w price to from fronts h =
      let forth : (p : DutyNode) → Member (map (λ b. b.0) w.before) p → IsBefore (crew s) u p w.node = λ p m. moved-before t u w.node p price to ((h.before.exact p).0 m) in
      record {
        input = h.input ∙ ap (λ (z : Option ℤ). let i : Inputs = record { settings = s; price = z } in i) price;
        before = record {
          rise = h.before.rise;
          exact = λ p. (forth p, λ b. (h.before.exact p).1 (moved-before u t w.node p (sym price) from b));
        };
        fronts = λ p f m.
            let b = forth p (Member-map_in (λ (b : DutyNode × Entries). b.0) w.before (p, f) m) in
            let g = rising-front s u checked sound p b.0 in
            subst (IsFrontOf s u p) (sym (fronts p f g.0 b (h.fronts p f m) g.1)) g.1;
      }

  module _ (t u : Timetable) (w : DutyWork) (h : own-work s t w) (k : own-work s u w) where
    -- .. and only there
    pub own-price : fin.get t.bases w.node.base ≡ fin.get u.bases w.node.base
    own-price = ap (λ (i : Inputs). i.price) (sym h.input ∙ k.input)

    before-both : (p : DutyNode) → IsBefore (crew s) t p w.node → IsBefore (crew s) u p w.node
    before-both p b = (k.before.exact p).0 ((h.before.exact p).1 b)

    pub own-duties : (price : ℤ) → fin.get t.bases w.node.base ≡ Some price → (e : Duty) → may_stand_after s e w.node.duty ≡ true → IsDuty s (flights_of t) e → IsDuty s (flights_of u) e
    own-duties price based e may legal =
        let p = node-of w.node.base e in
        let is : IsNodeOf s t p = record { price = price; based = based; legal = legal } in
        let arc : MayPrecede s p w.node = record { base = refl; rested = may } in
        (before-both p (is, arc)).0.legal

    pub own-fronts : (p : DutyNode) (f g : Entries) → IsBefore (crew s) u p w.node → IsFrontOf s t p f → IsFrontOf s u p g → f ≡ g
    own-fronts p f g b x y =
        let from = Member-map_out (λ (b : DutyNode × Entries). b.0) w.before p ((k.before.exact p).1 b) in
        let m : Member w.before (p, from.0.1) = subst (λ (z : DutyNode). Member w.before (z, from.0.1)) from.2 from.1 in
        same-front-of s checked t p f from.0.1 x (h.fronts p from.0.1 m) ∙ same-front-of s checked u p from.0.1 g (k.fronts p from.0.1 m) y

  -- each node has its own work
  module _ (t : Timetable) (sound : IsSound t) where
    abbrev Cells : Type 0
    Cells = List (DutyNode × Cell Entries)

    record AreAllDone (ns : List DutyNode) (cells : Cells) : Type 0 where
      pub listed : map (λ c. c.0) cells ≡ ns
      pub done : (n : DutyNode) (c : Cell Entries) → Member cells (n, c) → (f : Entries) × (c ≡ Done f) × IsFrontOf s t n f

    all-done : (ns : List DutyNode) → ((n : DutyNode) → Member ns n → IsNodeOf s t n) → (cells : Cells) × AreAllDone ns cells
    all-done [] are = ([], record { listed = refl; done = λ n c m. absurd m })
    all-done (n ∷ ns) are =
        let own = rising-front s t checked sound n (are n (inl refl)) in
        let rest = all-done ns (λ m k. are m (inr k)) in
        let head : DutyNode × Cell Entries = (n, Done own.0) in (
          head ∷ rest.0,
          record {
            listed = ap (λ (l : List DutyNode). n ∷ l) rest.1.listed;
            done = λ m c k. ⊎_elim {C = (f : Entries) × (c ≡ Done f) × IsFrontOf s t m f}
                (λ e. (own.0, sym (ap (λ (z : DutyNode × Cell Entries). z.1) e), subst (λ (z : DutyNode). IsFrontOf s t z own.0) (ap (λ (z : DutyNode × Cell Entries). z.0) e) own.1))
                (λ there. rest.1.done m c there)
                k;
          },
        )

    pub some-work : HasFew s t → (n : DutyNode) → (w : DutyWork) × (w.node ≡ n) × own-work s t w
    some-work few n =
        let nodes = some-nodes s t few in
        let cells = all-done nodes.0 (λ m k. (nodes.1.exact m).0 k) in
        let listed : AreNodes (crew s) t (map (λ c. c.0) cells.0) = subst (AreNodes (crew s) t) (sym cells.1.listed) nodes.1 in
        let all = own-job s t cells.0 listed n (λ p c m arc. let d = cells.1.done p c m in (d.0, d.1)) in
        let right : (p : DutyNode) (f : Entries) → IsDone (crew s) cells.0 p f → IsFrontOf s t p f = λ p f m.
        (let d = cells.1.done p (Done f) m in let same : f ≡ d.0 = (cc (d.1)) in subst (IsFrontOf s t p) (sym same) d.2) in
        (all.0, all.1, IsWorkOf-weaker (crew s) t (IsDone (crew s) cells.0) (IsFrontOf s t) all.0 right all.2)

  -- and one alone
  pub one-work : (t : Timetable) (j k : DutyWork) → j.node ≡ k.node → own-work s t j → own-work s t k → j ≡ k
  one-work t j k n h g = one-job s checked t j k n h g
