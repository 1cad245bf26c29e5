-- The departures in order of report, and marks where a duty arrives that a change reaches.
use Rattle.std.proofs.Common.{◌≡◌, ◌≤◌, ◌+◌, ◌&&◌, ◌++◌, ◌∷◌, ◌⊎◌, [], inl, inr, ℕ, ◌≤ℤ◌, ◌-ℤ◌, ℤ, pos, Bool, true, false, List, Some, length, get_or, sym, ap, subst, ◌∙◌, arith}
use Rattle.std.specs.Prelude.{◌↔◌, slice_get}
use Rattle.std.proofs.lemmas.Bool.{and_from, and_parts}
use Rattle.std.proofs.lemmas.Bool.Decides.{eqb_tells}
use Rattle.std.proofs.lemmas.Int.{ints}
use Rattle.crew_carry.proofs.Pushed.{some-is}
use Rattle.crew_dirty.specs.Carried.{AreFlags, AreSameUpTo}
use Rattle.crew_dirty.specs.Dirty.{IsSameDuty}
use Rattle.crew_dirty.specs.Machinery.Marks.{IsClear, IsMarkedBy}
use Rattle.crew_net.specs.Events.{IsWindow, leaves_at}
use Rattle.crew_net.specs.Nets.{AreArrivalPlaces, Net}
use Rattle.crew_net.specs.Ranks.{ranks_where}
use Rattle.crew_net.specs.declared.window.Window.{Window}
use Rattle.crew_net.proofs.Geometry.{rests-parts}
use Rattle.crew_net.proofs.Laid.{IsAt, IsDone, IsInTime, leaves-once}
use Rattle.crew_net.proofs.Longest.{stands}
use Rattle.crew_net.proofs.Segments.{le-or-lt}
use Rattle.crew_pairing.proofs.Tree.{slice_get-within}
use Rattle.crew_pairing.specs.Events.{arrival_of, departure_of, may_wait}
use Rattle.crew_pairing.specs.Pairings.{may_stand_after}
use Rattle.crew_pairing.specs.declared.duty.Duty.{Duty}
use Rattle.crew_pairing.specs.declared.events.Departure.{Departure}
use Rattle.crew_resource.specs.Members.{Member}
use Rattle.crew_resource.proofs.Members.{Member-at}
use Rattle.crew_dirty.proofs.Arrivals.{arrival-place}
use Rattle.crew_dirty.proofs.Paths.{path-less, path-more, path-none}
use Rattle.crew_dirty.proofs.Sames.{decide, is-leaver, leaver, leaves-or, no-leaver, not-both}

-- so many departures are passed: their duties have their flags, and a mark stands exactly where one
-- arrives that a change reaches
pub record IsPassed (old net : Net) (count : ℕ) (unreached marks : List Bool) : Type 0 where
  pub right : (rank : ℕ) (d : Duty) → slice_get net.duties rank ≡ Some d → IsDone net count d → (get_or unreached rank false ≡ true) ↔ AreSameUpTo old net d
  pub marked : (k : ℕ) → get_or marks k false ≡ true → (d : Duty) × Member net.duties d × (slice_get net.arrivals k ≡ Some (arrival_of d)) × (AreSameUpTo old net d → ⊥)
  pub clear : (k : ℕ) (d : Duty) → Member net.duties d → IsDone net count d → slice_get net.arrivals k ≡ Some (arrival_of d) → get_or marks k false ≡ false → AreSameUpTo old net d

-- what may stand just before reports earlier
earlier : (from to : ℤ) (release : ℤ) → from ≤ℤ release → pos 600 ≤ℤ (to -ℤ release) → to ≤ℤ from → ⊥
earlier from to release a b c = omega (arith, ints, a, b, c)

pub none-passed : (old net : Net) (unreached marks : List Bool) → ((k : ℕ) → get_or marks k false ≡ false) → IsPassed old net 0 unreached marks
none-passed old net unreached marks zeros = record {
  right = λ rank d known done. absurd (let z = done.1 in omega (arith, z));
  marked = λ k t. absurd (not-both (get_or marks k false) t (zeros k));
  clear = λ k d m done at f. absurd (let z = done.1 in omega (arith, z));
}

module _ (net : Net) (timed : IsInTime net) where
  -- what may stand just before a duty leaves at an earlier departure
  earlier-done : (j : ℕ) (d e : Duty) → IsAt net j e → Member net.duties d → may_stand_after net.settings d e ≡ true → IsDone net j d
  earlier-done j d e at m may =
      let own = leaves-once net timed d m in
      elim (le-or-lt j own.0) as (λ _. IsDone net j d) [
        | inl l ↦ absurd (
            let rest = (rests-parts net.settings.max_rest d.to e.from d.release e.report may).1 in
            let rise = timed.ordered.rising j own.0 at.0 own.1.0 (departure_of e) (departure_of d) l at.1 own.1.1 at.2 own.1.2 in
            earlier d.report e.report d.release (timed.forward d m) rest rise)
        | inr l ↦ (own.0, l, own.1)
      ]

  pub all-passed : (old : Net) (count : ℕ) (unreached marks : List Bool) → length net.by_report ≤ count → IsPassed old net count unreached marks → AreFlags (AreSameUpTo old net) net.duties unreached
  all-passed old count unreached marks all passed rank d known =
      let own = leaves-once net timed d (Member-at net.duties rank d known) in
      let within = slice_get-within net.by_report own.0 own.1.0 own.1.1 in
      passed.right rank d known (own.0, omega (arith, within, all), own.1)

  -- one departure more
  module _ (i p : ℕ) (g : Departure) (at : slice_get net.by_report i ≡ Some p) (here : slice_get net.departures p ≡ Some g)
      (w : Window) (window : IsWindow (λ x. may_wait net.settings x g) net.arrivals w)
      (places : List ℕ) (reach : AreArrivalPlaces net places) (ranks : List ℕ) (ranks-are : ranks ≡ ranks_where (leaves_at g) net.duties)
      (flags unreached marks unreached' marks' : List Bool) (is-clear : Bool)
      (told : (is-clear ≡ true) ↔ IsClear marks w)
      (there : (rank : ℕ) → Member ranks rank → get_or unreached' rank false ≡ (is-clear && get_or flags rank false))
      (elsewhere : (rank : ℕ) → (Member ranks rank → ⊥) → get_or unreached' rank false ≡ get_or unreached rank false)
      (kept : (k : ℕ) → get_or marks k false ≡ true → get_or marks' k false ≡ true)
      (marks-there : (k : ℕ) → IsMarkedBy ranks places unreached' k → get_or marks' k false ≡ true)
      (from : (k : ℕ) → get_or marks' k false ≡ true → (get_or marks k false ≡ true) ⊎ IsMarkedBy ranks places unreached' k)
      (old : Net) (are-flags : AreFlags (IsSameDuty old net) net.duties flags) (passed : IsPassed old net i unreached marks) where
    leaves-here : (d : Duty) → departure_of d ≡ g → IsAt net i d
    leaves-here d e = (p, at, here ∙ ap (λ (h : Departure). Some h) (sym e))

    -- done before, or just now
    before-now : (d : Duty) → IsDone net (i + 1) d → (departure_of d ≡ g → ⊥) → IsDone net i d
    before-now d done none = elim (eqb_tells done.0 i) as (λ _. IsDone net i d) [
      | inl t ↦ absurd (
          let place : done.2.0 ≡ p = some-is net.by_report i done.2.0 p (ap (slice_get net.by_report) (sym t.1) ∙ done.2.1) at in
          none (some-is net.departures p (departure_of d) g (ap (slice_get net.departures) (sym place) ∙ done.2.2) here))
      | inr f ↦ (done.0, (let b = done.1 in let ne = f.1 in omega (arith, b, ne)), done.2)
    ]

    waits : (d e : Duty) → departure_of e ≡ g → may_stand_after net.settings d e ≡ true → may_wait net.settings (arrival_of d) g ≡ true
    waits d e own may = subst (λ (h : Departure). may_wait net.settings (arrival_of d) h ≡ true) own may

    follows : (d e : Duty) → departure_of e ≡ g → may_wait net.settings (arrival_of d) g ≡ true → may_stand_after net.settings d e ≡ true
    follows d e own may = subst (λ (h : Departure). may_wait net.settings (arrival_of d) h ≡ true) (sym own) may

    -- what leaves here and has its flag
    up-to : (rank : ℕ) (d : Duty) → slice_get net.duties rank ≡ Some d → departure_of d ≡ g → get_or unreached' rank false ≡ true → AreSameUpTo old net d
    up-to rank d known own t first others path =
        let both = and_parts is-clear (get_or flags rank false) (sym (there rank (is-leaver net g ranks ranks-are rank d known own)) ∙ t) in
        elim (path-less net first others d path) as (λ _. IsSameDuty old net first) [
          | inl e ↦ subst (IsSameDuty old net) (sym e) ((are-flags rank d known).0 both.1)
          | inr k ↦
              let e = k.0 in
              let done = earlier-done i e d (leaves-here d own) k.3 k.4 in
              let x = stands net.arrivals (arrival_of e) (timed.arrives.every e k.3) in
              let inside = (window.exact x.0 (arrival_of e) x.1).0 (waits e d own k.4) in
              passed.clear x.0 e k.3 done x.1 (told.0 both.0 x.0 inside.0 inside.1) first k.1 k.2
        ]

    -- and has it, where no change reaches it
    has-flag : (rank : ℕ) (d : Duty) → slice_get net.duties rank ≡ Some d → departure_of d ≡ g → AreSameUpTo old net d → get_or unreached' rank false ≡ true
    has-flag rank d known own up =
        let m = Member-at net.duties rank d known in
        let same = up d [] (path-none net d m) in
        let none : IsClear marks w = λ k low high.
        elim (decide (get_or marks k false)) as (λ _. get_or marks k false ≡ false) [
          | inr f ↦ f
          | inl t ↦ absurd (
              let by = passed.marked k t in
              let may = follows by.0 d own ((window.exact k (arrival_of by.0) by.2).1 (low, high)) in
              by.3 (λ first others path. up first (others ++ d ∷ []) (path-more net first others by.0 d path may m)))
        ]
        in
        there rank (is-leaver net g ranks ranks-are rank d known own) ∙ and_from is-clear (get_or flags rank false) (told.1 none) ((are-flags rank d known).1 same)

    right-more : (rank : ℕ) (d : Duty) → slice_get net.duties rank ≡ Some d → IsDone net (i + 1) d → (get_or unreached' rank false ≡ true) ↔ AreSameUpTo old net d
    right-more rank d known done = elim (leaves-or g d) as (λ _. (get_or unreached' rank false ≡ true) ↔ AreSameUpTo old net d) [
      | inl own ↦ (up-to rank d known own, has-flag rank d known own)
      | inr none ↦
          let value = elsewhere rank (no-leaver net g ranks ranks-are rank d known none) in
          let was = passed.right rank d known (before-now d done none) in
          (λ t. was.0 (sym value ∙ t), λ up. value ∙ was.1 up)
    ]

    marked-more : (k : ℕ) → get_or marks' k false ≡ true → (d : Duty) × Member net.duties d × (slice_get net.arrivals k ≡ Some (arrival_of d)) × (AreSameUpTo old net d → ⊥)
    marked-more k t = elim (from k t) as (λ _. (d : Duty) × Member net.duties d × (slice_get net.arrivals k ≡ Some (arrival_of d)) × (AreSameUpTo old net d → ⊥)) [
      | inl was ↦ passed.marked k was
      | inr by ↦
          let d = leaver net g ranks ranks-are by.0 by.1 in
          (d.0, Member-at net.duties by.0 d.0 d.1, ap (slice_get net.arrivals) (sym by.2) ∙ reach.exact by.0 d.0 d.1, λ up. not-both (get_or unreached' by.0 false) (has-flag by.0 d.0 d.1 d.2 up) by.3)
    ]

    clear-more : (k : ℕ) (d : Duty) → Member net.duties d → IsDone net (i + 1) d → slice_get net.arrivals k ≡ Some (arrival_of d) → get_or marks' k false ≡ false → AreSameUpTo old net d
    clear-more k d m done there-at f = elim (leaves-or g d) as (λ _. AreSameUpTo old net d) [
      | inl own ↦
          let r = stands net.duties d m in
          elim (decide (get_or unreached' r.0 false)) as (λ _. AreSameUpTo old net d) [
            | inl t ↦ up-to r.0 d r.1 own t
            | inr none ↦ absurd (
                let place : get_or places r.0 0 ≡ k = arrival-place net timed.arrives (get_or places r.0 0) k (arrival_of d) (reach.exact r.0 d r.1) there-at in
                not-both (get_or marks' k false) (marks-there k (r.0, is-leaver net g ranks ranks-are r.0 d r.1 own, place, none)) f)
          ]
      | inr none ↦
          passed.clear k d m (before-now d done none) there-at
          (elim (decide (get_or marks k false)) as (λ _. get_or marks k false ≡ false) [
            | inr g ↦ g
            | inl t ↦ absurd (not-both (get_or marks' k false) (kept k t) f)
          ])
    ]

    pub passed-more : IsPassed old net (i + 1) unreached' marks'
    passed-more = record { right = right-more; marked = marked-more; clear = clear-more }
