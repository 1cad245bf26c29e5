-- A node that no edit reaches is fed alike in both timetables, and so keeps its front.
use Rattle.std.proofs.Common.{◌≡◌, ◌<◌, ◌+◌, ◌++◌, ◌∷◌, [], inl, inr, ℕ, zero, suc, ℤ, true, List, Option, refl, sym, ap, subst, arith}
use Rattle.std.specs.List.{filter}
use Rattle.crew_answers.proofs.Feeding.{front-of-local, local-of-front}
use Rattle.crew_answers.proofs.PlainNodes.{node-front}
use Rattle.crew_answers.specs.Fronts.{IsFrontAt}
use Rattle.crew_answers.specs.Locals.{AreFrontsBefore, Feed}
use Rattle.crew_answers.specs.LongVectors.{LongVector}
use Rattle.crew_dirty.specs.Dirty.{IsUnreached}
use Rattle.crew_dirty.proofs.Paths.{path-more, path-none}
use Rattle.crew_flights.specs.Timetable.{IsSound, Timetable}
use Rattle.crew_net.specs.Nets.{Net}
use Rattle.crew_pairing.specs.Duties.{AreDuties, flights_of}
use Rattle.crew_pairing.specs.Legs.{Leg}
use Rattle.crew_pairing.specs.Pairings.{IsDuty, may_stand_after}
use Rattle.crew_pairing.specs.declared.duty.Duty.{Duty}
use Rattle.crew_resource.specs.Members.{Member}
use Rattle.crew_resource.proofs.Members.{Member-filter_in, Member-filter_out}
use Rattle.crew_rules.specs.Settings.{IsChecked}
use Rattle.crew_rules.specs.declared.settings.Settings.{Settings}
use Rattle.crew_answers.proofs.crew_vector_lemmas.Nodes.{Known, arcs-rise, rank}
use Rattle.crew_answers.proofs.crew_vector_lemmas.Paths.{legal-known}

abbrev Entries : Type 0
Entries = List (LongVector × List (List Leg))

-- some duties, each with its front
record IsFeedOf (front : Duty → Entries → Type 0) (ds : List Duty) (feed : Feed) : Type 0 where
  pub right : (e : Duty) (es : Entries) → Member feed (e, es) → Member ds e × front e es
  pub every : (e : Duty) → Member ds e → (es : Entries) × Member feed (e, es)

feed-of : (front : Duty → Entries → Type 0) (ds : List Duty) → ((e : Duty) → Member ds e → (es : Entries) × front e es) → (feed : Feed) × IsFeedOf front ds feed
feed-of front [] some = ([], record { right = λ e es m. absurd m; every = λ e m. absurd m })
feed-of front (d ∷ ds) some =
    let own = some d (inl refl) in
    let rest = feed-of front ds (λ e m. some e (inr m)) in
    let head : Duty × Entries = (d, own.0) in (
      head ∷ rest.0,
      record {
        right = λ e es m. elim m as (λ _. Member (d ∷ ds) e × front e es) [
          | inl q ↦ (inl (ap (λ (z : Duty × Entries). z.0) q), subst (λ (z : Duty × Entries). front z.0 z.1) q own.1)
          | inr k ↦ (inr (rest.1.right e es k).0, (rest.1.right e es k).1)
        ];
        every = λ e m. elim m as (λ _. (es : Entries) × Member (head ∷ rest.0) (e, es)) [
          | inl q ↦ (own.0, inl (ap (λ (x : Duty). let z : Duty × Entries = (x, own.0) in z) q))
          | inr k ↦ ((rest.1.every e k).0, inr (rest.1.every e k).1)
        ];
      },
    )

module _ (s : Settings) (t u : Timetable) (old new : Net) (checked : IsChecked s) (sound : IsSound t) (after : IsSound u) (olds : AreDuties s t old.duties) (news : AreDuties s u new.duties) (settings : new.settings ≡ s)
    (old_price new_price : Option ℤ) (base : List ℕ) (price : ℤ) where
  range : IsChecked s
  range = checked

  abbrev Unreached : Duty → Type 0
  Unreached d = IsUnreached old new old_price new_price base d

  old-legal : (d : Duty) → Member old.duties d → IsDuty s (flights_of t) d
  old-legal d m = olds.sound d m

  new-legal : (d : Duty) → Member new.duties d → IsDuty s (flights_of u) d
  new-legal d m = news.sound d m

  legal-old : (d : Duty) → IsDuty s (flights_of t) d → Member old.duties d
  legal-old d k = subst (Member old.duties) (sym k.3) (olds.every k.0 k.1 k.2)

  legal-new : (d : Duty) → IsDuty s (flights_of u) d → Member new.duties d
  legal-new d k = subst (Member new.duties) (sym k.3) (news.every k.0 k.1 k.2)

  may-now : (e d : Duty) → may_stand_after s e d ≡ true → may_stand_after new.settings e d ≡ true
  may-now e d h = subst (λ (z : Settings). may_stand_after z e d ≡ true) (sym settings) h

  kept-below : (n : ℕ) (d : Duty) → rank s u base price checked after d < n → Member new.duties d → Unreached d → (entries : Entries) → IsFrontAt s t base price d entries → IsFrontAt s u base price d entries
  kept-below zero d low m clear entries front = absurd (omega (arith, low))
  kept-below (suc n) d low m clear entries front =
      let own = (clear d [] (path-none new d m)).1 in
      let before = filter (λ e. may_stand_after s e d) new.duties in
      let is-old : (e : Duty) → Member before e → Member old.duties e = λ e k.
      (let f = Member-filter_out (λ x. may_stand_after s x d) new.duties e k in (own.before e (may-now e d f.1)).1 f.0) in
      let made = feed-of (IsFrontAt s t base price) before (λ e k. node-front s t base price range sound e (old-legal e (is-old e k))) in
      let feed = made.0 in
      let fed : AreFrontsBefore s t base price d feed = record {
        right = λ e es k. (
            let r = made.1.right e es k in
            (old-legal e (is-old e r.0), (Member-filter_out (λ x. may_stand_after s x d) new.duties e r.0).1, r.1));
        every = λ e legal may. made.1.every e (Member-filter_in (λ x. may_stand_after s x d) new.duties e ((own.before e (may-now e d may)).0 (legal-old e legal)) may);
      } in
      let also : AreFrontsBefore s u base price d feed = record {
        right = λ e es k. (
            let r = made.1.right e es k in
            let f = Member-filter_out (λ x. may_stand_after s x d) new.duties e r.0 in
            let legal = new-legal e f.0 in
            let arc = Member-filter_in (λ x. may_stand_after s x d) (Known s u base price checked after) e (legal-known s u base price checked after e legal) f.1 in
            let less = arcs-rise s u base price checked after e d arc in
            let unreached : Unreached e = λ first others path. clear first (others ++ d ∷ []) (path-more new first others e d path (may-now e d f.1) m) in
            (legal, f.1, kept-below n e (omega (arith, low, less)) f.0 unreached es r.1));
        every = λ e legal may. made.1.every e (Member-filter_in (λ x. may_stand_after s x d) new.duties e (legal-new e legal) may);
      } in
      front-of-local s u base price range after d (new-legal d m) feed also entries (local-of-front s t base price range sound d (old-legal d own.there) feed fed entries front)

  pub front-stays : (d : Duty) → Member new.duties d → Unreached d → (entries : Entries) → IsFrontAt s t base price d entries → IsFrontAt s u base price d entries
  front-stays d m clear entries front = kept-below (rank s u base price checked after d + 1) d (omega arith) m clear entries front
