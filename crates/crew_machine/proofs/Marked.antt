-- Nodes can be reused until none is left.
use Rattle.std.proofs.Common.{◌≡◌, ℕ, zero, suc, ◌<◌, List, length, map, slice_set, Some, ◌⊎◌, inl, inr, refl, sym, ◌∙◌, ap, subst, ⊎_elim, arith}
use Rattle.std.specs.List.{slice_get}
use Rattle.std.proofs.lemmas.Option.{slice_get_within}
use Rattle.crew_flights.specs.declared.entries.Entry.{Entry}
use Rattle.crew_machine.proofs.Boards.{reusable_local, store_sound}
use Rattle.crew_machine.proofs.Cells.{Some-same, map-map_lem}
use Rattle.crew_machine.proofs.CrewLaws.{crew-laws}
use Rattle.crew_machine.proofs.Decided.{Decided, least-or-none, told-work}
use Rattle.crew_machine.proofs.Finish.{left, left-less}
use Rattle.crew_machine.proofs.OwnJobs.{cell-of, one-job, right-work, some-work}
use Rattle.crew_machine.proofs.Reuse.{reuse-first}
use Rattle.crew_machine.specs.Crew.{CrewRound, CrewVersion, DutyNode, DutyWork, Entries, IsFrontOf, IsNodeOf, crew, timetable_of}
use Rattle.crew_machine.specs.Machinery.Sound.{IsRound, IsVersion}
use Rattle.crew_machine.specs.Rounds.{IsDone, IsReusable, NoneReusable, Reuses}
use Rattle.crew_machine.specs.Worlds.{AreNodes, IsWorkOf}
use Rattle.crew_machine.specs.declared.rounds.Cell.{Cell}
use Rattle.crew_machine.specs.declared.rounds.Cell.TheVariants.{Waiting, Out, Done}
use Rattle.crew_resource.proofs.Members.{Member-at, Member-map_in, Member-map_out}
use Rattle.crew_resource.specs.Members.{Member}
use Rattle.crew_rules.specs.Settings.{IsChecked}
use Rattle.crew_rules.specs.declared.settings.Settings.{Settings}
use Rattle.crew_answers.proofs.crew_vector_lemmas.Paths.{some-or-none}

abbrev Cells : Type 0
Cells = List (DutyNode × Cell Entries)

module _ (s : Settings) (checked : IsChecked s) (sealed : CrewVersion) (is : IsVersion (crew s) sealed) (entries : List Entry) where
  -- the version's fronts as cells that are done
  abbrev settled : Cells
  settled = map (λ (e : DutyNode × Entries). let c : DutyNode × Cell Entries = (e.0, Done e.1) in c) sealed.fronts

  settled-nodes : AreNodes (crew s) (timetable_of sealed.entries) (map (λ (c : DutyNode × Cell Entries). c.0) settled)
  settled-nodes = subst (AreNodes (crew s) (timetable_of sealed.entries)) (map-map_lem (λ (e : DutyNode × Entries). let c : DutyNode × Cell Entries = (e.0, Done e.1) in c) (λ (c : DutyNode × Cell Entries). c.0) (λ (e : DutyNode × Entries). e.0) (λ e. refl) sealed.fronts) is.nodes

  settled-front : (n : DutyNode) (f : Entries) → Member settled (n, Done f) → Member sealed.fronts (n, f)
  settled-front n f m =
      let from = Member-map_out (λ (e : DutyNode × Entries). let c : DutyNode × Cell Entries = (e.0, Done e.1) in c) sealed.fronts (n, Done f) m in
      let node : from.0.0 ≡ n = ap (λ (c : DutyNode × Cell Entries). c.0) from.2 in
      let cell : Done from.0.1 ≡ Done f = ap (λ (c : DutyNode × Cell Entries). c.1) from.2 in
      let front : from.0.1 ≡ f = (cc) in
      subst (λ (z : Entries). Member sealed.fronts (n, z)) front (subst (λ (z : DutyNode). Member sealed.fronts (z, from.0.1)) node from.1)

  settled-right : (n : DutyNode) (f : Entries) → Member settled (n, Done f) → IsFrontOf s (timetable_of sealed.entries) n f
  settled-right n f m = is.right n f (settled-front n f m)

  abbrev Was : DutyWork → Type 0
  Was job = IsWorkOf (crew s) (timetable_of sealed.entries) (λ p g. Member sealed.fronts (p, g)) job

  was-settled : (job : DutyWork) → Was job → IsWorkOf (crew s) (timetable_of sealed.entries) (IsDone (crew s) settled) job
  was-settled job w = record {
    input = w.input;
    before = w.before;
    fronts = λ p f m. Member-map_in (λ (e : DutyNode × Entries). let c : DutyNode × Cell Entries = (e.0, Done e.1) in c) sealed.fronts (p, f) (w.fronts p f m);
  }

  settled-was : (job : DutyWork) → IsWorkOf (crew s) (timetable_of sealed.entries) (IsDone (crew s) settled) job → Was job
  settled-was job w = record { input = w.input; before = w.before; fronts = λ p f m. settled-front p f (w.fronts p f m) }

  -- the version's job of a node, with its front, or that there is none
  record WasWorked (n : DutyNode) : Type 0 where
    pub job : DutyWork
    pub own : job.node ≡ n
    pub work : Was job
    pub front : Entries
    pub there : Member sealed.fronts (n, front)

  front-or-not : (n : DutyNode) → ((f : Entries) × Member sealed.fronts (n, f)) ⊎ ((f : Entries) → Member sealed.fronts (n, f) → ⊥)
  front-or-not n =
      ⊎_elim {C = ((f : Entries) × Member sealed.fronts (n, f)) ⊎ ((f : Entries) → Member sealed.fronts (n, f) → ⊥)}
      (λ r. inl (found r.1 (Member-at settled r.0 (n, r.1) r.2)))
      (λ none. inr (λ f m. none (Done f) (Member-map_in (λ (e : DutyNode × Entries). let c : DutyNode × Cell Entries = (e.0, Done e.1) in c) sealed.fronts (n, f) m)))
      (cell-of settled n)
    where
      found : (c : Cell Entries) → Member settled (n, c) → (f : Entries) × Member sealed.fronts (n, f)
      found c m =
          let from = Member-map_out (λ (e : DutyNode × Entries). let c : DutyNode × Cell Entries = (e.0, Done e.1) in c) sealed.fronts (n, c) m in
          (from.0.1, subst (λ (z : DutyNode). Member sealed.fronts (z, from.0.1)) (ap (λ (c : DutyNode × Cell Entries). c.0) from.2) from.1)

  was-or-not : (n : DutyNode) → WasWorked n ⊎ ((job : DutyWork) (f : Entries) → job.node ≡ n → Was job → Member sealed.fronts (n, f) → ⊥)
  was-or-not n =
      ⊎_elim {C = WasWorked n ⊎ ((job : DutyWork) (f : Entries) → job.node ≡ n → Was job → Member sealed.fronts (n, f) → ⊥)}
      (λ f.
      ⊎_elim {C = WasWorked n ⊎ ((job : DutyWork) (f : Entries) → job.node ≡ n → Was job → Member sealed.fronts (n, f) → ⊥)}
      (λ j. inl (record { job = j.0; own = j.1; work = settled-was j.0 j.2; front = f.0; there = f.1 }))
      (λ none. inr (λ job g e w m. none job e (was-settled job w)))
      (some-work s checked (timetable_of sealed.entries) settled settled-nodes settled-right n))
      (λ none. inr (λ job f e w m. none f m))
      (front-or-not n)

  module _ (cells : Cells) (sound : IsRound (crew s) sealed (let r : CrewRound = record { entries = entries; cells = cells } in r)) where
    abbrev round : CrewRound
    round = record { entries = entries; cells = cells }

    abbrev ReusableAt : ℕ → Type 0
    ReusableAt place = (job : DutyWork) × (f : Entries) × IsReusable (crew s) sealed round place job f

    reusable-cell : (place : ℕ) (n : DutyNode) (c : Cell Entries) → slice_get cells place ≡ Some (n, c) → Decided (ReusableAt place)
    reusable-cell place n Out at = inr (λ r. (let e : Out ≡ Waiting = ap (λ (z : DutyNode × Cell Entries). z.1) (Some-same _ _ (sym at ∙ r.2.0.0)) in let q : ⊥ = (cc) in q))
    reusable-cell place n (Done f) at = inr (λ r. (let e : Done f ≡ Waiting = ap (λ (z : DutyNode × Cell Entries). z.1) (Some-same _ _ (sym at ∙ r.2.0.0)) in let q : ⊥ = (cc) in q))
    reusable-cell place n Waiting at =
        ⊎_elim {C = Decided (ReusableAt place)}
        (λ now.
        ⊎_elim {C = Decided (ReusableAt place)}
        (λ was.
        ⊎_elim {C = Decided (ReusableAt place)}
        (λ same.
        (
        let here : slice_get cells place ≡ Some (now.0.node, Waiting) = subst (λ (z : DutyNode). slice_get cells place ≡ Some (z, Waiting)) (sym now.1) at in
        let there : Member sealed.fronts (now.0.node, was.front) = subst (λ (z : DutyNode). Member sealed.fronts (z, was.front)) (sym now.1) was.there in
        let known : IsNodeOf s (timetable_of sealed.entries) now.0.node = (is.nodes.exact now.0.node).0 (Member-map_in (λ (e : DutyNode × Entries). e.0) sealed.fronts (now.0.node, was.front) there) in
        let work : Was now.0 = subst Was (sym same) was.work in
        inl (now.0, was.front, ((here, now.2), record { there = known; work = work; front_is = there }))))
        (λ f. inr (λ r.
        (
        let node : r.0.node ≡ n = ap (λ (z : DutyNode × Cell Entries). z.0) (Some-same _ _ (sym r.2.0.0 ∙ at)) in
        let first : r.0 ≡ now.0 = one-job s checked (timetable_of entries) r.0 now.0 (node ∙ sym now.1) (right-work s checked (timetable_of entries) cells sound.nodes sound.right r.0 r.2.0.1) (right-work s checked (timetable_of entries) cells sound.nodes sound.right now.0 now.2) in
        let second : r.0 ≡ was.job = one-job s checked (timetable_of sealed.entries) r.0 was.job (node ∙ sym was.own) (right-work s checked (timetable_of sealed.entries) settled settled-nodes settled-right r.0 (was-settled r.0 r.2.1.work)) (right-work s checked (timetable_of sealed.entries) settled settled-nodes settled-right was.job (was-settled was.job was.work)) in
        f (sym first ∙ second))))
        (told-work now.0 was.job (ap (λ i. i.settings) now.2.input ∙ sym (ap (λ i. i.settings) was.work.input))))
        (λ none. inr (λ r.
        (
        let node : r.0.node ≡ n = ap (λ (z : DutyNode × Cell Entries). z.0) (Some-same _ _ (sym r.2.0.0 ∙ at)) in
        none r.0 r.1 node r.2.1.work (subst (λ (z : DutyNode). Member sealed.fronts (z, r.1)) node r.2.1.front_is))))
        (was-or-not n))
        (λ none. inr (λ r.
        (
        let node : r.0.node ≡ n = ap (λ (z : DutyNode × Cell Entries). z.0) (Some-same _ _ (sym r.2.0.0 ∙ at)) in
        none r.0 node r.2.0.1)))
        (some-work s checked (timetable_of entries) cells sound.nodes sound.right n)

    reusable-or-not : (place : ℕ) → Decided (ReusableAt place)
    reusable-or-not place =
        ⊎_elim {C = Decided (ReusableAt place)}
        (λ x. reusable-cell place x.0.0 x.0.1 x.1)
        (λ none. inr (λ r. (let e = sym none ∙ r.2.0.0 in let q : ⊥ = (cc) in q)))
        (some-or-none (slice_get cells place))

    some-reusable : ((place : ℕ) × ReusableAt place) ⊎ NoneReusable (crew s) sealed entries cells
    some-reusable =
        ⊎_elim {C = ((place : ℕ) × ReusableAt place) ⊎ NoneReusable (crew s) sealed entries cells}
        (λ f. inl (f.0, f.1))
        (λ none. inr (λ place job f r. none place (slice_get_within cells place _ r.0.0) (job, f, r)))
        (least-or-none ReusableAt reusable-or-not (length cells))

  -- the cells where some nodes are reused, and none is left that could be
  pub record Marked (cells : Cells) : Type 0 where
    pub end : Cells
    pub reuses : Reuses (crew s) sealed entries cells end
    pub none_left : NoneReusable (crew s) sealed entries end

  marked-below : (k : ℕ) (cells : Cells) → left cells < k → IsRound (crew s) sealed (let r : CrewRound = record { entries = entries; cells = cells } in r) → Marked cells
  marked-below zero cells low sound = absurd (omega (arith, low))
  marked-below (suc k) cells low sound =
      ⊎_elim {C = Marked cells}
      (λ r.
      (
      let job = r.1.0 in
      let f = r.1.1 in
      let round : CrewRound = record { entries = entries; cells = cells } in
      let next : Cells = slice_set cells r.0 (job.node, Done f) in
      let less = left-less cells r.0 job.node job.node f r.1.2.0.0 in
      let rest = marked-below k next (omega (arith, low, less)) (store_sound (crew s) (crew-laws s checked) sealed round r.0 Waiting job f sound r.1.2.0 (reusable_local (crew s) (crew-laws s checked) sealed round r.0 job f is r.1.2)) in
      record { end = rest.end; reuses = reuse-first (crew s) sealed entries cells r.0 job f rest.end r.1.2 rest.reuses; none_left = rest.none_left }))
      (λ none. record { end = cells; reuses = λ k. inl refl; none_left = none })
      (some-reusable cells sound)

  pub marked : (cells : Cells) → IsRound (crew s) sealed (let r : CrewRound = record { entries = entries; cells = cells } in r) → Marked cells
  marked cells sound = marked-below (suc (left cells)) cells (omega arith) sound
