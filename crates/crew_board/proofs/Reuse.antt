-- What marks tell of equal jobs, and what a store leaves.
use Rattle.std.proofs.Common.{◌≡◌, ◌<◌, ◌∙◌, ◌∷◌, [], ℕ, Bool, true, false, List, Some, length, map, slice_set, get_or, inl, inr, refl, sym, ap, subst, arith}
use Rattle.std.specs.Prelude.{◌↔◌, slice_get}
use Rattle.std.proofs.lemmas.List.{get_or-set_other, get_or-set_same, length-set as length-slice_set}
use Rattle.std.proofs.lemmas.Option.{slice_get_within}
use Rattle.crew_board.proofs.Cells.{AreMarked, all-in, before-in, before-out, just-before, mark-at, node-is, place-of, waiting-at}
use Rattle.crew_board.proofs.Written.{get-elsewhere, get-here, map-set-here}
use Rattle.crew_board.specs.Cells.{CrewCells, mark_of}
use Rattle.crew_flights.specs.Timetable.{Timetable}
use Rattle.crew_flights.specs.declared.entries.Entry.{Entry}
use Rattle.crew_machine.proofs.Boards.{reusable_local, store_sound}
use Rattle.crew_machine.proofs.Cells.{Some-same, map-slice_set_same, same-place}
use Rattle.crew_machine.proofs.CrewLaws.{crew-laws}
use Rattle.crew_machine.proofs.OwnJobs.{one-cell, ready-work}
use Rattle.crew_machine.proofs.Reuse.{reuse-first}
use Rattle.crew_machine.specs.Crew.{CrewRound, CrewVersion, DutyNode, DutyWork, Entries, crew, timetable_of}
use Rattle.crew_machine.specs.Machinery.Sound.{IsRound, IsVersion}
use Rattle.crew_machine.specs.Rounds as Rounds
use Rattle.crew_machine.specs.Rounds.{IsDone, IsOwn}
use Rattle.crew_machine.specs.Worlds.{AreNodes, IsBefore, IsUntouched, IsWorkOf}
use Rattle.crew_machine.specs.declared.rounds.Cell.{Cell}
use Rattle.crew_machine.specs.declared.rounds.Cell.TheVariants.{Waiting, Done}
use Rattle.crew_resource.proofs.Members.{Member-at, Member-map_in, Member-map_out}
use Rattle.crew_resource.specs.Members.{Member}
use Rattle.crew_round.specs.Marks as Marks
use Rattle.crew_round.specs.Marks.{IsJustBefore, is_untouched_at}
use Rattle.crew_round.specs.declared.mark.Mark.TheVariants as Marked
use Rattle.crew_rules.specs.Settings.{IsChecked}
use Rattle.crew_rules.specs.declared.settings.Settings.{Settings}

abbrev pub round_of : List Entry → CrewCells → CrewRound
round_of entries cells = record { entries = entries; cells = cells }

-- the marks are those of a round's cells, beside the version before it
pub record IsOver (s : Settings) (sealed : CrewVersion) (entries : List Entry) (m : Marks.Marks) (cells : CrewCells) : Type 0 where
  pub marked : AreMarked s (timetable_of entries) m.net m.marks cells
  pub long : length m.same ≡ length m.marks
  pub same : (place : ℕ) (n : DutyNode) (c : Cell Entries) → slice_get cells place ≡ Some (n, c)
      → (get_or m.same place false ≡ true) ↔ ((f : Entries) × (c ≡ Done f) × Member sealed.fronts (n, f))
  pub untouched : (place : ℕ) (n : DutyNode) (c : Cell Entries) → slice_get cells place ≡ Some (n, c)
      → (is_untouched_at m place ≡ true) ↔ IsUntouched (crew s) (timetable_of sealed.entries) (timetable_of entries) n
  pub right : IsRound (crew s) sealed (round_of entries cells)

module _ (s : Settings) (checked : IsChecked s) (sealed : CrewVersion) (is : IsVersion (crew s) sealed) (entries : List Entry) where
  abbrev old : Timetable
  old = timetable_of sealed.entries

  abbrev new : Timetable
  new = timetable_of entries

  module _ (m : Marks.Marks) (cells : CrewCells) (over : IsOver s sealed entries m cells) where
    abbrev Reusable : ℕ → Type 0
    Reusable place = (job : DutyWork) × (f : Entries) × Rounds.IsReusable (crew s) sealed (round_of entries cells) place job f

    -- a node just before one stands as it stood
    stood : (place : ℕ) (n : DutyNode) (c : Cell Entries) → slice_get cells place ≡ Some (n, c) → Marks.AreSameBefore m place → (p : DutyNode) (f : Entries) → IsBefore (crew s) new p n → IsDone (crew s) cells p f → Member sealed.fronts (p, f)
    stood place n c e all p f b done =
        let at = place-of s new m.net m.marks cells over.marked p b.0 in
        let same = all at.0 (before-in s new m.net m.marks cells over.marked at.0 place p n at.1 c at.2 e b.1) in
        let was = (over.same at.0 p at.1 at.2).0 same in
        let one : at.1 ≡ Done f = one-cell cells over.marked.nodes.rise p at.1 (Done f) (Member-at cells at.0 (p, at.1) at.2) done in
        let fronts : Done was.0 ≡ Done f = sym was.1 ∙ one in
        let front : was.0 ≡ f = (cc) in
        subst (λ (z : Entries). Member sealed.fronts (p, z)) front was.2

    same-done : (place : ℕ) → Marks.AreSameBefore m place → Marks.AreDoneBefore m place
    same-done place all p b =
        let own = just-before s new m.net m.marks cells over.marked p place b in
        let was = (over.same p own.0 own.1 own.2).0 (all p b) in
        mark-at s new m.net m.marks cells over.marked p own.0 own.1 own.2 ∙ ap (λ (x : Cell Entries). Some (mark_of x)) was.1

    pub reusable-in : (place : ℕ) → Marks.IsReusable m place → Reusable place
    reusable-in place r =
        let w = waiting-at s new m.net m.marks cells over.marked place r.0 in
        let n = w.0 in
        let u = (over.untouched place n Waiting w.1).0 r.1 in
        let all = all-in s new m.net m.marks cells over.marked place n Waiting w.1 (same-done place r.2) in
        let own = ready-work s checked new cells over.marked.nodes over.right.right place n (w.1, all) in
        let job = own.0 in
        let here : slice_get cells place ≡ Some (job.node, Waiting) = subst (λ (z : DutyNode). slice_get cells place ≡ Some (z, Waiting)) (sym own.1) w.1 in
        let kept : IsUntouched (crew s) old new job.node = subst (IsUntouched (crew s) old new) (sym own.1) u in
        let from = Member-map_out (λ (x : DutyNode × Entries). x.0) sealed.fronts job.node ((is.nodes.exact job.node).1 kept.there) in
        let there : Member sealed.fronts (job.node, from.0.1) = subst (λ (z : DutyNode). Member sealed.fronts (z, from.0.1)) from.2 from.1 in
        let was : IsWorkOf (crew s) old (λ p g. Member sealed.fronts (p, g)) job = record {
          input = own.2.input ∙ sym kept.input;
          before = record {
            rise = own.2.before.rise;
            exact = λ p. (
              λ k. (let b = (own.2.before.exact p).0 k in ((kept.before p b.1).1 b.0, b.1)),
              λ b. (own.2.before.exact p).1 ((kept.before p b.1).0 b.0, b.1),
            );
          };
          fronts = λ p g k.
              (let b = (own.2.before.exact p).0 (Member-map_in (λ (x : DutyNode × Entries). x.0) job.before (p, g) k) in
              stood place job.node Waiting here r.2 p g b (own.2.fronts p g k));
        } in
        (job, from.0.1, ((here, own.2), record { there = kept.there; work = was; front_is = there }))

    pub reusable-out : (place : ℕ) (job : DutyWork) (f : Entries) → Rounds.IsReusable (crew s) sealed (round_of entries cells) place job f → Marks.IsReusable m place
    reusable-out place job f r =
        let at = r.0.0 in
        let now = r.0.1 in
        let was = r.1.work in
        let n = job.node in
        let u : IsUntouched (crew s) old new n = record {
          there = r.1.there;
          input = sym was.input ∙ now.input;
          before = λ p a. (
            λ k. ((now.before.exact p).0 ((was.before.exact p).1 (k, a))).0,
            λ k. ((was.before.exact p).0 ((now.before.exact p).1 (k, a))).0,
          );
        } in
        let before : Marks.AreSameBefore m place = λ k b.
        (
        let own = just-before s new m.net m.marks cells over.marked k place b in
        let arc = before-out s new m.net m.marks cells over.marked k place own.0 n own.1 Waiting own.2 at b in
        let there = (now.before.exact own.0).1 (node-is s new m.net m.marks cells over.marked k own.0 own.1 own.2, arc) in
        let from = Member-map_out (λ (x : DutyNode × Entries). x.0) job.before own.0 there in
        let held : Member job.before (own.0, from.0.1) = subst (λ (z : DutyNode). Member job.before (z, from.0.1)) from.2 from.1 in
        let one : own.1 ≡ Done from.0.1 = one-cell cells over.marked.nodes.rise own.0 own.1 (Done from.0.1) (Member-at cells k (own.0, own.1) own.2) (now.fronts own.0 from.0.1 held) in
        (over.same k own.0 own.1 own.2).1 (from.0.1, one, was.fronts own.0 from.0.1 held)) in
        (mark-at s new m.net m.marks cells over.marked place n Waiting at, (over.untouched place n Waiting at).1 u, before)

    pub none-reusable : Marks.NoneReusable m → Rounds.NoneReusable (crew s) sealed entries cells
    none-reusable none place job f r = none place (reusable-out place job f r)

    -- ---- a node is marked done

    module _ (place : ℕ) (n : DutyNode) (was : Cell Entries) (at : slice_get cells place ≡ Some (n, was)) (f : Entries) (kept : Bool) (told : (kept ≡ true) ↔ Member sealed.fronts (n, f)) where
      abbrev next : CrewCells
      next = slice_set cells place (n, Done f)

      abbrev next-marks : Marks.Marks
      next-marks = Marks.marked m place kept

      within-cells : place < length cells
      within-cells = slice_get_within cells place (n, was) at

      within-same : place < length m.same
      within-same =
          let here = slice_get_within m.marks place (mark_of was) (mark-at s new m.net m.marks cells over.marked place n was at) in
          let long = over.long in
          omega (arith, here, long)

      names-kept : map (λ (c : DutyNode × Cell Entries). c.0) next ≡ map (λ (c : DutyNode × Cell Entries). c.0) cells
      names-kept = map-slice_set_same (λ (c : DutyNode × Cell Entries). c.0) cells place (n, was) (n, Done f) at refl

      next-marked : AreMarked s new next-marks.net next-marks.marks next
      next-marked = record {
        names = names-kept ∙ over.marked.names;
        marks_are = map-set-here (λ (c : DutyNode × Cell Entries). mark_of c.1) cells place (n, Done f) ∙ ap (λ ms. slice_set ms place Marked.Done) over.marked.marks_are;
        nodes = subst (AreNodes (crew s) new) (sym names-kept) over.marked.nodes;
        settings = over.marked.settings;
        rise = over.marked.rise;
      }

      abbrev Told : ℕ → DutyNode → Cell Entries → Type 0
      Told k x c = (get_or next-marks.same k false ≡ true) ↔ ((g : Entries) × (c ≡ Done g) × Member sealed.fronts (x, g))

      next-same : (k : ℕ) (x : DutyNode) (c : Cell Entries) → slice_get next k ≡ Some (x, c) → Told k x c
      next-same k x c e = elim (same-place place k) as (λ _. Told k x c) [
        | inl one ↦
            let here : slice_get next k ≡ Some (n, Done f) = subst (λ (j : ℕ). slice_get next j ≡ Some (n, Done f)) one (get-here cells place (n, Done f) within-cells) in
            let pair : (n, Done f) ≡ (x, c) = Some-same (n, Done f) (x, c) (sym here ∙ e) in
            let node : n ≡ x = ap (λ (z : DutyNode × Cell Entries). z.0) pair in
            let cell : Done f ≡ c = ap (λ (z : DutyNode × Cell Entries). z.1) pair in
            let flag : get_or next-marks.same k false ≡ kept = subst (λ (j : ℕ). get_or next-marks.same j false ≡ kept) one (get_or-set_same m.same place kept false within-same) in (
              λ t. (f, sym cell, subst (λ (z : DutyNode). Member sealed.fronts (z, f)) node (told.0 (sym flag ∙ t))),
              λ g. (
                  let fronts : Done g.0 ≡ Done f = sym g.1 ∙ sym cell in
                  let front : g.0 ≡ f = (cc) in
                  flag ∙ told.1 (subst (λ (z : DutyNode). Member sealed.fronts (z, f)) (sym node) (subst (λ (z : Entries). Member sealed.fronts (x, z)) front g.2))),
            )
        | inr other ↦
            let before : slice_get cells k ≡ Some (x, c) = sym (get-elsewhere cells place k (n, Done f) other) ∙ e in
            let flag : get_or next-marks.same k false ≡ get_or m.same k false = get_or-set_other m.same place k kept false (λ i. other (sym i)) in
            let r = over.same k x c before in
            (λ t. r.0 (sym flag ∙ t), λ g. flag ∙ r.1 g)
      ]

      next-untouched : (k : ℕ) (x : DutyNode) (c : Cell Entries) → slice_get next k ≡ Some (x, c) → (is_untouched_at next-marks k ≡ true) ↔ IsUntouched (crew s) old new x
      next-untouched k x c e = elim (same-place place k) as (λ _. (is_untouched_at next-marks k ≡ true) ↔ IsUntouched (crew s) old new x) [
        | inl one ↦
            let here : slice_get next k ≡ Some (n, Done f) = subst (λ (j : ℕ). slice_get next j ≡ Some (n, Done f)) one (get-here cells place (n, Done f) within-cells) in
            let node : n ≡ x = ap (λ (z : DutyNode × Cell Entries). z.0) (Some-same (n, Done f) (x, c) (sym here ∙ e)) in
            let r = over.untouched place n was at in
            subst (λ (z : DutyNode). (is_untouched_at m k ≡ true) ↔ IsUntouched (crew s) old new z) node (subst (λ (j : ℕ). (is_untouched_at m j ≡ true) ↔ IsUntouched (crew s) old new n) one r)
        | inr other ↦ over.untouched k x c (sym (get-elsewhere cells place k (n, Done f) other) ∙ e)
      ]

      pub next-over : IsRound (crew s) sealed (round_of entries next) → IsOver s sealed entries next-marks next
      next-over right = record {
        marked = next-marked;
        long = kept-long;
        same = next-same;
        untouched = next-untouched;
        right = right;
      }
        where
          kept-long : length next-marks.same ≡ length next-marks.marks
          kept-long = let long = over.long in let a = length-slice_set m.same place kept in let b = length-slice_set m.marks place Marked.Done in omega (arith, long, a, b)

  -- nodes are marked one after another
  pub reuses-over : (m : Marks.Marks) (cells : CrewCells) → IsOver s sealed entries m cells → (places : List ℕ) (after : Marks.Marks) → Marks.Reuses m places after
      → (end : CrewCells) × Rounds.Reuses (crew s) sealed entries cells end × IsOver s sealed entries after end
  reuses-over m cells over [] after e = (cells, λ k. inl refl, subst (λ (z : Marks.Marks). IsOver s sealed entries z cells) (sym e) over)
  reuses-over m cells over (place ∷ places) after r =
      let one = reusable-in m cells over place r.0 in
      let job = one.0 in
      let f = one.1 in
      let told : (true ≡ true) ↔ Member sealed.fronts (job.node, f) = (λ t. one.2.1.front_is, λ t. refl) in
      let local = reusable_local (crew s) (crew-laws s checked) sealed (round_of entries cells) place job f is one.2 in
      let right = store_sound (crew s) (crew-laws s checked) sealed (round_of entries cells) place Waiting job f over.right one.2.0 local in
      let next = next-over m cells over place job.node Waiting one.2.0.0 f true told right in
      let rest = reuses-over (Marks.marked m place true) (slice_set cells place (job.node, Done f)) next places after r.1 in
      (rest.0, reuse-first (crew s) sealed entries cells place job f rest.0 one.2 rest.1, rest.2)
