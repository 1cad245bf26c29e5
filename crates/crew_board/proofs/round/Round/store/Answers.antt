use Rattle.std.proofs.Common.{◌≡◌, ◌⊎◌, ◌∙◌, ◌++◌, inl, inr, ℕ, true, List, Option, Some, drop, length, map, refl, slice_set, sym, ap, subst, arith, take, ⊎_elim}
use Rattle.std.specs.Prelude.{◌↔◌, slice_get}
use Rattle.std.specs.Arc.{arc_value}
use Rattle.std.specs.Option.{option_map}
use Rattle.std.proofs.lemmas.List.{length-set}
use Rattle.crew_board.proofs.Gathered.{written-back}
use Rattle.crew_board.proofs.Inside.{marked_of, shown_of}
use Rattle.crew_board.proofs.Keeping.{held-stored}
use Rattle.crew_board.proofs.Likes.{like-plan}
use Rattle.crew_board.proofs.OnePlan.{as-many}
use Rattle.crew_board.proofs.Written.{map-set-here}
use Rattle.crew_board.specs.Machinery.Held.{IsHeld, Marked}
use Rattle.crew_board.specs.Machinery.Likes.{AreLike}
use Rattle.crew_board.specs.Machinery.Turns.{IsOwnPlace, StoresAt, with_marks}
use Rattle.crew_job.specs.Grounds.{IsGround, data_of, nodes_in}
use Rattle.crew_job.specs.Jobs.{IsPlaced, Job}
use Rattle.crew_job.specs.Shown.{IsAsSealed}
use Rattle.crew_machine.specs.Crew.{DutyNode}
use Rattle.crew_round.specs.Marks.{IsUndone}
use Rattle.crew_job.specs.crew_plan.Plans.{AreFrontsIn, Plan}
use Rattle.crew_job.specs.crew_fronts.Fronts.{BaseFronts}
use Rattle.crew_board.proofs.round.Round.store.Goals as goal

pub note-requires : goal.note-requires
note-requires c told =
    let r = marked_of c.self.inside in
    let job = c.args.done in
    let placed = subst IsPlaced c.job.ensures c.ground-ground.ensures.placed in
    let ground = subst (λ (j : Job). IsGround j.ground) c.job.ensures c.ground-ground.ensures.ground in
    let like = subst (λ (z : Marked). AreLike c.args.like job.ground z.ground) (sym c.self.view_is) c.requires.like in
    let plan : job.ground.plan ≡ r.ground.plan = like-plan c.args.like job.ground r.ground (c.is_same_round-own.ensures.0 told) like in
    let base = c.base-base.ensures.value ∙ ap (λ (j : Job). j.base) c.job-2.ensures in
    let low = placed.base in
    let many = as-many job.ground.settings (data_of job.ground) job.ground.plan ground.planned in
    let prices = ap (λ (p : Plan). length p.prices) plan in
    let swept = c.self.invariant.long_swept in
    let value = ap length c.deref_mut-2.ensures.value in
    omega (arith, base, low, many, prices, swept, value)

pub invariant_of-self : goal.invariant_of-self
invariant_of-self c =
    let i = c.self.inside in
    let r = marked_of i in
    let h = c.self.invariant in
    let place = c.args.place in
    let job = c.args.done in
    let placed = subst IsPlaced c.job.ensures c.ground-ground.ensures.placed in
    let ground = subst (λ (j : Job). IsGround j.ground) c.job.ensures c.ground-ground.ensures.ground in
    let like = subst (λ (z : Marked). AreLike c.args.like job.ground z.ground) (sym c.self.view_is) c.requires.like in
    let base = c.base-base.ensures.value ∙ ap (λ (j : Job). j.base) c.job-2.ensures in
    let new : Marked = with_marks r c.store.new.self in
    let st : StoresAt r job new = record {
      place = place;
      own = subst (λ (z : Marked). IsOwnPlace z job place) (sym c.self.view_is) c.requires.own;
      undone = subst (λ (z : Marked). IsUndone z.marks place) (sym c.self.view_is) c.requires.undone;
      same = c.args.same;
      told = subst (λ (z : Marked). (n : DutyNode) → slice_get (nodes_in z.ground.plan.net) place ≡ Some n → (c.args.same ≡ true) ↔ IsAsSealed z.ground n) (sym c.self.view_is) c.requires.told;
      marks = c.store.new.self;
      stores = c.store.ensures;
      after = refl;
    } in
    let b = arc_value c.into_sweep.result in
    let sweep : (k : ℕ) → k ≡ c.base-base.result → c.is_same_round-own.result ≡ true → AreFrontsIn r.ground.plan k b = λ k e told.
    (
    let plan : job.ground.plan ≡ r.ground.plan = like-plan c.args.like job.ground r.ground (c.is_same_round-own.ensures.0 told) like in
    subst (λ j. AreFrontsIn r.ground.plan j b) (sym (e ∙ base)) (subst (λ (p : Plan). AreFrontsIn p job.base b) plan c.into_sweep.ensures.swept)) in
    let swept = c.note.new.swept in
    let long = c.note.ensures.long ∙ ap length c.deref_mut-2.ensures.value in
    let noted : (k p : ℕ) → slice_get swept k ≡ Some (Some p) → (slice_get i.swept.items k ≡ Some (Some p)) ⊎ ((p ≡ place) × AreFrontsIn r.ground.plan k b) = λ k p e.
    ⊎_elim {C = (slice_get i.swept.items k ≡ Some (Some p)) ⊎ ((p ≡ place) × AreFrontsIn r.ground.plan k b)}
    (λ was. inl (subst (λ xs. slice_get xs k ≡ Some (Some p)) c.deref_mut-2.ensures.value was))
    (λ n. inr (n.1, sweep k n.0 n.2))
    (c.note.ensures.noted k p e) in
    let held = held-stored r h.marked job ground placed new st (shown_of i) i.swept.items h b c.into_sweep.ensures.shown swept long noted in
    let set : c.show.new.shown ≡ slice_set i.shown.items place (Some c.into_sweep.result) = c.show.ensures ∙ ap (λ xs. slice_set xs place (Some c.into_sweep.result)) c.deref_mut.ensures.value in
    let shown-long : i.shown.len ≡ length c.show.new.shown = sym c.deref_mut.ensures.len ∙ (ap length c.deref_mut.ensures.value ∙ (sym (length-set i.shown.items place (Some c.into_sweep.result)) ∙ ap length (sym set))) in
    let shown-back = written-back i.shown.len c.show.new.shown i.shown.items shown-long in
    let shown-is = ap (map (option_map (λ a. a.value))) (shown-back ∙ set) ∙ map-set-here (option_map (λ a. a.value)) i.shown.items place (Some c.into_sweep.result) in
    let swept-back = written-back i.swept.len swept i.swept.items (sym c.deref_mut-2.ensures.len ∙ sym c.note.ensures.long) in
    subst (λ (xs : List (Option ℕ)). IsHeld new (map (option_map (λ a. a.value)) (take i.shown.len (c.show.new.shown ++ drop (length c.show.new.shown) i.shown.items))) xs) (sym swept-back)
    (subst (λ (xs : List (Option BaseFronts)). IsHeld new xs swept) (sym shown-is) held)
