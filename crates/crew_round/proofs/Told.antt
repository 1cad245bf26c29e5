-- What the sets tell of marks.
use Rattle.std.proofs.Common.{◌≡◌, ℕ, zero, suc, ◌<◌, ◌/◌, ◌%◌, Bool, true, false, not, List, [], ◌∷◌, Option, Some, None, get_or, length, map, refl, sym, ◌∙◌, ap, subst, arith}
use Rattle.std.specs.Prelude.{◌↔◌, ◌||◌, MatchOption, slice_get}
use Rattle.std.proofs.lemmas.Option.{get_or_from_slice_get, slice_get_within}
use Rattle.crew_ready.specs.Firsts.{IsFirst, NoneSet}
use Rattle.crew_round.proofs.Lists.{one-item}
use Rattle.crew_round.proofs.Places.{there}
use Rattle.crew_round.specs.Machinery.Cells.{is_undone}
use Rattle.crew_round.specs.Machinery.Held.{AreHeld, done_flag}
use Rattle.crew_round.specs.Machinery.Lines.{AllBefore, may_come}
use Rattle.crew_round.specs.Marks.{AllDone, AreDoneBefore, IsFirstReady, IsFirstUndone, IsMarked, IsReady, IsReusable, Marks, NoneReady, NoneReusable, is_done}
use Rattle.crew_round.specs.declared.line.Line.{Line}
use Rattle.crew_round.specs.declared.mark.Mark.{Mark}
use Rattle.crew_round.specs.declared.mark.Mark.TheVariants.{Done, Out, Waiting}

pub match-told : (o : Option ℕ) (P P2 : Type 0) (Q Q2 : ℕ → Type 0) → (P → P2) → ((k : ℕ) → Q k → Q2 k) → MatchOption o P Q → MatchOption o P2 Q2
match-told None P P2 Q Q2 f g h = f h
match-told (Some k) P P2 Q Q2 f g h = g k h

pub not-told : (b : Bool) → b ≡ true → b ≡ false → ⊥
not-told b p q = (cc)

pub told-within : (flags : List Bool) (k : ℕ) → get_or flags k false ≡ true → k < length flags
told-within [] k e = absurd (let q : ⊥ = (cc) in q)
told-within (b ∷ flags) zero e = omega arith
told-within (b ∷ flags) (suc k) e = let h = told-within flags k e in omega (arith, h)

-- marks as flags
is-done-done : (mark : Mark) → is_done mark ≡ true → mark ≡ Done
is-done-done Waiting e = absurd (let q : ⊥ = (cc) in q)
is-done-done Out e = absurd (let q : ⊥ = (cc) in q)
is-done-done Done e = refl

pub flag-mark : (marks : List Mark) (p : ℕ) → done_flag marks p ≡ true → slice_get marks p ≡ Some Done
flag-mark [] p e = absurd (let q : ⊥ = (cc) in q)
flag-mark (mark ∷ marks) zero e = ap (λ (z : Mark). Some z) (is-done-done mark e)
flag-mark (mark ∷ marks) (suc p) e = flag-mark marks p e

pub mark-flag : (marks : List Mark) (p : ℕ) → slice_get marks p ≡ Some Done → done_flag marks p ≡ true
mark-flag marks p e = ap is_done (get_or_from_slice_get marks p Done Waiting e)

pub mark-there : (marks : List Mark) (p : ℕ) → p < length marks → (mark : Mark) × (slice_get marks p ≡ Some mark)
mark-there [] p h = absurd (omega (arith, h))
mark-there (mark ∷ marks) zero h = (mark, refl)
mark-there (mark ∷ marks) (suc p) h = mark-there marks p (omega (arith, h))

waiting-done : Waiting ≡ Done → ⊥
waiting-done e = (cc)

pub flags-done : (m : Marks) (p : ℕ) → AllBefore m.net (done_flag m.marks) p → AreDoneBefore m p
flags-done m p all q j = flag-mark m.marks q (all q j)

pub done-flags : (m : Marks) (p : ℕ) → AreDoneBefore m p → AllBefore m.net (done_flag m.marks) p
done-flags m p all q j = mark-flag m.marks q (all q j)

module _ (m : Marks) (arrivals : List ℕ) (ready reusable : Line) (held : AreHeld m arrivals ready reusable) where
  -- a place in the line of ready nodes
  pub told-ready : (p : ℕ) → get_or ready.set p false ≡ true → IsReady m p
  told-ready p t =
      let low = told-within ready.set p t in
      let long = held.ready_line.long_set in
      let x = there m.net p (omega (arith, low, long)) in
      let r = (held.ready_line.chosen p (p / length m.net.duties) (p % length m.net.duties) x.duty x.stands).0 t in
      (r.0, flags-done m p r.2)

  pub ready-told : (p : ℕ) → IsReady m p → get_or ready.set p false ≡ true
  ready-told p r =
      let low = slice_get_within m.marks p Waiting r.0 in
      let long = held.marks.long in
      let x = there m.net p (omega (arith, low, long)) in
      (held.ready_line.chosen p (p / length m.net.duties) (p % length m.net.duties) x.duty x.stands).1
      (r.0, subst (λ (a : Bool). may_come a m.carried (p / length m.net.duties) (p % length m.net.duties) ≡ true) (sym held.all) refl, done-flags m p r.1)

  -- .. and of those whose work is what it was
  pub told-reusable : (p : ℕ) → get_or reusable.set p false ≡ true → IsReusable m p
  told-reusable p t =
      let low = told-within reusable.set p t in
      let long = held.reusable_line.long_set in
      let x = there m.net p (omega (arith, low, long)) in
      let r = (held.reusable_line.chosen p (p / length m.net.duties) (p % length m.net.duties) x.duty x.stands).0 t in
      (r.0, subst (λ (a : Bool). may_come a m.carried (p / length m.net.duties) (p % length m.net.duties) ≡ true) held.untouched r.1, r.2)

  pub reusable-told : (p : ℕ) → IsReusable m p → get_or reusable.set p false ≡ true
  reusable-told p r =
      let low = slice_get_within m.marks p Waiting r.0 in
      let long = held.marks.long in
      let x = there m.net p (omega (arith, low, long)) in
      (held.reusable_line.chosen p (p / length m.net.duties) (p % length m.net.duties) x.duty x.stands).1
      (r.0, subst (λ (a : Bool). may_come a m.carried (p / length m.net.duties) (p % length m.net.duties) ≡ true) (sym held.untouched) r.1, r.2)

  pub none-ready : NoneSet ready.set → NoneReady m
  none-ready none p r = not-told (get_or ready.set p false) (ready-told p r) (none p)

  pub first-ready : (p : ℕ) → IsFirst ready.set p → IsFirstReady m p
  first-ready p f = record { ready = told-ready p f.set; least = λ k l r. not-told (get_or ready.set k false) (ready-told k r) (f.least k l) }

  pub none-reusable : NoneSet reusable.set → NoneReusable m
  none-reusable none p r = not-told (get_or reusable.set p false) (reusable-told p r) (none p)

  pub first-reusable : (p : ℕ) → IsFirst reusable.set p → IsReusable m p × AreDoneBefore m p
  first-reusable p f = let r = told-reusable p f.set in (r, λ q j. held.marks.done q (r.2 q j))

  -- whether all before a node are done
  pub started : (p : ℕ) → p < length m.marks → (IsMarked m p Waiting → ⊥) → AreDoneBefore m p
  started p low other = let x = mark-there m.marks p low in held.marks.started p x.0 x.1 (λ e. other (x.1 ∙ ap (λ (z : Mark). Some z) e))

  pub clear-told : (p : ℕ) (waits set : Bool) → p < length m.marks → (waits ≡ true) ↔ IsMarked m p Waiting → set ≡ get_or ready.set p false → ((not waits || set) ≡ true) ↔ AreDoneBefore m p
  clear-told p true set low w e = (λ t. (told-ready p (sym e ∙ t)).1, λ all. e ∙ ready-told p (w.0 refl, all))
  clear-told p false set low w e = (λ t. started p low (λ x. (let f = w.1 x in let q : ⊥ = (cc) in q)), λ all. refl)

-- undone nodes
undone-other : (marks : List Mark) (p : ℕ) → get_or (map is_undone marks) p false ≡ true → (p < length marks) × (slice_get marks p ≡ Some Done → ⊥)
undone-other [] p e = absurd (let q : ⊥ = (cc) in q)
undone-other (mark ∷ marks) zero e = (omega arith, λ d. (let s = one-item mark Done d in let f : not (is_done mark) ≡ not (is_done Done) = ap (λ (z : Mark). not (is_done z)) s in let q : ⊥ = (cc) in q))
undone-other (mark ∷ marks) (suc p) e = let r = undone-other marks p e in let l = r.0 in (omega (arith, l), r.1)

not-undone : (mark : Mark) → not (is_done mark) ≡ false → mark ≡ Done
not-undone Waiting e = absurd (let q : ⊥ = (cc) in q)
not-undone Out e = absurd (let q : ⊥ = (cc) in q)
not-undone Done e = refl

undone-none : (marks : List Mark) (p : ℕ) → p < length marks → get_or (map is_undone marks) p false ≡ false → slice_get marks p ≡ Some Done
undone-none [] p h e = absurd (omega (arith, h))
undone-none (mark ∷ marks) zero h e = ap (λ (z : Mark). Some z) (not-undone mark e)
undone-none (mark ∷ marks) (suc p) h e = undone-none marks p (omega (arith, h)) e

pub all-done : (m : Marks) → NoneSet (map is_undone m.marks) → AllDone m
all-done m none p low = undone-none m.marks p low (none p)

pub first-undone : (m : Marks) (p : ℕ) → IsFirst (map is_undone m.marks) p → IsFirstUndone m p
first-undone m p f =
    let u = undone-other m.marks p f.set in
    let low = u.0 in
    record { undone = u; least = λ k l. undone-none m.marks k (omega (arith, low, l)) (f.least k l) }
