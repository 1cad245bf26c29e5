-- What is kept of marks when one is written.
use Rattle.std.proofs.Common.{◌≡◌, ℕ, ◌<◌, ◌/◌, Bool, true, false, List, Some, get_or, length, slice_set, refl, sym, ◌∙◌, ap, subst, ⊎_elim, arith}
use Rattle.std.specs.Prelude.{slice_get}
use Rattle.std.proofs.lemmas.Bool.{cases_Bool}
use Rattle.std.proofs.lemmas.List.{get_or-set_other, get_or-set_same, length-set}
use Rattle.std.proofs.lemmas.Option.{get_or_from_slice_get, slice_get_within}
use Rattle.crew_dirty.specs.Carried.{Carried}
use Rattle.crew_net.specs.Nets.{Net}
use Rattle.crew_round.proofs.Lined.{line-anew, line-left}
use Rattle.crew_round.proofs.Lists.{get-set-here, get-set-other, one-item, same-or-not}
use Rattle.crew_round.proofs.Places.{base-of, rank-of}
use Rattle.crew_round.proofs.Told.{done-flags, flag-mark}
use Rattle.crew_round.specs.Machinery.Held.{AreHeld, AreMarks, done_flag, same_flag}
use Rattle.crew_round.specs.Machinery.Lines.{IsFlagged, IsLine, may_come}
use Rattle.crew_round.specs.Marks.{AreDoneBefore, AreSameBefore, IsMarked, IsReady, IsReusable, IsUndone, Marks, NoneReusable, is_done, is_untouched_at, marked, with_mark}
use Rattle.crew_round.specs.declared.line.Line.{Line}
use Rattle.crew_round.specs.declared.mark.Mark.{Mark}
use Rattle.crew_round.specs.declared.mark.Mark.TheVariants.{Done, Out, Waiting}

pub out-waits : Out ≡ Waiting → ⊥
out-waits e = (cc)

pub done-out : Done ≡ Out → ⊥
done-out e = (cc)

pub waiting-done : Waiting ≡ Done → ⊥
waiting-done e = (cc)

pub waiting-out : Waiting ≡ Out → ⊥
waiting-out e = (cc)

-- a place has one mark
pub one-mark : (m : Marks) (p : ℕ) (a b : Mark) → IsMarked m p a → IsMarked m p b → a ≡ b
one-mark m p a b x y = one-item a b (sym x ∙ y)

-- what is done stays so where another mark is written
pub done-stays : (marks : List Mark) (place q : ℕ) (mark : Mark) → (slice_get marks place ≡ Some Done → ⊥) → slice_get marks q ≡ Some Done → slice_get (slice_set marks place mark) q ≡ Some Done
done-stays marks place q mark other d = get-set-other marks place q mark (λ e. other (ap (slice_get marks) (sym e) ∙ d)) ∙ d

pub done-flag-other : (marks : List Mark) (place k : ℕ) (mark : Mark) → (k ≡ place → ⊥) → done_flag (slice_set marks place mark) k ≡ done_flag marks k
done-flag-other marks place k mark n = ap is_done (get_or-set_other marks place k mark Waiting n)

pub done-flag-here : (marks : List Mark) (place : ℕ) (mark : Mark) → place < length marks → done_flag (slice_set marks place mark) place ≡ is_done mark
done-flag-here marks place mark h = ap is_done (get_or-set_same marks place mark Waiting h)

-- flags of what is done where neither mark is done
pub done-flags-same : (marks : List Mark) (place : ℕ) (was mark : Mark) → slice_get marks place ≡ Some was → is_done was ≡ false → is_done mark ≡ false → (k : ℕ) → done_flag (slice_set marks place mark) k ≡ done_flag marks k
done-flags-same marks place was mark at a b k =
    ⊎_elim {C = done_flag (slice_set marks place mark) k ≡ done_flag marks k}
    (λ e. ap (done_flag (slice_set marks place mark)) e ∙ (done-flag-here marks place mark (slice_get_within marks place was at) ∙ (b ∙ (sym a ∙ (sym (ap is_done (get_or_from_slice_get marks place was Waiting at)) ∙ ap (done_flag marks) (sym e))))))
    (λ n. done-flag-other marks place k mark n)
    (same-or-not k place)

-- the line without a place, and with it
abbrev pub with_set : Line → List Bool → Line
with_set line flags = record { counts = line.counts; set = flags; any = line.any }

module _ (m : Marks) (arrivals : List ℕ) (ready reusable : Line) (held : AreHeld m arrivals ready reusable) (place : ℕ) where
  -- a ready node is out
  module _ (is : IsReady m place) (fresh : IsReusable m place → ⊥) where
    abbrev next : Marks
    next = with_mark m place Out

    within : place < length m.marks
    within = slice_get_within m.marks place Waiting is.0

    not-done : IsMarked m place Done → ⊥
    not-done d = waiting-done (one-mark m place Waiting Done is.0 d)

    all-stay : (p : ℕ) → AreDoneBefore m p → AreDoneBefore next p
    all-stay p all q j = done-stays m.marks place q Out not-done (all q j)

    claimed : AreMarks next
    claimed = record {
      long = length-set m.marks place Out ∙ held.marks.long;
      long_same = held.marks.long_same;
      done = λ p s. done-stays m.marks place p Out not-done (held.marks.done p s);
      started = λ p mark at other.
          ⊎_elim {C = AreDoneBefore next p}
          (λ e. subst (λ (z : ℕ). AreDoneBefore next z) (sym e) (all-stay place is.1))
          (λ n. all-stay p (held.marks.started p mark (sym (get-set-other m.marks place p Out n) ∙ at) other))
          (same-or-not p place);
      other = λ p at untouched same.
          ⊎_elim {C = ⊥}
          (λ e. fresh (is.0, subst (λ (z : ℕ). is_untouched_at m z ≡ true) e untouched, subst (λ (z : ℕ). AreSameBefore m z) e same))
          (λ n. held.marks.other p (sym (get-set-other m.marks place p Out n) ∙ at) untouched same)
          (same-or-not p place);
    }

    pub claim-held : AreHeld next arrivals (with_set ready (slice_set ready.set place false)) (with_set reusable (slice_set reusable.set place false))
    claim-held = record {
      marks = claimed;
      places = held.places;
      all = held.all;
      ready_line = line-left m.net m.carried m.marks (slice_set m.marks place Out) (done_flag m.marks) (done_flag (slice_set m.marks place Out)) ready (with_set ready (slice_set ready.set place false)) place Out held.ready_line refl refl refl refl within
          (let low = within in let a = held.marks.long in let b = held.ready_line.long_set in omega (arith, low, a, b)) out-waits (done-flags-same m.marks place Waiting Out is.0 refl refl);
      untouched = held.untouched;
      reusable_line = line-left m.net m.carried m.marks (slice_set m.marks place Out) (same_flag m.same) (same_flag m.same) reusable (with_set reusable (slice_set reusable.set place false)) place Out held.reusable_line refl refl refl refl within
          (let low = within in let a = held.marks.long in let b = held.reusable_line.long_set in omega (arith, low, a, b)) out-waits (λ k. refl);
    }

  -- a node that is out waits again
  module _ (is : IsMarked m place Out) where
    abbrev freed : Marks
    freed = with_mark m place Waiting

    inside : place < length m.marks
    inside = slice_get_within m.marks place Out is

    isnt-done : IsMarked m place Done → ⊥
    isnt-done d = done-out (one-mark m place Done Out d is)

    stay : (p : ℕ) → AreDoneBefore m p → AreDoneBefore freed p
    stay p all q j = done-stays m.marks place q Waiting isnt-done (all q j)

    pub free-fresh : IsReusable freed place → ⊥
    free-fresh r = held.marks.other place is r.1 r.2

    are-freed : AreMarks freed
    are-freed = record {
      long = length-set m.marks place Waiting ∙ held.marks.long;
      long_same = held.marks.long_same;
      done = λ p s. done-stays m.marks place p Waiting isnt-done (held.marks.done p s);
      started = λ p mark at other.
          ⊎_elim {C = AreDoneBefore freed p}
          (λ e. absurd (other (one-item mark Waiting (sym at ∙ (ap (slice_get (slice_set m.marks place Waiting)) e ∙ get-set-here m.marks place Waiting inside)))))
          (λ n. stay p (held.marks.started p mark (sym (get-set-other m.marks place p Waiting n) ∙ at) other))
          (same-or-not p place);
      other = λ p at untouched same.
          ⊎_elim {C = ⊥}
          (λ e. waiting-out (one-item Waiting Out (sym (get-set-here m.marks place Waiting inside) ∙ (ap (slice_get (slice_set m.marks place Waiting)) (sym e) ∙ at))))
          (λ n. held.marks.other p (sym (get-set-other m.marks place p Waiting n) ∙ at) untouched same)
          (same-or-not p place);
    }

    pub free-held : AreHeld freed arrivals (with_set ready (slice_set ready.set place true)) reusable
    free-held = record {
      marks = are-freed;
      places = held.places;
      all = held.all;
      ready_line = line-anew m.net m.carried m.marks (slice_set m.marks place Waiting) (done_flag m.marks) (done_flag (slice_set m.marks place Waiting)) ready (with_set ready (slice_set ready.set place true)) place held.ready_line refl refl (length-set ready.set place true)
          (λ k n. get-set-other m.marks place k Waiting n)
          (λ k n. get_or-set_other ready.set place k true false n)
          (done-flags-same m.marks place Out Waiting is refl refl)
          (λ base rank d s. (
            λ t. (get-set-here m.marks place Waiting inside, subst (λ (a : Bool). may_come a m.carried base rank ≡ true) (sym held.all) refl, done-flags m place (held.marks.started place Out is out-waits)),
            λ t. get_or-set_same ready.set place true false (let low = inside in let a = held.marks.long in let b = held.ready_line.long_set in omega (arith, low, a, b)),
          ));
      untouched = held.untouched;
      reusable_line = line-anew m.net m.carried m.marks (slice_set m.marks place Waiting) (same_flag m.same) (same_flag m.same) reusable reusable place held.reusable_line refl refl refl
          (λ k n. get-set-other m.marks place k Waiting n)
          (λ k n. refl)
          (λ k. refl)
          (λ base rank d s. (
            λ t. absurd (waiting-out (one-mark m place Waiting Out ((held.reusable_line.chosen place base rank d s).0 t).0 is)),
            λ t.
                let may : may_come false m.carried base rank ≡ true = subst (λ (a : Bool). may_come a m.carried base rank ≡ true) held.untouched t.1 in
                let at : is_untouched_at m place ≡ true =
                subst (λ (r : ℕ). may_come false m.carried (place / length m.net.duties) r ≡ true) (sym (rank-of m.net place base rank d s)) (subst (λ (b : ℕ). may_come false m.carried b rank ≡ true) (sym (base-of m.net place base rank d s)) may) in
                absurd (held.marks.other place is at t.2),
          ));
    }

  -- a node is done
  module _ (same : Bool) (undone : IsUndone m place) (clear : AreDoneBefore m place) where
    abbrev stored : Marks
    stored = marked m place same

    -- what is done stays done
    kept-done : (q : ℕ) → IsMarked m q Done → IsMarked stored q Done
    kept-done q d = done-stays m.marks place q Done undone.1 d

    kept-before : (p : ℕ) → AreDoneBefore m p → AreDoneBefore stored p
    kept-before p all q j = kept-done q (all q j)

    not-same : get_or m.same place false ≡ false
    not-same = ⊎_elim {C = get_or m.same place false ≡ false} (λ t. absurd (undone.1 (held.marks.done place t))) (λ f. f) (cases_Bool (get_or m.same place false))

    long-same : place < length m.same
    long-same = let low = undone.0 in let a = held.marks.long in let b = held.marks.long_same in omega (arith, low, a, b)

    pub flagged-done : IsFlagged (done_flag m.marks) (done_flag (slice_set m.marks place Done)) place true
    flagged-done = record {
      was = ⊎_elim {C = done_flag m.marks place ≡ false} (λ t. absurd (undone.1 (flag-mark m.marks place t))) (λ f. f) (cases_Bool (done_flag m.marks place));
      here = done-flag-here m.marks place Done undone.0;
      elsewhere = λ k n. done-flag-other m.marks place k Done n;
    }

    pub flagged-same : IsFlagged (same_flag m.same) (same_flag (slice_set m.same place same)) place same
    flagged-same = record {
      was = not-same;
      here = get_or-set_same m.same place same false long-same;
      elsewhere = λ k n. get_or-set_other m.same place k same false n;
    }

    are-stored : AreMarks stored
    are-stored = record {
      long = length-set m.marks place Done ∙ held.marks.long;
      long_same = length-set m.same place same ∙ held.marks.long_same;
      done = λ p s.
          ⊎_elim {C = IsMarked stored p Done}
          (λ e. ap (slice_get (slice_set m.marks place Done)) e ∙ get-set-here m.marks place Done undone.0)
          (λ n. kept-done p (held.marks.done p (sym (get_or-set_other m.same place p same false n) ∙ s)))
          (same-or-not p place);
      started = λ p mark at other.
          ⊎_elim {C = AreDoneBefore stored p}
          (λ e. subst (λ (z : ℕ). AreDoneBefore stored z) (sym e) (kept-before place clear))
          (λ n. kept-before p (held.marks.started p mark (sym (get-set-other m.marks place p Done n) ∙ at) other))
          (same-or-not p place);
      other = λ p at untouched all.
          ⊎_elim {C = ⊥}
          (λ e. done-out (one-item Done Out (sym (get-set-here m.marks place Done undone.0) ∙ (ap (slice_get (slice_set m.marks place Done)) (sym e) ∙ at))))
          (λ n.
          let was : IsMarked m p Out = sym (get-set-other m.marks place p Done n) ∙ at in
          held.marks.other p was untouched (λ q j.
          sym (get_or-set_other m.same place q same false (λ e. undone.1 (ap (slice_get m.marks) (sym e) ∙ held.marks.started p Out was out-waits q j))) ∙ all q j))
          (same-or-not p place);
    }

    pub put-held : (ready2 reusable2 : Line) → ready2.any ≡ ready.any → reusable2.any ≡ reusable.any
        → IsLine m.net m.carried (slice_set m.marks place Done) (done_flag (slice_set m.marks place Done)) ready2
        → IsLine m.net m.carried (slice_set m.marks place Done) (same_flag (slice_set m.same place same)) reusable2
        → AreHeld stored arrivals ready2 reusable2
    put-held ready2 reusable2 a b l k = record {
      marks = are-stored;
      places = held.places;
      all = a ∙ held.all;
      ready_line = l;
      untouched = b ∙ held.untouched;
      reusable_line = k;
    }

-- what a line's pass says
abbrev pub Passes : Net → Carried → List Mark → Line → Line → ℕ → Bool → Type 0
Passes net carried cells old new place flagged = (was : List Mark) (flag next : ℕ → Bool) → IsLine net carried was flag old → cells ≡ slice_set was place Done → place < length was → IsFlagged flag next place flagged → IsLine net carried cells next new

module _ (m : Marks) (arrivals : List ℕ) (ready reusable : Line) (held : AreHeld m arrivals ready reusable) (place : ℕ) (same : Bool) (undone : IsUndone m place) (clear : AreDoneBefore m place) where
  pub put-passed : (cells : List Mark) (ready2 reusable2 : Line) → cells ≡ slice_set m.marks place Done → ready2.any ≡ ready.any → reusable2.any ≡ reusable.any
      → Passes m.net m.carried cells ready ready2 place true → Passes m.net m.carried cells reusable reusable2 place same
      → AreHeld (record { net = m.net; carried = m.carried; marks = cells; same = slice_set m.same place same }) arrivals ready2 reusable2
  put-passed cells ready2 reusable2 e a b p q =
      subst (λ (z : List Mark). AreHeld (record { net = m.net; carried = m.carried; marks = z; same = slice_set m.same place same }) arrivals ready2 reusable2) (sym e)
      (put-held m arrivals ready reusable held place same undone clear ready2 reusable2 a b
      (subst (λ (z : List Mark). IsLine m.net m.carried z (done_flag (slice_set m.marks place Done)) ready2) e (p m.marks (done_flag m.marks) (done_flag (slice_set m.marks place Done)) held.ready_line e undone.0 (flagged-done m arrivals ready reusable held place same undone clear)))
      (subst (λ (z : List Mark). IsLine m.net m.carried z (same_flag (slice_set m.same place same)) reusable2) e (q m.marks (same_flag m.same) (same_flag (slice_set m.same place same)) held.reusable_line e undone.0 (flagged-same m arrivals ready reusable held place same undone clear))))

-- where no waiting node's work is what it was, and a mark is written
pub none-other : (m : Marks) (place : ℕ) (mark : Mark) → NoneReusable m → (IsReusable (with_mark m place mark) place → ⊥) → NoneReusable (with_mark m place mark)
none-other m place mark none here p r =
    ⊎_elim {C = ⊥}
    (λ e. here (subst (λ (z : ℕ). IsReusable (with_mark m place mark) z) e r))
    (λ n. none p (sym (get-set-other m.marks place p mark n) ∙ r.0, r.1, r.2))
    (same-or-not p place)

pub none-claimed : (m : Marks) (place : ℕ) → NoneReusable m → IsMarked m place Waiting → NoneReusable (with_mark m place Out)
none-claimed m place none is =
    none-other m place Out none (λ r. waiting-out (one-item Waiting Out (sym r.0 ∙ get-set-here m.marks place Out (slice_get_within m.marks place Waiting is))))
