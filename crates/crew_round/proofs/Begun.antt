-- The marks as a round begins.
use Rattle.std.proofs.Common.{◌≡◌, ℕ, ◌+◌, ◌*◌, ◌<◌, ◌/◌, ◌%◌, ◌&&◌, Bool, true, false, List, [], ◌∷◌, ◌++◌, Some, get_or, length, inl, inr, refl, sym, ◌∙◌, ap, subst, ⊎_elim, arith}
use Rattle.std.proofs.lemmas.Bool.{cases_Bool}
use Rattle.std.proofs.lemmas.Option.{slice_get_within}
use Rattle.crew_dirty.proofs.Paths.{path-less, path-more}
use Rattle.crew_dirty.specs.Carried.{AreSameUpTo, Carried, IsCarriedOver}
use Rattle.crew_dirty.specs.Dirty.{IsSameDuty}
use Rattle.crew_flights.specs.Timetable.{Timetable}
use Rattle.crew_net.specs.Nets.{AreArrivalPlaces, Net}
use Rattle.crew_pairing.specs.Pairings.{may_stand_after}
use Rattle.crew_pairing.specs.declared.duty.Duty.{Duty}
use Rattle.crew_resource.proofs.Members.{Member-at}
use Rattle.crew_resource.specs.Members.{Member}
use Rattle.crew_net.proofs.Longest.{stands}
use Rattle.crew_round.proofs.Lined.{before-same, counts-same}
use Rattle.crew_round.proofs.Lists.{one-item}
use Rattle.crew_round.proofs.Marked.{done-out, out-waits, waiting-done}
use Rattle.crew_round.proofs.Places.{arc-before, base-of, just-before, place-below, rank-of, there}
use Rattle.crew_round.proofs.Told.{flag-mark, mark-flag, not-told, told-within}
use Rattle.crew_round.specs.Machinery.Cells.{AreMarksOf, mark_of}
use Rattle.crew_round.specs.Machinery.Held.{AreHeld, AreKept, AreMarks, done_flag}
use Rattle.crew_round.specs.Machinery.Lines.{IsLine}
use Rattle.crew_round.specs.Marks.{AreCarried, IsJustBefore, IsMarked, Marks, NoneReusable, StandsAt, is_kept_at, is_untouched_at, node_count}
use Rattle.crew_round.specs.declared.line.Line.{Line}
use Rattle.crew_round.specs.declared.mark.Mark.{Mark}
use Rattle.crew_round.specs.declared.mark.Mark.TheVariants.{Done, Out, Waiting}

both : (a b : Bool) → (a && b) ≡ true → (a ≡ true) × (b ≡ true)
both true b e = (refl, e)
both false b e = absurd (let q : ⊥ = (cc) in q)

and-both : (a b : Bool) → a ≡ true → b ≡ true → (a && b) ≡ true
and-both true b e f = f
and-both false b e f = absurd (let q : ⊥ = (cc) in q)

-- what is the same as far back as arcs lead: one arc less, and one more
up-less : (old net : Net) (d e : Duty) → Member net.duties d → may_stand_after net.settings e d ≡ true → AreSameUpTo old net d → AreSameUpTo old net e
up-less old net d e m may up first others path = up first (others ++ d ∷ []) (path-more net first others e d path may m)

up-more : (old net : Net) (d : Duty) → IsSameDuty old net d → ((e : Duty) → Member net.duties e → may_stand_after net.settings e d ≡ true → AreSameUpTo old net e) → AreSameUpTo old net d
up-more old net d same all first others path =
    elim (path-less net first others d path) as (λ _. IsSameDuty old net first) [
      | inl e ↦ subst (λ (x : Duty). IsSameDuty old net x) (sym e) same
      | inr k ↦ all k.0 k.3 k.4 first k.1 k.2
    ]

module _ (t u : Timetable) (old : Net) (m : Marks) (over : IsCarriedOver t u old m.net m.carried) where
  -- a node just before one that isn't reached isn't either
  kept-before : (p q : ℕ) → p < node_count m.net → is_kept_at m p ≡ true → IsJustBefore m.net q p → is_kept_at m q ≡ true
  kept-before p q low k j =
      let n = length m.net.duties in
      let x = there m.net p low in
      let a = just-before m.net q p (p / n) (p % n) x.duty x.stands j in
      let b = both (get_or m.carried.bases (p / n) false) (get_or m.carried.unreached (p % n) false) k in
      let up : AreSameUpTo old m.net x.duty = (over.unreached_flags (p % n) x.duty x.stands.duty).0 b.1 in
      let less = up-less old m.net x.duty a.duty (Member-at m.net.duties (p % n) x.duty x.stands.duty) a.may up in
      let own : get_or m.carried.unreached a.rank false ≡ true = (over.unreached_flags a.rank a.duty a.stands.duty).1 less in
      and-both (get_or m.carried.bases (q / n) false) (get_or m.carried.unreached (q % n) false)
      (ap (λ (z : ℕ). get_or m.carried.bases z false) (base-of m.net q (p / n) a.rank a.duty a.stands) ∙ b.0)
      (ap (λ (z : ℕ). get_or m.carried.unreached z false) (rank-of m.net q (p / n) a.rank a.duty a.stands) ∙ own)

  -- one that isn't touched, and has only such before it, isn't reached
  kept-from : (p : ℕ) → p < node_count m.net → is_untouched_at m p ≡ true → ((q : ℕ) → IsJustBefore m.net q p → is_kept_at m q ≡ true) → is_kept_at m p ≡ true
  kept-from p low k all =
      let n = length m.net.duties in
      let x = there m.net p low in
      let b = both (get_or m.carried.bases (p / n) false) (get_or m.carried.same (p % n) false) k in
      let same : IsSameDuty old m.net x.duty = (over.same_flags (p % n) x.duty x.stands.duty).0 b.1 in
      let up = up-more old m.net x.duty same (λ e mem may.
      let at = stands m.net.duties e mem in
      let q = p / n * n + at.0 in
      let s : StandsAt m.net q (p / n) at.0 e = record { in_bases = x.stands.in_bases; duty = at.1; is = refl } in
      let kept = all q (arc-before m.net q p (p / n) (p % n) at.0 x.duty e x.stands s may) in
      let c = both (get_or m.carried.bases (q / n) false) (get_or m.carried.unreached (q % n) false) kept in
      (over.unreached_flags at.0 e at.1).0 (ap (λ (z : ℕ). get_or m.carried.unreached z false) (sym (rank-of m.net q (p / n) at.0 e s)) ∙ c.1)) in
      and-both (get_or m.carried.bases (p / n) false) (get_or m.carried.unreached (p % n) false) b.0 ((over.unreached_flags (p % n) x.duty x.stands.duty).1 up)

  module _ (kept : AreKept m.net m.carried m.same) (cells : AreMarksOf m.same m.marks) where
    within : (p : ℕ) (mark : Mark) → IsMarked m p mark → p < node_count m.net
    within p mark at = let low = slice_get_within m.marks p mark at in let a = cells.long in let b = kept.long in omega (arith, low, a, b)

    mark-at : (p : ℕ) → p < node_count m.net → IsMarked m p (mark_of (get_or m.same p false))
    mark-at p low = cells.right p (let b = kept.long in omega (arith, low, b))

    same-done : (p : ℕ) → get_or m.same p false ≡ true → IsMarked m p Done
    same-done p e = mark-at p (let low = told-within m.same p e in let b = kept.long in omega (arith, low, b)) ∙ ap (λ (b : Bool). Some (mark_of b)) e

    started-same : (p : ℕ) (mark : Mark) → IsMarked m p mark → (mark ≡ Waiting → ⊥) → get_or m.same p false ≡ true
    started-same p mark at other =
        ⊎_elim {C = get_or m.same p false ≡ true} (λ t. t)
        (λ f. absurd (other (one-item mark Waiting (sym at ∙ (mark-at p (within p mark at) ∙ ap (λ (b : Bool). Some (mark_of b)) f)))))
        (cases_Bool (get_or m.same p false))

    same-kept : (p : ℕ) → p < node_count m.net → get_or m.same p false ≡ true → is_kept_at m p ≡ true
    same-kept p low e = sym (kept.right p low) ∙ e

    before-kept : (p q : ℕ) → p < node_count m.net → get_or m.same p false ≡ true → IsJustBefore m.net q p → get_or m.same q false ≡ true
    before-kept p q low e j = kept.right q (place-below m.net q j.base j.rank j.duty j.stands) ∙ kept-before p q low (same-kept p low e) j

    never-out : (p : ℕ) → IsMarked m p Out → ⊥
    never-out p at =
        let e = started-same p Out at out-waits in
        done-out (one-item Done Out (sym (same-done p e) ∙ at))

    pub marks-begun : AreMarks m
    marks-begun = record {
      long = cells.long ∙ kept.long;
      long_same = kept.long;
      done = same-done;
      started = λ p mark at other q j. same-done q (before-kept p q (within p mark at) (started-same p mark at other) j);
      other = λ p at untouched same. never-out p at;
    }

    pub carried-begun : AreCarried m
    carried-begun = record {
      long = cells.long ∙ kept.long;
      long_same = kept.long;
      kept = λ p low k. (let e : get_or m.same p false ≡ true = kept.right p low ∙ k in (same-done p e, e));
      others = λ p low k. (let e : get_or m.same p false ≡ false = kept.right p low ∙ k in (mark-at p low ∙ ap (λ (b : Bool). Some (mark_of b)) e, e));
    }

    bool-same : (a b : Bool) → (a ≡ true → b ≡ true) → (b ≡ true → a ≡ true) → a ≡ b
    bool-same true b f g = sym (f refl)
    bool-same false true f g = g refl
    bool-same false false f g = refl

    pub flags-begun : (k : ℕ) → done_flag m.marks k ≡ get_or m.same k false
    flags-begun k =
        bool-same (done_flag m.marks k) (get_or m.same k false)
        (λ t. started-same k Done (flag-mark m.marks k t) (λ e. waiting-done (sym e)))
        (λ t. mark-flag m.marks k (same-done k t))

-- a line over flags that are equal one by one
pub line-same : (net : Net) (carried : Carried) (marks : List Mark) (flag next : ℕ → Bool) (line : Line) → ((k : ℕ) → next k ≡ flag k) → IsLine net carried marks flag line → IsLine net carried marks next line
line-same net carried marks flag next line e l = record {
  long = l.long;
  counted = counts-same net flag next line e l.counted;
  long_set = l.long_set;
  chosen = λ k base rank d s. (
    λ t. (let r = (l.chosen k base rank d s).0 t in (r.0, r.1, before-same net flag next k e r.2)),
    λ t. (l.chosen k base rank d s).1 (t.0, t.1, before-same net next flag k (λ q. sym (e q)) t.2),
  );
}

-- as a round begins, no waiting node's work is what it was
pub none-begun : (t u : Timetable) (old : Net) (m : Marks) → IsCarriedOver t u old m.net m.carried → AreCarried m → NoneReusable m
none-begun t u old m over carried p r =
    let low : p < node_count m.net = (let l = slice_get_within m.marks p Waiting r.0 in let a = carried.long in omega (arith, l, a)) in
    let k = kept-from t u old m over p low r.1
    (λ q j.
    let below = place-below m.net q j.base j.rank j.duty j.stands in
    ⊎_elim {C = is_kept_at m q ≡ true} (λ y. y) (λ f. absurd (not-told (get_or m.same q false) (r.2 q j) (carried.others q below f).1)) (cases_Bool (is_kept_at m q))) in
    waiting-done (one-item Waiting Done (sym r.0 ∙ (carried.kept p low k).0))

pub held-begun : (t u : Timetable) (old : Net) (m : Marks) (arrivals : List ℕ) (ready reusable : Line) → IsCarriedOver t u old m.net m.carried → AreKept m.net m.carried m.same → AreMarksOf m.same m.marks → AreArrivalPlaces m.net arrivals
    → ready.any ≡ true → reusable.any ≡ false → IsLine m.net m.carried m.marks (λ place. get_or m.same place false) ready → IsLine m.net m.carried m.marks (λ place. get_or m.same place false) reusable → AreHeld m arrivals ready reusable
held-begun t u old m arrivals ready reusable over kept cells places a b l k = record {
  marks = marks-begun t u old m over kept cells;
  places = places;
  all = a;
  ready_line = line-same m.net m.carried m.marks (λ place. get_or m.same place false) (done_flag m.marks) ready (flags-begun t u old m over kept cells) l;
  untouched = b;
  reusable_line = k;
}
