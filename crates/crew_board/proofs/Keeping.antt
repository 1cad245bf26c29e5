-- What a round keeps, call by call.
use Rattle.std.proofs.Common.{◌≡◌, ◌≤◌, ◌<◌, ◌+◌, ◌-◌, ◌*◌, ◌/◌, ◌%◌, ◌∙◌, ◌∷◌, [], ◌⊎◌, inl, inr, ℕ, suc, Bool, true, false, List, Option, Some, None, length, get_or, slice_set, refl, sym, ap, subst, arith, ⊎_elim}
use Rattle.std.specs.Prelude.{◌↔◌, slice_get}
use Rattle.std.proofs.lemmas.List.{get_or-set_other, get_or-set_same, length-set}
use Rattle.std.proofs.lemmas.Option.{slice_get_within}
use Rattle.crew_board.proofs.After.{marked-after, reuses-net}
use Rattle.crew_board.proofs.Begins.{done-begun, marked-begun}
use Rattle.crew_board.proofs.Existence.{some-open}
use Rattle.std.proofs.Math.Nat.{mul-le-mul_right, suc-mul}
use Rattle.crew_board.proofs.Places.{at-out}
use Rattle.crew_board.proofs.Steps.{kept, opened}
use Rattle.crew_board.proofs.Turned.{Found, arc-in, at-marks, found, job-node-is, shows-own}
use Rattle.crew_board.proofs.Works.{some-work-of}
use Rattle.crew_board.proofs.Untouched.{rank-of}
use Rattle.crew_board.proofs.Written.{get-elsewhere, get-here}
use Rattle.crew_machine.proofs.Cells.{same-place}
use Rattle.crew_board.specs.Machinery.Held.{IsBegun, IsHeld, IsMarkedOver, Marked}
use Rattle.crew_board.specs.Machinery.Turns.{AllSameBefore, IsReadableFrom, StoresAt, with_marks}
use Rattle.crew_job.specs.Grounds.{Ground, IsGround, data_of, nodes_in}
use Rattle.crew_job.specs.Jobs.{IsJobOf, IsPlaced, Job, job_node}
use Rattle.crew_job.specs.Shown.{AreReadable, AreShownBefore, IsAsSealed, IsShown, ShowsFrontOf}
use Rattle.crew_machine.proofs.Cells.{Some-same}
use Rattle.crew_machine.proofs.Reuse.{place-of-member}
use Rattle.crew_board.proofs.Grounded.{plan-nodes}
use Rattle.crew_machine.proofs.Sorted.{rising-front}
use Rattle.crew_machine.proofs.CrewLaws.{crew-laws, timetable-sound}
use Rattle.crew_machine.specs.Crew.{DutyNode, DutyWork, Entries, IsLocalOf, crew}
use Rattle.crew_machine.specs.Worlds.{IsBefore}
use Rattle.crew_net.specs.Nets.{Net}
use Rattle.crew_pairing.specs.Pairings.{may_stand_after}
use Rattle.crew_pairing.specs.declared.duty.Duty.{Duty}
use Rattle.crew_round.specs.Marks as Marks
use Rattle.crew_round.specs.Marks.{AreDoneBefore, AreSameBefore, IsMarked, StandsAt, node_count, with_mark}
use Rattle.crew_round.specs.declared.mark.Mark.{Mark}
use Rattle.crew_round.specs.declared.mark.Mark.TheVariants as MarkedAs
use Rattle.crew_job.specs.crew_fronts.Fronts.{BaseFronts}
use Rattle.crew_job.specs.crew_plan.Plans.{AreFrontsIn}

-- ---- marks after a store

pub reuses-long : (old : Marks.Marks) (places : List ℕ) (new : Marks.Marks) → Marks.Reuses old places new → (length new.marks ≡ length old.marks) × (length new.same ≡ length old.same)
reuses-long old [] new e = (ap (λ (m : Marks.Marks). length m.marks) e, ap (λ (m : Marks.Marks). length m.same) e)
reuses-long old (p ∷ ps) new r =
    let k = reuses-long (Marks.marked old p true) ps new r.1 in
    (k.0 ∙ length-set old.marks p MarkedAs.Done, k.1 ∙ length-set old.same p true)

marks-set : (ms : List Mark) (p q : ℕ) → p < length ms → slice_get ms q ≡ Some MarkedAs.Done → slice_get (slice_set ms p MarkedAs.Done) q ≡ Some MarkedAs.Done
marks-set ms p q low e = elim (same-place p q) as (λ _. slice_get (slice_set ms p MarkedAs.Done) q ≡ Some MarkedAs.Done) [
  | inl same ↦ subst (λ k. slice_get (slice_set ms p MarkedAs.Done) k ≡ Some MarkedAs.Done) same (get-here ms p MarkedAs.Done low)
  | inr other ↦ get-elsewhere ms p q MarkedAs.Done other ∙ e
]

flags-set : (fs : List Bool) (p q : ℕ) → p < length fs → get_or fs q false ≡ true → get_or (slice_set fs p true) q false ≡ true
flags-set fs p q low e = elim (same-place p q) as (λ _. get_or (slice_set fs p true) q false ≡ true) [
  | inl same ↦ subst (λ k. get_or (slice_set fs p true) k false ≡ true) same (get_or-set_same fs p true false low)
  | inr other ↦ get_or-set_other fs p q true false (λ i. other (sym i)) ∙ e
]

-- what was done stays done, and what was the same stays the same
pub reuses-done : (old : Marks.Marks) (places : List ℕ) (new : Marks.Marks) → length old.same ≡ length old.marks → Marks.Reuses old places new → (q : ℕ)
    → (IsMarked old q MarkedAs.Done → IsMarked new q MarkedAs.Done) × (get_or old.same q false ≡ true → get_or new.same q false ≡ true)
reuses-done old [] new long e q = (λ d. ap (λ (m : Marks.Marks). slice_get m.marks q) e ∙ d, λ s. ap (λ (m : Marks.Marks). get_or m.same q false) e ∙ s)
reuses-done old (p ∷ ps) new long r q =
    let low = slice_get_within old.marks p MarkedAs.Waiting r.0.0 in
    let a = length-set old.marks p MarkedAs.Done in
    let b = length-set old.same p true in
    let rest = reuses-done (Marks.marked old p true) ps new (omega (arith, long, a, b)) r.1 q in
    (λ d. rest.0 (marks-set old.marks p q low d), λ s. rest.1 (flags-set old.same p q (omega (arith, low, long)) s))

-- what is done was, or is as the version before has it
pub reuses-told : (old : Marks.Marks) (places : List ℕ) (new : Marks.Marks) → length old.same ≡ length old.marks → Marks.Reuses old places new → (q : ℕ) → IsMarked new q MarkedAs.Done → IsMarked old q MarkedAs.Done ⊎ (get_or new.same q false ≡ true)
reuses-told old [] new long e q d = inl (sym (ap (λ (m : Marks.Marks). slice_get m.marks q) e) ∙ d)
reuses-told old (p ∷ ps) new long r q d =
    let low = slice_get_within old.marks p MarkedAs.Waiting r.0.0 in
    let a = length-set old.marks p MarkedAs.Done in
    let b = length-set old.same p true in
    let more : length (slice_set old.same p true) ≡ length (slice_set old.marks p MarkedAs.Done) = omega (arith, long, a, b) in
    let rest = reuses-told (Marks.marked old p true) ps new more r.1 q d in
    ⊎_elim {C = IsMarked old q MarkedAs.Done ⊎ (get_or new.same q false ≡ true)}
    (λ was.
    elim (same-place p q) as (λ _. IsMarked old q MarkedAs.Done ⊎ (get_or new.same q false ≡ true)) [
      | inl same ↦
          let here : get_or (slice_set old.same p true) q false ≡ true = subst (λ k. get_or (slice_set old.same p true) k false ≡ true) same (get_or-set_same old.same p true false (omega (arith, low, long))) in
          inr ((reuses-done (Marks.marked old p true) ps new more r.1 q).1 here)
      | inr other ↦ inl (sym (get-elsewhere old.marks p q MarkedAs.Done other) ∙ was)
    ])
    (λ s. inr s)
    rest

-- ---- another mark, of a node that isn't done

module _ (r : Marked) (over : IsMarkedOver r) (place : ℕ) (was now : Mark) (at : IsMarked r.marks place was) (undone : was ≡ MarkedAs.Done → ⊥) (still : now ≡ MarkedAs.Done → ⊥) where
  abbrev next : Marks.Marks
  next = with_mark r.marks place now

  within : place < length r.marks.marks
  within = slice_get_within r.marks.marks place was at

  -- the same nodes are done
  done-as : (q : ℕ) → (IsMarked next q MarkedAs.Done → IsMarked r.marks q MarkedAs.Done) × (IsMarked r.marks q MarkedAs.Done → IsMarked next q MarkedAs.Done)
  done-as q = elim (same-place place q) as (λ _. (IsMarked next q MarkedAs.Done → IsMarked r.marks q MarkedAs.Done) × (IsMarked r.marks q MarkedAs.Done → IsMarked next q MarkedAs.Done)) [
    | inl same ↦
        let here : slice_get next.marks q ≡ Some now = subst (λ k. slice_get next.marks k ≡ Some now) same (get-here r.marks.marks place now within) in
        let there : slice_get r.marks.marks q ≡ Some was = subst (λ k. slice_get r.marks.marks k ≡ Some was) same at in
        (λ d. absurd (still (Some-same now MarkedAs.Done (sym here ∙ d))), λ d. absurd (undone (Some-same was MarkedAs.Done (sym there ∙ d))))
    | inr other ↦
        let e = get-elsewhere r.marks.marks place q now other in
        (λ d. sym e ∙ d, λ d. e ∙ d)
  ]

  pub marked-with : IsMarkedOver (with_marks r next)
  marked-with = record {
    ground = over.ground;
    net = over.net;
    long = length-set r.marks.marks place now ∙ over.long;
    long_same = over.long_same;
    old = over.old;
    old_settings = over.old_settings;
    old_net = over.old_net;
    carried = over.carried;
    same = λ q n e. (let told = over.same q n e in (λ s. (let k = told.0 s in ((done-as q).1 k.0, k.1)), λ k. told.1 ((done-as q).0 k.0, k.1)));
  }

  pub held-with : (shown : List (Option BaseFronts)) (swept : List (Option ℕ)) → IsHeld r shown swept → IsHeld (with_marks r next) shown swept
  held-with shown swept h = record {
    marked = marked-with;
    long = h.long ∙ sym (length-set r.marks.marks place now);
    right = λ q n e d. h.right q n e ((done-as q).0 d);
    clear = λ q none. h.clear q (λ d. none ((done-as q).1 d));
    long_swept = h.long_swept;
    stand = h.stand;
  }

-- ---- reading the fronts before a job

module _ (r : Marked) (shown : List (Option BaseFronts)) (swept : List (Option ℕ)) (h : IsHeld r shown swept) where
  pub shown-before : (place : ℕ) → AreDoneBefore r.marks place → AreShownBefore r.ground place shown
  shown-before place all n p k e f a = h.right k p (at-marks r h.marked k p f) (all k (arc-in r h.marked k place p n f e a))

  pub swept-there : (base place : ℕ) (b : BaseFronts) → slice_get swept base ≡ Some (Some place) → get_or shown place None ≡ Some b → AreFrontsIn r.ground.plan base b
  swept-there base place b e f =
      let k = h.stand base place e in
      subst (AreFrontsIn r.ground.plan base) (Some-same k.0 b (sym k.1 ∙ f)) k.2

module _ (r : Marked) (over : IsMarkedOver r) (place : ℕ) (low : place < length r.marks.marks) where
  low-here : place < node_count r.ground.plan.net
  low-here =
      let own : node_count r.marks.net ≡ node_count r.ground.plan.net = ap node_count over.net in
      let long = over.long in
      omega (arith, low, own, long)

  -- the node at a place
  pub found-here : Found r.ground over.ground place
  found-here = found r.ground over.ground place low-here

  sealed-before : AreSameBefore r.marks place → (n p : DutyNode) → slice_get (nodes_in r.ground.plan.net) place ≡ Some n → IsBefore (crew r.ground.settings) (data_of r.ground) p n → IsAsSealed r.ground p
  sealed-before all n p e b =
      let g = r.ground in
      let at = place-of-member (nodes_in g.plan.net) p (((plan-nodes g.settings (data_of g) g.plan over.ground.planned).exact p).1 b.0) in
      let same = all at.0 (arc-in r over at.0 place p n at.1 e b.1) in
      ((over.same at.0 p (at-marks r over at.0 p at.1)).0 same).1

  pub readable : (sweep : Option BaseFronts) → IsReadableFrom r place (place / length r.ground.plan.net.duties) sweep → AreReadable r.ground (place / length r.ground.plan.net.duties) (place % length r.ground.plan.net.duties) sweep
  readable None all = λ n p e b.
      (
      let f = found r.ground over.ground place low-here in
      let same : f.node ≡ n = Some-same f.node n (sym f.by_parts ∙ e) in
      sealed-before all n p (f.at ∙ ap (λ (z : DutyNode). Some z) same) b)
  readable (Some b) swept = swept

-- ---- the nodes just before a place

module _ (r : Marked) (over : IsMarkedOver r) (place : ℕ) (low : place < length r.marks.marks) where
  pub record Row : Type 0 where
    pub base : ℕ
    pub duty : Duty
    pub rank_is : place % length r.ground.plan.net.duties < length r.ground.plan.net.duties
    pub there : slice_get r.ground.plan.net.duties (place % length r.ground.plan.net.duties) ≡ Some duty
    pub stands : StandsAt r.ground.plan.net place base (place % length r.ground.plan.net.duties) duty
    pub fits : place - place % length r.ground.plan.net.duties + length r.ground.plan.net.duties ≤ length r.marks.marks

  -- where the node at a place stands in its base
  pub row-here : Row
  row-here =
      let net = r.ground.plan.net in
      let count = length net.duties in
      let f = found-here r over place low in
      let at = at-out net place f.node f.at in
      let rank : place % count ≡ at.1 = rank-of net place at.0 at.1 f.node.duty at.2 in
      let base = at.2.in_bases in
      let is = at.2.is in
      let all = mul-le-mul_right {m = suc at.0} {n = length net.bases} count (omega (arith, base)) in
      let one = suc-mul at.0 count in
      let own : node_count r.marks.net ≡ node_count net = ap node_count over.net in
      let long = over.long in
      let within = slice_get_within net.duties at.1 f.node.duty at.2.duty in
      record {
        base = at.0;
        duty = f.node.duty;
        rank_is = f.rank;
        there = ap (slice_get net.duties) rank ∙ at.2.duty;
        stands = record { in_bases = base; duty = ap (slice_get net.duties) rank ∙ at.2.duty; is = is ∙ ap (λ k. at.0 * count + k) (sym rank) };
        fits = omega (arith, rank, is, all, one, own, long, within);
      }

  pub same-before : (w : Row) → AllSameBefore r.marks.same r.ground.plan.net w.duty (place - place % length r.ground.plan.net.duties) ↔ AreSameBefore r.marks place
  same-before w = (
    λ all p j.
        (
        let net = r.ground.plan.net in
        let count = length net.duties in
        let k : Marks.IsJustBefore net p place = subst (λ (z : Net). Marks.IsJustBefore z p place) over.net j in
        let rank : place % count ≡ k.next_rank = rank-of net place k.base k.next_rank k.next_duty k.next_stands in
        let duty : w.duty ≡ k.next_duty = Some-same w.duty k.next_duty (sym w.there ∙ (ap (slice_get net.duties) rank ∙ k.next_stands.duty)) in
        let is = k.next_stands.is in
        let from = k.stands.is in
        let at : (place - place % count) + k.rank ≡ p = omega (arith, rank, is, from) in
        let told = all k.rank k.duty k.stands.duty (ap (λ (d : Duty). may_stand_after net.settings k.duty d) duty ∙ k.arc) in
        sym (ap (λ i. get_or r.marks.same i false) at) ∙ told),
    λ all rank e there arc.
        (
        let net = r.ground.plan.net in
        let count = length net.duties in
        let first = place - place % count in
        let is = w.stands.is in
        let at : first + rank ≡ w.base * count + rank = omega (arith, is) in
        let j : Marks.IsJustBefore net (first + rank) place = record {
          base = w.base;
          rank = rank;
          next_rank = place % count;
          duty = e;
          next_duty = w.duty;
          stands = record { in_bases = w.stands.in_bases; duty = there; is = at };
          next_stands = w.stands;
          arc = arc;
        } in
        all (first + rank) (subst (λ (z : Net). Marks.IsJustBefore z (first + rank) place) (sym over.net) j)),
  )

-- ---- a store

module _ (r : Marked) (over : IsMarkedOver r) (job : Job) (ground : IsGround job.ground) (placed : IsPlaced job) (new : Marked) (st : StoresAt r job new) where
  abbrev g : Ground
  g = r.ground

  abbrev place : ℕ
  place = st.place

  abbrev first : Marks.Marks
  first = Marks.marked r.marks place st.same

  low : place < length r.marks.marks
  low = st.undone.0

  long-here : length r.marks.same ≡ length r.marks.marks
  long-here = over.long_same ∙ sym over.long

  low-same : place < length r.marks.same
  low-same = let l = low in let k = long-here in omega (arith, l, k)

  first-long : length first.same ≡ length first.marks
  first-long =
      let a = length-set r.marks.marks place MarkedAs.Done in
      let b = length-set r.marks.same place st.same in
      let k = long-here in
      omega (arith, a, b, k)

  longs : (length st.marks.marks ≡ length r.marks.marks) × (length st.marks.same ≡ length r.marks.same)
  longs =
      let k = reuses-long first st.stores.reused st.marks st.stores.reuses in
      (k.0 ∙ length-set r.marks.marks place MarkedAs.Done, k.1 ∙ length-set r.marks.same place st.same)

  nets : (st.marks.net ≡ r.marks.net) × (st.marks.carried ≡ r.marks.carried)
  nets = reuses-net first st.stores.reused st.marks st.stores.reuses

  own-at : (n : DutyNode) × (slice_get (nodes_in g.plan.net) place ≡ Some n)
  own-at =
      let own-count : node_count r.marks.net ≡ node_count g.plan.net = ap node_count over.net in
      let long = over.long in
      let l = low in
      let f = found g over.ground place (omega (arith, l, own-count, long)) in
      (f.node, f.at)

  -- the marks are those of the ground
  pub stored-over : IsMarkedOver (with_marks r st.marks)
  stored-over =
      let b = some-open r over in
      let o = opened r over b.0 b.1 in
      let w = some-work-of job ground placed in
      let f = local-front w.0 w.1 in
      let k = kept r over b.0 o job w.0 w.1 f.0 f.1 new st in
      marked-after r over b.0 o st.marks k.end k.over_end nets.0 nets.1 marks-long same-long
    where
      marks-long : length st.marks.marks ≡ node_count st.marks.net
      marks-long = longs.0 ∙ (over.long ∙ ap node_count (sym nets.0))

      same-long : length st.marks.same ≡ node_count st.marks.net
      same-long = longs.1 ∙ (over.long_same ∙ ap node_count (sym nets.0))

      local-front : (w : DutyWork) → IsJobOf job w → (f : Entries) × IsLocalOf w f
      local-front w is =
          let s = job.ground.settings in
          let t = data_of job.ground in
          let node = job-node-is job ground placed w.node is.node in
          let f = rising-front s t ground.checked (timetable-sound job.ground.entries) w.node node in
          (f.0, (crew-laws s ground.checked).local_out job.ground.entries w f.0 node is.own f.1)

  done-here : IsMarked st.marks place MarkedAs.Done
  done-here = (reuses-done first st.stores.reused st.marks first-long st.stores.reuses place).0 (get-here r.marks.marks place MarkedAs.Done low)

  module _ (shown : List (Option BaseFronts)) (swept : List (Option ℕ)) (h : IsHeld r shown swept) (b : BaseFronts) (shows : (n : DutyNode) → job_node job ≡ Some n → ShowsFrontOf job.ground.settings (data_of job.ground) n b) where
    abbrev shown-now : List (Option BaseFronts)
    shown-now = slice_set shown place (Some b)

    low-shown : place < length shown
    low-shown = let l = low in let k = h.long in omega (arith, l, k)

    right-now : (q : ℕ) (n : DutyNode) → slice_get (nodes_in st.marks.net) q ≡ Some n → IsMarked st.marks q MarkedAs.Done → IsShown g n (get_or shown-now q None)
    right-now q n e d = elim (same-place place q) as (λ _. IsShown g n (get_or shown-now q None)) [
      | inl same ↦
          let here : get_or shown-now q None ≡ Some b = subst (λ k. get_or shown-now k None ≡ Some b) same (get_or-set_same shown place (Some b) None low-shown) in
          let at : slice_get (nodes_in g.plan.net) place ≡ Some n = subst (λ k. slice_get (nodes_in g.plan.net) k ≡ Some n) (sym same) (sym (ap (λ (z : Net). slice_get (nodes_in z) q) (nets.0 ∙ h.marked.net)) ∙ e) in
          subst (IsShown g n) (sym here) (shows-own r h.marked job ground placed place b st.own shows n at)
      | inr other ↦
          let here : get_or shown-now q None ≡ get_or shown q None = get_or-set_other shown place q (Some b) None (λ i. other (sym i)) in
          let told = reuses-told first st.stores.reused st.marks first-long st.stores.reuses q d in
          let at : slice_get (nodes_in r.marks.net) q ≡ Some n = sym (ap (λ (z : Net). slice_get (nodes_in z) q) nets.0) ∙ e in
          subst (IsShown g n) (sym here) (before q n at e other told d)
    ]
      where
        before : (q : ℕ) (n : DutyNode) → slice_get (nodes_in r.marks.net) q ≡ Some n → slice_get (nodes_in st.marks.net) q ≡ Some n → (place ≡ q → ⊥) → IsMarked first q MarkedAs.Done ⊎ (get_or st.marks.same q false ≡ true) → IsMarked st.marks q MarkedAs.Done → IsShown g n (get_or shown q None)
        before q n at e other (inl was) d = h.right q n at (sym (get-elsewhere r.marks.marks place q MarkedAs.Done other) ∙ was)
        before q n at e other (inr same) d = reused q n at e other same (done-or-not (slice_get r.marks.marks q))
          where
            done-or-not : (o : Option Mark) → (o ≡ Some MarkedAs.Done) ⊎ (o ≡ Some MarkedAs.Done → ⊥)
            done-or-not None = inr (λ e. (let z : ⊥ = (cc) in z))
            done-or-not (Some MarkedAs.Waiting) = inr (λ e. (let z : ⊥ = (cc) in z))
            done-or-not (Some MarkedAs.Out) = inr (λ e. (let z : ⊥ = (cc) in z))
            done-or-not (Some MarkedAs.Done) = inl refl

            reused : (q : ℕ) (n : DutyNode) → slice_get (nodes_in r.marks.net) q ≡ Some n → slice_get (nodes_in st.marks.net) q ≡ Some n → (place ≡ q → ⊥) → get_or st.marks.same q false ≡ true → IsMarked r.marks q MarkedAs.Done ⊎ (IsMarked r.marks q MarkedAs.Done → ⊥) → IsShown g n (get_or shown q None)
            reused q n at e other same (inl was) = h.right q n at was
            reused q n at e other same (inr none) = subst (IsShown g n) (sym (h.clear q none)) ((stored-over.same q n e).0 same).1

    clear-now : (q : ℕ) → (IsMarked st.marks q MarkedAs.Done → ⊥) → get_or shown-now q None ≡ None
    clear-now q none = elim (same-place place q) as (λ _. get_or shown-now q None ≡ None) [
      | inl same ↦ absurd (none (subst (λ k. IsMarked st.marks k MarkedAs.Done) same done-here))
      | inr other ↦
          get_or-set_other shown place q (Some b) None (λ i. other (sym i))
          ∙ h.clear q (λ d. none ((reuses-done first st.stores.reused st.marks first-long st.stores.reuses q).0 (get-elsewhere r.marks.marks place q MarkedAs.Done other ∙ d)))
    ]

    pub held-stored : (swept-now : List (Option ℕ)) → length swept-now ≡ length swept → ((k p : ℕ) → slice_get swept-now k ≡ Some (Some p) → (slice_get swept k ≡ Some (Some p)) ⊎ ((p ≡ place) × AreFrontsIn g.plan k b)) → IsHeld (with_marks r st.marks) shown-now swept-now
    held-stored swept-now long noted = record {
      marked = stored-over;
      long = length-set shown place (Some b) ∙ (h.long ∙ sym longs.0);
      right = right-now;
      clear = clear-now;
      long_swept = long ∙ h.long_swept;
      stand = λ k p e. ⊎_elim {C = (x : BaseFronts) × (get_or shown-now p None ≡ Some x) × AreFrontsIn g.plan k x}
          (λ was.
          (
          let x = h.stand k p was in
          let other : place ≡ p → ⊥ = λ same.
          (
          let none = h.clear place st.undone.1 in
          let some : get_or shown place None ≡ Some x.0 = ap (λ i. get_or shown i None) same ∙ x.1 in
          let clash = sym none ∙ some in
          let z : ⊥ = (cc) in z) in
          (x.0, get_or-set_other shown place p (Some b) None (λ i. other (sym i)) ∙ x.1, x.2)))
          (λ here. (b, ap (λ i. get_or shown-now i None) here.0 ∙ get_or-set_same shown place (Some b) None low-shown, here.1))
          (noted k p e);
    }

-- ---- as a round begins

pub held-begun : (r : Marked) → IsBegun r → (shown : List (Option BaseFronts)) (swept : List (Option ℕ)) → length shown ≡ length r.marks.marks → ((k : ℕ) → get_or shown k None ≡ None) → length swept ≡ length r.ground.plan.prices → ((k p : ℕ) → slice_get swept k ≡ Some (Some p) → ⊥)
    → IsHeld r shown swept
held-begun r begun shown swept long none long-swept unswept =
    let over = marked-begun r begun in
    record {
      marked = over;
      long = long;
      right = λ q n e d. subst (IsShown r.ground n) (sym (none q)) (done-begun r begun q n e d);
      clear = λ q k. none q;
      long_swept = long-swept;
      stand = λ k p e. absurd (unswept k p e);
    }
