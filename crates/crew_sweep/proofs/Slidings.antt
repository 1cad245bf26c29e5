-- Slides where the row changes elsewhere, over walks that have grown, and which places stay as they are.
use Rattle.std.proofs.Common.{◌≡◌, ◌∙◌, ◌<◌, ◌≤◌, ◌+◌, ◌-◌, ℕ, zero, suc, Bool, false, List, [], ◌∷◌, ◌++◌, length, set, get_or, Some, inl, inr, refl, ap, subst, ⊎_elim, arith, ◌⊎◌}
use Rattle.std.specs.Prelude.{slice_get}
use Rattle.crew_net.specs.Nets.{Net}
use Rattle.crew_net.specs.declared.window.Window.{Window}
use Rattle.crew_net.proofs.Numbers.{get-within}
use Rattle.crew_net.proofs.Slices.{item-in}
use Rattle.crew_pairing.specs.declared.vector.PairingVector.{PairingVector}
use Rattle.crew_pool.specs.Counted.{AreCounted}
use Rattle.crew_pool.specs.declared.label_walk.LabelWalk.{LabelWalk}
use Rattle.crew_resource.specs.Members.{Member}
use Rattle.crew_resource.proofs.Members.{Member-append}
use Rattle.crew_carry.specs.crew_step.Walks.{HasGrown}
use Rattle.crew_sweep.specs.Machinery.Parts.{AreSuffixes, IsPart}
use Rattle.crew_sweep.specs.Machinery.Passing.{AreMade, HaveStayed, IsMade}
use Rattle.crew_sweep.specs.Machinery.Sliding.{Covers, IsSliding, Stacks}
use Rattle.crew_sweep.specs.Machinery.Slides.{AreIdle, AreSliding, AreUnderWay, CoverAny}
use Rattle.crew_sweep.specs.declared.slide.Slide.{Slide}
use Rattle.crew_sweep.specs.declared.slides.Slides.{Slides}
use Rattle.crew_sweep.proofs.Parts.{part-framed, part-grown}

abbrev Labels : Type 0
Labels = List (PairingVector × LabelWalk)

reaches : (i count middle p : ℕ) → i < count → middle - i ≤ p → middle < p + count
reaches i count middle p h k = omega (arith, h, k)

-- where what it has merged stays as it was
pub sliding-framed : (walks : List (List ℕ)) (held new : List Labels) (s : Slide) → ((p : ℕ) → Covers s p → get_or new p [] ≡ get_or held p []) → IsSliding walks held s → IsSliding walks new s
sliding-framed walks held new s same sl = record {
  stacked = record {
    ordered = sl.stacked.ordered;
    before = record {
      reach = sl.stacked.before.reach;
      parts = λ i labels at. part-framed walks held new (s.middle - i) s.middle labels
          (λ p h k. same p (inl (inl (reaches i (length s.before.items) s.middle p (get-within s.before.items i labels at) h, k))))
          (sl.stacked.before.parts i labels at);
    };
    after = part-framed walks held new s.middle s.end s.after (λ p h k. same p (inl (inr (h, k)))) sl.stacked.after;
  };
  shown = part-framed walks held new s.window.from s.window.end s.pool (λ p h k. same p (inr (h, k))) sl.shown;
}

pub sliding-grown : (before after : List (List ℕ)) → HasGrown before after → (held : List Labels) → ((labels : Labels) → Member held labels → AreCounted (λ (v : PairingVector). v.duties) before false labels)
    → (s : Slide) → IsSliding before held s → IsSliding after held s
sliding-grown before after grown held pending s sl = record {
  stacked = record {
    ordered = sl.stacked.ordered;
    before = record {
      reach = sl.stacked.before.reach;
      parts = λ i labels at. part-grown before after grown held pending (s.middle - i) s.middle labels (sl.stacked.before.parts i labels at);
    };
    after = part-grown before after grown held pending s.middle s.end s.after sl.stacked.after;
  };
  shown = part-grown before after grown held pending s.window.from s.window.end s.pool sl.shown;
}

-- the pool that the stacks have from a place up to the middle
pub part-first : (walks : List (List ℕ)) (held : List Labels) (middle from : ℕ) (before : List Labels) (item : Labels) → AreSuffixes walks held middle before → from ≤ middle → middle - from < length before
    → item ≡ get_or before (middle - from) item → IsPart walks held from middle item
part-first walks held middle from before item suffixes first reach is =
    let same : middle - (middle - from) ≡ from = omega (arith, first) in
    subst (λ k. IsPart walks held k middle item) same (suffixes.parts (middle - from) item (item-in before before (middle - from) item reach refl is))

-- a slide that goes on covers no more than its window besides
pub covers-more : (s old : Slide) (middle count end from to : ℕ) → middle ≡ s.middle → count ≡ length s.before.items → end ≡ to → s.middle ≤ s.end → from ≤ s.middle
    → ((p : ℕ) → Stacks s p → Stacks old p ⊎ ((from ≤ p) × (p < to))) → (p : ℕ)
    → (((middle < p + count) × (p < middle)) ⊎ ((middle ≤ p) × (p < end))) ⊎ ((from ≤ p) × (p < to)) → Covers old p ⊎ ((from ≤ p) × (p < to))
covers-more s old middle count end from to same-middle same-count same-end ordered first covers p =
    ⊎_elim (⊎_elim
    (λ h. let a = h.0 in let b = h.1 in known (inl (omega (arith, a, same-middle, same-count), omega (arith, b, same-middle))))
    (λ h. let a = h.0 in let b = h.1 in ⊎_elim {C = Goal} (λ l. known (inr (omega (arith, a, same-middle), l))) (λ l. inr (omega (arith, l, ordered, first), omega (arith, b, same-end))) (either p s.end)))
    (λ h. inr h)
  where
    Goal : Type 0
    Goal = Covers old p ⊎ ((from ≤ p) × (p < to))

    either : (a b : ℕ) → (a < b) ⊎ (b ≤ a)
    either a b = grind arith

    known : Stacks s p → Goal
    known c = ⊎_elim {C = Goal} (λ k. inl (inl k)) (λ k. inr k) (covers p c)

-- lists of slides
pub set-got : {A : Type 0} (xs : List A) (i : ℕ) (y z : A) → slice_get (set xs i y) i ≡ Some z → y ≡ z
set-got [] i y z h = absurd (let q : ⊥ = (cc) in q)
set-got (x ∷ xs) zero y z h = (cc)
set-got (x ∷ xs) (suc i) y z h = set-got xs i y z h

-- one slide more, and one number more
pub numbers-more : (airports : List ℕ) (number : ℕ) (slides : List Slide) → ((n : ℕ) → Member airports n → n < length slides) → number < length slides → (n : ℕ) → Member (airports ++ number ∷ []) n → n < length slides
numbers-more airports number slides all one n m = ⊎_elim {C = n < length slides} (all n) (λ k. ⊎_elim {C = n < length slides} (λ e. subst (λ x. x < length slides) e one) (λ b. absurd b) k) (Member-append airports (number ∷ []) n m)

pub idle-more : (slides : List Slide) (slide : Slide) → AreIdle slides → ((walks : List (List ℕ)) (held : List Labels) → IsSliding walks held slide) → ((place : ℕ) → Covers slide place → ⊥) → AreIdle (slides ++ slide ∷ [])
idle-more slides slide idle sliding nowhere s m = ⊎_elim {C = Idle s} (idle s) (λ k. ⊎_elim {C = Idle s} (λ e. subst Idle e (sliding, nowhere)) (λ b. absurd b) k) (Member-append slides (slide ∷ []) s m)
  where
    Idle : Slide → Type 0
    Idle s = ((walks : List (List ℕ)) (held : List Labels) → IsSliding walks held s) × ((place : ℕ) → Covers s place → ⊥)

pub stayed-itself : (made : List Bool) (held : List Labels) → HaveStayed made held made held
stayed-itself made held p m = (m, refl)

pub stayed-through : (made : List Bool) (held : List Labels) (made' : List Bool) (held' : List Labels) (made'' : List Bool) (held'' : List Labels) → HaveStayed made held made' held' → HaveStayed made' held' made'' held'' → HaveStayed made held made'' held''
stayed-through made held made' held' made'' held'' first then' p m =
    let k = first p m in
    let l = then' p k.0 in
    (l.0, l.1 ∙ k.1)

-- what the slides have merged is made, and stays
pub sliding-stayed : (walks : List (List ℕ)) (made : List Bool) (held : List Labels) (made' : List Bool) (held' : List Labels) → HaveStayed made held made' held' → (s : Slides) → ((p : ℕ) → CoverAny s p → IsMade made p)
    → AreSliding walks held s → AreSliding walks held' s
sliding-stayed walks made held made' held' stayed s covered sliding = record {
  numbers = sliding.numbers;
  each = λ slide m. sliding-framed walks held held' slide (λ p c. (stayed p (covered p (slide, m, c))).1) (sliding.each slide m);
}

-- one departure more
pub under-way-more : (net : Net) (before after : List (List ℕ)) → HasGrown before after → (made : List Bool) (held : List Labels) (made' : List Bool) (held' : List Labels) → HaveStayed made held made' held' → (old now : Slides)
    → ((labels : Labels) → Member held' labels → AreCounted (λ (v : PairingVector). v.duties) before false labels)
    → AreUnderWay net before made held old → AreSliding before held' now → now.airports ≡ old.airports → (w : Window) → AreMade made' w
    → ((p : ℕ) → CoverAny now p → CoverAny old p ⊎ ((w.from ≤ p) × (p < w.end))) → AreUnderWay net after made' held' now
under-way-more net before after grown made held made' held' stayed old now pending under sliding airports w are-made covers = record {
  long = ap (λ a. length a.items) airports ∙ under.long;
  sliding = record {
    numbers = sliding.numbers;
    each = λ slide m. sliding-grown before after grown held' pending slide (sliding.each slide m);
  };
  covered = λ p c. ⊎_elim {C = IsMade made' p} (λ k. (stayed p (under.covered p k)).0) (λ k. are-made p k.0 k.1) (covers p c);
}

-- over walks that have grown
pub under-way-grown : (net : Net) (before after : List (List ℕ)) → HasGrown before after → (made : List Bool) (held : List Labels) → ((labels : Labels) → Member held labels → AreCounted (λ (v : PairingVector). v.duties) before false labels)
    → (s : Slides) → AreUnderWay net before made held s → AreUnderWay net after made held s
under-way-grown net before after grown made held pending s under = record {
  long = under.long;
  sliding = record {
    numbers = under.sliding.numbers;
    each = λ slide m. sliding-grown before after grown held pending slide (under.sliding.each slide m);
  };
  covered = under.covered;
}
