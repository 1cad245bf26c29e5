use Rattle.std.proofs.Common.{◌≡◌, ◌∙◌, ◌<◌, ◌≤◌, ◌-◌, ◌+◌, ◌++◌, ◌∷◌, ℕ, List, [], length, sym, ap, subst, arith, length-append, inr, ⊎_elim}
use Rattle.crew_resource.specs.Members.{Member}
use Rattle.crew_sweep.specs.Machinery.Slides.{AreIdle}
use Rattle.crew_sweep.specs.declared.slide.Slide.{Slide}
use Rattle.crew_sweep.proofs.Slidings.{idle-more, numbers-more}
use Rattle.crew_sweep.proofs.slides.Slides.new.Goals as goal
use Rattle.crew_sweep.proofs.slides.Slides.new.Goals.{then-is_first+in_ok-push, else-is_first}

pub loop-place-preserved : goal.loop-place-preserved
loop-place-preserved c =
    let before = c.loop-place.slides.items in
    let now = c.if-is_first.slides.items in
    let inv = c.loop-place.invariant in
    let airports = c.loop-place.airports.items in
    let grown : (1 ≤ length now) × (length before ≤ length now) × AreIdle now =
    elim c.if-is_first.branch [
      | then-is_first+in_ok-push w ↦
          let same : now ≡ before ++ w.new.result ∷ [] = ap (λ v. v.items) w.slides-is ∙ w.in_ok-push.ensures.items in
          let long : length now ≡ length before + 1 = ap (λ (ss : List Slide). length ss) same ∙ length-append before (w.new.result ∷ []) in
          (omega (arith, long), omega (arith, long), subst AreIdle (sym same) (idle-more before w.new.result inv.3 w.new.ensures.sliding w.new.ensures.nowhere))
      | else-is_first w ↦
          let same : now ≡ before = ap (λ v. v.items) w.slides-is in
          let some : 1 ≤ length before = ⊎_elim {C = 1 ≤ length before} (λ z. absurd (let t = c.is_first.ensures z in let f = w.if-is_first.false in let q : ⊥ = (cc) in q)) (λ h. h) inv.1 in
          (subst (λ (ss : List Slide). 1 ≤ length ss) (sym same) some, subst (λ (ss : List Slide). length before ≤ length ss) (sym same) (omega arith), subst AreIdle (sym same) inv.3)
    ] in
    let pushed : c.push-in-loop-place.new.self.items ≡ airports ++ (c.len.result - 1) ∷ [] = c.in_ok-push-2.ensures.items in
    let longer = grown.1 in
    let some = grown.0 in
    let one : c.len.result - 1 < length now = (let e = c.len.ensures in omega (arith, e, some)) in (
      ap (λ (ns : List ℕ). length ns) pushed ∙ (length-append airports ((c.len.result - 1) ∷ []) ∙ ap (λ k. k + 1) inv.0),
      inr some,
      λ n m. numbers-more airports (c.len.result - 1) now (λ k q. let l = inv.2 k q in omega (arith, l, longer)) one n (subst (λ (ns : List ℕ). Member ns n) pushed m),
      grown.2,
    )

pub returns-clause-sliding : goal.returns-clause-sliding
returns-clause-sliding c walks held = record { numbers = c.loop-place.invariant.2; each = λ slide m. (c.loop-place.invariant.3 slide m).0 walks held }

pub returns-clause-nowhere : goal.returns-clause-nowhere
returns-clause-nowhere c place covers = (c.loop-place.invariant.3 covers.0 covers.1).1 place covers.2
