use Rattle.std.proofs.Common.{◌≤◌, ◌∙◌, ap, arith, length, refl, subst, sym, take, ℕ, Vec, Global}
use Rattle.std.specs.Prelude.{flat_map}
use Rattle.crew_net.specs.Machinery.Runs.{IsRunOf, run_keys}
use Rattle.crew_net.specs.declared.runs.Run.{Run}
use Rattle.crew_net.proofs.Gathered.{run-more}
use Rattle.crew_resource.specs.Members.{Each}
use Rattle.crew_net.proofs.runs.runs_of.Goals.{then-not-goes_on+in_ok-push, else-not-goes_on}
use Rattle.crew_net.proofs.runs.runs_of.Goals as goal

pub loop-place-preserved : goal.loop-place-preserved
loop-place-preserved c =
    let keys = c.args.keys.now in
    let from = c.loop-place.from in
    let place = c.loop-place.place in
    let within : place ≤ length keys = let h = c.loop-place-test.true in let e = c.loop-place.auto.place-end in omega (arith, h, e) in
    let before = c.loop-place.invariant.3 in
    elim c.if-not-goes_on.branch [
      | then-not-goes_on+in_ok-push w ↦ (
          let runs = ap (λ (v : Vec Run Global). v.items) w.runs-is ∙ w.in_ok-push.ensures.items in
          let more = run-more keys c.loop-place.runs.items _ c.if-not-goes_on.runs.items from place runs refl refl before within c.loop-place.invariant.0 c.loop-place.invariant.1 in
          (more.0 ∙ ap (λ (n : ℕ). take n keys) (sym w.from-is), more.1, (let e = w.from-is in omega (arith, e, within)), (let e = w.from-is in omega (arith, e))))
      | else-not-goes_on w ↦ (
          let runs = ap (λ (v : Vec Run Global). v.items) w.runs-is in (
            ap (flat_map (run_keys keys)) runs ∙ (c.loop-place.invariant.0 ∙ ap (λ (n : ℕ). take n keys) (sym w.from-is)),
            subst (Each (IsRunOf (length keys))) (sym runs) c.loop-place.invariant.1,
            (let e = w.from-is in let h = c.loop-place.invariant.2 in omega (arith, e, h)),
            (let e = w.from-is in omega (arith, e, before)),
          ))
    ]
