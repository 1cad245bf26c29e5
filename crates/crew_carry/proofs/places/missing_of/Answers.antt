use Rattle.std.proofs.Common.{◌≡◌, ◌<◌, ◌+◌, ◌++◌, ◌∷◌, ◌∙◌, [], ℕ, List, Bool, Vec, Global, true, false, ap, arith, get_or, length, set, subst, sym}
use Rattle.crew_carry.specs.Machinery.Places.{HaveTwins}
use Rattle.crew_carry.proofs.Standing.{AreTold, told-fine, told-lacks}
use Rattle.crew_carry.proofs.places.missing_of.Goals as goal
use Rattle.crew_carry.proofs.places.missing_of.Goals.{then-lacks_twin+in_ok-push, else-lacks_twin}

pub loop-walk-preserved : goal.loop-walk-preserved
loop-walk-preserved c =
    let T = c.args.twins.now in
    let from = c.args.from.now in
    let walk = c.loop-walk.walk in
    let lacks = c.loop-walk.lacks.items in
    let missing = c.loop-walk.missing.items in
    let inv : AreTold T from walk lacks missing = c.loop-walk.invariant in
    let number : c.in-Ok.number ≡ walk = omega (arith, c.in-Ok.ensures) in
    elim c.if-lacks_twin.branch [
      | then-lacks_twin+in_ok-push w ↦
          (let within : walk < length from = omega (arith, c.loop-walk-test.true, c.count-walk-end.ensures) in
          let told = told-lacks T from walk lacks missing within inv in
          let nows : set lacks walk true ≡ c.if-lacks_twin.lacks.items = sym (ap (λ (v : Vec Bool Global). v.items) w.lacks-is) in
          let more : missing ++ walk ∷ [] ≡ c.if-lacks_twin.missing.items = sym (ap (λ (v : Vec ℕ Global). v.items) w.missing-is ∙ (w.in_ok-push.ensures.items ∙ ap (λ (n : ℕ). missing ++ n ∷ []) number)) in
          subst (λ (ls : List Bool). AreTold T from (walk + 1) ls c.if-lacks_twin.missing.items) nows (subst (λ (ms : List ℕ). AreTold T from (walk + 1) (set lacks walk true) ms) more told))
      | else-lacks_twin w ↦
          (let value = c.deref.ensures.value in
          let fine = λ (before : ℕ) (h : before < c.in-Ok.number) (e : get_or c.deref.result.now before false ≡ false). inv.4 before (omega (arith, h, number)) (ap (λ (ls : List Bool). get_or ls before false) (sym value) ∙ e) in
          let have : HaveTwins T from walk = subst (HaveTwins T from) number (c.lacks_twin.ensures w.if-lacks_twin.false fine) in
          let told = told-fine T from walk lacks missing inv have in
          subst (λ (ls : List Bool). AreTold T from (walk + 1) ls c.if-lacks_twin.missing.items) (sym (ap (λ (v : Vec Bool Global). v.items) w.lacks-is)) (subst (λ (ms : List ℕ). AreTold T from (walk + 1) lacks ms) (sym (ap (λ (v : Vec ℕ Global). v.items) w.missing-is)) told))
    ]
