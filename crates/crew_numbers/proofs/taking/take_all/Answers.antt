use Rattle.std.proofs.Common.{◌≡◌, ◌∙◌, ◌+◌, ◌++◌, ◌∷◌, [], ℕ, None, Some, List, Option, ap, arith, length, subst, sym}
use Rattle.std.proofs.lemmas.Option.{slice_get-get_or}
use Rattle.slab.specs.Slab.{Slab}
use Rattle.crew_numbers.specs.Machinery.Taken.{AreTaken}
use Rattle.crew_numbers.proofs.Takes.{taken-keep, taken-none, taken-take}
use Rattle.crew_numbers.proofs.taking.take_all.Goals.{in-Some, in-None+in_ok-number-in-None}
use Rattle.crew_numbers.proofs.taking.take_all.Goals as goal

pub loop-rank-init : goal.loop-rank-init
loop-rank-init c =
    let kept = c.args.kept.now in
    subst (λ (l : List ℕ). AreTaken kept c.args.keys.now 0 l c.args.keys.now) (sym c.in_ok-numbers.ensures.items) (taken-none kept c.args.keys.now)

pub loop-rank-preserved : goal.loop-rank-preserved
loop-rank-preserved c =
    let kept = c.args.kept.now in
    let old = c.args.keys.now in
    let i = c.loop-rank.rank in
    let numbers = c.loop-rank.numbers.items in
    let keys = c.loop-rank.keys in
    let inv = c.loop-rank.invariant in
    let read = slice_get-get_or kept i None c.loop-rank-test.true in
    subst (λ (l : List ℕ). AreTaken kept old (i + 1) l c.match-kept-rank.keys) (sym c.in_ok-push.ensures.items)
    (elim c.match-kept-rank.branch [
      | in-Some w ↦ (
          let own = read ∙ ap (λ (o : Option ℕ). Some o) w.in-Some.is in
          subst (λ (n : ℕ). AreTaken kept old (i + 1) (numbers ++ n ∷ []) c.match-kept-rank.keys) (sym w.number-is)
          (subst (λ (s : Slab Unit). AreTaken kept old (i + 1) (numbers ++ w.in-Some.number ∷ []) s) (sym w.keys-is) (taken-keep kept old i numbers keys w.in-Some.number c.requires.kept c.requires.few own inv))
          )
      | in-None+in_ok-number-in-None w ↦ (
          let none = read ∙ ap (λ (o : Option ℕ). Some o) w.in-None.is in
          let took = w.in_ok-number-in-None in
          subst (λ (n : ℕ). AreTaken kept old (i + 1) (numbers ++ n ∷ []) c.match-kept-rank.keys) (sym w.number-is)
          (subst (λ (s : Slab Unit). AreTaken kept old (i + 1) (numbers ++ took.number ∷ []) s) (sym w.keys-is) (taken-take kept old i numbers keys w.take.new.keys took.number none took.ensures.few took.ensures.vacant took.ensures.updates inv))
          )
    ])

pub returns : goal.returns
returns c =
    let all : c.loop-rank.rank ≡ length c.args.kept.now = omega (arith, c.loop-rank-test.false) in
    subst (λ (n : ℕ). AreTaken c.args.kept.now c.args.keys.now n c.loop-rank.numbers.items c.loop-rank.keys) all c.loop-rank.invariant
