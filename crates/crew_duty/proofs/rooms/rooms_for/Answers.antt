use Rattle.std.proofs.Common.{◌≡◌, ◌+◌, ◌++◌, ◌∷◌, ◌∙◌, ℕ, [], ap, ap₂, sym, arith, get_or, map}
use Rattle.std.proofs.lemmas.List.{map-append, take_more}
use Rattle.crew_duty.specs.declared.rooms.Room.{Room}
use Rattle.crew_duty.proofs.Counts.{range-more}
use Rattle.crew_duty.proofs.rooms.rooms_for.Goals as goal

pub loop-place-preserved : goal.loop-place-preserved
loop-place-preserved c =
    let P = λ (r : Room). r.place in
    let C = λ (r : Room). r.count in
    let rooms = c.loop-place.rooms.items in
    let counts = c.args.counts.now in
    let i = c.loop-place.place in
    let one = c.in_ok-new.field-0 in
    let at : 0 + i ≡ i = omega arith in
    let place : P one ∷ [] ≡ (0 + i) ∷ [] = ap (λ (n : ℕ). n ∷ []) (c.in_ok-new.ensures.place ∙ sym at) in
    let count : C one ∷ [] ≡ get_or counts i 0 ∷ [] = ap (λ (n : ℕ). n ∷ []) c.in_ok-new.ensures.count in
    let pushed = c.in_ok-push.ensures.items in (
      ap (map P) pushed ∙ (map-append P rooms (one ∷ []) ∙ (ap₂ ◌++◌ c.loop-place.invariant.0 place ∙ sym (range-more 0 i))),
      ap (map C) pushed ∙ (map-append C rooms (one ∷ []) ∙ (ap₂ ◌++◌ c.loop-place.invariant.1 count ∙ sym (take_more counts i 0 c.loop-place-test.true))),
    )
