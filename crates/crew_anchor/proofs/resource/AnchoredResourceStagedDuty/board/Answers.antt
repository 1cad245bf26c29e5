use Rattle.std.proofs.Common.{◌≡◌, ◌∙◌, ◌+ℤ◌, ◌≤ℤ◌, Some, None, ap, arith, cond, false, of_z, pos, subst, sym, to_z, true, w32, ℤ}
use Rattle.std.specs.Prelude.{int_le}
use Rattle.std.proofs.lemmas.Bool.{and_parts}
use Rattle.std.proofs.lemmas.Int.{ints}
use Rattle.crew_anchor.specs.Machinery.Bounds.{may_board}
use Rattle.crew_anchor.specs.Machinery.Narrow.{AreNarrow}
use Rattle.crew_anchor.specs.Stages.{flown, is_within_caps_at}
use Rattle.crew_anchor.specs.declared.resource.AnchoredResource.{AnchoredResource}
use Rattle.crew_pairing.specs.Events.{IsSound}
use Rattle.crew_pairing.specs.declared.duty.Duty.{Duty}
use Rattle.crew_pairing.specs.declared.vector.PairingVector.{PairingVector}
use Rattle.crew_anchor.proofs.resource.AnchoredResourceStagedDuty.board.Goals as goal

capped : (z cap : ℤ) → int_le z cap ≡ true → z ≤ℤ cap
capped z cap h = grind (arith, ints)

-- within the caps the parts fit still
narrow-still : (r : AnchoredResource) (v : PairingVector) (d : Duty) (t : ℤ) → IsSound d → AreNarrow v → pos r.fdp_cap ≤ℤ pos 4_294_967_295 → pos r.fly_cap ≤ℤ pos 4_294_967_295 → pos r.max_duties ≤ℤ pos 4_294_967_295
    → is_within_caps_at r t (flown r v d) ≡ true → AreNarrow (flown r v d)
narrow-still r v d t sound is fdp_cap fly_cap most within =
    let first = and_parts _ _ within in
    let second = and_parts _ _ first.1 in
    let third = and_parts _ _ second.1 in
    let fdp = capped (v.fdp +ℤ d.fdp) (pos r.fdp_cap) first.0 in
    let fly = capped (v.fly +ℤ d.fly) (pos r.fly_cap) second.0 in
    let duties = capped (v.duties +ℤ pos 1) (pos r.max_duties) third.0 in
    record {
      fdp = omega (arith, ints, is.fdp, sound.fdp);
      fdp_most = omega (arith, ints, fdp, fdp_cap);
      fly = omega (arith, ints, is.fly, sound.fly);
      fly_most = omega (arith, ints, fly, fly_cap);
      duties = omega (arith, ints, is.duties);
      duties_most = omega (arith, ints, duties, most);
      away = is.away;
      away_most = is.away_most;
    }

pub with_duty-longer-requires : goal.with_duty-longer-requires
with_duty-longer-requires c = subst (λ (v : PairingVector). may_board v c.args.duty.now) (sym c.parts-parts.ensures.same) c.requires

pub of-requires : goal.of-requires
of-requires c =
    let r = c.args.self.now in
    let d = c.args.duty.now in
    let v = c.parts-parts.result in
    let narrow = subst AreNarrow (sym c.parts-parts.ensures.same) c.parts-parts.ensures.narrow in
    let whole : to_z w32 (of_z w32 d.release) ≡ d.release = omega (arith, ints) in
    let within : is_within_caps_at r d.release (flown r v d) ≡ true = sym (c.is_within_caps.ensures.within ∙ (ap (λ (z : ℤ). is_within_caps_at r z c.with_duty-longer.result) whole ∙ ap (is_within_caps_at r d.release) c.with_duty-longer.ensures)) ∙ c.if-is_within_caps.true in
    subst AreNarrow (sym c.with_duty-longer.ensures) (narrow-still r v d d.release c.requires.0 narrow (omega (arith, ints, c.is_within_caps.ensures.fdp)) (omega (arith, ints, c.is_within_caps.ensures.fly)) (omega (arith, ints, c.is_within_caps.ensures.duties)) within)

pub returns-then-is_within_caps : goal.returns-then-is_within_caps
returns-then-is_within_caps c =
    let r = c.args.self.now in
    let d = c.args.duty.now in
    let v = c.args.value.now in
    let longer : c.with_duty-longer.result ≡ flown r v d = c.with_duty-longer.ensures ∙ ap (λ (z : PairingVector). flown r z d) c.parts-parts.ensures.same in
    let whole : to_z w32 (of_z w32 d.release) ≡ d.release = omega (arith, ints) in
    let within : is_within_caps_at r d.release (flown r v d) ≡ true = sym (c.is_within_caps.ensures.within ∙ (ap (λ (z : ℤ). is_within_caps_at r z c.with_duty-longer.result) whole ∙ ap (is_within_caps_at r d.release) longer)) ∙ c.if-is_within_caps.true in
    ap Some (c.of.ensures ∙ longer) ∙ sym (ap (λ b. cond b (Some (flown r v d)) None) within)

pub returns-else-is_within_caps : goal.returns-else-is_within_caps
returns-else-is_within_caps c =
    let r = c.args.self.now in
    let d = c.args.duty.now in
    let v = c.args.value.now in
    let longer : c.with_duty-longer.result ≡ flown r v d = c.with_duty-longer.ensures ∙ ap (λ (z : PairingVector). flown r z d) c.parts-parts.ensures.same in
    let whole : to_z w32 (of_z w32 d.release) ≡ d.release = omega (arith, ints) in
    let beyond : is_within_caps_at r d.release (flown r v d) ≡ false = sym (c.is_within_caps.ensures.within ∙ (ap (λ (z : ℤ). is_within_caps_at r z c.with_duty-longer.result) whole ∙ ap (is_within_caps_at r d.release) longer)) ∙ c.if-is_within_caps.false in
    sym (ap (λ b. cond b (Some (flown r v d)) None) beyond)
