use Rattle.std.proofs.Common.{◌≡◌, ◌∙◌, ◌+◌, ◌∷◌, [], List, ℕ, Bor, Option, Some, Err, length, refl, sym, ap, arith}
use Rattle.std.specs.Option.{option_map}
use Rattle.std.specs.List.{slice_split}
use Rattle.std.proofs.lemmas.List.Splits.{length-slice_split}
use Rattle.crew_records.specs.declared.fault.RecordFault.TheVariants.{BadField}
use Rattle.std.proofs.lemmas.List.{length-append}
use Rattle.std.proofs.lemmas.Result.{err_from_is_err_and}
use Rattle.crew_pairing.specs.Legs.{Leg}
use Rattle.crew_records.specs.Fields as Spec
use Rattle.crew_records.specs.Machinery.Cuts.{texts_of}
use Rattle.crew_records.proofs.DutyFacts.{on-done, on-fails, on-more, on-over, read_on_legs}
use Rattle.crew_records.proofs.fields.read_key.Goals as goal

-- the texts of what is left
abbrev left : Option (Bor (List ℕ)) → List (List ℕ)
left rest = texts_of (option_map (λ (b : Bor (List ℕ)). b.now) rest)

left-over : (key : List Leg) (rest : List ℕ) → length key ≡ 8 → read_on_legs key (texts_of (Some rest)) ≡ Err BadField
left-over key rest full = go (slice_split Spec.is_dash rest) _ (length-slice_split Spec.is_dash rest)
  where
    go : (fs : List (List ℕ)) (n : ℕ) → length fs ≡ n + 1 → read_on_legs key fs ≡ Err BadField
    go [] n h = absurd (omega (arith, h))
    go (f ∷ fs) n h = on-over key f fs full

pub loop-init : goal.loop-init
loop-init c =
    let cut = ap (λ fs. read_on_legs [] fs) c.cut.ensures in
    let more = on-more [] c.cut.result.0.now (left c.cut.result.1) c.in_ok-read_leg.field-0 (sym c.read_leg.ensures ∙ c.in_ok-read_leg.was) in
    rw c.of-key.ensures (refl, cut ∙ more)

pub returns-in_default : goal.returns-in_default
returns-in_default c =
    let is = ap (λ r. read_on_legs c.loop.key (left r)) c.in_default.is in
    sym (c.loop.invariant.1 ∙ is ∙ on-done c.loop.key (omega (arith, c.loop.invariant.0, c.loop-test.true)))

pub push-requires : goal.push-requires
push-requires c = omega (arith, c.loop.invariant.0, c.loop-test.true)

pub loop-preserved : goal.loop-preserved
loop-preserved c =
    let is = ap (λ r. read_on_legs c.loop.key (left r)) c.in-Some.is in
    let cut = ap (λ fs. read_on_legs c.loop.key fs) c.cut-in-loop.ensures in
    let more = on-more c.loop.key c.cut-in-loop.result.0.now (left c.cut-in-loop.result.1) c.in_ok-read_leg-2.field-0 (sym c.read_leg-in-loop.ensures ∙ c.in_ok-read_leg-2.was) in
    rw c.push.ensures (length-append c.loop.key (c.in_ok-read_leg-2.field-0 ∷ []) ∙ ap (λ (n : ℕ). n + 1) c.loop.invariant.0, c.loop.invariant.1 ∙ is ∙ cut ∙ more)

pub returns-in_err-read_leg-2 : goal.returns-in_err-read_leg-2
returns-in_err-read_leg-2 c =
    let is = ap (λ r. read_on_legs c.loop.key (left r)) c.in-Some.is in
    let cut = ap (λ fs. read_on_legs c.loop.key fs) c.cut-in-loop.ensures in
    let fails = on-fails c.loop.key c.cut-in-loop.result.0.now (left c.cut-in-loop.result.1) c.in_err-read_leg-2.field-0.0 (sym c.read_leg-in-loop.ensures ∙ c.in_err-read_leg-2.was) in
    let p = err_from_is_err_and c.from_residual-in_err-read_leg-2.result c.from_residual-in_err-read_leg-2.ensures.1 in
    p.1 ∙ ap Err p.2 ∙ sym (c.loop.invariant.1 ∙ is ∙ cut ∙ fails)

pub returns-in-None : goal.returns-in-None
returns-in-None c =
    let is = ap (λ r. read_on_legs c.loop.key (left r)) c.in-None.is in
    sym (c.loop.invariant.1 ∙ is ∙ on-done c.loop.key (omega (arith, c.loop.invariant.0, c.loop.auto.counter-end)))

pub returns-in-Some-rest : goal.returns-in-Some-rest
returns-in-Some-rest c =
    let is = ap (λ r. read_on_legs c.loop.key (left r)) c.in-Some-rest.is in
    let n : length c.loop.key ≡ 8 = omega (arith, c.loop.invariant.0, c.loop.auto.counter-end, c.loop-test.false) in
    sym (c.loop.invariant.1 ∙ is ∙ left-over c.loop.key c.in-Some-rest.field-0.now n)
