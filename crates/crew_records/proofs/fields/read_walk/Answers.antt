use Rattle.std.proofs.Common.{◌≡◌, ◌∙◌, ◌+◌, ◌∷◌, [], List, ℕ, Bor, Option, Some, Err, length, refl, sym, ap, arith}
use Rattle.std.specs.Option.{option_map}
use Rattle.std.specs.List.{slice_split}
use Rattle.std.proofs.lemmas.List.Splits.{length-slice_split}
use Rattle.crew_records.specs.declared.fault.RecordFault.TheVariants.{BadField}
use Rattle.std.proofs.lemmas.List.{length-append}
use Rattle.std.proofs.lemmas.Result.{err_from_is_err_and}
use Rattle.crew_pairing.specs.Legs.{Leg}
use Rattle.crew_records.specs.Fields as Spec
use Rattle.crew_records.specs.Machinery.Cuts.{spaced_of}
use Rattle.crew_records.proofs.WalkFacts.{on-done, on-fails, on-more, on-over, read_on_keys}
use Rattle.crew_records.proofs.fields.read_walk.Goals as goal

-- the texts of what is left
abbrev left : Option (Bor (List ℕ)) → List (List ℕ)
left rest = spaced_of (option_map (λ (b : Bor (List ℕ)). b.now) rest)

left-over : (key : List (List Leg)) (rest : List ℕ) → length key ≡ 12 → read_on_keys key (spaced_of (Some rest)) ≡ Err BadField
left-over key rest full = go (slice_split Spec.is_space rest) _ (length-slice_split Spec.is_space rest)
  where
    go : (fs : List (List ℕ)) (n : ℕ) → length fs ≡ n + 1 → read_on_keys key fs ≡ Err BadField
    go [] n h = absurd (omega (arith, h))
    go (f ∷ fs) n h = on-over key f fs full

pub loop-init : goal.loop-init
loop-init c =
    let cut = ap (λ fs. read_on_keys [] fs) c.cut_space.ensures in
    let more = on-more [] c.cut_space.result.0.now (left c.cut_space.result.1) _ (sym c.read_key.ensures ∙ c.in_ok-first.was) in
    rw c.of-walk.ensures (refl, cut ∙ more)

pub returns-in_default : goal.returns-in_default
returns-in_default c =
    let is = ap (λ r. read_on_keys c.loop.walk (left r)) c.in_default.is in
    sym (c.loop.invariant.1 ∙ is ∙ on-done c.loop.walk (omega (arith, c.loop.invariant.0, c.loop-test.true)))

pub push-requires : goal.push-requires
push-requires c = omega (arith, c.loop.invariant.0, c.loop-test.true)

pub loop-preserved : goal.loop-preserved
loop-preserved c =
    let is = ap (λ r. read_on_keys c.loop.walk (left r)) c.in-Some.is in
    let cut = ap (λ fs. read_on_keys c.loop.walk fs) c.cut_space-in-loop.ensures in
    let more = on-more c.loop.walk c.cut_space-in-loop.result.0.now (left c.cut_space-in-loop.result.1) _ (sym c.read_key-in-loop.ensures ∙ c.in_ok-read_key.was) in
    rw c.push.ensures (length-append c.loop.walk (_ ∷ []) ∙ ap (λ (n : ℕ). n + 1) c.loop.invariant.0, c.loop.invariant.1 ∙ is ∙ cut ∙ more)

pub returns-in_err-read_key : goal.returns-in_err-read_key
returns-in_err-read_key c =
    let is = ap (λ r. read_on_keys c.loop.walk (left r)) c.in-Some.is in
    let cut = ap (λ fs. read_on_keys c.loop.walk fs) c.cut_space-in-loop.ensures in
    let fails = on-fails c.loop.walk c.cut_space-in-loop.result.0.now (left c.cut_space-in-loop.result.1) c.in_err-read_key.field-0.0 (sym c.read_key-in-loop.ensures ∙ c.in_err-read_key.was) in
    let p = err_from_is_err_and c.from_residual-in_err-read_key.result c.from_residual-in_err-read_key.ensures.1 in
    p.1 ∙ ap Err p.2 ∙ sym (c.loop.invariant.1 ∙ is ∙ cut ∙ fails)

pub returns-in-None : goal.returns-in-None
returns-in-None c =
    let is = ap (λ r. read_on_keys c.loop.walk (left r)) c.in-None.is in
    sym (c.loop.invariant.1 ∙ is ∙ on-done c.loop.walk (omega (arith, c.loop.invariant.0, c.loop.auto.counter-end)))

pub returns-in-Some-rest : goal.returns-in-Some-rest
returns-in-Some-rest c =
    let is = ap (λ r. read_on_keys c.loop.walk (left r)) c.in-Some-rest.is in
    let n : length c.loop.walk ≡ 12 = omega (arith, c.loop.invariant.0, c.loop.auto.counter-end, c.loop-test.false) in
    sym (c.loop.invariant.1 ∙ is ∙ left-over c.loop.walk c.in-Some-rest.field-0.now n)
