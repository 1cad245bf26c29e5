use Rattle.std.proofs.Common.{◌≡◌, ◌∙◌, ◌<◌, ◌++◌, ◌∷◌, [], to_z, of_z, w64, ℕ, zero, suc, List, Some, inl, refl, ap, sym, subst, arith, append_assoc, append-nil, length, map}
use Rattle.std.specs.Prelude.{◌≤ℤ◌, slice_get}
use Rattle.std.proofs.lemmas.Int.{ints}
use Rattle.std.proofs.lemmas.List.{map-append}
use Rattle.crew_fronts.specs.crew_answers.LongVectors.{LongVector}
use Rattle.crew_fronts.specs.Fronts.{front_at}
use Rattle.crew_pairing.specs.Legs.{Leg}
use Rattle.crew_plan.specs.Machinery.Homes.{pairing_of}
use Rattle.crew_resource.proofs.Members.{Member-append_right, Member-at}
use Rattle.crew_resource.specs.Members.{Member}
use Rattle.crew_fronts.proofs.crew_solve_lemmas.Keeping.{keep-append}
use Rattle.crew_fronts.specs.crew_solve.Machinery.Keeps.{CheapestSoFar, keep_all}
use Rattle.crew_fronts.specs.crew_answers.Fronts.{RiseByVector}
use Rattle.crew_pairing.specs.declared.vector.PairingVector.{PairingVector}
use Rattle.crew_plan.proofs.Rising.{from-here, unwanted}
use Rattle.crew_plan.proofs.homes.keep_of_front.Goals as goal

abbrev Es : Type 0
Es = List (LongVector × List (List Leg))

some-at : {X : Type 0} (xs : List X) (k : ℕ) → k < length xs → (x : X) × (slice_get xs k ≡ Some x)
some-at [] k h = absurd (omega (arith, h))
some-at (x ∷ xs) zero h = (x, refl)
some-at (x ∷ xs) (suc k) h = some-at xs k (omega (arith, h))

pub loop-vector-init : goal.loop-vector-init
loop-vector-init c = ([], refl, refl)

pub keep_of_entry-requires : goal.keep_of_entry-requires
keep_of_entry-requires c =
    let b = c.args.base.now in
    let e : LongVector × List (List Leg) = (c.in-Some.vector, c.in-Some.walk) in
    let so_far = c.loop-vector.invariant in
    let d = some-at b.net.duties c.args.rank c.requires.rank in
    let there : Member c.loop-vector.vector-iterator e = subst (λ (es : Es). Member es e) (sym c.in-Some.ensures.steps) (inl refl) in
    let among : Member c.front-front.result e = subst (λ (es : Es). Member es e) (so_far.1 ∙ (c.into_iter-vector-iterator.ensures.into_iter_gives ∙ c.iter-vector-items.ensures)) (Member-append_right so_far.0 c.loop-vector.vector-iterator e there) in
    c.requires.pay d.0 e (Member-at b.net.duties c.args.rank d.0 d.1) (subst (λ (es : Es). Member es e) (c.front-front.ensures.front d.0 d.1) among)

pub returns-then-not-wants : goal.returns-then-not-wants
returns-then-not-wants c = λ d at.
    let e : LongVector × List (List Leg) = (c.in-Some.vector, c.in-Some.walk) in
    let so_far = c.loop-vector.invariant in
    let rest = c.next.new.self in
    let old = c.args.kept.now in
    let f = pairing_of c.args.trip_rig c.base-code.result in
    let whole : so_far.0 ++ e ∷ rest ≡ c.front-front.result =
    ap (λ (es : Es). so_far.0 ++ es) (sym c.in-Some.ensures.steps) ∙ (so_far.1 ∙ (c.into_iter-vector-iterator.ensures.into_iter_gives ∙ c.iter-vector-items.ensures)) in
    let is : so_far.0 ++ e ∷ rest ≡ front_at c.args.base.now d = whole ∙ c.front-front.ensures.front d at in
    let rises = from-here so_far.0 e rest (subst RiseByVector (sym whole) c.front-front.ensures.rises) in
    let pay : to_z w64 (of_z w64 c.sums.result.now.duty_pay) ≡ e.0.sums.duty_pay = (let j : to_z w64 (of_z w64 c.sums.result.now.duty_pay) ≡ c.sums.result.now.duty_pay = omega (arith, ints) in j) ∙ ap (λ (v : PairingVector). v.duty_pay) c.sums.ensures in
    let none = unwanted c.loop-vector.kept c.args.trip_rig c.base-code.result e.0.sums.duty_pay (e ∷ rest) (λ p h. c.wants.ensures c.if-not-wants.true p (subst (λ z. z ≤ℤ p.cost) (sym pay) h)) rises in
    sym none
    ∙ (ap (λ (k : CheapestSoFar). keep_all k (map f (e ∷ rest))) so_far.2
    ∙ (sym (keep-append old (map f so_far.0) (map f (e ∷ rest)))
    ∙ (ap (keep_all old) (sym (map-append f so_far.0 (e ∷ rest))) ∙ (λ i. keep_all old (map (pairing_of c.args.trip_rig (c.base-code.ensures i)) (is i))))))

pub loop-vector-preserved : goal.loop-vector-preserved
loop-vector-preserved c =
    let e : LongVector × List (List Leg) = (c.in-Some.vector, c.in-Some.walk) in
    let so_far = c.loop-vector.invariant in
    let f = pairing_of c.args.trip_rig c.base-code.result in (
      so_far.0 ++ e ∷ [],
      append_assoc so_far.0 (e ∷ []) c.next.new.self ∙ (ap (λ (es : Es). so_far.0 ++ es) (sym c.in-Some.ensures.steps) ∙ so_far.1),
      c.in_ok-keep_of_entry.ensures
          ∙ (ap (λ (k : CheapestSoFar). keep_all k (f e ∷ [])) so_far.2
          ∙ (sym (keep-append c.args.kept.now (map f so_far.0) (f e ∷ [])) ∙ ap (keep_all c.args.kept.now) (sym (map-append f so_far.0 (e ∷ []))))),
    )

pub returns : goal.returns
returns c = λ d at.
    let so_far = c.loop-vector.invariant in
    let whole : so_far.0 ≡ c.into_iter-vector-iterator.result = sym (append-nil so_far.0) ∙ (ap (λ (es : Es). so_far.0 ++ es) (sym c.in-None.ensures.steps.0) ∙ so_far.1) in
    let is : so_far.0 ≡ front_at c.args.base.now d = whole ∙ (c.into_iter-vector-iterator.ensures.into_iter_gives ∙ (c.iter-vector-items.ensures ∙ c.front-front.ensures.front d at)) in
    so_far.2 ∙ (λ i. keep_all c.args.kept.now (map (pairing_of c.args.trip_rig (c.base-code.ensures i)) (is i)))
