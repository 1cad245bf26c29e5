use Rattle.std.proofs.Common.{◌≡◌, ◌<◌, arith, set, suc, zero, Option, Some, length, ◌++◌, ◌∷◌, ◌∙◌, [], inl, inr, List, ℕ, refl, ap, sym, subst}
use Rattle.std.specs.Prelude.{IfSome, is_some, slice_get}
use Rattle.crew_pool.specs.Arena.{walk_at}
use Rattle.crew_carry.specs.Carried.{AreTwinWalks, IsCarried}
use Rattle.crew_resource.specs.Members.{Member}
use Rattle.crew_resource.proofs.Members.{Member-append_left, Member-append_right}
use Rattle.crew_step.specs.Walks.{HasGrown}
use Rattle.crew_step.proofs.Grown.{grown-itself, grown-more, grown-through}
use Rattle.crew_carry.proofs.Carrying.{carried-grown, put-carried}
use Rattle.crew_carry.proofs.carrier.+carry_walk.Goals as goal

pub returns-in_default-twin-clause-none : goal.returns-in_default-twin-clause-none
returns-in_default-twin-clause-none t c =
    let r = c.in-Some-last.duty in
    let w = walk_at c.args.from.now c.in-Some-last.before in
    λ _. (r, subst (λ (ws : List ℕ). Member ws r) (sym c.in-Some-last.ensures.some.1) (Member-append_right w (r ∷ []) r (inl refl)), sym c.in_default-twin.ensures)

pub returns-in_default-2-clause-none : goal.returns-in_default-2-clause-none
returns-in_default-2-clause-none t c =
    let w = walk_at c.args.from.now c.in-Some-last.before in
    let lacks = c.in_ok-first.ensures.none (ap is_some c.in_default-2.is) in
    λ _. (lacks.0, subst (λ (ws : List ℕ). Member ws lacks.0) (sym c.in-Some-last.ensures.some.1) (Member-append_left w (c.in-Some-last.duty ∷ []) lacks.0 lacks.1), lacks.2)

pub returns-clause-carried : goal.returns-clause-carried
returns-clause-carried t c =
    let ranks = c.args.ranks.now in
    let from = c.args.from.now in
    let to = c.carry_walk.new.to in
    let step = c.in_ok-first.ensures in
    let w = walk_at from c.in-Some-last.before in
    let at = subst (λ (o : Option ℕ). IfSome o (λ q. (q < length to) × AreTwinWalks ranks w (walk_at to q))) c.in-Some-2.is step.walk in
    let told = put-carried ranks from to c.carry_walk.new.places step.carried c.args.walk w (walk_at to c.in-Some-2.first) c.in-Some-last.duty c.in-Some-twin.twin
    c.in-Some-last.ensures.some.1 at.1 (sym c.in-Some-twin.ensures) c.add.new.self c.in_ok-place.place c.in_ok-place.ensures.added c.in_ok-place.ensures.ok in
    let grown = subst (HasGrown to) (sym c.in_ok-place.ensures.added) (grown-more to (walk_at to c.in-Some-2.first ++ c.in-Some-twin.twin ∷ [])) in
    elim c.put.ensures [
      | inl e ↦ subst (IsCarried ranks from c.add.new.self) (sym e) told
      | inr e ↦ subst (IsCarried ranks from c.add.new.self) (sym e) (carried-grown ranks from to c.add.new.self c.carry_walk.new.places step.carried grown)
    ]

pub returns-in-Some-clause-carried : goal.returns-in-Some-clause-carried
returns-in-Some-clause-carried t c = c.requires.carried

pub returns-in-Some-clause-grown : goal.returns-in-Some-clause-grown
returns-in-Some-clause-grown t c = grown-itself c.args.to.now

pub returns-in-Some-clause-walk : goal.returns-in-Some-clause-walk
returns-in-Some-clause-walk t c =
    let at = c.at.ensures ∙ ap (λ (o : Option ℕ). Some o) c.in-Some.is in
    (c.requires.carried.there c.args.walk c.in-Some.place at, c.requires.carried.shows c.args.walk c.in-Some.place at)

pub returns-in_default-last-clause-carried : goal.returns-in_default-last-clause-carried
returns-in_default-last-clause-carried t c = c.requires.carried

pub returns-in_default-last-clause-grown : goal.returns-in_default-last-clause-grown
returns-in_default-last-clause-grown t c = grown-itself c.args.to.now

pub returns-in_default-twin-clause-carried : goal.returns-in_default-twin-clause-carried
returns-in_default-twin-clause-carried t c = c.requires.carried

pub returns-in_default-twin-clause-grown : goal.returns-in_default-twin-clause-grown
returns-in_default-twin-clause-grown t c = grown-itself c.args.to.now

pub returns-in_err-first-clause-carried : goal.returns-in_err-first-clause-carried
returns-in_err-first-clause-carried t c = c.carry_walk.ensures.carried

pub returns-in_err-first-clause-grown : goal.returns-in_err-first-clause-grown
returns-in_err-first-clause-grown t c = c.carry_walk.ensures.grown

pub returns-in_default-2-clause-carried : goal.returns-in_default-2-clause-carried
returns-in_default-2-clause-carried t c = c.carry_walk.ensures.carried

pub returns-in_default-2-clause-grown : goal.returns-in_default-2-clause-grown
returns-in_default-2-clause-grown t c = c.carry_walk.ensures.grown

pub add-requires : goal.add-requires
add-requires t c =
    let Found = λ (q : ℕ). (q < length c.carry_walk.new.to) × AreTwinWalks c.args.ranks.now (walk_at c.args.from.now c.in-Some-last.before) (walk_at c.carry_walk.new.to q) in
    let at = subst (λ (o : Option ℕ). IfSome o Found) c.in-Some-2.is c.in_ok-first.ensures.walk in
    at.0

pub returns-in_err-place-clause-carried : goal.returns-in_err-place-clause-carried
returns-in_err-place-clause-carried t c = subst (λ (ws : List (List ℕ)). IsCarried c.args.ranks.now c.args.from.now ws c.carry_walk.new.places) (sym c.in_err-place.ensures.err) c.carry_walk.ensures.carried

pub returns-in_err-place-clause-grown : goal.returns-in_err-place-clause-grown
returns-in_err-place-clause-grown t c = subst (HasGrown c.args.to.now) (sym c.in_err-place.ensures.err) c.carry_walk.ensures.grown

pub returns-clause-grown : goal.returns-clause-grown
returns-clause-grown t c =
    let to = c.carry_walk.new.to in
    let w = walk_at to c.in-Some-2.first ++ c.in-Some-twin.twin ∷ [] in
    grown-through c.args.to.now to c.add.new.self c.carry_walk.ensures.grown (subst (HasGrown to) (sym c.in_ok-place.ensures.added) (grown-more to w))

set-there : {X : Type 0} (xs : List X) (i : ℕ) (y : X) → i < length xs → slice_get (set xs i y) i ≡ Some y
set-there [] i y h = absurd (let q : ⊥ = omega arith in q)
set-there (x ∷ xs) zero y h = refl
set-there (x ∷ xs) (suc i) y h = set-there xs i y (omega arith)

pub returns-clause-walk : goal.returns-clause-walk
returns-clause-walk t c =
    let ranks = c.args.ranks.now in
    let from = c.args.from.now in
    let to = c.carry_walk.new.to in
    let step = c.in_ok-first.ensures in
    let w = walk_at from c.in-Some-last.before in
    let found = subst (λ (o : Option ℕ). IfSome o (λ q. (q < length to) × AreTwinWalks ranks w (walk_at to q))) c.in-Some-2.is step.walk in
    let places = c.carry_walk.new.places in
    let place = c.in_ok-place.place in
    let after : IsCarried ranks from c.add.new.self (set places c.args.walk (Some place)) = put-carried ranks from to places step.carried c.args.walk w (walk_at to c.in-Some-2.first) c.in-Some-last.duty c.in-Some-twin.twin
    c.in-Some-last.ensures.some.1 found.1 (sym c.in-Some-twin.ensures) c.add.new.self place c.in_ok-place.ensures.added c.in_ok-place.ensures.ok in
    let within = subst (λ (n : ℕ). c.args.walk < n) (sym c.carry_walk.ensures.carried.long) c.requires.there in
    let at = set-there places c.args.walk (Some place) within in
    (after.there c.args.walk place at, after.shows c.args.walk place at)
