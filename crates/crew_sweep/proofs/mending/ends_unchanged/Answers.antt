use Rattle.std.proofs.Common.{◌∙◌, ◌∷◌, [], List, ℕ, ap, arith, inl, refl, subst, sym}
use Rattle.crew_pool.specs.Arena.{walk_at}
use Rattle.crew_resource.specs.Members.{Member}
use Rattle.crew_resource.proofs.Members.{Member-append_right}
use Rattle.crew_sweep.specs.Machinery.Mending.{ends_unchanged}
use Rattle.crew_sweep.proofs.Mends.{ends-last}
use Rattle.crew_sweep.proofs.mending.ends_unchanged.Goals as goal

pub bounds-places-rank : goal.bounds-places-rank
bounds-places-rank c =
    let some = c.in-Some.ensures.some in
    let m = subst (λ (ns : List ℕ). Member ns c.in-Some.rank) (sym some.1) (Member-append_right _ (c.in-Some.rank ∷ []) c.in-Some.rank (inl refl)) in
    (c.requires.ranks c.in-Some.rank m).0

pub is_unchanged-requires-clause-marks : goal.is_unchanged-requires-clause-marks
is_unchanged-requires-clause-marks c =
    let some = c.in-Some.ensures.some in
    let m = subst (λ (ns : List ℕ). Member ns c.in-Some.rank) (sym some.1) (Member-append_right _ (c.in-Some.rank ∷ []) c.in-Some.rank (inl refl)) in
    (c.requires.ranks c.in-Some.rank m).1

pub is_unchanged-requires-clause-arrivals : goal.is_unchanged-requires-clause-arrivals
is_unchanged-requires-clause-arrivals c =
    let some = c.in-Some.ensures.some in
    let m = subst (λ (ns : List ℕ). Member ns c.in-Some.rank) (sym some.1) (Member-append_right _ (c.in-Some.rank ∷ []) c.in-Some.rank (inl refl)) in
    let within = (c.requires.ranks c.in-Some.rank m).1 in
    let long = c.requires.arrivals in
    omega (arith, within, long)

pub returns-in-Some : goal.returns-in-Some
returns-in-Some c =
    let t = c.args.twins.now in
    let some = c.in-Some.ensures.some in
    c.is_unchanged.ensures ∙ (sym (ends-last t c.args.changed.now c.args.places.now (walk_at c.args.walks.now c.in-Some.field-0-0) c.in-Some.rank) ∙ ap (ends_unchanged t c.args.changed.now c.args.places.now) (sym some.1))
