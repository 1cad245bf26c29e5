use Rattle.std.proofs.Common.{◌≡◌, ◌+◌, ◌∷◌, ℕ, List, Some, drop, sym, arith}
use Rattle.std.specs.List.{slice_get}
use Rattle.std.proofs.lemmas.Grind.{common_steps}
use Rattle.std.proofs.lemmas.List.{drop_more}
use Rattle.std.proofs.lemmas.Option.{get_or_from_slice_get, slice_get_within}
use Rattle.crew_session.proofs.front.put_lent_walk.Goals as goal

one-more : {X : Type 0} (xs : List X) (i : ℕ) (x : X) → slice_get xs i ≡ Some x → drop i xs ≡ x ∷ drop (i + 1) xs
one-more xs i x at = rw (get_or_from_slice_get xs i x x at) at (drop_more xs i x (slice_get_within xs i x at))

pub loop-place-preserved : goal.loop-place-preserved
loop-place-preserved c =
    let more = one-more c.args.walk.now c.loop-place.place c.in-Some-key.key.now (sym c.in-Some-key.ensures) in
    grind (arith, common_steps)
