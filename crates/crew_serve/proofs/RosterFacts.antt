-- Who sits at which of some desks.
use Rattle.std.proofs.Common.{◌≡◌, ◌<◌, ◌+◌, ◌≤◌, ℕ, List, Option, Some, arith, length, subst}
use Rattle.std.specs.Prelude.{slice_get}
use Rattle.std.proofs.lemmas.Option.{slice_get_within}
use mathlib.Core.Logic.{⊎_elim}
use Rattle.std.proofs.lemmas.Bool.{cases_lt}
use Rattle.crew_serve.specs.Rosters.{HasAt, IsNamed, Lacks}
use Rattle.crew_lines.specs.declared.name.Name.{Name}

-- a client that sits at none of the first desks, nor at the next one
pub not-next : (names : List (Option Name)) (bytes : List ℕ) (desk : ℕ) (at : Option Name) → slice_get names desk ≡ Some at → ¬ (IsNamed at bytes) → ((k : ℕ) → k < desk → ¬ (HasAt names k bytes)) → (k : ℕ) → k < desk + 1 → ¬ (HasAt names k bytes)
not-next names bytes desk at is not before k less has =
    ⊎_elim (λ small. before k small has)
    (λ big. let same : k ≡ desk = omega (arith, less, big) in
    let one : has.0 ≡ at = cc (has.1, is, same) in
    not (subst (λ (x : Option Name). IsNamed x bytes) one has.2))
    (cases_lt k desk)

-- .. nor at any, where there is no other desk
pub at-none : (names : List (Option Name)) (bytes : List ℕ) (desk : ℕ) → length names ≤ desk → ((k : ℕ) → k < desk → ¬ (HasAt names k bytes)) → Lacks names bytes
at-none names bytes desk all before k has = before k (omega (arith, all, slice_get_within names k has.0 has.1)) has
