use Rattle.std.proofs.Common.{◌≡◌, ◌∙◌, List, ℕ, ℤ}
use Rattle.std.specs.FinMap as fin
use Rattle.std.specs.Map.Iter.{deref_pair}
use Rattle.crew_version.proofs.SameTimetable.{base-decides}
use Rattle.crew_version.proofs.Alongside.{compared}
use Rattle.crew_version.proofs.same.have_same_bases.Goals as goal

pub returns-clause-same : goal.returns-clause-same
returns-clause-same c =
    compared {U = List (List ℕ × ℤ)} (deref_pair {K = List ℕ} {X = ℤ}) (λ (s : List (List ℕ × ℤ)). s) (λ (s : List (List ℕ × ℤ)). s) (λ s t. t ≡ s) _ (λ x y. base-decides (deref_pair x) (deref_pair y)) _ _ _ (fin.entries c.args.one.now.bases) (fin.entries c.args.other.now.bases) c.bases.ensures.held (λ it e. e ∙ c.bases-2.ensures.held) c.eq.ensures.ran
