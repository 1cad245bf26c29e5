use Rattle.std.proofs.Common.{◌≡◌, ◌∙◌, List, ℕ}
use Rattle.std.specs.FinMap as fin
use Rattle.std.specs.Map.Iter.{deref_pair}
use Rattle.crew_version.proofs.SameTimetable.{turn-decides}
use Rattle.crew_version.proofs.Alongside.{compared}
use Rattle.crew_version.proofs.same.have_same_turns.Goals as goal

pub returns : goal.returns
returns c =
    compared {U = List ((ℕ × ℕ) × ℕ)} (deref_pair {K = ℕ × ℕ} {X = ℕ}) (λ (s : List ((ℕ × ℕ) × ℕ)). s) (λ (s : List ((ℕ × ℕ) × ℕ)). s) (λ s t. t ≡ s) _ (λ x y. turn-decides (deref_pair x) (deref_pair y)) _ _ _ (fin.entries c.args.one.now.turns) (fin.entries c.args.other.now.turns) c.turns.ensures.held (λ it e. e ∙ c.turns-2.ensures.held) c.eq.ensures.ran
