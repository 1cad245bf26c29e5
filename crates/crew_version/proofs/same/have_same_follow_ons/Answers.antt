use Rattle.std.proofs.Common.{◌≡◌, ◌∙◌, List, ℕ}
use Rattle.std.specs.FinMap as fin
use Rattle.std.specs.Map.Iter.{deref_pair}
use Rattle.crew_version.proofs.SameTimetable.{follow-on-decides}
use Rattle.crew_version.proofs.Alongside.{compared}
use Rattle.crew_version.proofs.same.have_same_follow_ons.Goals as goal

pub returns : goal.returns
returns c =
    compared {U = List (ℕ × ℕ)} (deref_pair {K = ℕ} {X = ℕ}) (λ (s : List (ℕ × ℕ)). s) (λ (s : List (ℕ × ℕ)). s) (λ s t. t ≡ s) _ (λ x y. follow-on-decides (deref_pair x) (deref_pair y)) _ _ _ (fin.entries c.args.one.now.follows) (fin.entries c.args.other.now.follows) c.follows.ensures.held (λ it e. e ∙ c.follows-2.ensures.held) c.eq.ensures.ran
