use Rattle.std.proofs.Common.{◌++◌, ◌∷◌, [], inl, inr, sym, subst}
use Rattle.crew_dirty.specs.Dirty.{IsUntouched}
use Rattle.crew_dirty.proofs.Paths.{path-less, path-more, path-none}
use Rattle.crew_dirty.proofs.laws.unreached_nodes_stand_after_unreached_ones.Goals as goal

pub returns : goal.returns
returns c = λ old new old_price new_price base d m. (
  λ clear. (clear d [] (path-none new d m), λ e n may first others path. clear first (others ++ d ∷ []) (path-more new first others e d path may m)),
  λ p first others path.
      elim (path-less new first others d path) as (λ _. IsUntouched old new old_price new_price base first) [
        | inl e ↦ subst (λ x. IsUntouched old new old_price new_price base x) (sym e) p.0
        | inr k ↦ p.1 k.0 k.3 k.4 first k.1 k.2
      ],
)
