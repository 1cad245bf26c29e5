-- What stands in the windows of departures to come: over walks that have grown, where more is made,
-- and the pools of these departures.
use Rattle.std.proofs.Common.{◌≡◌, ◌∙◌, ◌≤◌, ◌+◌, ◌-◌, ℕ, Bool, false, List, ◌∷◌, Option, None, Some, IfSome, MatchOption, inl, inr, refl, length, map, take, drop, sym, subst}
use Rattle.std.specs.List.{flat_map}
use Rattle.std.specs.Option.{option_flatten}
use Rattle.std.proofs.lemmas.List.{nil_from_length}
use Rattle.crew_anchor.specs.declared.resource.AnchoredResource.{AnchoredResource}
use Rattle.crew_net.specs.Nets.{Net}
use Rattle.crew_net.specs.declared.window.Window.{Window}
use Rattle.crew_pairing.specs.declared.vector.PairingVector.{PairingVector}
use Rattle.crew_pool.specs.Counted.{AreCounted}
use Rattle.crew_pool.specs.LabelWalks.{shown}
use Rattle.crew_pool.specs.declared.label_walk.LabelWalk.{LabelWalk}
use Rattle.crew_resource.specs.Members.{Member}
use Rattle.crew_carry.specs.crew_step.Walks.{HasGrown}
use Rattle.crew_sweep.specs.Machinery.Ahead.{AreAhead, IsAhead}
use Rattle.crew_sweep.specs.Machinery.Parts.{IsPart}
use Rattle.crew_sweep.specs.Machinery.Passing.{HaveStayed, IsPooled, IsPooledOver}
use Rattle.crew_sweep.specs.declared.arrivals.Arrivals.{Arrivals}
use Rattle.crew_sweep.specs.declared.windows.Waiting.{Waiting}
use Rattle.crew_sweep.proofs.Parts.{part-framed, part-grown, part-listed}

abbrev Labels : Type 0
Labels = List (PairingVector × LabelWalk)

-- what is made of the pool of a window is the pool of its departure
pub pooled-by : (net : Net) (base : List ℕ) (r : AnchoredResource) (before after : List (List ℕ)) (place : ℕ) (w : Window) (held : List Labels) (labels pool : Labels) → w.from ≤ w.end → IsPart before held w.from w.end labels
    → IsPooledOver net base r before after place labels pool → IsPooled net base r before after place w held pool
pooled-by net base r before after place w held labels pool ordered part over g at =
    over g at (flat_map (map (shown before)) (take (w.end - w.from) (drop w.from held))) (part-listed before held w.from w.end labels ordered part)

some-by : {A : Type 0} (o : Option A) (P Q : A → Type 0) → ((a : A) → P a → Q a) → IfSome o P → IfSome o Q
some-by None P Q f p = tt
some-by (Some a) P Q f p = f a p

module _ (net : Net) where
  -- over walks that have grown
  one-grown : (before after : List (List ℕ)) → HasGrown before after → (made : List Bool) (held : List Labels) → ((labels : Labels) → Member held labels → AreCounted (λ (v : PairingVector). v.duties) before false labels)
      → (w : Waiting) → IsAhead net before made held w → IsAhead net after made held w
  one-grown before after grown made held pending w one = record {
    window = one.window;
    are_made = one.are_made;
    part = some-by w.pool _ _ (λ pool. part-grown before after grown held pending w.window.from w.window.end pool) one.part;
  }

  -- where more is made
  one-stayed : (walks : List (List ℕ)) (made : List Bool) (held : List Labels) (made' : List Bool) (held' : List Labels) → HaveStayed made held made' held'
      → (w : Waiting) → IsAhead net walks made held w → IsAhead net walks made' held' w
  one-stayed walks made held made' held' stayed w one = record {
    window = one.window;
    are_made = λ p from end. (stayed p (one.are_made p from end)).0;
    part = some-by w.pool _ _ (λ pool. part-framed walks held held' w.window.from w.window.end pool (λ p from end. (stayed p (one.are_made p from end)).1)) one.part;
  }

  pub ahead-stayed : (walks : List (List ℕ)) (made : List Bool) (held : List Labels) (made' : List Bool) (held' : List Labels) → HaveStayed made held made' held'
      → (ws : List (Option Waiting)) → AreAhead net walks made held ws → AreAhead net walks made' held' ws
  ahead-stayed walks made held made' held' stayed ws all w m = one-stayed walks made held made' held' stayed w (all w m)

  -- where an iterator that stands before them gives the next one, it is ahead
  pub ahead-next : (walks : List (List ℕ)) (made : List Bool) (held : List Labels) (next : Option (Option Waiting)) (ws rest : List (Option Waiting)) (before left : ℕ)
      → MatchOption next ((before ≡ 0) × (left ≡ 0)) (λ w. (ws ≡ w ∷ rest) × (left + 1 ≡ before)) → AreAhead net walks made held ws → IfSome (option_flatten next) (IsAhead net walks made held)
  ahead-next walks made held None ws rest before left steps all = tt
  ahead-next walks made held (Some None) ws rest before left steps all = tt
  ahead-next walks made held (Some (Some w)) ws rest before left steps all = all w (subst (λ (vs : List (Option Waiting)). Member vs (Some w)) (sym steps.0) (inl refl))

  -- and the others stand behind it, over walks that have grown, where more is made
  pub ahead-after : (walks after : List (List ℕ)) → HasGrown walks after → (was now : Arrivals) → ((labels : Labels) → Member was.pools.items labels → AreCounted (λ (v : PairingVector). v.duties) walks false labels)
      → HaveStayed was.made.items was.pools.items now.made.items now.pools.items → (next : Option (Option Waiting)) (ws rest : List (Option Waiting)) (before left : ℕ) → length rest ≡ left
      → MatchOption next ((before ≡ 0) × (left ≡ 0)) (λ w. (ws ≡ w ∷ rest) × (left + 1 ≡ before)) → AreAhead net walks was.made.items was.pools.items ws → AreAhead net after now.made.items now.pools.items rest
  ahead-after walks after grown was now pending stayed None ws rest before left long steps all = subst (AreAhead net after now.made.items now.pools.items) (sym (nil_from_length rest (long ∙ steps.1))) (λ w m. absurd m)
  ahead-after walks after grown was now pending stayed (Some next) ws rest before left long steps all = λ w m.
      one-stayed after was.made.items was.pools.items now.made.items now.pools.items stayed w
      (one-grown walks after grown was.made.items was.pools.items pending w (all w (subst (λ (vs : List (Option Waiting)). Member vs (Some w)) (sym steps.0) (inr m))))
