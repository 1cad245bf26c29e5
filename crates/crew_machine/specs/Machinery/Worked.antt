-- What the layers below show of a world, so that every run over it keeps what is right.
use Rattle.std.specs.Prelude.{ℕ, ◌<◌, [], List, Option, None, map}
use Rattle.crew_resource.specs.Members.{Member}
use Rattle.crew_machine.specs.Worlds.{AreNodes, IsBefore, IsUnreached, IsWorkOf, Work, World}

module _ {E D N I F B : Type 0} (w : World E D N I F B) where
  -- from scratch: exactly the nodes of the data, each with its front, and the best
  pub record IsScratch (d : D) (fronts : List (N × F)) (best : Option B) : Type 0 where
    pub nodes : AreNodes w d (map (λ e. e.0) fronts)
    pub right : (n : N) (f : F) → Member fronts (n, f) → w.IsFront d n f
    pub best_is : w.IsBest d best
    pub small : w.IsSmall d

  pub record Laws : Type 0 where
    -- given the fronts just before a node, what is local is its front, and the other way round
    pub local_in : (es : List E) (job : Work N I F) (f : F) → w.IsNode (w.fold es) job.node
        → IsWorkOf w (w.fold es) (w.IsFront (w.fold es)) job → w.IsLocal job f
        → w.IsFront (w.fold es) job.node f
    pub local_out : (es : List E) (job : Work N I F) (f : F) → w.IsNode (w.fold es) job.node
        → IsWorkOf w (w.fold es) (w.IsFront (w.fold es)) job → w.IsFront (w.fold es) job.node f
        → w.IsLocal job f
    -- nodes just before a node come earlier
    pub time : List E → N → ℕ
    pub earlier : (es : List E) (p n : N) → IsBefore w (w.fold es) p n → time es p < time es n
    -- a node that no change reaches keeps its front
    pub carried : (es fs : List E) (n : N) (f : F) → w.IsNode (w.fold fs) n
        → IsUnreached w (w.fold es) (w.fold fs) n → w.IsFront (w.fold es) n f
        → w.IsFront (w.fold fs) n f
    -- the least of what comes home is the best
    pub least : (es : List E) (fronts : List (N × F)) (best : Option B)
        → AreNodes w (w.fold es) (map (λ e. e.0) fronts)
        → ((n : N) (f : F) → Member fronts (n, f) → w.IsFront (w.fold es) n f)
        → w.IsLeast fronts best → w.IsBest (w.fold es) best
    -- no entries, no nodes, no best
    pub opening : IsScratch (w.fold []) [] None
