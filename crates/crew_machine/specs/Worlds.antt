-- What rounds of work are about: entries of a log that fold to data, the nodes of data, and the
-- front of each node. The machine is defined over any such world; `Crew` has that of crew pairing.
use Rattle.std.specs.Prelude.{◌≡◌, ◌↔◌, List, [], ◌∷◌, Option, map}
use Rattle.crew_resource.specs.Members.{Member}

-- a job: a node, the node's own inputs, and each node just before it with its front
pub record Work (N I F : Type 0) : Type 0 where
  pub node : N
  pub input : I
  pub before : List (N × F)

-- entries E, data D, nodes N, a node's own inputs I, fronts F, and bests B
pub record World (E D N I F B : Type 0) : Type 1 where
  pub fold : List E → D
  -- data with few enough nodes to be worked on, and with too many
  pub IsSmall : D → Type 0
  pub IsTooLarge : D → Type 0
  pub IsNode : D → N → Type 0
  -- in node order
  pub Rise : List N → Type 0
  -- an arc: the second may stand just after the first
  pub Precedes : N → N → Type 0
  pub input : D → N → I
  pub IsFront : D → N → F → Type 0
  -- what a job's candidates leave
  pub IsLocal : Work N I F → F → Type 0
  -- the least of the entries that come home, none where there is none
  pub IsLeast : List (N × F) → Option B → Type 0
  pub IsBest : D → Option B → Type 0

module _ {E D N I F B : Type 0} (w : World E D N I F B) where
  -- a node of the data that may stand just before another
  abbrev pub IsBefore : D → N → N → Type 0
  IsBefore d p n = w.IsNode d p × w.Precedes p n

  -- exactly the nodes of the data, in node order
  pub record AreNodes (d : D) (nodes : List N) : Type 0 where
    pub rise : w.Rise nodes
    pub exact : (n : N) → Member nodes n ↔ w.IsNode d n

  -- exactly the nodes just before one, in node order
  pub record AreBefore (d : D) (n : N) (nodes : List N) : Type 0 where
    pub rise : w.Rise nodes
    pub exact : (p : N) → Member nodes p ↔ IsBefore d p n

  -- the job of its node, where nodes just before it have these fronts
  pub record IsWorkOf (d : D) (Has : N → F → Type 0) (job : Work N I F) : Type 0 where
    pub input : job.input ≡ w.input d job.node
    pub before : AreBefore d job.node (map (λ b. b.0) job.before)
    pub fronts : (p : N) (f : F) → Member job.before (p, f) → Has p f

  -- the old data has the node, with the same inputs, and the same nodes just before it
  pub record IsUntouched (old new : D) (n : N) : Type 0 where
    pub there : w.IsNode old n
    pub input : w.input old n ≡ w.input new n
    pub before : (p : N) → w.Precedes p n → (w.IsNode old p ↔ w.IsNode new p)

  -- a list of arcs of the data leads from m to n, the empty one too
  abbrev pub Leads : D → N → List N → N → Type 0
  Leads d m [] n = m ≡ n
  Leads d m (x ∷ xs) n = IsBefore d m x × Leads d x xs n

  -- neither the node nor any from which a list of arcs leads to it is touched
  abbrev pub IsUnreached : D → D → N → Type 0
  IsUnreached old new n = (m : N) (way : List N) → w.IsNode new m → Leads new m way n
      → IsUntouched old new m
