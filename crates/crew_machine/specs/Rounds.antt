-- One round of work: the version that was sealed last, the round that is open, and what each call
-- does to them, or why it doesn't. The relations leave free which node is claimed and which equal jobs are reused.
use Rattle.std.specs.Prelude.{◌≡◌, ◌≢◌, ◌⊎◌, ℕ, ◌+◌, ◌<◌, Bool, true, false, List, Option, Some, None, filter, length, map, slice_set}
use mathlib.Core.List.{IsPrefix}
use Rattle.std.specs.List.{slice_get}
use Rattle.crew_resource.specs.Members.{Member}
use Rattle.crew_machine.specs.declared.rounds.Cell.{Cell}
use Rattle.crew_machine.specs.declared.rounds.Cell.TheVariants.{Waiting, Out, Done}
use Rattle.crew_machine.specs.declared.rounds.Brought.{Brought}
use Rattle.crew_machine.specs.declared.rounds.Brought.TheVariants.{Stale, Again, Stored}
use Rattle.crew_machine.specs.Worlds.{World, Work, AreNodes, IsBefore, IsUnreached, IsWorkOf}

-- the entries of a log, each node of their fold with its front, and the best
pub record Version (E N F B : Type 0) : Type 0 where
  pub number : ℕ
  pub entries : List E
  pub fronts : List (N × F)
  pub best : Option B

-- the entries of a round, and each node of their fold with what is known of it
pub record Round (E N F : Type 0) : Type 0 where
  pub entries : List E
  pub cells : List (N × Cell F)

-- the version sealed last, and the round that is open
pub record Board (E N F B : Type 0) : Type 0 where
  pub sealed : Version E N F B
  pub round : Option (Round E N F)

abbrev pub IsUndone : {F : Type 0} → Cell F → Type 0
IsUndone Waiting = Unit {0}
IsUndone Out = Unit {0}
IsUndone (Done f) = ⊥

-- the greatest number of a version
abbrev pub last_number : ℕ
last_number = 18_446_744_073_709_551_615

module _ {E D N I F B : Type 0} (w : World E D N I F B) where
  -- a node is done, with this front
  abbrev pub IsDone : List (N × Cell F) → N → F → Type 0
  IsDone cells n f = Member cells (n, Done f)

  -- the node at a place waits, and each node just before it is done
  abbrev pub IsReady : D → List (N × Cell F) → ℕ → N → Type 0
  IsReady d cells place n = (slice_get cells place ≡ Some (n, Waiting))
      × ((p : N) → IsBefore w d p n → (f : F) × IsDone cells p f)

  -- the own job, now, of the node at a place of the round
  abbrev pub IsOwn : Round E N F → ℕ → Cell F → Work N I F → Type 0
  IsOwn round place cell job = (slice_get round.cells place ≡ Some (job.node, cell))
      × IsWorkOf w (w.fold round.entries) (IsDone round.cells) job

  -- the unreached nodes and no others are done, each with the version's front; none is out
  pub record IsCarried (sealed : Version E N F B) (entries : List E) (cells : List (N × Cell F))
      : Type 0 where
    pub nodes : AreNodes w (w.fold entries) (map (λ c. c.0) cells)
    pub done : (n : N) (f : F) → Member cells (n, Done f)
        → IsUnreached w (w.fold sealed.entries) (w.fold entries) n × Member sealed.fronts (n, f)
    pub kept : (n : N) (c : Cell F) → Member cells (n, c)
        → IsUnreached w (w.fold sealed.entries) (w.fold entries) n → (f : F) × (c ≡ Done f)
    pub none_out : (n : N) → Member cells (n, Out) → ⊥

  -- begin: a round over entries that begin with the sealed version's
  pub record Opens (old : Board E N F B) (entries : List E) (new : Board E N F B) : Type 0 where
    pub none_open : old.round ≡ None
    pub begins : IsPrefix old.sealed.entries entries
    pub number_left : old.sealed.number < last_number
    pub small : w.IsSmall (w.fold entries)
    pub cells : List (N × Cell F)
    pub carried : IsCarried old.sealed entries cells
    pub after : new ≡ record {
      sealed = old.sealed;
      round = Some (record { entries = entries; cells = cells });
    }

  -- the board with other cells in its round
  abbrev pub with_cells : Board E N F B → Round E N F → List (N × Cell F) → Board E N F B
  with_cells old round cells = record {
    sealed = old.sealed;
    round = Some (record { entries = round.entries; cells = cells });
  }

  -- claim: a ready node is out, and its own job is handed out
  pub record Claims (old : Board E N F B) (job : Work N I F) (new : Board E N F B) : Type 0 where
    pub round : Round E N F
    pub is_open : old.round ≡ Some round
    pub place : ℕ
    pub ready : IsReady (w.fold round.entries) round.cells place job.node
    pub own : IsOwn round place Waiting job
    pub after : new ≡ with_cells old round (slice_set round.cells place (job.node, Out))

  -- no node is ready, or no round is open
  abbrev pub NoneReady : Board E N F B → Type 0
  NoneReady old = (round : Round E N F) (place : ℕ) (n : N) → old.round ≡ Some round
      → IsReady (w.fold round.entries) round.cells place n → ⊥

  -- the job that the sealed version had of a node, and the front that it has of it
  pub record IsOfVersion (sealed : Version E N F B) (job : Work N I F) (front : F) : Type 0 where
    pub there : w.IsNode (w.fold sealed.entries) job.node
    pub work : IsWorkOf w (w.fold sealed.entries) (λ p f. Member sealed.fronts (p, f)) job
    pub front_is : Member sealed.fronts (job.node, front)

  -- the job of a waiting node is the version's job of it, and this is the version's front
  abbrev pub IsReusable : Version E N F B → Round E N F → ℕ → Work N I F → F → Type 0
  IsReusable sealed round place job f = IsOwn round place Waiting job × IsOfVersion sealed job f

  -- there is none left
  abbrev pub NoneReusable : Version E N F B → List E → List (N × Cell F) → Type 0
  NoneReusable sealed entries cells = (place : ℕ) (job : Work N I F) (f : F)
      → IsReusable sealed (record { entries = entries; cells = cells }) place job f → ⊥

  -- the node at a place waited, and is done with the version's front: its own job, over the fronts
  -- that are done in the new cells, is the version's job of it
  pub record IsReused (sealed : Version E N F B) (entries : List E) (old new : List (N × Cell F))
      (place : ℕ) : Type 0 where
    pub job : Work N I F
    pub front : F
    pub waited : slice_get old place ≡ Some (job.node, Waiting)
    pub own : IsOwn (record { entries = entries; cells = new }) place (Done front) job
    pub of_version : IsOfVersion sealed job front

  -- the cell at a place stays, or its node is reused
  abbrev pub StaysOrReused : Version E N F B → List E → List (N × Cell F) → List (N × Cell F) → ℕ
      → Type 0
  StaysOrReused sealed entries old new place =
      (slice_get new place ≡ slice_get old place) ⊎ IsReused sealed entries old new place

  -- some nodes are reused, and all other cells stay
  abbrev pub Reuses : Version E N F B → List E → List (N × Cell F) → List (N × Cell F) → Type 0
  Reuses sealed entries old new = (place : ℕ) → StaysOrReused sealed entries old new place

  -- the job is its node's own now, whatever is known of the node
  abbrev pub IsCurrent : Board E N F B → Work N I F → Type 0
  IsCurrent old job = (round : Round E N F) × (place : ℕ) × (cell : Cell F)
      × (old.round ≡ Some round) × IsOwn round place cell job

  -- .. and the node is done
  abbrev pub IsAgain : Board E N F B → Work N I F → Type 0
  IsAgain old job = (round : Round E N F) × (place : ℕ) × (g : F)
      × (old.round ≡ Some round) × IsOwn round place (Done g) job

  -- a result is stored: its node is done with it, some nodes are reused, and all other cells stay
  pub record Stores (old : Board E N F B) (job : Work N I F) (front : F) (new : Board E N F B)
      : Type 0 where
    pub round : Round E N F
    pub is_open : old.round ≡ Some round
    pub place : ℕ
    pub cell : Cell F
    pub own : IsOwn round place cell job
    pub undone : IsUndone cell
    pub local : w.IsLocal job front
    pub cells : List (N × Cell F)
    pub stored : slice_get cells place ≡ Some (job.node, Done front)
    pub others : (k : ℕ) → k ≢ place
        → StaysOrReused old.sealed round.entries round.cells cells k
    pub after : new ≡ with_cells old round cells

  -- bring: a result is taken in by what its job holds, whoever made it and when
  abbrev pub Brings : Board E N F B → Work N I F → F → Brought → Board E N F B → Type 0
  Brings old job front Stale new = (IsCurrent old job → ⊥) × (new ≡ old)
  Brings old job front Again new = IsAgain old job × (new ≡ old)
  Brings old job front Stored new = Stores old job front new

  -- a node that is out waits again
  pub record Frees (old : Board E N F B) (job : Work N I F) (new : Board E N F B) : Type 0 where
    pub round : Round E N F
    pub is_open : old.round ≡ Some round
    pub place : ℕ
    pub own : IsOwn round place Out job
    pub after : new ≡ with_cells old round (slice_set round.cells place (job.node, Waiting))

  -- give back: exactly where the node is out and the job is its own now
  abbrev pub GivesBack : Board E N F B → Work N I F → Bool → Board E N F B → Type 0
  GivesBack old job true new = Frees old job new
  GivesBack old job false new = ((round : Round E N F) (place : ℕ) → old.round ≡ Some round
      → IsOwn round place Out job → ⊥) × (new ≡ old)

  -- abandon: whether a round was open; none is
  abbrev pub Abandons : Board E N F B → Bool → Board E N F B → Type 0
  Abandons old true new = ((round : Round E N F) × (old.round ≡ Some round))
      × (new ≡ record { sealed = old.sealed; round = None })
  Abandons old false new = (old.round ≡ None) × (new ≡ old)

  -- seal: all nodes are done, and their fronts make the next version, with the least entry of those
  -- that come home
  pub record Seals (old : Board E N F B) (version : Version E N F B) (new : Board E N F B)
      : Type 0 where
    pub round : Round E N F
    pub is_open : old.round ≡ Some round
    pub number : version.number ≡ old.sealed.number + 1
    pub entries : version.entries ≡ round.entries
    pub fronts : map (λ e. (e.0, Done e.1)) version.fronts ≡ round.cells
    pub least : w.IsLeast version.fronts version.best
    pub after : new ≡ record { sealed = version; round = None }

  -- the least node that isn't done
  pub record IsFirstUndone (old : Board E N F B) (n : N) : Type 0 where
    pub round : Round E N F
    pub is_open : old.round ≡ Some round
    pub place : ℕ
    pub cell : Cell F
    pub stands : slice_get round.cells place ≡ Some (n, cell)
    pub undone : IsUndone cell
    pub least : (k : ℕ) (m : N) (c : Cell F) → k < place → slice_get round.cells k ≡ Some (m, c)
        → IsUndone c → ⊥

  -- begin over given entries is refused, and the board stays, for the first of these that applies:
  -- a round is open
  abbrev pub IsBusy : Board E N F B → Type 0
  IsBusy old = (round : Round E N F) × (old.round ≡ Some round)

  -- .. the entries don't begin with the sealed version's
  pub record IsShorter (old : Board E N F B) (entries : List E) : Type 0 where
    pub none_open : old.round ≡ None
    pub shorter : IsPrefix old.sealed.entries entries → ⊥

  -- .. there is no number after the sealed version's
  pub record HasNoNumber (old : Board E N F B) (entries : List E) : Type 0 where
    pub none_open : old.round ≡ None
    pub begins : IsPrefix old.sealed.entries entries
    pub is_last : old.sealed.number ≡ last_number

  -- .. they come to too many nodes
  pub record ComesToTooMany (old : Board E N F B) (entries : List E) : Type 0 where
    pub none_open : old.round ≡ None
    pub begins : IsPrefix old.sealed.entries entries
    pub number_left : old.sealed.number < last_number
    pub too_large : w.IsTooLarge (w.fold entries)

  -- restore: any round is dropped, and the given version is the sealed one
  abbrev pub Restores : Board E N F B → Version E N F B → Board E N F B → Type 0
  Restores old version new = new ≡ record { sealed = version; round = None }

-- how many nodes a round has, how many of them are done, and how many out
pub record Progress : Type 0 where
  pub nodes : ℕ
  pub done : ℕ
  pub out : ℕ

abbrev pub is_done : {F : Type 0} → Cell F → Bool
is_done Waiting = false
is_done Out = false
is_done (Done f) = true

abbrev pub is_out : {F : Type 0} → Cell F → Bool
is_out Waiting = false
is_out Out = true
is_out (Done f) = false

abbrev pub progress_of : {N F : Type 0} → List (N × Cell F) → Progress
progress_of cells = record {
  nodes = length cells;
  done = length (filter (λ c. is_done c.1) cells);
  out = length (filter (λ c. is_out c.1) cells);
}

-- progress: the counts of the round that is open, none without one
abbrev pub IsProgress : {E N F B : Type 0} → Board E N F B → Option Progress → Type 0
IsProgress board None = board.round ≡ None
IsProgress {E} {N} {F} {B} board (Some progress) = (round : Round E N F)
    × (board.round ≡ Some round) × (progress ≡ progress_of round.cells)
