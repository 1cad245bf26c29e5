-- What every run keeps: done fronts are right, versions are from scratch, the published list is a
-- chain, and what is settled is a beginning of the log.
use Rattle.std.specs.Prelude.{◌≡◌, ◌⊎◌, ℕ, ◌<◌, ◌≤◌, List, Some, length, map}
use mathlib.Core.List.{IsPrefix}
use Rattle.std.specs.List.{slice_get}
use Rattle.crew_resource.specs.Members.{Member}
use Rattle.crew_machine.specs.Chains.{Follows}
use Rattle.crew_resource.specs.Chains.{IsChain}
use Rattle.crew_machine.specs.Rounds.{Board, Round, Version, last_number}
use Rattle.crew_machine.specs.Steps.{State, last_of, seen_by}
use Rattle.crew_machine.specs.Worlds.{AreNodes, IsWorkOf, Work, World}
use Rattle.crew_machine.specs.Machinery.Worked.{IsScratch}
use Rattle.crew_machine.specs.declared.rounds.Cell.TheVariants.{Done}

module _ {E D N I F B : Type 0} (w : World E D N I F B) where
  abbrev pub IsVersion : Version E N F B → Type 0
  IsVersion v = IsScratch w (w.fold v.entries) v.fronts v.best

  pub record IsRound (sealed : Version E N F B) (round : Round E N F) : Type 0 where
    pub nodes : AreNodes w (w.fold round.entries) (map (λ c. c.0) round.cells)
    pub right : (n : N) (f : F) → Member round.cells (n, Done f)
        → w.IsFront (w.fold round.entries) n f
    pub begins : IsPrefix sealed.entries round.entries
    pub small : w.IsSmall (w.fold round.entries)
    pub number_left : sealed.number < last_number

  pub record IsStanding (board : Board E N F B) : Type 0 where
    pub sealed : IsVersion board.sealed
    pub number : board.sealed.number ≤ last_number
    pub round : (r : Round E N F) → board.round ≡ Some r → IsRound board.sealed r

  pub record IsSound (s : State E N I F B) : Type 0 where
    pub board : IsStanding s.board
    pub published : (k : ℕ) (v : Version E N F B) → slice_get s.published k ≡ Some v → IsVersion v
    pub chain : IsChain Follows s.published
    pub newest : (v : Version E N F B) × (last_of s.published ≡ Some v)
        × ((v ≡ s.board.sealed) ⊎ Follows v s.board.sealed)

  -- what is settled, or is about to be, is a beginning of the log
  pub record IsLogged (s : State E N I F B) : Type 0 where
    pub sealed : IsPrefix s.board.sealed.entries s.log
    pub round : (r : Round E N F) → s.board.round ≡ Some r → IsPrefix r.entries s.log
    pub published : (k : ℕ) (v : Version E N F B) → slice_get s.published k ≡ Some v
        → IsPrefix v.entries s.log

  -- each job that was handed out is its node's own job in the data of some entries, and each reader
  -- has seen a published version
  pub record IsServed (s : State E N I F B) : Type 0 where
    pub jobs : (j : ℕ) (job : Work N I F) → slice_get s.jobs j ≡ Some job
        → (es : List E) × w.IsNode (w.fold es) job.node
        × IsWorkOf w (w.fold es) (w.IsFront (w.fold es)) job
    pub seen : (reader : ℕ) → seen_by reader s.seen < length s.published
