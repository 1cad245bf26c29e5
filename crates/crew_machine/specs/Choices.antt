-- The product's choices among the steps that are free: a round is begun over the whole log, the
-- least ready node is claimed, equal jobs are marked until none is left, and the version published
-- last answers. Each is a step with one fact more, so what holds of all runs holds of these.
use Rattle.std.specs.Prelude.{◌≡◌, ℕ, ◌+◌, ◌<◌, List, [], ◌∷◌, length}
use Rattle.crew_machine.specs.Rounds.{Board, Brings, Claims, IsReady, NoneReusable, Stores}
use Rattle.crew_machine.specs.Steps.{Abandon, Abandoned, Act, Answered, Answers, Ask, Begin, BeginsOver, Begun, Bring, Busy, Claim, Claimed, Give_back, Given_back, HandsOut, Last_version, No_round, None_ready, Not_brought, Not_done, Not_given_back, Nothing_new, Publish, Push, Pushed, RefusesTooLarge, Reply, Seal, Sealed, State, Step, TakesBack, Too_large, Was_brought, Was_published}
use Rattle.crew_machine.specs.Worlds.{Work, World}
use Rattle.crew_machine.specs.declared.rounds.Brought.{Brought}
use Rattle.crew_machine.specs.declared.rounds.Brought.TheVariants.{Stale, Again, Stored}

module _ {E D N I F B : Type 0} (w : World E D N I F B) where
  -- claim: of the ready nodes the least
  pub record ClaimsLeast (old : Board E N F B) (job : Work N I F) (new : Board E N F B) : Type
      0 where
    pub claims : Claims w old job new
    pub least : (place : ℕ) (n : N) → place < claims.place
        → IsReady w (w.fold claims.round.entries) claims.round.cells place n → ⊥

  -- a result is stored, and all that can be reused is marked
  pub record StoresAll (old : Board E N F B) (job : Work N I F) (front : F) (new : Board E N F B)
      : Type 0 where
    pub stores : Stores w old job front new
    pub none_left : NoneReusable w old.sealed stores.round.entries stores.cells

  abbrev pub BringsAll : Board E N F B → Work N I F → F → Brought → Board E N F B → Type 0
  BringsAll old job front Stale new = Brings w old job front Stale new
  BringsAll old job front Again new = Brings w old job front Again new
  BringsAll old job front Stored new = StoresAll old job front new

  -- a round over these entries, a beginning of the log
  pub record BeginsOverGiven (entries : List E) (old new : State E N I F B) : Type 0 where
    pub over : BeginsOver w old new
    pub given : over.entries ≡ entries

  -- .. which are too many
  pub record RefusesGiven (entries : List E) (old : State E N I F B) : Type 0 where
    pub refuses : RefusesTooLarge w old
    pub given : refuses.entries ≡ entries

  pub record HandsOutLeast (old : State E N I F B) (job : Work N I F) (new : State E N I F B)
      : Type 0 where
    pub hands_out : HandsOut w old job new
    pub least : ClaimsLeast old.board job hands_out.board

  pub record TakesBackAll (old : State E N I F B) (j : ℕ) (brought : Brought)
      (new : State E N I F B) : Type 0 where
    pub takes_back : TakesBack w old j brought new
    pub all : BringsAll old.board takes_back.job takes_back.front brought takes_back.board

  -- one step with the product's choices. Five leave a choice free: the whole log, twice, the least
  -- ready node, all that can be reused, and the version published last
  abbrev pub ChosenStep : State E N I F B → Act E → Reply E N I F B → State E N I F B → Type 0
  ChosenStep old Begin Begun new = BeginsOverGiven old.log old new
  ChosenStep old Begin Too_large new = RefusesGiven old.log old × (new ≡ old)
  ChosenStep old Claim (Claimed j job) new = (j ≡ length old.jobs) × HandsOutLeast old job new
  ChosenStep old (Bring j) (Was_brought k b) new = (k ≡ j) × TakesBackAll old j b new
  ChosenStep old (Ask r) (Answered q place version) new = (place + 1 ≡ length old.published)
      × (q ≡ r) × Answers w old r place version new
  -- the others leave none
  ChosenStep old (Push e) (Pushed k) new = Step w old (Push e) (Pushed k) new
  ChosenStep old Begin Busy new = Step w old Begin Busy new
  ChosenStep old Begin Last_version new = Step w old Begin Last_version new
  ChosenStep old Claim None_ready new = Step w old Claim None_ready new
  ChosenStep old (Bring j) (Not_brought k) new = Step w old (Bring j) (Not_brought k) new
  ChosenStep old (Give_back j) (Given_back k freed) new =
      Step w old (Give_back j) (Given_back k freed) new
  ChosenStep old (Give_back j) (Not_given_back k) new =
      Step w old (Give_back j) (Not_given_back k) new
  ChosenStep old Abandon (Abandoned was_open) new = Step w old Abandon (Abandoned was_open) new
  ChosenStep old Seal (Sealed settled version) new = Step w old Seal (Sealed settled version) new
  ChosenStep old Seal No_round new = Step w old Seal No_round new
  ChosenStep old Seal (Not_done n) new = Step w old Seal (Not_done n) new
  ChosenStep old Publish (Was_published version) new =
      Step w old Publish (Was_published version) new
  ChosenStep old Publish Nothing_new new = Step w old Publish Nothing_new new
  ChosenStep old act reply new = ⊥

  -- .. and such steps one after another, with their replies
  abbrev pub ChosenRun : State E N I F B → List (Act E) → List (Reply E N I F B)
      → State E N I F B → Type 0
  ChosenRun old [] [] new = new ≡ old
  ChosenRun old (act ∷ acts) (reply ∷ replies) new = (mid : State E N I F B)
      × ChosenStep old act reply mid × ChosenRun mid acts replies new
  ChosenRun old [] (reply ∷ replies) new = ⊥
  ChosenRun old (act ∷ acts) [] new = ⊥
