-- The machine: a log, the board, the jobs that were handed out, the published versions, and what
-- each reader was answered last; and its steps, each with its reply.
use Rattle.std.specs.Prelude.{◌≡◌, ◌≢◌, ℕ, ◌-◌, ◌==◌, ◌<◌, ◌≤◌, Bool, cond, List, [], ◌∷◌, ◌++◌, Option, Some, None, length}
use mathlib.Core.List.{IsPrefix}
use Rattle.std.specs.List.{slice_get}
use Rattle.crew_machine.specs.declared.rounds.Brought.{Brought}
use Rattle.crew_machine.specs.Rounds.{Abandons, Board, Brings, Claims, GivesBack, IsFirstUndone, NoneReady, Opens, Seals, Version, last_number}
use Rattle.crew_machine.specs.Worlds.{World, Work}

-- seen has pairs of a reader and the place, in the published list, of what it was answered, the
-- latest first
pub record State (E N I F B : Type 0) : Type 0 where
  pub log : List E
  pub board : Board E N F B
  pub jobs : List (Work N I F)
  pub published : List (Version E N F B)
  pub seen : List (ℕ × ℕ)

-- the place of the version that a reader was answered last; the first where it has none
abbrev pub seen_by : ℕ → List (ℕ × ℕ) → ℕ
seen_by reader [] = 0
seen_by reader (s ∷ earlier) = cond (s.0 == reader) s.1 (seen_by reader earlier)

pub data Act (E : Type 0) : Type 0 where
  Push : (entry : E) → Act E
  Begin : Act E
  Claim : Act E
  Bring : (job : ℕ) → Act E
  Give_back : (job : ℕ) → Act E
  Abandon : Act E
  Seal : Act E
  Publish : Act E
  Ask : (reader : ℕ) → Act E

-- the entries that a step pushes, and those that steps push one after another
abbrev pub pushed_by : {E : Type 0} → Act E → List E
pushed_by (Push entry) = entry ∷ []
pushed_by act = []

abbrev pub pushed_in : {E : Type 0} → List (Act E) → List E
pushed_in [] = []
pushed_in (act ∷ acts) = pushed_by act ++ pushed_in acts

-- A reply tells all that a line about its step shows: the number of a job, which is its place among
-- those handed out; how many entries were settled before a version was sealed; who asked.
pub data Reply (E N I F B : Type 0) : Type 0 where
  Pushed : (place : ℕ) → Reply E N I F B
  Begun : Reply E N I F B
  Busy : Reply E N I F B
  Last_version : Reply E N I F B
  Too_large : Reply E N I F B
  Claimed : (number : ℕ) (job : Work N I F) → Reply E N I F B
  None_ready : Reply E N I F B
  Was_brought : (number : ℕ) (brought : Brought) → Reply E N I F B
  Not_brought : (number : ℕ) → Reply E N I F B
  Given_back : (number : ℕ) (freed : Bool) → Reply E N I F B
  Not_given_back : (number : ℕ) → Reply E N I F B
  Abandoned : (was_open : Bool) → Reply E N I F B
  Sealed : (settled : ℕ) (version : Version E N F B) → Reply E N I F B
  No_round : Reply E N I F B
  Not_done : (node : N) → Reply E N I F B
  Was_published : (version : Version E N F B) → Reply E N I F B
  Nothing_new : Reply E N I F B
  Answered : (reader place : ℕ) (version : Version E N F B) → Reply E N I F B

abbrev pub last_of : {X : Type 0} → List X → Option X
last_of xs = slice_get xs (length xs - 1)

module _ {E D N I F B : Type 0} (w : World E D N I F B) where
  -- the board alone changes
  abbrev pub on_board : State E N I F B → Board E N F B → State E N I F B
  on_board s board = record {
    log = s.log;
    board = board;
    jobs = s.jobs;
    published = s.published;
    seen = s.seen;
  }

  -- a round over a beginning of the log
  pub record BeginsOver (old new : State E N I F B) : Type 0 where
    pub entries : List E
    pub beginning : IsPrefix entries old.log
    pub board : Board E N F B
    pub opens : Opens w old.board entries board
    pub after : new ≡ on_board old board

  -- a beginning of the log that begins with the sealed version's entries is too large
  pub record RefusesTooLarge (old : State E N I F B) : Type 0 where
    pub none_open : old.board.round ≡ None
    pub number_left : old.board.sealed.number < last_number
    pub entries : List E
    pub beginning : IsPrefix entries old.log
    pub begins : IsPrefix old.board.sealed.entries entries
    pub too_large : w.IsTooLarge (w.fold entries)

  pub record HandsOut (old : State E N I F B) (job : Work N I F) (new : State E N I F B) : Type
      0 where
    pub board : Board E N F B
    pub claims : Claims w old.board job board
    pub after : new ≡ record {
      log = old.log;
      board = board;
      jobs = old.jobs ++ job ∷ [];
      published = old.published;
      seen = old.seen;
    }

  -- the result of a job that was handed out, at any time before
  pub record TakesBack (old : State E N I F B) (j : ℕ) (brought : Brought) (new : State E N I F B)
      : Type 0 where
    pub job : Work N I F
    pub handed_out : slice_get old.jobs j ≡ Some job
    pub front : F
    pub local : w.IsLocal job front
    pub board : Board E N F B
    pub brings : Brings w old.board job front brought board
    pub after : new ≡ on_board old board

  pub record GivesUp (old : State E N I F B) (j : ℕ) (freed : Bool) (new : State E N I F B) : Type
      0 where
    pub job : Work N I F
    pub handed_out : slice_get old.jobs j ≡ Some job
    pub board : Board E N F B
    pub gives_back : GivesBack w old.board job freed board
    pub after : new ≡ on_board old board

  pub record Drops (old : State E N I F B) (was_open : Bool) (new : State E N I F B) : Type 0 where
    pub board : Board E N F B
    pub abandons : Abandons w old.board was_open board
    pub after : new ≡ on_board old board

  pub record Closes (old : State E N I F B) (version : Version E N F B) (new : State E N I F B)
      : Type 0 where
    pub board : Board E N F B
    pub seals : Seals w old.board version board
    pub after : new ≡ on_board old board

  -- the sealed version, which isn't the last one published, is published
  pub record Shows (old new : State E N I F B) : Type 0 where
    pub is_new : last_of old.published ≢ Some old.board.sealed
    pub after : new ≡ record {
      log = old.log;
      board = old.board;
      jobs = old.jobs;
      published = old.published ++ old.board.sealed ∷ [];
      seen = old.seen;
    }

  -- some published version, not before the one that the reader was answered last
  pub record Answers (old : State E N I F B) (reader place : ℕ) (version : Version E N F B)
      (new : State E N I F B) : Type 0 where
    pub stands : slice_get old.published place ≡ Some version
    pub not_before : seen_by reader old.seen ≤ place
    pub after : new ≡ record {
      log = old.log;
      board = old.board;
      jobs = old.jobs;
      published = old.published;
      seen = (reader, place) ∷ old.seen;
    }

  -- one step, with its reply
  abbrev pub Step : State E N I F B → Act E → Reply E N I F B → State E N I F B → Type 0
  Step old (Push e) (Pushed k) new = (k ≡ length old.log) × (new ≡ record {
    log = old.log ++ e ∷ [];
    board = old.board;
    jobs = old.jobs;
    published = old.published;
    seen = old.seen;
  })
  Step old Begin Begun new = BeginsOver old new
  Step old Begin Busy new = (old.board.round ≢ None) × (new ≡ old)
  Step old Begin Last_version new = (old.board.round ≡ None)
      × (old.board.sealed.number ≡ last_number) × (new ≡ old)
  Step old Begin Too_large new = RefusesTooLarge old × (new ≡ old)
  Step old Claim (Claimed j job) new = (j ≡ length old.jobs) × HandsOut old job new
  Step old Claim None_ready new = NoneReady w old.board × (new ≡ old)
  Step old (Bring j) (Was_brought k b) new = (k ≡ j) × TakesBack old j b new
  Step old (Bring j) (Not_brought k) new = (k ≡ j) × (length old.jobs ≤ j) × (new ≡ old)
  Step old (Give_back j) (Given_back k freed) new = (k ≡ j) × GivesUp old j freed new
  Step old (Give_back j) (Not_given_back k) new = (k ≡ j) × (length old.jobs ≤ j) × (new ≡ old)
  Step old Abandon (Abandoned was_open) new = Drops old was_open new
  Step old Seal (Sealed settled version) new = (settled ≡ length old.board.sealed.entries)
      × Closes old version new
  Step old Seal No_round new = (old.board.round ≡ None) × (new ≡ old)
  Step old Seal (Not_done n) new = IsFirstUndone w old.board n × (new ≡ old)
  Step old Publish (Was_published version) new = (version ≡ old.board.sealed) × Shows old new
  Step old Publish Nothing_new new = (last_of old.published ≡ Some old.board.sealed) × (new ≡ old)
  Step old (Ask r) (Answered q place version) new = (q ≡ r) × Answers old r place version new
  Step old act reply new = ⊥

  -- the steps give these replies, one after another
  abbrev pub Run : State E N I F B → List (Act E) → List (Reply E N I F B) → State E N I F B → Type
      0
  Run old [] [] new = new ≡ old
  Run old (act ∷ acts) (reply ∷ replies) new = (mid : State E N I F B) × Step old act reply mid
      × Run mid acts replies new
  Run old [] (reply ∷ replies) new = ⊥
  Run old (act ∷ acts) [] new = ⊥

  -- the version before any entry
  abbrev pub opening : Version E N F B
  opening = record { number = 0; entries = []; fronts = []; best = None }

  abbrev pub start : State E N I F B
  start = record {
    log = [];
    board = record { sealed = opening; round = None };
    jobs = [];
    published = opening ∷ [];
    seen = [];
  }
