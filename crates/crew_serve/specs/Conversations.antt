-- What is answered to the lines of a client, one after another.
use Rattle.std.specs.Prelude.{◌≡◌, ◌⊎◌, ◌+◌, ◌++◌, ◌∷◌, [], ℕ, nat_lt, List, Option, Some, None, codes, if◌then◌else◌}
use Rattle.crew_records.specs.Commands.{command_of}
use Rattle.crew_records.specs.Fields.{Fields}
use Rattle.crew_records.specs.declared.command.Command.{Command}
use Rattle.crew_records.specs.declared.command.Command.TheVariants.{Refuse}
use Rattle.crew_records.specs.declared.fault.RecordFault.TheVariants.{FieldCount}
use Rattle.crew_rules.specs.declared.settings.Settings.{Settings}
use Rattle.crew_serve.specs.Answers.{answer_text}
use Rattle.crew_serve.specs.Clients.{Client, Forgoes, Serves, newcomer}
use Rattle.crew_session.specs.Lines.{refused_line}
use Rattle.crew_session.specs.Rows.{records_of}

-- what records ask for that stand on one line: nothing where there is none; more than one are refused
abbrev pub command_of_rows : List Fields → Option Command
command_of_rows [] = None
command_of_rows (row ∷ []) = Some (command_of row)
command_of_rows (row ∷ other ∷ rows) = Some (Refuse FieldCount)

-- what the record of a line asks for
abbrev pub command_in : List ℕ → Option Command
command_in line = command_of_rows (records_of line)

-- what comes from a client: a line, one that is too long, one for which there was no memory, or that
-- the client leaves
pub data Coming : Type 0 where
  Line : (line : List ℕ) → Coming
  Long : Coming
  Lost : Coming
  Leaving : Coming

-- the number of a client's next record, after so many; it stops at the greatest number of 32 bits
abbrev pub next_number : ℕ → ℕ
next_number records = if nat_lt records 4_294_967_295 then records + 1 else records

-- a client: where it stands, and how many records it has sent
pub record Talk : Type 0 where
  pub client : Client
  pub records : ℕ

-- a record is told so, and counted
pub record Tells (Does : ℕ → Client → Client → List ℕ → Type 0) (a b : Talk) (text : List ℕ) : Type 0
  where
    pub counted : b.records ≡ next_number a.records
    pub does : Does b.records a.client b.client text

abbrev pub TellsLine : Settings → Option Command → Talk → Talk → List ℕ → Type 0
TellsLine s None a b text = (b ≡ a) × (text ≡ [])
TellsLine s (Some command) a b text = Tells (λ number. Serves s number command) a b text

-- a record is refused by a number, and nothing else changes
abbrev pub RefusesBy : ℕ → ℕ → Client → Client → List ℕ → Type 0
RefusesBy why number a b text = (b ≡ a) × (text ≡ refused_line number why)

abbrev pub TellsOf : Settings → Coming → Talk → Talk → List ℕ → Type 0
TellsOf s (Line line) a b text = TellsLine s (command_in line) a b text ⊎ Tells Forgoes a b text
TellsOf s Long a b text = Tells (RefusesBy 77) a b text
TellsOf s Lost a b text = Tells (RefusesBy 66) a b text
TellsOf s Leaving a b text =
    (b ≡ record { client = newcomer a.client.version; records = a.records }) × (text ≡ codes "left\n")

-- what comes is answered by what is told, from the version that the client has seen then
abbrev pub Answers : Settings → List ℕ → Coming → Talk → Talk → List ℕ → Type 0
Answers s name coming a b out = (text : List ℕ) × TellsOf s coming a b text
    × (out ≡ answer_text name b.client.version.number text)

-- all that comes from a client, one after another
abbrev pub Converses : Settings → List ℕ → List Coming → Talk → Talk → List ℕ → Type 0
Converses s name [] a b out = (b ≡ a) × (out ≡ [])
Converses s name (coming ∷ later) a b out =
    (c : Talk) × (first : List ℕ) × (rest : List ℕ) × Answers s name coming a c first
    × Converses s name later c b rest × (out ≡ first ++ rest)
