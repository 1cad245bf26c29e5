-- The command line: `crewprice run`, `crewprice replay` and `crewprice serve`, each with an option for
-- each setting, `run` with the number of workers and how often it is told how far a settle is, `serve`
-- with the numbers of seats, clients and workers, `--help` and `--version`.
use Rattle.std.specs.Prelude.{ℤ, pos, true, false, List, [], ◌∷◌, map, take, ℕ, Option, Some, None, codes, if◌then◌else◌}
use Rattle.std.specs.Str.{bytes_eq}
use Rattle.clap.specs.Faults.{fault_of}
use Rattle.clap.specs.Kinds.{Kinds}
use Rattle.clap.specs.Words.{App, Row, Rule, Text, new_rule, subcommand_of, with_rule}
use Rattle.clap.specs.Simple.{new_shape}
use Rattle.clap.specs.declared.builder.action.ArgAction.TheVariants.{Set}
use Rattle.clap.specs.declared.builder.value_parser.ValueParser.TheVariants as parser
use Rattle.crew_rules.specs.Settings.{standard}
use Rattle.crew_rules.specs.declared.settings.Settings.{Settings}
use Rattle.crew_words.specs.Options.{hosting_in, settings_in, sharing_in}
use Rattle.crew_words.specs.declared.task.Sharing.{Sharing}
use Rattle.crew_words.specs.declared.task.Task.{Task}
use Rattle.crew_words.specs.declared.task.Task.TheVariants.{Run, Replay, Serve}

-- the options, in the order of the numbers of their settings
abbrev pub names : List Text
names = codes "lead" ∷ codes "debrief" ∷ codes "connect" ∷ codes "sit" ∷ codes "max-rest" ∷ codes
    "max-duties" ∷ codes "fdp-cap"
    ∷ codes "fly-cap" ∷ codes "away-cap" ∷ codes "duty-rig" ∷ codes "trip-rig" ∷ codes "duty-min"
    ∷ codes "guarantee"
    ∷ codes "deadheads" ∷ codes "fdp-total" ∷ []

-- an option that takes one value
abbrev pub value_rule : Text → Rule
value_rule name =
    record (new_rule name) { long = Some name; action = Some Set; value_names = 1 }

-- .. which is a whole number from a least to a greatest one
unfoldable pub number_rule : Text → ℤ → ℤ → Rule
number_rule name least most = record (value_rule name) { parser = Some (parser.Signed least most) }

-- that of a setting is 0 to 1,000,000
abbrev pub option_rule : Text → Rule
option_rule name = number_rule name (pos 0) (pos 1_000_000)

-- the number of workers 0 to 64, and the seconds between two lines that tell how far a settle is 0 to
-- 3,600
abbrev pub workers_rule : Rule
workers_rule = number_rule (codes "workers") (pos 0) (pos 64)

abbrev pub progress_rule : Rule
progress_rule = number_rule (codes "progress") (pos 0) (pos 3_600)

-- the clients of a service that may edit 0 to 64, and all of them 1 to 64
abbrev pub seats_rule : Rule
seats_rule = number_rule (codes "seats") (pos 0) (pos 64)

abbrev pub viewers_rule : Rule
viewers_rule = number_rule (codes "viewers") (pos 1) (pos 64)

-- a subcommand of this name with these options
abbrev pub sub_with : Text → List Rule → App
sub_with name rules = record { top = record (new_shape name) { rules = rules }; subs = [] }

-- .. with the first options
unfoldable pub sub_up_to : Text → ℕ → App
sub_up_to name count = sub_with name (map option_rule (take count names))

-- the subcommand of a session, with all options, the number of workers and the seconds between lines
unfoldable pub run_command : App
run_command = with_rule (with_rule (sub_up_to (codes "run") 15) workers_rule) progress_rule

-- the subcommand of a service, with all options and the numbers of seats, of clients and of workers
unfoldable pub serve_command : App
serve_command = with_rule (with_rule (with_rule (sub_up_to (codes "serve") 15) seats_rule)
    viewers_rule) workers_rule

-- the whole command line: a subcommand is wanted, `run`, `replay` and `serve` are the only ones, and
-- `help` is none
unfoldable pub program : App
program = record {
  top = record (new_shape (codes "crewprice")) {
    is_leaf = false;
    subcommand_required = true;
    disable_help_subcommand = true;
    has_version =
        true;
  };
  subs = run_command.top ∷ (sub_up_to (codes "replay") 15).top ∷ serve_command.top ∷ [];
}

-- the faults of words, by kind; none where the parser takes them. The first word is the program's
-- own name
unfoldable pub faults_in : List Text → Kinds
faults_in words = fault_of program words

-- what a subcommand asks for, by its name and what the words after it give
abbrev pub task_named : Text → List Row → Task
task_named name rows =
    if bytes_eq name (codes "replay") then Replay (settings_in rows) else if
    bytes_eq name (codes "serve") then Serve (settings_in rows) (hosting_in rows) else Run
    (settings_in rows) (sharing_in rows)

-- nobody else works, and nothing is told
abbrev pub alone : Sharing
alone = record { workers = 0; progress = 0 }

abbrev pub task_by : Option (Text × List Row) → Task
task_by None = Run standard alone
task_by (Some sub) = task_named sub.0 sub.1

-- what words ask for: a session whose work is shared so, a schedule, or a service that has room for so
-- many, under the settings that they give
unfoldable pub task_of : List Text → Task
task_of words = task_by (subcommand_of program words)

-- the settings of a task
abbrev pub settings_of : Task → Settings
settings_of (Run s sharing) = s
settings_of (Replay s) = s
settings_of (Serve s hosting) = s
