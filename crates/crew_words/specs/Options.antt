-- What the options of a subcommand stand for.
use Rattle.std.specs.Prelude.{ℕ, ◌^◌, ◌&&◌, Bool, nat_lt, List, length, Option, Some, None, codes, if◌then◌else◌}
use Rattle.std.specs.Char.{digit_value}
use Rattle.std.specs.List.{list_all}
use Rattle.std.specs.Str.Parse.{digits_value, without_leading_plus}
use Rattle.clap.specs.Words.{Row, one_of}
use Rattle.crew_rules.specs.declared.settings.Settings.{Settings}
use Rattle.crew_rules.specs.Settings.{standard}
use Rattle.crew_words.specs.declared.task.Hosting.{Hosting}
use Rattle.crew_words.specs.declared.task.Sharing.{Sharing}

-- one decimal digit or more, and nothing else
abbrev pub is_numeral : List ℕ → Bool
is_numeral digits = nat_lt 0 (length digits) && list_all (λ c. nat_lt (digit_value c) 10) digits

-- a numeral of a 32-bit number
abbrev pub is_number : List ℕ → Bool
is_number digits = is_numeral digits && nat_lt (digits_value 10 digits) (2 ^ 32)

-- the number of an option, by its text, or its default where it isn't given
abbrev pub number_in : Option (List ℕ) → ℕ → ℕ
number_in None default = default
number_in (Some text) default = if is_number (without_leading_plus text) then digits_value 10
    (without_leading_plus text) else default

-- how the work is shared: by nobody else, and nothing is told, unless it is given
abbrev pub sharing_in : List Row → Sharing
sharing_in rows = record {
  workers = number_in (one_of (codes "workers") rows) 0;
  progress = number_in (one_of (codes "progress") rows) 0;
}

-- what a service has room for: 64 clients, each of which may edit, and two workers unless it is given
abbrev pub hosting_in : List Row → Hosting
hosting_in rows = record {
  seats = number_in (one_of (codes "seats") rows) 64;
  viewers = number_in (one_of (codes "viewers") rows) 64;
  workers = number_in (one_of (codes "workers") rows) 2;
}

-- each setting is the number of the option of its name
unfoldable pub settings_in : List Row → Settings
settings_in rows = record {
  lead = number_in (one_of (codes "lead") rows) standard.lead;
  debrief = number_in (one_of (codes "debrief") rows) standard.debrief;
  connect = number_in (one_of (codes "connect") rows) standard.connect;
  sit = number_in (one_of (codes "sit") rows) standard.sit;
  max_rest = number_in (one_of (codes "max-rest") rows) standard.max_rest;
  max_duties = number_in (one_of (codes "max-duties") rows) standard.max_duties;
  fdp_cap = number_in (one_of (codes "fdp-cap") rows) standard.fdp_cap;
  fly_cap = number_in (one_of (codes "fly-cap") rows) standard.fly_cap;
  away_cap = number_in (one_of (codes "away-cap") rows) standard.away_cap;
  duty_rig = number_in (one_of (codes "duty-rig") rows) standard.duty_rig;
  trip_rig = number_in (one_of (codes "trip-rig") rows) standard.trip_rig;
  duty_min = number_in (one_of (codes "duty-min") rows) standard.duty_min;
  guarantee = number_in (one_of (codes "guarantee") rows) standard.guarantee;
  deadheads = number_in (one_of (codes "deadheads") rows) standard.deadheads;
  fdp_total = number_in (one_of (codes "fdp-total") rows) standard.fdp_total;
}
