-- What `--help` says of the options.
use Rattle.std.specs.Prelude.{◌+◌, ◌++◌, ℕ, List, [], ◌∷◌, codes, decimal}
use Rattle.crew_rules.specs.Settings.{standard}
use Rattle.crew_words.specs.declared.options.SettingOption.{SettingOption}

-- of one: the number of its setting, what it is, the numbers that it may have, its default and what
-- else there is to know of it
abbrev pub help_text : ℕ → SettingOption → ℕ → List ℕ
help_text number option default =
    codes "Setting " ++ decimal number ++ codes ". " ++ option.meaning.now
    ++ codes ": " ++ option.range.now ++ codes ", " ++ decimal default
    ++ codes " unless given" ++ option.note.now

-- of options and their defaults, from a number on
abbrev pub help_from : ℕ → List SettingOption → List ℕ → List (List ℕ)
help_from number [] defaults = []
help_from number (option ∷ options) [] = []
help_from number (option ∷ options) (default ∷ defaults) =
    help_text number option default ∷ help_from (number + 1) options defaults

-- the defaults of the settings, in the order of their numbers
abbrev pub defaults : List ℕ
defaults = standard.lead ∷ standard.debrief ∷ standard.connect ∷ standard.sit ∷ standard.max_rest
    ∷ standard.max_duties ∷ standard.fdp_cap ∷ standard.fly_cap ∷ standard.away_cap
    ∷ standard.duty_rig ∷ standard.trip_rig ∷ standard.duty_min ∷ standard.guarantee
    ∷ standard.deadheads ∷ standard.fdp_total ∷ []

-- of options in the order of the numbers of their settings, which begin with 1
abbrev pub help_of : List SettingOption → List (List ℕ)
help_of options = help_from 1 options defaults
