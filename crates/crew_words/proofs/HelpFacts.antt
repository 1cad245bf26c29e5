-- How the help of options goes on.
use Rattle.std.proofs.Common.{◌≡◌, ◌<◌, ◌≤◌, ◌+◌, ℕ, List, [], ◌∷◌, ◌++◌, length, get_or, drop, map, ap₂, append_assoc, append-nil}
use Rattle.std.proofs.lemmas.List.{at_drop_all, drop_more, map_push}
use Rattle.crew_words.specs.Help.{defaults, help_from, help_of, help_text}
use Rattle.crew_words.specs.declared.options.SettingOption.{SettingOption}

-- the texts are the help of the first options, this many: with that of the others they are the whole
abbrev pub IsHelpOf : {X : Type 0} → (X → List ℕ) → List X → List SettingOption → ℕ → Type 0
IsHelpOf bytes texts options i = map bytes texts ++ help_from (i + 1) (drop i options) (drop i defaults) ≡ help_of options

-- with one more text, the help of the next option
pub help-more : {X : Type 0} (bytes : X → List ℕ) (texts : List X) (text : X) (options : List SettingOption) (i : ℕ) (o : SettingOption) → i < length options → i < length defaults
    → bytes text ≡ help_text (i + 1) (get_or options i o) (get_or defaults i 0) → IsHelpOf bytes texts options i → IsHelpOf bytes (texts ++ text ∷ []) options (i + 1)
help-more bytes texts text options i o h k said so_far =
    let next = ap₂ (help_from (i + 1)) (drop_more options i o h) (drop_more defaults i 0 k) in
    rw (map_push, append_assoc, said) (rw next at so_far)

-- where no option is left
pub help-all : {X : Type 0} (bytes : X → List ℕ) (texts : List X) (options : List SettingOption) (i : ℕ) → length options ≤ i → IsHelpOf bytes texts options i → map bytes texts ≡ help_of options
help-all bytes texts options i h so_far =
    let none = at_drop_all (λ (os : List SettingOption). help_from (i + 1) os (drop i defaults)) options i h in
    rw (none, append-nil) at so_far
