-- The command line as it is built, option by option.
use Rattle.std.proofs.Common.{◌≡◌, ◌∙◌, ◌<◌, ◌+◌, ◌++◌, ◌||◌, ℕ, false, List, [], ◌∷◌, length, map, take, ap, ap₂, sym, get_or, arith}
use Rattle.std.specs.List.{slice_index_or}
use Rattle.std.proofs.lemmas.List.{take_more, get_or-map, map-append, length-map}
use Rattle.clap.specs.Words.{AddsArg, App, app_of, rule_of, with_rule}
use Rattle.clap.specs.declared.builder.arg.Arg.{Arg}
use Rattle.clap.specs.declared.builder.command.Command.{Command}
use Rattle.clap.specs.declared.builder.command.Command.TheViews.{out-Command}
use Rattle.clap.specs.Words.{Text}
use Rattle.crew_words.specs.Words.{names, option_rule, sub_up_to, sub_with}
use Rattle.crew_words.specs.declared.options.SettingOption.{SettingOption}

-- with the next option of the table, a subcommand has one more
more : (sub : Text) (table : List SettingOption) (i : ℕ) (d : SettingOption) (a : App) → map (λ o. o.name.now) table ≡ names → i < length table
    → a ≡ sub_up_to sub i → with_rule a (option_rule (slice_index_or table i d).name.now) ≡ sub_up_to sub (i + 1)
unfolding sub_up_to
more sub table i d a named lt built =
    let name = (slice_index_or table i d).name.now in
    let inside : i < length names = omega (arith, length-map table (λ (o : SettingOption). o.name.now), ap length named) in
    let here : get_or names i name ≡ name = sym (ap (λ l. get_or l i name) named) ∙ get_or-map (λ (o : SettingOption). o.name.now) table i d name lt in
    let longer : take (i + 1) names ≡ take i names ++ name ∷ [] = take_more names i name inside ∙ ap (λ n. take i names ++ n ∷ []) here in
    ap (λ b. with_rule b (option_rule name)) built
    ∙ ap (sub_with sub) (sym (map-append option_rule (take i names) (name ∷ [])) ∙ ap (map option_rule) (sym longer))

pub command-more : (sub : Text) (table : List SettingOption) (i : ℕ) (d : SettingOption) (old new : Command) (arg : Arg) → rule_of arg ≡ option_rule (slice_index_or table i d).name.now
    → arg.global ≡ false → AddsArg old arg new → app_of old ≡ sub_up_to sub i → i < length table → map (λ o. o.name.now) table ≡ names → app_of new ≡ sub_up_to sub (i + 1)
command-more sub table i d old new arg rule local added built lt named = added.shape local ∙ (ap (with_rule (app_of old)) rule ∙ more sub table i d (app_of old) named lt built)

pub globals-none : (old new : Command) (arg : Arg) → (out-Command old).has_globals ≡ false → arg.global ≡ false → AddsArg old arg new → (out-Command new).has_globals ≡ false
globals-none old new arg none local added = added.globals ∙ ap₂ (λ a b. a || b) none local
