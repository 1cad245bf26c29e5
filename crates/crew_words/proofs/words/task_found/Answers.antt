use Rattle.std.proofs.Common.{◌≡◌, ◌∙◌, List, Option, Some, None, ap, ap₂, sym, refl, false, true≢false}
use Rattle.std.specs.Option.{is_some, option_map}
use Rattle.std.specs.Prelude.{Box}
use Rattle.std.specs.Box.{box_value}
use Rattle.clap.specs.Words.{Row, Text, subcommand_rows}
use Rattle.clap.specs.declared.parser.matches.ArgMatches.TheViews.{out-ArgMatches, out-SubCommand}
use Rattle.clap.specs.declared.parser.matches.SubCommand.{SubCommand}
use Rattle.crew_words.specs.Words.{alone, task_by, task_named}
use Rattle.crew_words.specs.declared.task.Task.TheVariants.{Run}
use Rattle.crew_words.proofs.words.task_found.Goals as goal

found : {Z : Type 0} (o : Option (Box SubCommand Z)) (name : Text) (rows : List Row) → Some name ≡ option_map (λ b. (out-SubCommand (box_value b)).name.now) o
    → Some rows ≡ option_map (λ (p : Text × List Row). p.1) (subcommand_rows o) → task_named name rows ≡ task_by (subcommand_rows o)
found None name rows n r = cc n
found (Some b) name rows n r =
    let called : name ≡ (out-SubCommand (box_value b)).name.now = cc n in
    let given : rows ≡ _ = cc r in
    ap₂ task_named called given

none : {Z : Type 0} (o : Option (Box SubCommand Z)) → false ≡ is_some o → task_by (subcommand_rows o) ≡ task_by None
none None e = refl
none (Some p) e = absurd (true≢false (sym e))

pub returns-in-Some : goal.returns-in-Some
returns-in-Some c = c.task_named.ensures ∙ found (out-ArgMatches c.args.matches.now).subcommand _ _ c.in-Some.ensures.name c.in-Some.ensures.rows

pub returns-in-None : goal.returns-in-None
returns-in-None c = ap (λ s. Run s alone) c.standard.ensures.value ∙ sym (none (out-ArgMatches c.args.matches.now).subcommand c.in-None.ensures.variant)
