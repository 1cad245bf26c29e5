use Rattle.std.proofs.Common.{◌≡◌, ◌∙◌, [], ◌∷◌, ap, ap₂, codes, true, false}
use Rattle.std.proofs.lemmas.Result.{IfOk-weaker}
use Rattle.clap.specs.Words.{App, app_of, with_subcommand}
use Rattle.clap.specs.Simple.{new_shape}
use Rattle.crew_words.specs.Words.{program, run_command, sub_up_to}
use Rattle.crew_words.proofs.words.program.Goals as goal

pub returns : goal.returns
unfolding program
returns c =
    let top : app_of c.disable_help_subcommand.result
    ≡ record { top = record (new_shape (codes "crewprice")) { subcommand_required = true; disable_help_subcommand = true; has_version = true }; subs = [] } =
    rw c.disable_help_subcommand.ensures (rw c.subcommand_required.ensures (rw c.version.ensures (rw c.about.ensures
    (ap (λ (a : App). record a { top = record a.top { subcommand_required = true; disable_help_subcommand = true; has_version = true } }) c.new.ensures.app)))) in
    let first : app_of c.in_ok-subcommand.field-0
    ≡ record { top = record (new_shape (codes "crewprice")) { is_leaf = false; subcommand_required = true; disable_help_subcommand = true; has_version = true }; subs = run_command.top ∷ [] } =
    c.in_ok-subcommand.ensures.shape c.requires.local ∙ ap₂ with_subcommand top (ap (λ (a : App). a.top) c.requires.run) in
    let second : app_of c.in_ok-subcommand-2.field-0
    ≡ record { top = record (new_shape (codes "crewprice")) { is_leaf = false; subcommand_required = true; disable_help_subcommand = true; has_version = true }; subs = run_command.top ∷ (sub_up_to (codes "replay") 15).top ∷ [] } =
    c.in_ok-subcommand-2.ensures.shape c.requires.local_too ∙ ap₂ with_subcommand first (ap (λ (a : App). a.top) c.requires.replay) in
    IfOk-weaker c.subcommand-3.result _ _ (λ _ added. added.shape c.requires.local_as_well ∙ ap₂ with_subcommand second (ap (λ (a : App). a.top) c.requires.serve)) c.subcommand-3.ensures
