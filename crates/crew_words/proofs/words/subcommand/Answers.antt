use Rattle.std.proofs.Common.{◌≡◌, ◌∙◌, ap, refl, subst, sym}
use Rattle.std.proofs.lemmas.Result.{IfOk-weaker}
use Rattle.clap.specs.Words.{App, Text, app_of, new_app}
use Rattle.crew_words.specs.Words.{sub_up_to}
use Rattle.crew_words.proofs.words.subcommand.Goals as goal

pub with_options-requires-clause-bare : goal.with_options-requires-clause-bare
unfolding sub_up_to
with_options-requires-clause-bare c =
    let made : app_of c.next_line_help-bare.result ≡ new_app c.args.name.now = rw c.next_line_help-bare.ensures (rw c.after_help.ensures (rw c.about.ensures c.new.ensures.app)) in
    subst (λ (a : App). a ≡ sub_up_to a.top.name 0) (sym made) refl

pub returns-clause-shape : goal.returns-clause-shape
returns-clause-shape c =
    let made : app_of c.next_line_help-bare.result ≡ new_app c.args.name.now = rw c.next_line_help-bare.ensures (rw c.after_help.ensures (rw c.about.ensures c.new.ensures.app)) in
    IfOk-weaker c.with_options.result _ _ (λ _ shape. shape ∙ ap (λ (n : Text). sub_up_to n 15) (ap (λ (a : App). a.top.name) made)) c.with_options.ensures.shape
