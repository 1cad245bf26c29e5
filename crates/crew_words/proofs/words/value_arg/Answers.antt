use Rattle.std.proofs.Common.{◌≡◌, ◌∙◌, ap}
use Rattle.std.specs.Prelude.{Some}
use Rattle.clap.specs.Words.{Rule, rule_of, new_rule}
use Rattle.clap.specs.declared.builder.action.ArgAction.TheVariants.{Set}
use Rattle.crew_words.proofs.words.value_arg.Goals as goal

pub returns-clause-rule : goal.returns-clause-rule
returns-clause-rule c =
    let name = c.args.name.now in
    let long : rule_of c.long.result ≡ record (new_rule name) { long = Some name } =
    ap rule_of c.long.ensures ∙ ap (λ (r : Rule). record r { long = Some name }) c.new.ensures.rule in
    let shown : rule_of c.help.result ≡ record (new_rule name) { long = Some name; value_names = 1 } =
    ap rule_of c.help.ensures ∙ (ap rule_of c.value_name.ensures ∙ ap (λ (r : Rule). record r { value_names = 1 }) long) in
    ap rule_of c.action.ensures ∙ ap (λ (r : Rule). record r { action = Some Set }) shown
