use Rattle.std.proofs.Common.{◌≡◌, ◌∙◌, ap, codes}
use Rattle.std.specs.Prelude.{Some, pos}
use Rattle.clap.specs.Words.{Rule, rule_of}
use Rattle.clap.specs.declared.builder.value_parser.ValueParser.TheVariants as vp
use Rattle.crew_words.specs.Words.{number_rule, value_rule}
use Rattle.crew_words.proofs.words.viewers_arg.Goals as goal

pub returns-clause-rule : goal.returns-clause-rule
unfolding number_rule
returns-clause-rule c =
    let given = c.value_parser-2.ensures.given in
    let made : c.range.result ≡ vp.Signed (pos 1) (pos 64) = rw (c.value_parser.ensures, c.new.ensures.start, c.new.ensures.end) at c.range.ensures in
    let parser : c.value_parser-2.result.value_parser ≡ Some (vp.Signed (pos 1) (pos 64)) = given.1 ∙ ap Some (given.2 ∙ made) in
    ap rule_of c.value_parser-2.ensures.others ∙ (ap (λ (r : Rule). record r { parser = c.value_parser-2.result.value_parser }) c.value_arg.ensures.rule
    ∙ ap (λ p. record (value_rule (codes "viewers")) { parser = p }) parser)
