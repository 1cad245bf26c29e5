use Rattle.std.proofs.Common.{◌∙◌, ap}
use Rattle.clap.proofs.WalkLemmas.{one_text-rows}
use Rattle.clap.specs.Words.{found_of}
use Rattle.crew_words.specs.Options.{number_in}
use Rattle.crew_words.proofs.OptionFacts.{number-read}
use Rattle.crew_words.proofs.options.number_of.Goals as goal

pub returns : goal.returns
returns c = c.unwrap_or.ensures ∙ (number-read _ c.args.default c.get_one.result c.get_one.ensures.none c.get_one.ensures.value
    ∙ ap (λ o. number_in o c.args.default) (one_text-rows (found_of c.args.found.now) c.args.name.now))
