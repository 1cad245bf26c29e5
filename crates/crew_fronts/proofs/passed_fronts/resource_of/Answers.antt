use Rattle.std.proofs.Common.{◌≡◌, rules}
use Rattle.crew_answers.specs.Shown.{long_resource}
use Rattle.crew_fronts.proofs.passed_fronts.resource_of.Goals as goal

pub returns-clause-counts : goal.returns-clause-counts
returns-clause-counts c =
    let s = c.args.course.now.settings in
    let is : c.new.result ≡ long_resource s c.args.price = search rules in
    c.long_passes_show_the_fronts.ensures.counts s c.args.price c.new.result is c.requires.checked c.requires.priced
