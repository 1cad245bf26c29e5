use Rattle.std.proofs.Common.{refl}
use Rattle.crew_words.specs.Options.{settings_in}
use Rattle.crew_words.proofs.options.settings_from.Goals as goal

pub returns : goal.returns
unfolding settings_in
returns c = rw (
  c.number_of.ensures,
  c.number_of-2.ensures,
  c.number_of-3.ensures,
  c.number_of-4.ensures,
  c.number_of-5.ensures,
  c.number_of-6.ensures,
  c.number_of-7.ensures,
  c.number_of-8.ensures,
  c.number_of-9.ensures,
  c.number_of-10.ensures,
  c.number_of-11.ensures,
  c.number_of-12.ensures,
  c.number_of-13.ensures,
  c.number_of-14.ensures,
  c.number_of-15.ensures,
)
    (rw c.standard-standard.ensures.value refl)
