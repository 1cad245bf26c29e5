use Rattle.std.proofs.Common.{◌≡◌, sym, subst, true}
use Rattle.crew_fronts.proofs.Sweeps.{plain-away}
use Rattle.crew_fronts.specs.Fronts.{is_plain}
use Rattle.crew_plan.proofs.plan.plain_of.Goals as goal

pub returns-clause-kind : goal.returns-clause-kind
returns-clause-kind c = record {
  short = subst (λ x. is_plain x ≡ true) (sym c.in_ok-plan.ensures.plan.network.2.settings) c.requires.plain;
  settings = c.args.settings.now;
  timetable = c.args.timetable.now;
  checked = c.requires.checked;
  sound = c.see_dates.ensures.sound;
  planned = c.in_ok-plan.ensures.plan;
}

pub of-requires-clause-sums : goal.of-requires-clause-sums
of-requires-clause-sums c = record {
  away = plain-away c.args.settings.now c.requires.plain;
}
