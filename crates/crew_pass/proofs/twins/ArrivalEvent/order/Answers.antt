use Rattle.std.proofs.Common.{◌∙◌, ap₂, sym}
use Rattle.std.specs.Ordering.{ordering_then}
use Rattle.crew_pass.proofs.Twinned.{tied-arrivals}
use Rattle.crew_pass.proofs.twins.ArrivalEvent.order.Goals as goal

pub returns : goal.returns
returns c e =
    tied-arrivals c.args.self.now c.args.other.now (sym (c.then.ensures ∙ ap₂ ordering_then c.cmp-airport.ensures c.cmp.ensures) ∙ e)
