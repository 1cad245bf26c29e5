use Rattle.std.proofs.Common.{◌≡◌, ◌∙◌, sym, rules}
use Rattle.crew_resource.specs.Machinery.SumStages.{sum_staged}
use Rattle.crew_resource.specs.Stages.{boarded, shifted}
use Rattle.crew_resource.proofs.sum.SumResource.extend.Goals as goal

pub returns : goal.returns
returns g c =
    let a = c.args.self.now.amount in
    let v = c.args.value.now in
    let last = c.args.last.now in
    let next = c.args.next.now in
    let wait = shifted (g.A.Amount.wait_of a) in
    let step : c.board.result ≡ boarded (g.A.Amount.cap_of a) (g.A.Amount.own_of a) (wait v (g.A.Item.Placed.arrives last) (g.A.Item.Placed.leaves next)) next = search rules in
    let laws = sum_staged (g.A.Amount.cap_of a) g.A.Item.Placed.arrives g.A.Item.Placed.leaves (g.A.Amount.idle_of a) (g.A.Amount.wait_of a) (g.A.Amount.own_of a) in
    step ∙ sym (laws.extension v last next)
