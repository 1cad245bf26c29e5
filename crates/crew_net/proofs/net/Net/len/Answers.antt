use Rattle.std.proofs.Common.{◌≡◌, length, ap, arith, rules, ◌∙◌}
use Rattle.crew_net.proofs.NodeList.{few-nodes}
use Rattle.crew_net.proofs.net.Net.len.Goals as goal

pub overflow_mul-result : goal.overflow_mul-result
overflow_mul-result c =
    let n = c.self.inside in
    let bases : c.len.result ≡ length n.bases.items = search rules in
    let duties : c.len-2.result ≡ length n.duties.value = c.len-2.ensures ∙ ap length c.deref.ensures in
    few-nodes c.len.result c.len-2.result (let f = c.self.invariant.few_bases in omega (arith, bases, f)) (let f = c.self.invariant.few in omega (arith, duties, f))
