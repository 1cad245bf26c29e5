-- The order of nodes.
use Rattle.std.specs.declared.cmp.Ordering.{Ordering}
use Rattle.std.specs.Ordering.{then_cmp}
use Rattle.std.specs.Cmp.{IsTotalOrder, on_total, then_total}
use Rattle.crew_flights.specs.Codes.{code_cmp, code_cmp_total}
use Rattle.crew_net.specs.declared.node.Node.{Node}
use Rattle.crew_pairing.specs.Keys.{key_cmp, key_total}

-- nodes by base, then key
abbrev pub node_cmp : Node → Node → Ordering
node_cmp = then_cmp (λ a b. code_cmp a.base b.base) (λ a b. key_cmp a.key b.key)

pub node_total : IsTotalOrder node_cmp
node_total = then_total (on_total (λ n. n.base) code_cmp_total) (on_total (λ n. n.key) key_total)
