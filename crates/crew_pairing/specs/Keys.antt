-- The order of legs, of keys and of walks.
use Rattle.std.specs.Prelude.{Bool, List}
use Rattle.std.specs.declared.cmp.Ordering.{Ordering}
use Rattle.std.specs.Ordering.{bool_cmp, is_le, nat_cmp, then_cmp}
use Rattle.std.specs.Cmp.{IsTotalOrder, bool_cmp_total, nat_cmp_total, on_total, then_total}
use Rattle.std.specs.Cmp.Lexicographic.{lists_total, slice_cmp}
use Rattle.crew_pairing.specs.Legs.{Leg}

-- legs by the number of their flight, flown before deadheaded
abbrev pub leg_cmp : Leg → Leg → Ordering
leg_cmp = then_cmp (λ a b. nat_cmp a.flight b.flight) (λ a b. bool_cmp a.deadhead b.deadhead)

pub leg_total : IsTotalOrder leg_cmp
leg_total = then_total (on_total (λ l. l.flight) nat_cmp_total)
    (on_total (λ l. l.deadhead) bool_cmp_total)

-- keys leg by leg, a proper beginning first
abbrev pub key_cmp : List Leg → List Leg → Ordering
key_cmp = slice_cmp leg_cmp

pub key_total : IsTotalOrder key_cmp
key_total = lists_total leg_total

-- walks key by key, a proper beginning first
abbrev pub walk_cmp : List (List Leg) → List (List Leg) → Ordering
walk_cmp = slice_cmp key_cmp

-- one walk is at most another
abbrev pub walk_at_most : List (List Leg) → List (List Leg) → Bool
walk_at_most a b = is_le (walk_cmp a b)

pub walk_total : IsTotalOrder walk_cmp
walk_total = lists_total key_total
