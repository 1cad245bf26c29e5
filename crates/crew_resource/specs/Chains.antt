-- Chains: lists in which each entry follows the one before it, by any relation.
use Rattle.std.specs.Prelude.{List, [], ◌∷◌}

-- each of these follows the one before it, the first of them v
abbrev pub ChainFrom : {V : Type 0} → (V → V → Type 0) → V → List V → Type 0
ChainFrom follows v [] = Unit {0}
ChainFrom follows v (w ∷ ws) = follows v w × ChainFrom follows w ws

-- each entry of a list follows the one before it
abbrev pub IsChain : {V : Type 0} → (V → V → Type 0) → List V → Type 0
IsChain follows [] = Unit {0}
IsChain follows (v ∷ vs) = ChainFrom follows v vs
