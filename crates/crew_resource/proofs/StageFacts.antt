-- What the laws of the stages say of a step.
use Rattle.std.specs.Prelude.{◌≡◌, ℕ, Option}
use Rattle.std.proofs.Common.{sym, ◌∙◌}
use Rattle.crew_resource.specs.Stages.{BoundLaws}
use Rattle.crew_resource.specs.Machinery.Uses.{KeepsBound}

-- a value within the bound that waits and boards is within the bound for one item more
pub step_bound : {V I X G : Type 0} (is_sound : I → Type 0) (may_begin : G → Type 0) (may_follow : X → G → Type 0) (arrives : I → X) (leaves : I → G)
    (idle : G → V) (wait : V → X → G → V) (board : V → I → Option V)
    (can_start : I → Type 0) (can_extend : V → I → I → Type 0) (can_idle : G → Type 0) (can_wait : V → X → G → Type 0) (can_board : V → I → Type 0)
    (fits : ℕ → Type 0) (ready arrived : ℕ → V → Type 0)
    → BoundLaws is_sound may_begin may_follow arrives leaves idle wait board can_start can_extend can_idle can_wait can_board fits ready arrived
    → (v : V) (x : X) (i : I) (longer : Option V) → may_follow x (leaves i) → is_sound i → longer ≡ board (wait v x (leaves i)) i → KeepsBound arrived v longer
step_bound is_sound may_begin may_follow arrives leaves idle wait board can_start can_extend can_idle can_wait can_board fits ready arrived laws v x i longer follows sound e n z within some =
    laws.board_arrived n (wait v x (leaves i)) z i sound (laws.wait_ready n v x (leaves i) follows within) (sym e ∙ some)
