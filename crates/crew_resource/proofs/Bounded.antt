-- The value of a legal list lies within the bound for its number of items.
use Rattle.std.proofs.Common.{◌≡◌, ℕ, zero, suc, ◌+◌, ◌<◌, Bool, true, List, [], ◌∷◌, length, Option, Some, sym, ◌∙◌, ap, subst, ⊎_elim, arith, length-append}
use Rattle.crew_resource.specs.Members.{Member}
use Rattle.crew_resource.specs.Resource.{StepLaws}
use Rattle.crew_resource.specs.Stages.{StagedLaws, BoundLaws}
use Rattle.crew_resource.specs.Machinery.Paths.{PathTo}
use Rattle.crew_resource.proofs.Order.{IsOrder}
use Rattle.crew_resource.proofs.Members.{Member-filter_out}
use Rattle.crew_resource.proofs.Instance.{at_out, starting}

module _ (I V K : Type 0) (key : I → K) (known : List I) (may_start : I → Bool) (may_follow : I → I → Bool)
    (opens : I → Option V) (extends : V → I → I → Option V) (le : V → V → Bool) (value_of : List I → Option V)
    (order : IsOrder le) (laws : StepLaws opens extends le value_of)
    (wle : List K → List K → Bool) (walks : IsOrder wle) where
  abbrev pub Path : I → V → List K → Type 0
  Path = PathTo key known may_start may_follow value_of

  -- what a start gives and each extension keeps, each legal list's value has
  module _ (Holds : ℕ → V → Type 0)
      (starts : (d : I) (v : V) → Member known d → may_start d ≡ true → opens d ≡ Some v → Holds 1 v)
      (goes_on : (n : ℕ) (u v : V) (e d : I) → Member known e → Member known d → may_follow e d ≡ true → Holds n u → extends u e d ≡ Some v → Holds (suc n) v) where
    holds_below : (n : ℕ) (d : I) (v : V) (w : List K) → length w < n → Member known d → Path d v w → Holds (length w) v
    holds_below zero d v w h m p = absurd (omega arith)
    holds_below (suc n) d v w h m p = ⊎_elim {C = Holds (length w) v}
        (λ o.
        let k = starting I V K key known may_start may_follow opens extends le value_of order laws wle walks (may_start d) (opens d) v o.1 in
        subst (λ z. Holds z v) (sym (ap length o.0)) (starts d v m k.0 k.1))
        (λ s.
        let a = Member-filter_out (λ e. may_follow e d) known s.0 s.3 in
        let len : length w ≡ suc (length s.2) = let l = length-append s.2 (key d ∷ []) in let q = ap length s.6 in omega (arith, l, q) in
        let before = holds_below n s.0 s.1 s.2 (omega (arith, len)) a.0 s.4 in
        subst (λ z. Holds z v) (sym len) (goes_on (length s.2) s.1 v s.0 d a.0 m a.1 before s.5))
        (at_out I V K key known may_start may_follow opens extends le value_of order laws wle walks d v w p)

    pub path_holds : (d : I) (v : V) (w : List K) → Member known d → Path d v w → Holds (length w) v
    path_holds d v w m p = holds_below (length w + 1) d v w (omega arith) m p

  -- so the value of each legal list lies within the bound
  module _ (X G : Type 0) (is_sound : I → Type 0) (may_begin : G → Type 0) (may_come : X → G → Type 0) (arrives : I → X) (leaves : I → G)
      (idle : G → V) (wait : V → X → G → V) (board : V → I → Option V)
      (can_start : I → Type 0) (can_extend : V → I → I → Type 0) (can_idle : G → Type 0) (can_wait : V → X → G → Type 0) (can_board : V → I → Type 0)
      (fits : ℕ → Type 0) (ready arrived : ℕ → V → Type 0)
      (staged : StagedLaws opens extends le arrives leaves idle wait board)
      (bounds : BoundLaws is_sound may_begin may_come arrives leaves idle wait board can_start can_extend can_idle can_wait can_board fits ready arrived)
      (sound : (d : I) → Member known d → is_sound d)
      (begins : (d : I) → Member known d → may_start d ≡ true → may_begin (leaves d))
      (follows : (e d : I) → Member known e → Member known d → may_follow e d ≡ true → may_come (arrives e) (leaves d)) where
    pub path_arrived : (d : I) (v : V) (w : List K) → Member known d → Path d v w → arrived (length w) v
    path_arrived = path_holds arrived
        (λ d v m s e. bounds.board_arrived 0 (idle (leaves d)) v d (sound d m) (bounds.idle_ready (leaves d) (begins d m s)) (sym (staged.opening d) ∙ e))
        (λ n u v e d k m f h x. bounds.board_arrived n (wait u (arrives e) (leaves d)) v d (sound d m) (bounds.wait_ready n u (arrives e) (leaves d) (follows e d k m f) h) (sym (staged.extension u e d) ∙ x))
