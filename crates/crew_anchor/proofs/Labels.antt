-- Labels that are local stay so when they are shown as of a minute.
use Rattle.std.proofs.Common.{◌≡◌, ℕ, true, List, [], ◌∷◌, inl, inr, ℤ, sym, ◌∙◌, ap}
use Rattle.crew_pairing.specs.Legs.{Leg}
use Rattle.crew_resource.specs.Labels.{IsLocal}
use Rattle.crew_resource.specs.Members.{Member}
use Rattle.crew_vector.specs.Dominance.{is_at_most}
use Rattle.crew_pairing.specs.Keys.{walk_at_most}
use Rattle.crew_pairing.specs.declared.vector.PairingVector.{PairingVector}
use Rattle.crew_anchor.specs.Anchors.{anchored, shown}
use Rattle.crew_anchor.specs.Sweeps.{shown_labels}
use Rattle.crew_anchor.proofs.Shifting.{anchored-exact, anchored-order, anchored-shown}

pub Member-shown : (rate : ℕ) (minute : ℤ) (labels : List (PairingVector × List (List Leg))) (v : PairingVector) (w : List (List Leg)) → Member labels (v, w) → Member (shown_labels rate minute labels) (shown rate minute v, w)
Member-shown rate minute [] v w h = absurd h
Member-shown rate minute (l ∷ labels) v w (inl e) = inl (ap (λ z. (shown rate minute z.0, z.1)) e)
Member-shown rate minute (l ∷ labels) v w (inr h) = inr (Member-shown rate minute labels v w h)

pub shown-Member : (rate : ℕ) (minute : ℤ) (labels : List (PairingVector × List (List Leg))) (v : PairingVector) (w : List (List Leg)) → Member (shown_labels rate minute labels) (v, w) → Member labels (anchored rate minute v, w)
shown-Member rate minute [] v w h = absurd h
shown-Member rate minute (l ∷ labels) v w (inl e) =
    inl (ap (λ z. (z, l.1)) (sym (anchored-shown rate minute l.0)) ∙ ap (λ z. (anchored rate minute z.0, z.1)) e)
shown-Member rate minute (l ∷ labels) v w (inr h) = inr (shown-Member rate minute labels v w h)

pub local-shown : (rate : ℕ) (minute : ℤ) (Before After : PairingVector → List (List Leg) → Type 0) (labels : List (PairingVector × List (List Leg)))
    → ((v : PairingVector) (w : List (List Leg)) → Before (anchored rate minute v) w → After v w)
    → ((v : PairingVector) (w : List (List Leg)) → After v w → Before (anchored rate minute v) w)
    → IsLocal is_at_most walk_at_most Before labels → IsLocal is_at_most walk_at_most After (shown_labels rate minute labels)
local-shown rate minute Before After labels to back local = record {
  among = λ v w m. to v w (local.among (anchored rate minute v) w (shown-Member rate minute labels v w m));
  covers = λ x y c.
      let k = local.covers (anchored rate minute x) y (back x y c) in
      let less : is_at_most (anchored rate minute (shown rate minute k.0)) (anchored rate minute x) ≡ true = ap (λ z. is_at_most z (anchored rate minute x)) (anchored-shown rate minute k.0) ∙ k.3 in
      (shown rate minute k.0, k.1, Member-shown rate minute labels k.0 k.1 k.2, sym (anchored-order rate minute (shown rate minute k.0) x) ∙ less, λ e. k.4 (sym (anchored-shown rate minute k.0) ∙ ap (anchored rate minute) e));
  alone = λ v w x y m n h.
      let k = local.alone (anchored rate minute v) w (anchored rate minute x) y (shown-Member rate minute labels v w m) (shown-Member rate minute labels x y n) (anchored-order rate minute v x ∙ h) in
      (anchored-exact rate minute v x k.0, k.1);
}
