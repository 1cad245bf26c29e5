-- Numbers that rise along arcs, and are no greater than that asks for, are the lengths of longest
-- lists of arcs.
use Rattle.std.proofs.Common.{◌≡◌, ◌<◌, ◌≤◌, ◌+◌, ◌++◌, ◌∷◌, ◌⊎◌, [], inl, inr, ℕ, zero, suc, true, List, Some, length, length-append, get_or, refl, sym, ap, subst, ◌∙◌, arith, ⊎_elim}
use Rattle.std.specs.Prelude.{slice_get}
use Rattle.crew_pairing.specs.Pairings.{AllRested, last_duty, may_stand_after}
use Rattle.crew_pairing.specs.declared.duty.Duty.{Duty}
use Rattle.crew_pairing.proofs.Tree.{Each-push}
use Rattle.crew_resource.specs.Members.{Each, Member}
use Rattle.crew_resource.proofs.Members.{Member-at}
use Rattle.crew_pairing.specs.crew_rules.declared.settings.Settings.{Settings}
use Rattle.crew_net.specs.Layers.{IsLayer, IsPath}
use Rattle.crew_net.specs.Nets.{Net}

-- one more than the number of a duty that may stand just before
abbrev pub IsNextLayer : Net → List ℕ → Duty → ℕ → Type 0
IsNextLayer net layers d layer = (rank : ℕ) × (before : Duty) × (slice_get net.duties rank ≡ Some before)
    × (may_stand_after net.settings before d ≡ true) × (layer ≡ get_or layers rank 0 + 1)

pub stands : {X : Type 0} (xs : List X) (x : X) → Member xs x → (k : ℕ) × (slice_get xs k ≡ Some x)
stands [] x m = absurd m
stands {X} (y ∷ ys) x (inl e) = (0, ap (λ (z : X). Some z) e)
stands (y ∷ ys) x (inr m) = let k = stands ys x m in (suc k.0, k.1)

-- one duty more
rested-push : (s : Settings) (first : Duty) (others : List Duty) (d : Duty) → AllRested s first others → may_stand_after s (last_duty first others) d ≡ true → AllRested s first (others ++ d ∷ [])
rested-push s first [] d h e = (e, tt)
rested-push s first (x ∷ others) d h e = (h.0, rested-push s x others d h.1 e)

last-push : (first : Duty) (others : List Duty) (d : Duty) → last_duty first (others ++ d ∷ []) ≡ d
last-push first [] d = refl
last-push first (x ∷ others) d = last-push x others d

module _ (net : Net) (layers : List ℕ)
    (rising : (a b : ℕ) (d e : Duty) → slice_get net.duties a ≡ Some d → slice_get net.duties b ≡ Some e → may_stand_after net.settings d e ≡ true → get_or layers a 0 < get_or layers b 0)
    (least : (b : ℕ) (e : Duty) → slice_get net.duties b ≡ Some e → (get_or layers b 0 ≡ 0) ⊎ IsNextLayer net layers e (get_or layers b 0)) where
  -- each arc adds one at least
  rises : (n : ℕ) (first : Duty) (others : List Duty) (b : ℕ) → ((a : ℕ) → slice_get net.duties a ≡ Some first → n ≤ get_or layers a 0)
      → Each (Member net.duties) (first ∷ others) → AllRested net.settings first others → slice_get net.duties b ≡ Some (last_duty first others) → n + length others ≤ get_or layers b 0
  rises n first [] b low each rested at = let h = low b at in omega (arith, h)
  rises n first (next ∷ others) b low each rested at =
      let here = stands net.duties first each.0 in
      let from = low here.0 here.1 in
      let more = rises (suc n) next others b (λ a known. (let rise = rising here.0 a first next here.1 known rested.0 in omega (arith, from, rise))) each.1 rested.1 at in
      omega (arith, more)

  abbrev Path : Duty → ℕ → Type 0
  Path d n = (first : Duty) × (others : List Duty) × IsPath net first others d × (length others ≡ n)

  path-more : (before d : Duty) (n : ℕ) → Path before n → may_stand_after net.settings before d ≡ true → Member net.duties d → Path d (suc n)
  path-more before d n p may m =
      let others = p.1 in
      let long = length-append others (d ∷ []) in
      let e = p.3 in (
        p.0,
        others ++ d ∷ [],
        record {
          duties = Each-push (Member net.duties) (p.0 ∷ others) d p.2.duties m;
          rested = rested-push net.settings p.0 others d p.2.rested (subst (λ (x : Duty). may_stand_after net.settings x d ≡ true) (sym p.2.ends) may);
          ends = last-push p.0 others d;
        },
        omega (arith, long, e),
      )

  -- a list of arcs as long as the number
  path : (n b : ℕ) (d : Duty) → slice_get net.duties b ≡ Some d → get_or layers b 0 ≡ n → Path d n
  path zero b d at e = (d, [], record { duties = (Member-at net.duties b d at, tt); rested = tt; ends = refl }, refl)
  path (suc n) b d at e = ⊎_elim {C = Path d (suc n)}
      (λ z. absurd (omega (arith, z, e)))
      (λ t. (let f = t.4 in path-more t.1 d n (path n t.0 t.1 t.2 (omega (arith, e, f))) t.3 (Member-at net.duties b d at)))
      (least b d at)

  pub is-layer : (b : ℕ) (d : Duty) → slice_get net.duties b ≡ Some d → IsLayer net d (get_or layers b 0)
  is-layer b d at = record {
    most = λ first others p. (let all = rises 0 first others b (λ a known. omega arith) p.duties p.rested (at ∙ ap (λ (x : Duty). Some x) (sym p.ends)) in omega (arith, all));
    some = path (get_or layers b 0) b d at refl;
  }
