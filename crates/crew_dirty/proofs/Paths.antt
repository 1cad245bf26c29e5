-- Lists of arcs: one duty more at the end, and one less.
use Rattle.std.proofs.Common.{◌≡◌, ◌++◌, ◌∷◌, ◌⊎◌, [], inl, inr, true, List, refl, sym, subst}
use Rattle.crew_net.specs.Layers.{IsPath}
use Rattle.crew_net.specs.Nets.{Net}
use Rattle.crew_pairing.proofs.Tree.{Each-push}
use Rattle.crew_pairing.specs.Pairings.{AllRested, last_duty, may_stand_after}
use Rattle.crew_pairing.specs.declared.duty.Duty.{Duty}
use Rattle.crew_resource.specs.Members.{Member}
use Rattle.crew_rules.specs.declared.settings.Settings.{Settings}

rested-push : (s : Settings) (first : Duty) (others : List Duty) (d : Duty) → AllRested s first others → may_stand_after s (last_duty first others) d ≡ true → AllRested s first (others ++ d ∷ [])
rested-push s first [] d h e = (e, tt)
rested-push s first (x ∷ others) d h e = (h.0, rested-push s x others d h.1 e)

last-push : (first : Duty) (others : List Duty) (d : Duty) → last_duty first (others ++ d ∷ []) ≡ d
last-push first [] d = refl
last-push first (x ∷ others) d = last-push x others d

module _ (net : Net) where
  pub path-none : (d : Duty) → Member net.duties d → IsPath net d [] d
  path-none d m = record { duties = (m, tt); rested = tt; ends = refl }

  pub path-more : (first : Duty) (others : List Duty) (e d : Duty) → IsPath net first others e → may_stand_after net.settings e d ≡ true → Member net.duties d → IsPath net first (others ++ d ∷ []) d
  path-more first others e d p may m = record {
    duties = Each-push (Member net.duties) (first ∷ others) d p.duties m;
    rested = rested-push net.settings first others d p.rested (subst (λ (x : Duty). may_stand_after net.settings x d ≡ true) (sym p.ends) may);
    ends = last-push first others d;
  }

  -- a list of arcs to one that may stand just before
  abbrev pub LeadsOn : Duty → Duty → Type 0
  LeadsOn first d = (e : Duty) × (others : List Duty) × IsPath net first others e × Member net.duties e × (may_stand_after net.settings e d ≡ true)

  pub path-less : (first : Duty) (others : List Duty) (d : Duty) → IsPath net first others d → (first ≡ d) ⊎ LeadsOn first d
  path-less first [] d p = inl p.ends
  path-less first (x ∷ others) d p =
      let rest : IsPath net x others d = record { duties = p.duties.1; rested = p.rested.1; ends = p.ends } in
      elim (path-less x others d rest) as (λ _. (first ≡ d) ⊎ LeadsOn first d) [
        | inl e ↦ inr (first, [], path-none first p.duties.0, p.duties.0, subst (λ (y : Duty). may_stand_after net.settings first y ≡ true) e p.rested.0)
        | inr k ↦
            let longer : IsPath net first (x ∷ k.1) k.0 = record { duties = (p.duties.0, k.2.duties); rested = (p.rested.0, k.2.rested); ends = k.2.ends } in
            inr (k.0, x ∷ k.1, longer, k.3, k.4)
      ]
