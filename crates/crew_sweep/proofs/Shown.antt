-- Labels by key, and over walks that have grown.
use Rattle.std.proofs.Common.{◌≡◌, ◌∙◌, ℕ, zero, suc, Bool, true, false, List, [], ◌∷◌, length, map, get_or, Some, inl, inr, refl, sym, ap, subst}
use Rattle.std.specs.Prelude.{slice_get}
use Rattle.crew_net.specs.Nets.{Net}
use Rattle.crew_pairing.specs.Legs.{Leg}
use Rattle.crew_pairing.specs.declared.duty.Duty.{Duty}
use Rattle.crew_pairing.specs.declared.vector.PairingVector.{PairingVector}
use Rattle.crew_pool.specs.Counted.{AreCounted}
use Rattle.crew_pool.specs.LabelWalks.{IsPoolOf, shown}
use Rattle.crew_pool.specs.Ranks.{by_key, key_at}
use Rattle.crew_pool.specs.declared.label_walk.LabelWalk.{LabelWalk}
use Rattle.crew_resource.specs.Members.{Member}
use Rattle.crew_resource.proofs.Members.{Member-map_in, Member-map_out}
use Rattle.crew_carry.specs.crew_step.Walks.{HasGrown}
use Rattle.crew_carry.proofs.crew_step_lemmas.Grown.{all-shown-grown, counted-grown, shown-grown}
use Rattle.crew_sweep.specs.Machinery.Passing.{AreLabels, IsLabel, IsMade, IsPassing, passed_network}
use Rattle.crew_sweep.specs.Sweeps.{keyed}
use Rattle.crew_anchor.specs.declared.resource.AnchoredResource.{AnchoredResource}
use Rattle.crew_pairing.specs.Keys.{walk_at_most}
use Rattle.crew_resource.specs.Events.{Swept}
use Rattle.crew_vector.specs.Dominance.{is_at_most}

abbrev Labels : Type 0
Labels = List (PairingVector × LabelWalk)

abbrev pub by_rank : List Duty → PairingVector × List ℕ → PairingVector × List (List Leg)
by_rank duties e = (e.0, map (key_at duties) e.1)

pub keyed-in : (net : Net) (walks : List (List ℕ)) (labels : Labels) (e : PairingVector × List ℕ) → Member (map (shown walks) labels) e → Member (keyed net walks labels) (by_rank net.duties e)
keyed-in net walks labels e m = Member-map_in (by_rank net.duties) (map (shown walks) labels) e m

pub keyed-out : (net : Net) (walks : List (List ℕ)) (labels : Labels) (l : PairingVector × List (List Leg)) → Member (keyed net walks labels) l
    → (e : PairingVector × List ℕ) × Member (map (shown walks) labels) e × (by_rank net.duties e ≡ l)
keyed-out net walks labels l m = Member-map_out (by_rank net.duties) (map (shown walks) labels) l m

pub key-of : (ds : List Duty) (rank : ℕ) (d : Duty) → slice_get ds rank ≡ Some d → key_at ds rank ≡ d.key
key-of [] rank d h = absurd (let q : ⊥ = (cc) in q)
key-of (e ∷ ds) zero d h = let q : e ≡ d = (cc) in ap (λ (z : Duty). z.key) q
key-of (e ∷ ds) (suc rank) d h = key-of ds rank d h

-- each of some lists shows what it showed
pub same-map : {A B : Type 0} (f g : List A → List B) (xss : List (List A)) → ((xs : List A) → Member xss xs → f xs ≡ g xs) → map f xss ≡ map g xss
same-map f g [] h = refl
same-map f g (xs ∷ xss) h = ap (λ y. y ∷ map f xss) (h xs (inl refl)) ∙ ap (λ ys. g xs ∷ ys) (same-map f g xss (λ ys m. h ys (inr m)))

module _ (before after : List (List ℕ)) (grown : HasGrown before after) where
  pub keyed-grown : (net : Net) (whole : Bool) (labels : Labels) → AreCounted (λ (v : PairingVector). v.duties) before whole labels → keyed net after labels ≡ keyed net before labels
  keyed-grown net whole labels c = ap (by_key net.duties) (all-shown-grown (λ (v : PairingVector). v.duties) before after whole grown labels c)

  pub labels-grown : (r : AnchoredResource) (count : ℕ) (whole : Bool) (labels : Labels) → AreCounted (λ (v : PairingVector). v.duties) before whole labels → AreLabels r count before labels
      → AreLabels r count after labels
  labels-grown r count whole labels c k l m = subst (IsLabel r count) (sym (shown-grown before after grown l (c l m).there)) (k l m)

  -- a pass stands where it stood
  pub passing-grown : (net : Net) (base : List ℕ) (r : AnchoredResource) (pools : List Labels) (made : List Bool) (held : List Labels) → IsPassing net base r before pools made held → IsPassing net base r after pools made held
  passing-grown net base r pools made held p =
      let pools-same : map (keyed net after) pools ≡ map (keyed net before) pools = same-map (keyed net after) (keyed net before) pools (λ labels m. keyed-grown net true labels (p.whole labels m)) in
      let held-same : map (keyed net after) held ≡ map (keyed net before) held = same-map (keyed net after) (keyed net before) held (λ labels m. keyed-grown net false labels (p.pending labels m)) in
      record {
        settled = λ labels m.
            let same = all-shown-grown (λ (v : PairingVector). v.duties) before after false grown labels (p.pending labels m) in
            subst (λ (es : List (PairingVector × List ℕ)). IsPoolOf is_at_most es es) (sym same) (p.settled labels m);
        swept = subst (λ (hs : List (List (PairingVector × List (List Leg)))). Swept (passed_network net base r) is_at_most walk_at_most (length pools) (map (keyed net after) pools) (IsMade made) (λ x. get_or hs x [])) (sym held-same)
            (subst (λ (ps : List (List (PairingVector × List (List Leg)))). Swept (passed_network net base r) is_at_most walk_at_most (length pools) ps (IsMade made) (λ x. get_or (map (keyed net before) held) x [])) (sym pools-same) p.swept);
        marks = p.marks;
        long = p.long;
        whole = λ labels m l k. counted-grown (λ (v : PairingVector). v.duties) before after true grown l (p.whole labels m l k);
        pending = λ labels m l k. counted-grown (λ (v : PairingVector). v.duties) before after false grown l (p.pending labels m l k);
        pooled = λ labels m. labels-grown r (length net.duties) true labels (p.whole labels m) (p.pooled labels m);
        arrived = λ labels m. labels-grown r (length net.duties) false labels (p.pending labels m) (p.arrived labels m);
      }
