-- The pool of an arrival that no slide has merged is let go of.
use Rattle.std.proofs.Common.{◌≡◌, ◌∙◌, ◌<◌, ℕ, Bool, false, List, [], length, map, set, sym, subst, ⊎_elim, true≢false}
use Rattle.std.proofs.lemmas.Bool.Decides.{eqb_tells}
use Rattle.std.proofs.lemmas.Grind.{get_or-set_at}
use Rattle.std.proofs.lemmas.List.{get_or-set_other}
use Rattle.crew_anchor.specs.declared.resource.AnchoredResource.{AnchoredResource}
use Rattle.crew_net.specs.Nets.{Net}
use Rattle.crew_net.proofs.Slices.{set-long}
use Rattle.crew_pairing.specs.Keys.{walk_at_most}
use Rattle.crew_pairing.specs.Legs.{Leg}
use Rattle.crew_pairing.specs.declared.duty.Duty.{Duty}
use Rattle.crew_pairing.specs.declared.vector.PairingVector.{PairingVector}
use Rattle.crew_pool.specs.Counted.{AreCounted}
use Rattle.crew_pool.specs.LabelWalks.{IsPoolOf, shown}
use Rattle.crew_pool.specs.declared.label_walk.LabelWalk.{LabelWalk}
use Rattle.crew_resource.specs.Events.{Arriving, Network, Views}
use Rattle.crew_resource.specs.Labels.{IsLocal}
use Rattle.crew_sweep.specs.Machinery.Passing.{AreLabels, IsMade, IsPassing, passed_network}
use Rattle.crew_sweep.specs.Machinery.Sliding.{Covers}
use Rattle.crew_sweep.specs.Machinery.Slides.{AreUnderWay, CoverAny}
use Rattle.crew_sweep.specs.Sweeps.{keyed}
use Rattle.crew_sweep.specs.declared.slides.Slides.{Slides}
use Rattle.crew_sweep.proofs.Making.{each-set, set-other}
use Rattle.crew_sweep.proofs.Slidings.{sliding-framed}
use Rattle.crew_vector.specs.Dominance.{is_at_most}

abbrev Labels : Type 0
Labels = List (PairingVector × LabelWalk)

module _ (net : Net) (walks : List (List ℕ)) (made : List Bool) (held : List Labels) (place : ℕ) where
  abbrev made' : List Bool
  made' = set made place false

  abbrev held' : List Labels
  held' = set held place []

  -- what is made still was, and stands elsewhere
  elsewhere : place < length made → (p : ℕ) → IsMade made' p → (place ≡ p → ⊥) × IsMade made p
  elsewhere marked p m = ⊎_elim {C = (place ≡ p → ⊥) × IsMade made p}
      (λ t. absurd (true≢false (sym m ∙ get_or-set_at made place p false false (sym t.1) marked)))
      (λ f. (f.1, sym (get_or-set_other made place p false false (λ e. f.1 (sym e))) ∙ m))
      (eqb_tells place p)

  pub under-way-without : (s : Slides) → (CoverAny s place → ⊥) → AreUnderWay net walks made held s → AreUnderWay net walks made' held' s
  under-way-without s free under = record {
    long = under.long;
    sliding = record {
      numbers = under.sliding.numbers;
      each = λ slide m. sliding-framed walks held held' slide (λ p c. get_or-set_other held place p [] [] (λ e. free (slide, m, subst (Covers slide) e c))) (under.sliding.each slide m);
    };
    covered = λ p c. get_or-set_other made place p false false (λ e. free (subst (CoverAny s) e c)) ∙ under.covered p c;
  }

  module _ (base : List ℕ) (r : AnchoredResource) (pools : List Labels) where
    abbrev Num : Network Duty PairingVector (List (List Leg)) ℕ ℕ
    Num = passed_network net base r

    pub passing-without : place < length made → IsPassing net base r walks pools made held → IsPassing net base r walks pools made' held'
    passing-without marked passing = record {
      swept = record {
        long = passing.swept.long;
        sealed = λ p m. passing.swept.sealed p (elsewhere marked p m).1;
        arrived = λ p m. let old = elsewhere marked p m in subst (IsLocal is_at_most walk_at_most (Arriving Num (Views Num (map (keyed net walks) pools)) p)) (sym (set-other (keyed net walks) held place p [] old.0)) (passing.swept.arrived p old.1);
        before = passing.swept.before;
        pooled = passing.swept.pooled;
      };
      marks = set-long made place false ∙ passing.marks;
      long = set-long held place [] ∙ passing.long;
      settled = each-set (λ (ls : Labels). IsPoolOf is_at_most (map (shown walks) ls) (map (shown walks) ls)) held place [] passing.settled (record { among = λ v w k. absurd k; covers = λ v w k. absurd k; alone = λ v w x y k. absurd k });
      whole = passing.whole;
      pending = each-set (AreCounted (λ (v : PairingVector). v.duties) walks false) held place [] passing.pending (λ l k. absurd k);
      pooled = passing.pooled;
      arrived = each-set (AreLabels r (length net.duties) walks) held place [] passing.arrived (λ l k. absurd k);
    }
