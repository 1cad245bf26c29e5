-- Pools of departures from which the labelling goes on.
use Rattle.std.proofs.Common.{◌≡◌, ◌∙◌, ◌++◌, true, List, [], ◌∷◌, refl, sym, subst, ⊎_elim, append-nil, append_assoc}
use Rattle.crew_label.specs.Pools.{AreRising}
use Rattle.crew_label.specs.Tables.{AreLinked, Tabled}
use Rattle.crew_label.specs.declared.label.Label.{Label}
use Rattle.crew_label.specs.declared.label.Link.{Link}
use Rattle.crew_label.proofs.Tabled.{leads_more, linked_more, trail_stays}
use Rattle.crew_resource.specs.Members.{Member}
use Rattle.crew_resource.proofs.Members.{Member-append}
use Rattle.crew_labelling.specs.Held.{AreReady, leads_of, trail_of}
use Rattle.crew_labelling.specs.Terms.{Terms}
use Rattle.crew_labelling.proofs.Stays.{held-still}

-- the table of these pools
abbrev pub tabled : {V : Type 0} → Terms V → List (List (Label V)) → Tabled V
tabled w pools = record { leaves = w.leaves; pools = pools }

-- each pool rises, has what labels at a departure have, and links into those before it
pub record AreSound {V : Type 0} (w : Terms V) (pools : List (List (Label V))) : Type 0 where
  pub linked : AreLinked w.leaves [] pools
  pub ready : (labels : List (Label V)) → Member pools labels → AreReady w (tabled w pools) labels
  pub rise : (labels : List (Label V)) → Member pools labels → AreRising w.cmp labels

pub none-sound : {V : Type 0} (w : Terms V) → AreSound w []
none-sound w = record { linked = tt; ready = λ labels m. absurd m; rise = λ labels m. absurd m }

-- what led to a label leads there still where there are more pools, with the same walk
pub all-lead : {V : Type 0} (w : Terms V) (pools more : List (List (Label V))) (link : Link) → leads_of (tabled w pools) link ≡ true
    → (leads_of (tabled w (pools ++ more)) link ≡ true) × (trail_of (tabled w (pools ++ more)) link ≡ trail_of (tabled w pools) link)
all-lead {V} w pools [] link h =
    subst (λ (ps : List (List (Label V))). (leads_of (tabled w ps) link ≡ true) × (trail_of (tabled w ps) link ≡ trail_of (tabled w pools) link)) (sym (append-nil pools)) (h, refl)
all-lead {V} w pools (p ∷ more) link h =
    let one = leads_more w.leaves pools (p ∷ []) link h in
    let rest = all-lead w (pools ++ p ∷ []) more link one in
    subst (λ (ps : List (List (Label V))). (leads_of (tabled w ps) link ≡ true) × (trail_of (tabled w ps) link ≡ trail_of (tabled w pools) link)) (append_assoc pools (p ∷ []) more)
    (rest.0, rest.1 ∙ trail_stays w.leaves pools p link h)

module _ {V : Type 0} (w : Terms V) (pools : List (List (Label V))) (pool : List (Label V)) where
  -- a pool more
  pub sound-more : AreSound w pools → AreReady w (tabled w pools) pool → AreRising w.cmp pool → AreSound w (pools ++ pool ∷ [])
  sound-more sound ready rises = record {
    linked = linked_more w.leaves [] pools pool sound.linked (λ l m. (ready l m).leading);
    ready = λ labels m. held-still (tabled w pools) (tabled w (pools ++ pool ∷ [])) (all-lead w pools (pool ∷ [])) w w.ready labels
        (⊎_elim {C = AreReady w (tabled w pools) labels} (sound.ready labels)
        (⊎_elim {C = AreReady w (tabled w pools) labels} (λ e. subst (λ (ls : List (Label V)). AreReady w (tabled w pools) ls) e ready) (λ z. absurd z))
        (Member-append pools (pool ∷ []) labels m));
    rise = λ labels m. ⊎_elim {C = AreRising w.cmp labels} (sound.rise labels)
        (⊎_elim {C = AreRising w.cmp labels} (λ e. subst (λ (ls : List (Label V)). AreRising w.cmp ls) e rises) (λ z. absurd z))
        (Member-append pools (pool ∷ []) labels m);
  }
