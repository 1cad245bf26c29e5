-- What comes into a window where something has changed, gathered arrival by arrival.
use Rattle.std.proofs.Common.{◌≡◌, ◌<◌, ◌≤◌, ◌+◌, ◌⊎◌, ℕ, Bool, true, false, List, [], ◌++◌, map, get_or, Some, inl, inr, sym, subst, ⊎_elim, arith, ◌∙◌}
use Rattle.std.specs.Prelude.{IfOk, Result, Ok, Err, slice_get}
use Rattle.std.proofs.lemmas.Bool.{false≢true}
use Rattle.crew_carry.specs.Twins.{Twins}
use Rattle.crew_net.proofs.Slices.{get-at, listed-at, member-got}
use Rattle.crew_pairing.specs.declared.vector.PairingVector.{PairingVector}
use Rattle.crew_pool.specs.Counted.{AreCounted}
use Rattle.crew_pool.specs.LabelWalks.{IsPoolOf, ranks_at_most, shown}
use Rattle.crew_pool.specs.declared.label_walk.LabelWalk.{LabelWalk}
use Rattle.crew_resource.specs.Labels.{IsLocal}
use Rattle.crew_resource.specs.Members.{Member}
use Rattle.crew_resource.proofs.Members.{Member-map_out}
use Rattle.crew_carry.specs.crew_step.Walks.{HasGrown}
use Rattle.crew_carry.proofs.crew_step_lemmas.Grown.{all-shown-grown}
use Rattle.crew_sweep.specs.Machinery.Mending.{Changed, IsChangedPart, is_unchanged}
use Rattle.crew_sweep.specs.Machinery.Parts.{AreHeld}
use Rattle.crew_sweep.proofs.Fronts.{local-same}
use Rattle.crew_sweep.proofs.Parts.{joined-local, own}
use Rattle.crew_vector.specs.Dominance.{is_at_most}

abbrev Labels : Type 0
Labels = List (PairingVector × LabelWalk)

-- what two clauses give of what went well
pub if-both : {A E : Type 0} (result : Result A E) (P Q R : A → Type 0) → IfOk result P → IfOk result Q → ((a : A) → P a → Q a → R a) → IfOk result R
if-both (Ok a) P Q R p q f = f a p q
if-both (Err e) P Q R p q f = tt

pub before-or-at : (k n : ℕ) → k < n + 1 → (k < n) ⊎ (k ≡ n)
before-or-at k n h = grind arith

module _ (t : Twins) (changed : List Bool) (walks : List (List ℕ)) (held : List Labels) where
  pub changed-none : (place : ℕ) → IsChangedPart t changed walks held place place []
  changed-none place = record {
    local = record {
      among = λ v w m. absurd m;
      covers = λ x y c. let l = c.1 in let k = c.2 in absurd (omega (arith, l, k));
      alone = λ v w x y m. absurd m;
    };
    counts = λ l m. absurd m;
  }

  -- up to a place, and at it
  split-last : (from place : ℕ) (v : PairingVector) (w : List ℕ) → Changed t changed walks held from (place + 1) v w
      → Changed t changed walks held from place v w ⊎ ((is_unchanged t changed place ≡ false) × Member (map (shown walks) (get_or held place [])) (v, w))
  split-last from place v w c = ⊎_elim {C = Changed t changed walks held from place v w ⊎ ((is_unchanged t changed place ≡ false) × Member (map (shown walks) (get_or held place [])) (v, w))}
      (λ l. inl (c.0, c.1, l, c.3, c.4))
      (λ e. inr (subst (λ p. is_unchanged t changed p ≡ false) e c.3, subst (λ p. Member (map (shown walks) (get_or held p [])) (v, w)) e c.4))
      (before-or-at c.0 place c.2)

  further : (from place : ℕ) (v : PairingVector) (w : List ℕ) → Changed t changed walks held from place v w → Changed t changed walks held from (place + 1) v w
  further from place v w c = let l = c.2 in (c.0, c.1, omega (arith, l), c.3, c.4)

  pub changed-skip : (from place : ℕ) (labels : Labels) → is_unchanged t changed place ≡ true → IsChangedPart t changed walks held from place labels → IsChangedPart t changed walks held from (place + 1) labels
  changed-skip from place labels un part = record {
    local = local-same is_at_most ranks_at_most (Changed t changed walks held from place) (Changed t changed walks held from (place + 1)) (map (shown walks) labels) (further from place)
        (λ v w c. ⊎_elim {C = Changed t changed walks held from place v w} (λ k. k) (λ k. absurd (false≢true (sym k.0 ∙ un))) (split-last from place v w c)) part.local;
    counts = part.counts;
  }

  pub changed-join : AreHeld walks held → (from place : ℕ) → from ≤ place → (labels : Labels) → slice_get held place ≡ Some labels → is_unchanged t changed place ≡ false → (a r : Labels) → IsChangedPart t changed walks held from place a
      → ((candidates : List (PairingVector × List ℕ)) → IsPoolOf is_at_most candidates (map (shown walks) a) → IsPoolOf is_at_most (candidates ++ map (shown walks) labels) (map (shown walks) r))
      → AreCounted (λ (v : PairingVector). v.duties) walks false r → IsChangedPart t changed walks held from (place + 1) r
  changed-join are from place first labels at un a r part joins counts =
      let here : get_or held place [] ≡ labels = get-at held place labels [] at in
      let settled = are.settled labels (member-got held place labels at) in
      record {
        local = joined-local (Changed t changed walks held from place) (λ v w. Member (map (shown walks) labels) (v, w)) (Changed t changed walks held from (place + 1)) (map (shown walks) a) (map (shown walks) labels) (map (shown walks) r)
            (λ v w c. ⊎_elim {C = Changed t changed walks held from place v w ⊎ Member (map (shown walks) labels) (v, w)} inl (λ k. inr (subst (λ (ls : Labels). Member (map (shown walks) ls) (v, w)) here k.1)) (split-last from place v w c))
            (further from place)
            (λ v w m. (place, first, omega arith, un, subst (λ (ls : Labels). Member (map (shown walks) ls) (v, w)) (sym here) m))
            part.local settled (joins (map (shown walks) a) (own (Changed t changed walks held from place) (map (shown walks) a) part.local));
        counts = counts;
      }

-- over walks that have grown
module _ (t : Twins) (changed : List Bool) (before after : List (List ℕ)) (grown : HasGrown before after) (held : List Labels)
    (pending : (labels : Labels) → Member held labels → AreCounted (λ (v : PairingVector). v.duties) before false labels) where
  same-shown : (p : ℕ) (l : PairingVector × LabelWalk) → Member (get_or held p []) l → map (shown after) (get_or held p []) ≡ map (shown before) (get_or held p [])
  same-shown p l m =
      let h = listed-at held p l m in
      let here : get_or held p [] ≡ h.0 = get-at held p h.0 [] h.1 in
      subst (λ (ls : Labels). map (shown after) ls ≡ map (shown before) ls) (sym here) (all-shown-grown (λ (v : PairingVector). v.duties) before after false grown h.0 (pending h.0 (member-got held p h.0 h.1)))

  on : (from end : ℕ) (v : PairingVector) (w : List ℕ) → Changed t changed before held from end v w → Changed t changed after held from end v w
  on from end v w c =
      let l = Member-map_out (shown before) (get_or held c.0 []) (v, w) c.4 in
      (c.0, c.1, c.2, c.3, subst (λ (es : List (PairingVector × List ℕ)). Member es (v, w)) (sym (same-shown c.0 l.0 l.1)) c.4)

  back : (from end : ℕ) (v : PairingVector) (w : List ℕ) → Changed t changed after held from end v w → Changed t changed before held from end v w
  back from end v w c =
      let l = Member-map_out (shown after) (get_or held c.0 []) (v, w) c.4 in
      (c.0, c.1, c.2, c.3, subst (λ (es : List (PairingVector × List ℕ)). Member es (v, w)) (same-shown c.0 l.0 l.1) c.4)

  pub changed-grown : (from end : ℕ) (part whole : Labels) → IsChangedPart t changed before held from end part → map (shown after) whole ≡ map (shown before) part
      → IsLocal is_at_most ranks_at_most (Changed t changed after held from end) (map (shown after) whole)
  changed-grown from end part whole is same =
      subst (IsLocal is_at_most ranks_at_most (Changed t changed after held from end)) (sym same) (local-same is_at_most ranks_at_most (Changed t changed before held from end) (Changed t changed after held from end) (map (shown before) part) (on from end) (back from end) is.local)
