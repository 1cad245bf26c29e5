-- Walks of two labellings: those that have the same keys compare alike.
use Rattle.std.proofs.Common.{◌≡◌, ◌∙◌, ◌<◌, ℕ, List, Option, length, get_or, sym, ap, ap₂, ⊎_elim, arith}
use Rattle.std.specs.Cmp.{nat_cmp_is}
use Rattle.std.specs.Ordering.{is_le, nat_cmp, ordering_reverse}
use Rattle.std.specs.declared.cmp.Ordering.TheVariants.{Less, Equal, Greater}
use Rattle.std.proofs.lemmas.Bool.{cases_order}
use Rattle.std.proofs.lemmas.Cmp.{tied_itself}
use Rattle.crew_label.specs.Walks.{ranks_at_most, walk_of}
use Rattle.crew_label.specs.declared.label.Link.{Link}
use Rattle.crew_net.proofs.Ranking.{key-less}
use Rattle.crew_net.proofs.Slices.{at-within, stands}
use Rattle.crew_pairing.specs.Duties.{RiseByKey}
use Rattle.crew_pairing.specs.Keys.{key_cmp, key_total, walk_at_most}
use Rattle.crew_pairing.specs.declared.duty.Duty.{Duty}
use Rattle.crew_pool.specs.Ranks.{key_at}
use Rattle.crew_pool.proofs.RankLemmas.{walks_by_key}
use Rattle.crew_labelling.specs.Held.{trail_of}
use Rattle.crew_labelling.specs.Labellings.{labelling_of, table_of}
use Rattle.crew_labelling.specs.Terms.{Terms}
use Rattle.crew_labelling.proofs.Keyed.{IsRanked, key-of, keys}

key-stands : (ds : List Duty) (i : ℕ) (d : Duty) → i < length ds → key_at ds i ≡ (get_or ds i d).key
key-stands ds i d h = key-of ds i (get_or ds i d) (at-within ds i d h)

lesser-rank : (ds : List Duty) → RiseByKey ds → (a b : ℕ) → a < b → b < length ds → key_cmp (key_at ds a) (key_at ds b) ≡ Less
lesser-rank ds rise a b h within =
    let d = (stands ds b within).0 in
    ap₂ key_cmp (key-stands ds a d (omega (arith, h, within))) (key-stands ds b d within) ∙ key-less ds rise a b d h within

-- in a list that rises by key, ranks compare as keys
ranks-as-keys : (ds : List Duty) → RiseByKey ds → (a b : ℕ) → a < length ds → b < length ds → nat_cmp a b ≡ key_cmp (key_at ds a) (key_at ds b)
ranks-as-keys ds rise a b p q =
    ⊎_elim {C = nat_cmp a b ≡ key_cmp (key_at ds a) (key_at ds b)}
    (λ e. sym (nat_cmp_is a b Equal e) ∙ (sym (tied_itself key_total (key_at ds a)) ∙ ap (λ (k : ℕ). key_cmp (key_at ds a) (key_at ds k)) e))
    (⊎_elim {C = nat_cmp a b ≡ key_cmp (key_at ds a) (key_at ds b)}
    (λ h. sym (nat_cmp_is a b Less h) ∙ sym (lesser-rank ds rise a b h q))
    (λ h. sym (nat_cmp_is a b Greater h) ∙ sym (key_total.antisymm (key_at ds a) (key_at ds b) ∙ ap ordering_reverse (lesser-rank ds rise b a h p))))
    (cases_order a b)

-- and walks as their keys
walks-as-keys : (ds : List Duty) → RiseByKey ds → (k l : List ℕ) → IsRanked ds k → IsRanked ds l → ranks_at_most k l ≡ walk_at_most (keys ds k) (keys ds l)
walks-as-keys ds rise k l p q = ap is_le (walks_by_key (length ds) (key_at ds) (ranks-as-keys ds rise) k l p q)

-- the walk that a link ends in the labelling
abbrev pub walked : {V : Type 0} → Terms V → Option Link → List ℕ
walked w before = walk_of (trail_of (table_of w (labelling_of w))) before

-- a link that ends a walk in both labellings: of duties that have ranks, with the same keys
pub record IsShared {V : Type 0} (w z : Terms V) (before : Option Link) : Type 0 where
  pub here : IsRanked w.net.duties (walked w before)
  pub there : IsRanked z.net.duties (walked z before)
  pub same : keys w.net.duties (walked w before) ≡ keys z.net.duties (walked z before)

-- such walks compare alike
pub compare-alike : {V : Type 0} (w z : Terms V) → RiseByKey w.net.duties → RiseByKey z.net.duties → (a b : Option Link) → IsShared w z a → IsShared w z b
    → ranks_at_most (walked w a) (walked w b) ≡ ranks_at_most (walked z a) (walked z b)
compare-alike w z rise rises a b h k =
    walks-as-keys w.net.duties rise (walked w a) (walked w b) h.here k.here
    ∙ (ap₂ walk_at_most h.same k.same ∙ sym (walks-as-keys z.net.duties rises (walked z a) (walked z b) h.there k.there))
