-- The front of a duty in two labellings: where it boards from pools that are alike it is the same.
use Rattle.std.proofs.Common.{◌≡◌, ◌∙◌, ◌<◌, ◌+◌, ℕ, suc, List, [], ◌∷◌, ◌++◌, Option, Some, None, length, map, get_or, inl, inr, refl, sym, ap, ap₂, subst, ⊎_elim, arith}
use Rattle.std.specs.Prelude.{slice_get}
use Rattle.std.proofs.lemmas.List.{map-append}
use Rattle.crew_label.specs.Boarding.{boarded_from, linked}
use Rattle.crew_label.specs.Tables.{Leaving}
use Rattle.crew_label.specs.Walks.{shown}
use Rattle.crew_label.specs.declared.label.Label.{Label}
use Rattle.crew_label.specs.declared.label.Link.{Link}
use Rattle.crew_label.proofs.RisingLists.{each-append}
use Rattle.crew_net.specs.Nets.{Net}
use Rattle.crew_net.proofs.Numbers.{get-within}
use Rattle.crew_net.proofs.Slices.{map-get, map-got, member-got}
use Rattle.crew_pairing.specs.Legs.{Leg}
use Rattle.crew_pairing.specs.declared.duty.Duty.{Duty}
use Rattle.crew_pool.specs.Ranks.{key_at}
use Rattle.crew_resource.specs.Members.{Member}
use Rattle.crew_resource.proofs.Members.{Member-append}
use Rattle.crew_labelling.specs.Beside.{AreAlike, AreSame, BoardAlike, keyed_labels, pool_left}
use Rattle.crew_labelling.specs.Held.{trail_of}
use Rattle.crew_labelling.specs.Labellings.{are_one, front_of, labelling_of, table_of}
use Rattle.crew_labelling.specs.Terms.{AreLawful, AreTerms, Terms, number_of}
use Rattle.crew_labelling.proofs.BesideLabels.{ArePaired, AreShared, beside, same-from-shared, shared-as, shared-pool}
use Rattle.crew_labelling.proofs.BesideWalks.{IsShared, walked}
use Rattle.crew_labelling.proofs.Keyed.{IsRanked, key-of, keyed, keys}
use Rattle.crew_labelling.proofs.Right.{departures-into, departures-ready, front-of}

-- a link to the place at which a label boards
linked-out : {V : Type 0} (o : Option V) (link : Link) (l : Label V) → Member (linked o link) l → l.before ≡ Some link
linked-out None link l m = absurd m
linked-out (Some v) link l (inl e) = ap (λ (x : Label _). x.before) (sym e)
linked-out (Some v) link l (inr m) = absurd m

-- a label of a list, and a link to its place
abbrev BoardsAt : {V : Type 0} → ℕ → ℕ → List (Label V) → Label V → Type 0
BoardsAt {V} duty n ls l = (k : ℕ) × (m : Label V) × (slice_get ls k ≡ Some m) × (l.before ≡ Some (record { duty = duty; place = n + k }))

boarded-at : {V : Type 0} (board : V → Option V) (duty n : ℕ) (ls : List (Label V)) (l : Label V) → Member (boarded_from board duty n ls) l → BoardsAt duty n ls l
boarded-at board duty n [] l m = absurd m
boarded-at {V} board duty n (x ∷ xs) l m = ⊎_elim {C = BoardsAt duty n (x ∷ xs) l}
    (λ j.
    let e : n ≡ n + 0 = omega arith in
    (0, x, refl, linked-out (board x.value) (record { duty = duty; place = n }) l j ∙ ap {B = Option Link} (λ (p : ℕ). Some (record { duty = duty; place = p })) e))
    (λ j.
    let r = boarded-at board duty (n + 1) xs l j in
    let e : n + 1 + r.0 ≡ n + suc r.0 = omega arith in
    (suc r.0, r.1, r.2, r.3 ∙ ap {B = Option Link} (λ (p : ℕ). Some (record { duty = duty; place = p })) e))
    (Member-append (linked (board x.value) (record { duty = duty; place = n })) (boarded_from board duty (n + 1) xs) l m)

-- a walk with one duty more, by key
keys-more : (ds : List Duty) (walk : List ℕ) (rank : ℕ) (d : Duty) → slice_get ds rank ≡ Some d → keys ds (walk ++ rank ∷ []) ≡ keys ds walk ++ d.key ∷ []
keys-more ds walk rank d known = map-append (key_at ds) walk (rank ∷ []) ∙ ap (λ (k : List Leg). keys ds walk ++ k ∷ []) (key-of ds rank d known)

module _ {V : Type 0} (w z : Terms V) where
  -- lists that are alike have the same values
  boarded-alike : (board : V → Option V) (duty n : ℕ) (ls ms : List (Label V)) → AreAlike w z ls ms → boarded_from board duty n ls ≡ boarded_from board duty n ms
  boarded-alike board duty n [] [] e = refl
  boarded-alike board duty n [] (m ∷ ms) e = absurd (let q : ⊥ = (cc) in q)
  boarded-alike board duty n (l ∷ ls) [] e = absurd (let q : ⊥ = (cc) in q)
  boarded-alike board duty n (l ∷ ls) (m ∷ ms) e =
      let first : keyed w.net.duties (shown (trail_of (table_of w (labelling_of w))) l) ≡ keyed z.net.duties (shown (trail_of (table_of z (labelling_of z))) m) = (cc) in
      let rest : keyed_labels w ls ≡ keyed_labels z ms = (cc) in
      ap₂ (λ (v : V) (more : List (Label V)). linked (board v) (record { duty = duty; place = n }) ++ more) (ap (λ (p : V × List (List Leg)). p.0) first) (boarded-alike board duty (n + 1) ls ms rest)

  -- and at each place walks with the same keys
  abbrev Counterpart : List (Label V) → ℕ → Label V → Type 0
  Counterpart ms k l = (m : Label V) × (slice_get ms k ≡ Some m) × (keys w.net.duties (walked w l.before) ≡ keys z.net.duties (walked z m.before))

  counterpart : (ls ms : List (Label V)) → AreAlike w z ls ms → (k : ℕ) (l : Label V) → slice_get ls k ≡ Some l → Counterpart ms k l
  counterpart ls ms e k l at =
      let entry = shown (trail_of (table_of w (labelling_of w))) in
      let entry-there = shown (trail_of (table_of z (labelling_of z))) in
      let here = map-get (keyed w.net.duties) (map entry ls) k (entry l) (map-get entry ls k l at) in
      let there : slice_get (keyed_labels z ms) k ≡ Some (keyed w.net.duties (entry l)) = ap (λ (es : List (V × List (List Leg))). slice_get es k) (sym e) ∙ here in
      let two = map-got (keyed z.net.duties) (map entry-there ms) k (keyed w.net.duties (entry l)) there in
      let one = map-got entry-there ms k two.0 two.1 in
      (one.0, one.1, ap (λ (p : V × List (List Leg)). p.1) (sym two.2) ∙ ap (λ (e : V × List ℕ). keys z.net.duties e.1) (sym one.2))

-- the walk of a link to a label's place, in one labelling
module _ {V : Type 0} (w : Terms V) (terms : AreTerms w) (lawful : AreLawful w) (rank : ℕ) (d : Duty) (known : slice_get w.net.duties rank ≡ Some d)
    (link : Link) (m : Label V) (at : slice_get (pool_left w rank) link.place ≡ Some m) (own : link.duty ≡ number_of w rank) where
  one-longer : walked w (Some link) ≡ walked w m.before ++ rank ∷ []
  one-longer = subst (λ (duty : ℕ). walked w (Some (record { duty = duty; place = link.place })) ≡ walked w m.before ++ rank ∷ []) (sym own) ((departures-into w terms lawful rank d known).walk link.place m at)

  link-keys : keys w.net.duties (walked w (Some link)) ≡ keys w.net.duties (walked w m.before) ++ d.key ∷ []
  link-keys = ap (keys w.net.duties) one-longer ∙ keys-more w.net.duties (walked w m.before) rank d known

  link-ranked : IsRanked w.net.duties (walked w (Some link))
  link-ranked =
      let ready = departures-ready w terms lawful (get_or w.leaves.positions rank 0) m (member-got (pool_left w rank) link.place m at) in
      subst (IsRanked w.net.duties) (sym one-longer) (each-append (λ r. r < length w.net.duties) (walked w m.before) rank ready.entry.ranked (get-within w.net.duties rank d known))

module _ {V : Type 0} (w : Terms V) (other : Net) (others : List ℕ) (leaving : Leaving) (pair : ArePaired w (beside w other others leaving)) where
  abbrev z : Terms V
  z = beside w other others leaving

  module _ (rank place : ℕ) (alike : BoardAlike w z rank place) where
    abbrev view : List (Label V)
    view = boarded_from (λ v. w.board v alike.duty) (number_of w rank) 0 (pool_left w rank)

    abbrev view-there : List (Label V)
    view-there = boarded_from (λ v. z.board v alike.duty) (number_of z place) 0 (pool_left z place)

    view-same : view ≡ view-there
    view-same =
        boarded-alike w z (λ v. w.board v alike.duty) (number_of w rank) 0 (pool_left w rank) (pool_left z place) alike.alike
        ∙ ap (λ (n : ℕ). boarded_from (λ v. w.board v alike.duty) n 0 (pool_left z place)) alike.number

    link-shared : (k : ℕ) (m : Label V) → slice_get (pool_left w rank) k ≡ Some m → IsShared w z (Some (record { duty = number_of w rank; place = k }))
    link-shared k m at =
        let link : Link = record { duty = number_of w rank; place = k } in
        let t = counterpart w z (pool_left w rank) (pool_left z place) alike.alike k m at in
        record {
          here = link-ranked w pair.here pair.lawful rank alike.duty alike.here link m at refl;
          there = link-ranked z pair.there pair.lawful_there place alike.duty alike.there link t.0 t.1 alike.number;
          same =
              link-keys w pair.here pair.lawful rank alike.duty alike.here link m at refl
              ∙ (ap (λ (walk : List (List Leg)). walk ++ alike.duty.key ∷ []) t.2 ∙ sym (link-keys z pair.there pair.lawful_there place alike.duty alike.there link t.0 t.1 alike.number));
        }

    view-shared : AreShared w z view view-there
    view-shared = record {
      labels = view-same;
      both = λ l m.
          let s = boarded-at (λ v. w.board v alike.duty) (number_of w rank) 0 (pool_left w rank) l m in
          let e : s.0 ≡ 0 + s.0 = omega arith in
          subst (IsShared w z) (ap {B = Option Link} (λ (p : ℕ). Some (record { duty = number_of w rank; place = p })) e ∙ sym s.3) (link-shared s.0 s.1 s.2);
    }

    -- what dominance leaves of the labels that board
    pub fronts-shared : AreShared w z (front_of w (labelling_of w).departures rank alike.duty) (front_of z (labelling_of z).departures place alike.duty)
    fronts-shared = shared-pool w z pair.here.passable.rise pair.there.passable.rise w.below (are_one w.below) w.cmp view view-there view-shared

    pub fronts-same : AreSame w z (get_or (labelling_of w).fronts rank []) (get_or (labelling_of z).fronts place [])
    fronts-same =
        same-from-shared w z (get_or (labelling_of w).fronts rank []) (get_or (labelling_of z).fronts place [])
        (shared-as w z (front_of w (labelling_of w).departures rank alike.duty) (front_of z (labelling_of z).departures place alike.duty)
        (get_or (labelling_of w).fronts rank []) (get_or (labelling_of z).fronts place []) (front-of w pair.here rank alike.duty alike.here) (front-of z pair.there place alike.duty alike.there) fronts-shared)
