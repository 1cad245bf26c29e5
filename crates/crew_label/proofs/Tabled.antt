-- Walks of a table of pools.
use Rattle.std.proofs.Common.{◌≡◌, ℕ, zero, suc, ◌+◌, ◌<◌, true, List, [], ◌∷◌, ◌++◌, Option, Some, None, length, get_or, map, inl, inr, refl, sym, ◌∙◌, ap, subst, arith, append_assoc, length-append, append-nil}
use Rattle.std.specs.Prelude.{slice_get, nat_lt}
use Rattle.std.proofs.lemmas.Bool.{and_from, and_parts}
use Rattle.std.proofs.lemmas.Bool.Decides.{nat_tests}
use Rattle.std.proofs.lemmas.List.{get_or_append_left, get_or_default}
use Rattle.std.proofs.Math.Seq.{get_or-append_seam}
use Rattle.crew_resource.specs.Members.{Each, Member}
use Rattle.crew_label.specs.Boarding.{LeadInto}
use Rattle.crew_label.specs.Tables.{AreLinked, Leaving, departure_of, is_known, leads_in, rank_of, trail_in, walk_in, walks_from}
use Rattle.crew_label.specs.Walks.{Leads, walk_of}
use Rattle.crew_label.specs.declared.label.Label.{Label}
use Rattle.crew_label.specs.declared.label.Link.{Link}
use Rattle.crew_label.proofs.RisingLists.{each-member}

lt_from : (a b : ℕ) → nat_lt a b ≡ true → a < b
lt_from a b e = grind (arith, nat_tests)

lt_in : (a b : ℕ) → a < b → nat_lt a b ≡ true
lt_in a b h = grind (arith, nat_tests)

map_same : {X Y : Type 0} (f g : X → Y) (xs : List X) → ((x : X) → Member xs x → f x ≡ g x) → map f xs ≡ map g xs
map_same f g [] h = refl
map_same f g (x ∷ xs) h = ap (λ y. y ∷ map f xs) (h x (inl refl)) ∙ ap (λ ys. g x ∷ ys) (map_same f g xs (λ y m. h y (inr m)))

map_at : {X Y : Type 0} (f : X → Y) (xs : List X) (k : ℕ) (x : X) (d : Y) → slice_get xs k ≡ Some x → get_or (map f xs) k d ≡ f x
map_at f [] k x d e = absurd (let q : ⊥ = (cc) in q)
map_at f (y ∷ ys) zero x d e = ap f (let q : y ≡ x = (cc) in q)
map_at f (y ∷ ys) (suc k) x d e = map_at f ys k x d e

all_each : {X : Type 0} (P : X → Type 0) (xs : List X) → ((x : X) → Member xs x → P x) → Each P xs
all_each P [] h = tt
all_each P (x ∷ xs) h = (h x (inl refl), all_each P xs (λ y m. h y (inr m)))

at_place : {X : Type 0} (xs : List X) (k : ℕ) → k < length xs → (x : X) × (slice_get xs k ≡ Some x)
at_place [] k h = absurd (omega arith)
at_place (x ∷ xs) zero h = (x, refl)
at_place (x ∷ xs) (suc k) h = at_place xs k (omega arith)

within_list : {X : Type 0} (xs : List X) (k : ℕ) (x : X) → slice_get xs k ≡ Some x → k < length xs
within_list [] k x e = absurd (let q : ⊥ = (cc) in q)
within_list (y ∷ ys) zero x e = omega arith
within_list (y ∷ ys) (suc k) x e = let h = within_list ys k x e in omega (arith, h)

got : (xs : List ℕ) (k x : ℕ) → slice_get xs k ≡ Some x → get_or xs k 0 ≡ x
got [] k x e = absurd (let q : ⊥ = (cc) in q)
got (y ∷ ys) zero x e = (cc)
got (y ∷ ys) (suc k) x e = got ys k x e

new_departure : (leaves : Leaving) (duty rank n : ℕ) → slice_get leaves.ranks duty ≡ Some rank → slice_get leaves.positions rank ≡ Some n
    → (rank_of leaves duty ≡ rank) × (departure_of leaves duty ≡ n) × (is_known leaves duty ≡ true)
new_departure leaves duty rank n d e =
    let is = got leaves.ranks duty rank d in (
      is,
      ap (λ k. get_or leaves.positions k 0) is ∙ got leaves.positions rank n e,
      and_from (nat_lt duty (length leaves.ranks)) (nat_lt (rank_of leaves duty) (length leaves.positions)) (lt_in duty (length leaves.ranks) (within_list leaves.ranks duty rank d))
          (ap (λ k. nat_lt k (length leaves.positions)) is ∙ lt_in rank (length leaves.positions) (within_list leaves.positions rank n e)),
    )

module _ {V : Type 0} (leaves : Leaving) where
  within : (pools : List (List (Label V))) (g k : ℕ) → k < length (get_or pools g []) → g < length pools
  within [] g k h = absurd (omega arith)
  within (p ∷ ps) zero k h = omega arith
  within (p ∷ ps) (suc g) k h = let b = within ps g k h in omega (arith, b)

  -- what leads to a label has a departure
  leads_within : (pools : List (List (Label V))) (link : Link) → leads_in leaves pools link ≡ true → departure_of leaves link.duty < length pools
  leads_within pools link e =
      let k = and_parts (is_known leaves link.duty) (nat_lt link.place (length (get_or pools (departure_of leaves link.duty) []))) e in
      within pools (departure_of leaves link.duty) link.place (lt_from link.place (length (get_or pools (departure_of leaves link.duty) [])) k.1)

  -- and leads to it where there are more pools
  pub leads_more : (xs ys : List (List (Label V))) (link : Link) → leads_in leaves xs link ≡ true → leads_in leaves (xs ++ ys) link ≡ true
  leads_more xs ys link e =
      let k = and_parts (is_known leaves link.duty) (nat_lt link.place (length (get_or xs (departure_of leaves link.duty) []))) e in
      and_from (is_known leaves link.duty) (nat_lt link.place (length (get_or (xs ++ ys) (departure_of leaves link.duty) []))) k.0
      (ap (λ p. nat_lt link.place (length p)) (get_or_append_left xs ys [] (departure_of leaves link.duty) (leads_within xs link e)) ∙ k.1)

  pub Leads_more : (xs ys : List (List (Label V))) (o : Option Link) → Leads (leads_in leaves xs) o → Leads (leads_in leaves (xs ++ ys)) o
  Leads_more xs ys None h = tt
  Leads_more xs ys (Some link) h = leads_more xs ys link h

  walks_below : (ws : List (List (List ℕ))) (ps : List (List (Label V))) (k : ℕ) → k < length ws → get_or (walks_from leaves ws ps) k [] ≡ get_or ws k []
  walks_below ws [] k h = refl
  walks_below ws (p ∷ ps) k h =
      let row = map (λ (l : Label V). walk_in leaves ws l.before) p in
      let n = length-append ws (row ∷ []) in
      walks_below (ws ++ row ∷ []) ps k (omega (arith, n)) ∙ get_or_append_left ws (row ∷ []) [] k h

  -- a walk is what it is by the departures before
  walk_stays : (before ps : List (List (Label V))) (ws : List (List (List ℕ))) → length ws ≡ length before → (o : Option Link) → Leads (leads_in leaves before) o
      → walk_in leaves ws o ≡ walk_in leaves (walks_from leaves ws ps) o
  walk_stays before ps ws n None h = refl
  walk_stays before ps ws n (Some link) h =
      let k = leads_within before link h in
      ap (λ row. get_or row link.place [] ++ rank_of leaves link.duty ∷ []) (sym (walks_below ws ps (departure_of leaves link.duty) (omega (arith, k, n))))

  rows : (ws : List (List (List ℕ))) (before ps : List (List (Label V))) (k : ℕ) → length ws ≡ length before → AreLinked leaves before ps → k < length ps
      → get_or (walks_from leaves ws ps) (length ws + k) [] ≡ map (λ l. walk_in leaves (walks_from leaves ws ps) l.before) (get_or ps k [])
  rows ws before [] k n h b = absurd (omega arith)
  rows ws before (p ∷ ps) zero n h b =
      let row = map (λ (l : Label V). walk_in leaves ws l.before) p in
      let m = length-append ws (row ∷ []) in
      let here : length ws ≡ length ws + 0 = omega arith in
      walks_below (ws ++ row ∷ []) ps (length ws + 0) (omega (arith, m))
      ∙ (ap (λ i. get_or (ws ++ row ∷ []) i []) (sym here)
      ∙ (get_or-append_seam ws row [] []
      ∙ map_same (λ (l : Label V). walk_in leaves ws l.before) (λ l. walk_in leaves (walks_from leaves (ws ++ row ∷ []) ps) l.before) p
      (λ l q. walk_stays before (p ∷ ps) ws n l.before (each-member (λ (l : Label V). Leads (leads_in leaves before) l.before) p l h.0 q))))
  rows ws before (p ∷ ps) (suc k) n h b =
      let row = map (λ (l : Label V). walk_in leaves ws l.before) p in
      let m = length-append ws (row ∷ []) in
      let j = length-append before (p ∷ []) in
      let e : length (ws ++ row ∷ []) + k ≡ length ws + suc k = omega (arith, m) in
      subst (λ i. get_or (walks_from leaves (ws ++ row ∷ []) ps) i [] ≡ map (λ l. walk_in leaves (walks_from leaves (ws ++ row ∷ []) ps) l.before) (get_or ps k [])) e
      (rows (ws ++ row ∷ []) (before ++ p ∷ []) ps k (omega (arith, m, j, n)) h.1 (omega arith))

  same_walk : (pools : List (List (Label V))) (o : Option Link) → walk_in leaves (walks_from leaves [] pools) o ≡ walk_of (trail_in leaves pools) o
  same_walk pools None = refl
  same_walk pools (Some link) = refl

  first_row : (pools : List (List (Label V))) (g : ℕ) → AreLinked leaves [] pools → g < length pools
      → get_or (walks_from leaves [] pools) g [] ≡ map (λ l. walk_in leaves (walks_from leaves [] pools) l.before) (get_or pools g [])
  first_row pools g h b =
      let e : 0 + g ≡ g = omega arith in
      subst (λ i. get_or (walks_from leaves [] pools) i [] ≡ map (λ l. walk_in leaves (walks_from leaves [] pools) l.before) (get_or pools g [])) e (rows [] [] pools g refl h b)

  -- the label that a link leads to
  pub leads_to : (pools : List (List (Label V))) (link : Link) → leads_in leaves pools link ≡ true
      → (l : Label V) × (departure_of leaves link.duty < length pools) × (slice_get (get_or pools (departure_of leaves link.duty) []) link.place ≡ Some l)
  leads_to pools link e =
      let k = and_parts (is_known leaves link.duty) (nat_lt link.place (length (get_or pools (departure_of leaves link.duty) []))) e in
      let at = at_place (get_or pools (departure_of leaves link.duty) []) link.place (lt_from link.place (length (get_or pools (departure_of leaves link.duty) [])) k.1) in
      (at.0, leads_within pools link e, at.1)

  -- the rank and the departure of a link's duty, as the code reads them
  pub rank_read : (pools : List (List (Label V))) (link : Link) (read : List ℕ) (x : ℕ) → leads_in leaves pools link ≡ true → read ≡ leaves.ranks → x ≡ get_or read link.duty x → x ≡ rank_of leaves link.duty
  rank_read pools link read x e is at =
      let k = and_parts (is_known leaves link.duty) (nat_lt link.place (length (get_or pools (departure_of leaves link.duty) []))) e in
      let j = and_parts (nat_lt link.duty (length leaves.ranks)) (nat_lt (rank_of leaves link.duty) (length leaves.positions)) k.0 in
      at ∙ ap (λ (xs : List ℕ). get_or xs link.duty x) is ∙ get_or_default leaves.ranks link.duty x 0 (lt_from link.duty (length leaves.ranks) j.0)

  pub departure_read : (pools : List (List (Label V))) (link : Link) (read : List ℕ) (rank x : ℕ) → leads_in leaves pools link ≡ true → rank ≡ rank_of leaves link.duty → read ≡ leaves.positions
      → x ≡ get_or read rank x → x ≡ departure_of leaves link.duty
  departure_read pools link read rank x e ranked is at =
      let k = and_parts (is_known leaves link.duty) (nat_lt link.place (length (get_or pools (departure_of leaves link.duty) []))) e in
      let j = and_parts (nat_lt link.duty (length leaves.ranks)) (nat_lt (rank_of leaves link.duty) (length leaves.positions)) k.0 in
      at ∙ (ap (λ (xs : List ℕ). get_or xs rank x) is ∙ (ap (λ n. get_or leaves.positions n x) ranked
      ∙ get_or_default leaves.positions (rank_of leaves link.duty) x 0 (lt_from (rank_of leaves link.duty) (length leaves.positions) j.1)))

  -- a link's walk is a duty more than that of the label which it leads to
  pub trail_goes_on : (pools : List (List (Label V))) → AreLinked leaves [] pools → (link : Link) (l : Label V) → departure_of leaves link.duty < length pools
      → slice_get (get_or pools (departure_of leaves link.duty) []) link.place ≡ Some l
      → trail_in leaves pools link ≡ walk_of (trail_in leaves pools) l.before ++ rank_of leaves link.duty ∷ []
  trail_goes_on pools h link l b e =
      let g = departure_of leaves link.duty in
      ap (λ w. w ++ rank_of leaves link.duty ∷ [])
      (ap (λ row. get_or row link.place []) (first_row pools g h b)
      ∙ (map_at (λ (m : Label V). walk_in leaves (walks_from leaves [] pools) m.before) (get_or pools g []) link.place l [] e
      ∙ same_walk pools l.before))

  linked_from : (before ps : List (List (Label V))) (k : ℕ) → AreLinked leaves before ps → k < length ps → (l : Label V) → Member (get_or ps k []) l
      → Leads (leads_in leaves (before ++ ps)) l.before
  linked_from before [] k h b l m = absurd (omega arith)
  linked_from before (p ∷ ps) zero h b l m = Leads_more before (p ∷ ps) l.before (each-member (λ (l : Label V). Leads (leads_in leaves before) l.before) p l h.0 m)
  linked_from before (p ∷ ps) (suc k) h b l m =
      subst (λ z. Leads (leads_in leaves z) l.before) (append_assoc before (p ∷ []) ps) (linked_from (before ++ p ∷ []) ps k h.1 (omega arith) l m)

  pub label_leads : (pools : List (List (Label V))) → AreLinked leaves [] pools → (k : ℕ) → k < length pools → (l : Label V) → Member (get_or pools k []) l → Leads (leads_in leaves pools) l.before
  label_leads pools h k b l m = linked_from [] pools k h b l m

  pub linked_more : (before ps : List (List (Label V))) (p : List (Label V)) → AreLinked leaves before ps → ((l : Label V) → Member p l → Leads (leads_in leaves (before ++ ps)) l.before)
      → AreLinked leaves before (ps ++ p ∷ [])
  linked_more before [] p h f =
      (all_each (λ (l : Label V). Leads (leads_in leaves before) l.before) p (λ l m. subst (λ z. Leads (leads_in leaves z) l.before) (append-nil before) (f l m)), tt)
  linked_more before (q ∷ ps) p h f =
      (h.0, linked_more (before ++ q ∷ []) ps p h.1 (λ l m. subst (λ z. Leads (leads_in leaves z) l.before) (sym (append_assoc before (q ∷ []) ps)) (f l m)))

  walks_more : (ws : List (List (List ℕ))) (ps : List (List (Label V))) (p : List (Label V))
      → walks_from leaves ws (ps ++ p ∷ []) ≡ walks_from leaves ws ps ++ map (λ l. walk_in leaves (walks_from leaves ws ps) l.before) p ∷ []
  walks_more ws [] p = refl
  walks_more ws (q ∷ ps) p = walks_more (ws ++ map (λ (l : Label V). walk_in leaves ws l.before) q ∷ []) ps p

  length_walks : (ws : List (List (List ℕ))) (ps : List (List (Label V))) → length (walks_from leaves ws ps) ≡ length ws + length ps
  length_walks ws [] = omega arith
  length_walks ws (p ∷ ps) =
      let row = map (λ (l : Label V). walk_in leaves ws l.before) p in
      let m = length-append ws (row ∷ []) in
      let k = length_walks (ws ++ row ∷ []) ps in
      omega (arith, m, k)

  -- a pool more leaves walks as they were
  pub trail_stays : (pools : List (List (Label V))) (p : List (Label V)) (link : Link) → leads_in leaves pools link ≡ true → trail_in leaves (pools ++ p ∷ []) link ≡ trail_in leaves pools link
  trail_stays pools p link e =
      let g = departure_of leaves link.duty in
      let b = leads_within pools link e in
      let n = length_walks [] pools in
      let row = map (λ (l : Label V). walk_in leaves (walks_from leaves [] pools) l.before) p in
      ap (λ r. get_or r link.place [] ++ rank_of leaves link.duty ∷ [])
      (ap (λ ws. get_or ws g []) (walks_more [] pools p) ∙ get_or_append_left (walks_from leaves [] pools) (row ∷ []) [] g (omega (arith, b, n)))

  -- the links of a duty lead to the labels of its departure
  pub links_into : (pools : List (List (Label V))) → AreLinked leaves [] pools → (duty rank position : ℕ) → slice_get leaves.ranks duty ≡ Some rank → slice_get leaves.positions rank ≡ Some position
      → LeadInto (leads_in leaves pools) (trail_in leaves pools) duty rank (get_or pools position [])
  links_into pools h duty rank position d e =
      let pool = get_or pools position [] in
      let k = new_departure leaves duty rank position d e in
      let row = ap (λ i. get_or pools i []) k.1 in
      record {
        there = λ i l at.
            and_from (is_known leaves duty) (nat_lt i (length (get_or pools (departure_of leaves duty) []))) k.2
            (ap (λ r. nat_lt i (length r)) row ∙ lt_in i (length pool) (within_list pool i l at));
        walk = λ i l at.
            trail_goes_on pools h (record { duty = duty; place = i }) l (subst (λ n. n < length pools) (sym k.1) (within pools position i (within_list pool i l at))) (ap (λ r. slice_get r i) row ∙ at)
            ∙ ap (λ z. walk_of (trail_in leaves pools) l.before ++ z ∷ []) k.0;
      }

  -- those of duties that leave from the departure of the last pool lead to its labels
  pub last_into : (pools : List (List (Label V))) (p : List (Label V)) → AreLinked leaves [] (pools ++ p ∷ []) → (duty rank : ℕ) → slice_get leaves.ranks duty ≡ Some rank
      → slice_get leaves.positions rank ≡ Some (length pools) → LeadInto (leads_in leaves (pools ++ p ∷ [])) (trail_in leaves (pools ++ p ∷ [])) duty rank p
  last_into pools p h duty rank d e =
      subst (LeadInto (leads_in leaves (pools ++ p ∷ [])) (trail_in leaves (pools ++ p ∷ [])) duty rank) (get_or-append_seam pools p [] []) (links_into (pools ++ p ∷ []) h duty rank (length pools) d e)

pub mapped_at : {X Y : Type 0} (f : X → Y) (xs : List X) (k : ℕ) (x : X) (d : Y) → k < length (map f xs) → x ≡ get_or xs k x → get_or (map f xs) k d ≡ f x
mapped_at f [] k x d h e = absurd (omega arith)
mapped_at f (y ∷ ys) zero x d h e = ap f (sym e)
mapped_at f (y ∷ ys) (suc k) x d h e = mapped_at f ys k x d (omega arith) e
