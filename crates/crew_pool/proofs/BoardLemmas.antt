-- Labels that board a duty.
use Rattle.std.proofs.Common.{◌≡◌, ℕ, ◌+◌, ◌<◌, ◌≤◌, Bool, true, false, List, [], ◌∷◌, ◌++◌, length, map, take, get_or, cond, Option, Some, None, inl, inr, refl, sym, ◌∙◌, ap, subst, ⊎_elim, arith, ℤ, pos, ◌+ℤ◌, append-nil}
use Rattle.std.specs.Prelude.{nat_eq, is_some}
use Rattle.std.specs.List.{flat_map}
use Rattle.std.proofs.lemmas.Bool.{cases_Bool, false≢true}
use Rattle.std.proofs.lemmas.List.{length-append, take_more, flat_map_more}
use Rattle.std.proofs.lemmas.Map.Views.{exact_unsigned_eq}
use Rattle.crew_resource.specs.Events.{labelled}
use Rattle.crew_resource.specs.Members.{Member}
use Rattle.crew_resource.proofs.Members.{Member-flat_map_out}
use Rattle.crew_pool.specs.Apart.{ApartFromAll, AreApart}
use Rattle.crew_pool.specs.Arena.{walk_at}
use Rattle.crew_pool.specs.Counted.{AreCounted, AreWhole, IsCounted, boarded_label, boarded_labels}
use Rattle.crew_pool.specs.Machinery.Meets.{vectors_of}
use Rattle.crew_pool.specs.LabelWalks.{AreAlike, duty_of, shown, walk_of_label}
use Rattle.crew_pool.specs.declared.label_walk.LabelWalk.{LabelWalk}
use Rattle.crew_pool.proofs.MergeLemmas.{AreApart-append}
use Rattle.crew_pool.proofs.LabelWalkLemmas.{duty_none, duty_some}

labelled_out : {V W : Type 0} (o : Option V) (w : W) (x : V × W) → Member (labelled o w) x → (o ≡ Some x.0) × (x.1 ≡ w)
labelled_out None w x m = absurd m
labelled_out (Some v) w x (inl e) = (ap (λ p. Some p.0) e, ap (λ p. p.1) (sym e))
labelled_out (Some v) w x (inr m) = absurd m

-- what boarded was in the list
pub boarded_out : {V : Type 0} (board : V → Option V) (duty : ℕ) (labels : List (V × LabelWalk)) (b : V × LabelWalk) → Member (boarded_labels board duty labels) b
    → (l : V × LabelWalk) × Member labels l × (board l.0 ≡ Some b.0) × (let t : LabelWalk = record { walk = l.1.walk; duty = duty } in b.1 ≡ t)
boarded_out board duty labels b m =
    let k = Member-flat_map_out (boarded_label board duty) labels b m in
    let o = labelled_out (board k.0.0) (record { walk = k.0.1.walk; duty = duty }) b k.2 in
    (k.0, k.1, o.0, o.1)

outside : {V : Type 0} (below : V → V → Bool) (xs : List (V × LabelWalk)) (a : V) (y : V × LabelWalk) → ApartFromAll below a (vectors_of xs) → Member xs y → (below a y.0 ≡ false) × (below y.0 a ≡ false)
outside below [] a y h m = absurd m
outside below (x ∷ xs) a y h (inl e) = (subst (λ z. below a z.0 ≡ false) e h.0.0, subst (λ z. below z.0 a ≡ false) e h.0.1)
outside below (x ∷ xs) a y h (inr m) = outside below xs a y h.1 m

one_apart : {V : Type 0} (below : V → V → Bool) (o : Option V) (t : LabelWalk) → AreApart below (vectors_of (labelled o t))
one_apart below None t = tt
one_apart below (Some v) t = (tt, tt)

-- where boarding reflects the order, what boards stays apart
pub boarded_apart : {V : Type 0} (below : V → V → Bool) (board : V → Option V) (duty : ℕ)
    → ((a b y z : V) → board a ≡ Some y → board b ≡ Some z → below y z ≡ true → below a b ≡ true)
    → (labels : List (V × LabelWalk)) → AreApart below (vectors_of labels) → AreApart below (vectors_of (boarded_labels board duty labels))
boarded_apart below board duty reflects [] h = tt
boarded_apart {V} below board duty reflects (x ∷ xs) h =
    let f = boarded_label board duty in
    let keeps = λ (a b y z : V) (p : board a ≡ Some y) (q : board b ≡ Some z) (n : below a b ≡ false).
    ⊎_elim {C = below y z ≡ false} (λ t. absurd (false≢true (sym n ∙ reflects a b y z p q t))) (λ e. e) (cases_Bool (below y z)) in
    AreApart-append below (f x) (flat_map f xs) (one_apart below (board x.0) (record { walk = x.1.walk; duty = duty }))
    (boarded_apart below board duty reflects xs h.1)
    (λ a b m n.
    let p = labelled_out (board x.0) (record { walk = x.1.walk; duty = duty }) a m in
    let q = boarded_out board duty xs b n in
    let k = outside below xs x.0 q.0 h.0 q.1 in
    (keeps x.0 q.0.0 a.0 b.0 p.0 q.2 k.0, keeps q.0.0 x.0 b.0 a.0 q.2 p.0 k.1))

duty_lengths : (d e : ℕ) → nat_eq d 4294967295 ≡ nat_eq e 4294967295 → length (duty_of d) ≡ length (duty_of e)
duty_lengths d e h =
    ⊎_elim {C = length (duty_of d) ≡ length (duty_of e)}
    (λ t. ap length (duty_none d t ∙ sym (duty_none e (sym h ∙ t))))
    (λ f. ap length (duty_some d f) ∙ sym (ap length (duty_some e (sym h ∙ f))))
    (cases_Bool (nat_eq d 4294967295))

-- labels of one vector have walks of one length
pub counted_alike : {V : Type 0} (count : V → ℤ) (walks : List (List ℕ)) (whole : Bool) (a b : V × LabelWalk) → IsCounted count walks whole a → IsCounted count walks whole b → a.0 ≡ b.0 → AreAlike walks a.1 b.1
counted_alike count walks whole a b p q e =
    let same : pos (length (walk_of_label walks a.1)) ≡ pos (length (walk_of_label walks b.1)) = sym p.counts ∙ (ap count e ∙ q.counts) in
    let lengths : length (walk_of_label walks a.1) ≡ length (walk_of_label walks b.1) = (cc) in
    let long_a = length-append (walk_at walks a.1.walk) (duty_of a.1.duty) in
    let long_b = length-append (walk_at walks b.1.walk) (duty_of b.1.duty) in
    let duties = duty_lengths a.1.duty b.1.duty (p.stands ∙ sym q.stands) in
    record { first = p.there; second = q.there; duties = p.stands ∙ sym q.stands; long = omega arith }

whole_is : (walks : List (List ℕ)) (t : LabelWalk) → nat_eq t.duty 4294967295 ≡ true → walk_of_label walks t ≡ walk_at walks t.walk
whole_is walks t h = ap (λ d. walk_at walks t.walk ++ d) (duty_none t.duty h) ∙ append-nil (walk_at walks t.walk)

longer_walk : (walks : List (List ℕ)) (t u : LabelWalk) (duty : ℕ) → nat_eq t.duty 4294967295 ≡ true → nat_eq duty 4294967295 ≡ false → (let v : LabelWalk = record { walk = t.walk; duty = duty } in u ≡ v)
    → walk_of_label walks u ≡ walk_of_label walks t ++ duty ∷ []
longer_walk walks t u duty h n e =
    ap (walk_of_label walks) e ∙ (ap (λ d. walk_at walks t.walk ++ d) (duty_some duty n) ∙ ap (λ w. w ++ duty ∷ []) (sym (whole_is walks t h)))

-- what boards has a duty more, and counts one more
pub boarded_counted : {V : Type 0} (count : V → ℤ) (walks : List (List ℕ)) (board : V → Option V) (duty : ℕ) → nat_eq duty 4294967295 ≡ false
    → ((v z : V) → board v ≡ Some z → count z ≡ count v +ℤ pos 1)
    → (labels : List (V × LabelWalk)) → AreCounted count walks true labels → AreCounted count walks false (boarded_labels board duty labels)
boarded_counted count walks board duty n one_more labels h b m =
    let k = boarded_out board duty labels b m in
    let c = h k.0 k.1 in
    let walk = longer_walk walks k.0.1 b.1 duty c.stands n k.3 in
    let long = ap length walk ∙ length-append (walk_of_label walks k.0.1) (duty ∷ []) in
    let counts : count b.0 ≡ pos (length (walk_of_label walks k.0.1)) +ℤ pos 1 = one_more k.0.0 b.0 k.2 ∙ ap (λ z. z +ℤ pos 1) c.counts in
    record {
      there = subst (λ (t : LabelWalk). t.walk < length walks) (sym k.3) c.there;
      stands = ap (λ (t : LabelWalk). nat_eq t.duty 4294967295) k.3 ∙ n;
      counts = counts ∙ ap pos (sym long);
    }

one_shown : {V : Type 0} (walks : List (List ℕ)) (o : Option V) (t : LabelWalk) (w : List ℕ) → walk_of_label walks t ≡ w → (ls : List (V × LabelWalk)) → map (shown walks) (labelled o t ++ ls) ≡ labelled o w ++ map (shown walks) ls
one_shown walks None t w e ls = refl
one_shown walks (Some v) t w e ls = ap (λ z. (v, z) ∷ map (shown walks) ls) e

-- what is shown of the labels that boarded
pub shown_boarded : {V : Type 0} (walks : List (List ℕ)) (board : V → Option V) (duty : ℕ) → nat_eq duty 4294967295 ≡ false
    → (labels : List (V × LabelWalk)) → AreWhole labels
    → map (shown walks) (boarded_labels board duty labels) ≡ flat_map (λ (e : V × List ℕ). labelled (board e.0) (e.1 ++ duty ∷ [])) (map (shown walks) labels)
shown_boarded walks board duty n [] h = refl
shown_boarded walks board duty n (l ∷ ls) h =
    let t : LabelWalk = record { walk = l.1.walk; duty = duty } in
    let walk = longer_walk walks l.1 t duty (h l (inl refl)) n refl in
    let rest = shown_boarded walks board duty n ls (λ x m. h x (inr m)) in
    one_shown walks (board l.0) t (walk_of_label walks l.1 ++ duty ∷ []) walk (boarded_labels board duty ls) ∙ ap (λ r. labelled (board l.0) (walk_of_label walks l.1 ++ duty ∷ []) ++ r) rest

-- a rank is a duty
pub is_rank : (duty : ℕ) → duty < 4294967295 → nat_eq duty 4294967295 ≡ false
is_rank duty h =
    ⊎_elim {C = nat_eq duty 4294967295 ≡ false} (λ t. let e = exact_unsigned_eq duty 4294967295 t in absurd (omega arith)) (λ f. f) (cases_Bool (nat_eq duty 4294967295))

-- what boards of one label more
pub boarded_more : {V : Type 0} (board : V → Option V) (duty : ℕ) (xs : List (V × LabelWalk)) (i : ℕ) (x : V × LabelWalk) → i < length xs → x ≡ get_or xs i x
    → boarded_labels board duty (take i xs) ++ boarded_label board duty x ≡ boarded_labels board duty (take (i + 1) xs)
boarded_more board duty xs i x h e =
    flat_map_more (boarded_label board duty) [] (take i xs) x ∙ ap (flat_map (boarded_label board duty)) (ap (λ z. take i xs ++ z ∷ []) e ∙ sym (take_more xs i x h))

labelled_count : {V W : Type 0} (o : Option V) (w : W) → length (labelled o w) ≡ cond (is_some o) 1 0
labelled_count None w = refl
labelled_count (Some v) w = refl

-- a label that boards counts as one, and one that does not as none
pub boarded_count : {V : Type 0} (board : V → Option V) (duty : ℕ) (l : V × LabelWalk) → length (boarded_label board duty l) ≡ cond (is_some (board l.0)) 1 0
boarded_count board duty l = let t : LabelWalk = record { walk = l.1.walk; duty = duty } in labelled_count (board l.0) t

-- the number of what boards of one label more
pub boarded_count_more : {V : Type 0} (board : V → Option V) (duty : ℕ) (xs : List (V × LabelWalk)) (i : ℕ) (x : V × LabelWalk) → i < length xs → x ≡ get_or xs i x
    → length (boarded_labels board duty (take (i + 1) xs)) ≡ length (boarded_labels board duty (take i xs)) + cond (is_some (board x.0)) 1 0
boarded_count_more board duty xs i x h e =
    ap length (sym (boarded_more board duty xs i x h e))
    ∙ (length-append (boarded_labels board duty (take i xs)) (boarded_label board duty x)
    ∙ ap (λ n. length (boarded_labels board duty (take i xs)) + n) (boarded_count board duty x))

-- counts go on by one, or stay
pub counted_one : (next count before after add : ℕ) → next ≡ count + 1 → count ≡ before → after ≡ before + add → add ≡ 1 → next ≡ after
counted_one next count before after add p q r s = omega arith

pub counted_none : (next count before after add : ℕ) → next ≡ count → count ≡ before → after ≡ before + add → add ≡ 0 → next ≡ after
counted_none next count before after add p q r s = omega arith

pub at_most_one : (next count i : ℕ) → next ≡ count + 1 → count ≤ i → next ≤ i + 1
at_most_one next count i p q = omega arith

pub at_most_none : (next count i : ℕ) → next ≡ count → count ≤ i → next ≤ i + 1
at_most_none next count i p q = omega arith
