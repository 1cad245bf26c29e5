-- A resource's laws make the rules of label setting.
use Rattle.std.proofs.Common.{◌≡◌, Bool, true, false, cond, List, [], ◌∷◌, ◌++◌, map, length, Option, Some, None, inl, inr, refl, sym, ◌∙◌, ap, subst, ⊎_elim, append_assoc}
use Rattle.std.specs.List.{filter}
use Rattle.std.proofs.lemmas.List.{map-append, length-map}
use Rattle.std.proofs.lemmas.Option.{option_and_then_some}
use Rattle.std.specs.Option.{option_and_then}
use Rattle.crew_resource.specs.Members.{Member}
use Rattle.crew_resource.specs.Labels.{Undominated}
use Rattle.crew_resource.proofs.Order.{IsOrder}
use Rattle.crew_resource.proofs.Members.{Member-filter_in, Member-filter_out, Member-append, Member-append_left, Member-append_right}
use Rattle.crew_resource.proofs.Step.{Step, Rules}
use Rattle.crew_resource.specs.Resource.{StepLaws}
use Rattle.crew_resource.specs.Machinery.Paths.{Linked, Begins, PathTo, CleanPathTo}
use Rattle.crew_resource.proofs.Snoc.{snoc_cases, two_last, same_snoc, Linked-short, Linked-long, Begins-short, Begins-long}

module _ (I V K : Type 0) (key : I → K) (known : List I) (may_start : I → Bool) (may_follow : I → I → Bool)
    (opens : I → Option V) (extends : V → I → I → Option V) (le : V → V → Bool) (value_of : List I → Option V)
    (order : IsOrder le) (laws : StepLaws opens extends le value_of)
    (wle : List K → List K → Bool) (walks : IsOrder wle) where
  abbrev pub one : I → List K
  one d = key d ∷ []

  abbrev pub more : List K → I → List K
  more w d = w ++ key d ∷ []

  abbrev pub opening : I → Option V
  opening d = cond (may_start d) (opens d) None

  abbrev pub preds : I → List I
  preds d = filter (λ e. may_follow e d) known

  abbrev pub At : I → V → List K → Type 0
  At = PathTo key known may_start may_follow value_of

  abbrev pub Clean : I → V → List K → Type 0
  Clean = CleanPathTo le key known may_start may_follow value_of

  abbrev pub OneStep : (I → V → List K → Type 0) → I → V → List K → Type 0
  OneStep = Step I V (List K) one more opening extends (λ e d. Member (preds d) e)

  pub starting : (b : Bool) (o : Option V) (v : V) → cond b o None ≡ Some v → (b ≡ true) × (o ≡ Some v)
  starting true o v e = (refl, e)
  starting false o v e = absurd (let q : ⊥ = (cc) in q)

  -- a list of one
  at_one : (d : I) (v : V) (w : List K) → w ≡ one d → opening d ≡ Some v → At d v w
  at_one d v w ew eo =
      let k = starting (may_start d) (opens d) v eo in
      record { before = []; walk = ew; begins = k.0; linked = tt; are_known = λ x m. absurd m; value = laws.opening d ∙ k.1 }

  -- one more item
  at_more : (d e : I) (u v : V) (y w : List K) → Member (preds d) e → At e u y → extends u e d ≡ Some v → w ≡ more y d → At d v w
  at_more d e u v y w a p ex ew =
      let k = Member-filter_out (λ e. may_follow e d) known e a in
      let two = two_last p.before e d in
      record {
        before = p.before ++ e ∷ [];
        walk = ew ∙ (ap (λ z. z ++ key d ∷ []) p.walk ∙ sym (map-append key (p.before ++ e ∷ []) (d ∷ [])));
        begins = subst (Begins may_start) (sym two) (Begins-long may_start p.before e d p.begins);
        linked = subst (Linked may_follow) (sym two) (Linked-long may_follow p.before e d p.linked k.1);
        are_known = λ x m. ⊎_elim (p.are_known x) (⊎_elim (λ q. subst (Member known) q k.0) (λ b. absurd b)) (Member-append p.before (e ∷ []) x m);
        value = ap value_of two ∙ (laws.extension p.before e d ∙ (ap (option_and_then (λ t. extends t e d)) p.value ∙ ex));
      }

  at_in : (d : I) (v : V) (w : List K) → OneStep At d v w → At d v w
  at_in d v w (inl p) = at_one d v w p.0 p.1
  at_in d v w (inr s) = at_more d s.0 s.1 v s.2 w s.3 s.4 s.5 s.6

  -- the list without its last item, where there is one before
  pub record Shorter (d : I) (v : V) (w : List K) (before : List I) : Type 0 where
    pub bs : List I
    pub e : I
    pub is : before ≡ bs ++ e ∷ []
    pub u : V
    pub arc : Member (preds d) e
    pub path : At e u (map key (bs ++ e ∷ []))
    pub same : path.before ≡ bs
    pub extended : extends u e d ≡ Some v
    pub walk : w ≡ more (map key (bs ++ e ∷ [])) d

  shorter : (d : I) (v : V) (w : List K) (p : At d v w) (bs : List I) (e : I) → p.before ≡ bs ++ e ∷ [] → Shorter d v w p.before
  shorter d v w p bs e is =
      let whole : p.before ++ d ∷ [] ≡ bs ++ e ∷ d ∷ [] = ap (λ z. z ++ d ∷ []) is ∙ two_last bs e d in
      let link = Linked-short may_follow bs e d (subst (Linked may_follow) whole p.linked) in
      let val : option_and_then (λ t. extends t e d) (value_of (bs ++ e ∷ [])) ≡ Some v = sym (laws.extension bs e d) ∙ (ap value_of (sym whole) ∙ p.value) in
      let last : Member p.before e = subst (λ z. Member z e) (sym is) (Member-append_right bs (e ∷ []) e (inl refl)) in
      option_and_then_some {P = Shorter d v w p.before} (λ t. extends t e d) (value_of (bs ++ e ∷ [])) v val (λ u eu ex. record {
        bs = bs;
        e = e;
        is = is;
        u = u;
        arc = Member-filter_in (λ e. may_follow e d) known e (p.are_known e last) link.1;
        path = record {
          before = bs;
          walk = refl;
          begins = Begins-short may_start bs e d (subst (Begins may_start) whole p.begins);
          linked = link.0;
          are_known = λ x m. p.are_known x (subst (λ z. Member z x) (sym is) (Member-append_left bs (e ∷ []) x m));
          value = eu;
        };
        same = refl;
        extended = ex;
        walk = p.walk ∙ (ap (map key) (ap (λ z. z ++ d ∷ []) is) ∙ map-append key (bs ++ e ∷ []) (d ∷ []));
      })

  alone : (d : I) (v : V) (w : List K) (p : At d v w) → p.before ≡ [] → (w ≡ one d) × (opening d ≡ Some v)
  alone d v w p is =
      let whole : p.before ++ d ∷ [] ≡ d ∷ [] = ap (λ z. z ++ d ∷ []) is in
      let first = subst (Begins may_start) whole p.begins in
      (p.walk ∙ ap (map key) whole, ap (λ b. cond b (opens d) None) first ∙ (sym (laws.opening d) ∙ (ap value_of (sym whole) ∙ p.value)))

  pub at_out : (d : I) (v : V) (w : List K) → At d v w → OneStep At d v w
  at_out d v w p = ⊎_elim
      (λ is. inl (alone d v w p is))
      (λ s. let k = shorter d v w p s.0 s.1 s.2 in inr (k.e, k.u, map key (k.bs ++ k.e ∷ []), k.arc, k.path, k.extended, k.walk))
      (snoc_cases p.before)

  clean_out : (d : I) (v : V) (w : List K) → Clean d v w → OneStep Clean d v w
  clean_out d v w c = ⊎_elim
      (λ is. inl (alone d v w c.path is))
      (λ s.
      let k = shorter d v w c.path s.0 s.1 s.2 in
      inr (
        k.e,
        k.u,
        map key (k.bs ++ k.e ∷ []),
        k.arc,
        record {
          path = k.path;
          clean = λ cs f rest t q. c.clean cs f (rest ++ d ∷ []) t
              (sym (append_assoc cs (f ∷ rest) (d ∷ [])) ∙ ap (λ z. z ++ d ∷ []) (q ∙ (ap (λ z. z ++ k.e ∷ []) k.same ∙ sym k.is)));
        },
        k.extended,
        k.walk,
      ))
      (snoc_cases c.path.before)

  clean_undominated : (d : I) (v : V) (w : List K) → Clean d v w → Undominated le (At d) v
  clean_undominated d v w c = c.clean c.path.before d [] v refl c.path.value

  -- the beginnings of a list with one more item: the list itself, or one of the list before
  beginnings_more : (P : I → V → Type 0) (bs : List I) (d : I)
      → ((u : V) → value_of (bs ++ d ∷ []) ≡ Some u → P d u)
      → ((cs : List I) (f : I) (rest : List I) (u : V) → cs ++ f ∷ rest ≡ bs → value_of (cs ++ f ∷ []) ≡ Some u → P f u)
      → (cs : List I) (f : I) (rest : List I) (u : V) → cs ++ f ∷ rest ≡ bs ++ d ∷ [] → value_of (cs ++ f ∷ []) ≡ Some u → P f u
  beginnings_more P bs d here there cs f rest u e val = ⊎_elim
      (λ is.
      let q = same_snoc cs bs f d (ap (λ z. cs ++ f ∷ z) (sym is) ∙ e) in
      subst (λ z. P z u) (sym q.1) (here u (ap value_of (ap (λ z. z ++ d ∷ []) (sym q.0) ∙ ap (λ z. cs ++ z ∷ []) (sym q.1)) ∙ val)))
      (λ s.
      let q = same_snoc (cs ++ f ∷ s.0) bs s.1 d (append_assoc cs (f ∷ s.0) (s.1 ∷ []) ∙ (ap (λ z. cs ++ f ∷ z) (sym s.2) ∙ e)) in
      there cs f s.0 u q.0 val)
      (snoc_cases rest)

  nothing : (cs : List I) (f : I) (rest : List I) → cs ++ f ∷ rest ≡ [] → ⊥
  nothing [] f rest e = let q : ⊥ = (cc) in q
  nothing (c ∷ cs) f rest e = let q : ⊥ = (cc) in q

  some_same : (u v : V) → ◌≡◌ {A = Option V} (Some u) (Some v) → u ≡ v
  some_same u v e = (cc)

  clean_in : (d : I) (v : V) (w : List K) → OneStep Clean d v w → Undominated le (At d) v → Clean d v w
  unfolding at_one at_more
  clean_in d v w (inl p) und =
      let path = at_one d v w p.0 p.1 in
      record {
        path = path;
        clean = beginnings_more (λ f u. Undominated le (At f) u) path.before d
            (λ u e. subst (Undominated le (At d)) (some_same v u (sym path.value ∙ e)) und)
            (λ cs f rest u e. absurd (nothing cs f rest e));
      }
  clean_in d v w (inr s) und =
      let path = at_more d s.0 s.1 v s.2 w s.3 s.4.path s.5 s.6 in
      record {
        path = path;
        clean = beginnings_more (λ f u. Undominated le (At f) u) path.before d
            (λ u e. subst (Undominated le (At d)) (some_same v u (sym path.value ∙ e)) und)
            (λ cs f rest u e. s.4.clean cs f rest u e);
      }

  -- values tell lengths, and the order of walks respects one more item at lists of one length: so the rules hold
  module _ (same_length : (xs ys : List I) (x y : I) (v : V) → value_of (xs ++ x ∷ []) ≡ Some v → value_of (ys ++ y ∷ []) ≡ Some v → length (xs ++ x ∷ []) ≡ length (ys ++ y ∷ []))
      (grows : (xs ys : List K) (k : K) → length xs ≡ length ys → wle xs ys ≡ true → wle (xs ++ k ∷ []) (ys ++ k ∷ []) ≡ true) where
    walk_length : (e : I) (u : V) (y : List K) (p : At e u y) → length y ≡ length (p.before ++ e ∷ [])
    walk_length e u y p = ap length p.walk ∙ simp length-map

    pub rules : Rules I V (List K) one more opening extends (λ e d. Member (preds d) e) le wle At Clean
    rules = record {
      order = order;
      walks = walks;
      monotone = laws.monotone;
      at_in = at_in;
      at_out = at_out;
      clean_in = clean_in;
      clean_out = clean_out;
      clean_at = λ d v w c. c.path;
      clean_undominated = clean_undominated;
      more_mono = λ e d u y z p q h.
          grows y z (key d) (walk_length e u y p ∙ (same_length p.before q.before e e u p.value q.value ∙ sym (walk_length e u z q))) h;
    }
