-- What boards a duty, where nothing is forgotten: the duty's front.
use Rattle.std.proofs.Common.{◌≡◌, ◌+◌, ◌++◌, ℕ, true, List, [], ◌∷◌, Option, None, Some, map, get_or, inl, inr, refl, sym, subst, ⊎_elim}
use Rattle.std.specs.Prelude.{slice_get}
use Rattle.std.specs.declared.cmp.Ordering.TheVariants.{Less}
use Rattle.crew_forgetful.proofs.Offers.{same_pool}
use Rattle.crew_label.specs.Boarding.{boarded_from, linked}
use Rattle.crew_label.specs.Pools.{ArePoolOf, AreRising}
use Rattle.crew_label.specs.Walks.{ranks_at_most, shown}
use Rattle.crew_label.specs.declared.label.Label.{Label}
use Rattle.crew_label.specs.declared.label.Link.{Link}
use Rattle.crew_label.proofs.Boarded.{boarded_counted, boarded_entries}
use Rattle.crew_label.proofs.MergedPools.{ranks_order}
use Rattle.crew_label.proofs.Parted.{boarded-out}
use Rattle.crew_label.proofs.RisingLists.{each-member}
use Rattle.crew_label.proofs.Shifts.{boarded_front}
use Rattle.crew_labelling.specs.Held.{leads_of, trail_of}
use Rattle.crew_labelling.specs.Labellings.{labelling_of, table_of}
use Rattle.crew_labelling.specs.Terms.{Terms, number_of}
use Rattle.crew_labelling.proofs.Labels.{counted}
use Rattle.crew_labelling.proofs.One.{is-right}
use Rattle.crew_labelling.proofs.Only.{one-list}
use Rattle.crew_labelling.proofs.Right.{departures-gathered, departures-into, departures-ready, departures-rise, fronts-are, fronts-held, fronts-rise}
use Rattle.crew_pairing.specs.Events.{departure_of}
use Rattle.crew_pairing.specs.declared.duty.Duty.{Duty}
use Rattle.crew_resource.specs.Labels.{IsLocal}
use Rattle.crew_resource.specs.Members.{Each, Member}
use Rattle.crew_resource.proofs.Covering.{local_unique}
use Rattle.crew_resource.proofs.Members.{Member-append, Member-append_left, Member-append_right}
use Rattle.crew_resource.proofs.Values.{below_order}
use Rattle.crew_pass.specs.Machinery.Terms.{MayPass}

each-of : {X : Type 0} (P : X → Type 0) (xs : List X) → ((x : X) → Member xs x → P x) → Each P xs
each-of P [] h = tt
each-of P (x ∷ xs) h = (h x (inl refl), each-of P xs (λ y m. h y (inr m)))

module _ {V : Type 0} (w : Terms V) (may : MayPass w) (alone : (a b : V) → w.below a b ≡ true → w.same a b ≡ true → a ≡ b)
    (rank : ℕ) (d : Duty) (known : slice_get w.net.duties rank ≡ Some d)
    (reflects : (a b y z : V) → w.board a d ≡ Some y → w.board b d ≡ Some z → w.below y z ≡ true → w.below a b ≡ true) where
  abbrev trail : Link → List ℕ
  trail = trail_of (table_of w (labelling_of w))

  abbrev from : List (Label V)
  from = get_or (labelling_of w).departures (get_or w.leaves.positions rank 0) []

  abbrev aboard : List (V × List ℕ)
  aboard = map (shown trail) (boarded_from (λ v. w.board v d) (number_of w rank) 0 from)

  abbrev front : List (V × List ℕ)
  front = map (shown trail) (get_or (labelling_of w).fronts rank [])

  aboard-local : IsLocal w.below ranks_at_most (λ v k. Member aboard (v, k)) aboard
  aboard-local =
      let all = departures-gathered w may.terms may.lawful (get_or w.leaves.positions rank 0) (departure_of d) (may.terms.passable.are_positions.exact rank d known) in
      boarded_front w.cmp w.below w.same may.lawful.order may.lawful.forgets.same_itself may.lawful.forgets.same_between alone (λ v. w.board v d) (number_of w rank) rank reflects
      (leads_of (table_of w (labelling_of w))) trail all.listed from (departures-into w may.terms may.lawful rank d known) all.pool

  front-local : IsLocal w.below ranks_at_most (λ v k. Member aboard (v, k)) front
  front-local =
      subst (λ (es : List (V × List ℕ)). IsLocal w.below ranks_at_most (λ v k. Member es (v, k)) front)
      (sym (boarded_entries (λ v. w.board v d) (number_of w rank) (leads_of (table_of w (labelling_of w))) trail rank from (departures-into w may.terms may.lawful rank d known)))
      (fronts-are w may.terms may.lawful rank d known)

  pub aboard-in : (v : V) (k : List ℕ) → Member aboard (v, k) → Member front (v, k)
  aboard-in = local_unique V (List ℕ) w.below ranks_at_most (below_order may.lawful.order) ranks_order (λ v k. Member aboard (v, k)) aboard front aboard-local front-local

  pub front-in : (v : V) (k : List ℕ) → Member front (v, k) → Member aboard (v, k)
  front-in = local_unique V (List ℕ) w.below ranks_at_most (below_order may.lawful.order) ranks_order (λ v k. Member aboard (v, k)) front aboard front-local aboard-local

  -- a pool of some candidates and of what boards is that of the candidates and of the front
  pub with-front : (candidates : List (V × List ℕ)) (labels : List (Label V)) → ArePoolOf w.below w.same trail (candidates ++ aboard) labels → ArePoolOf w.below w.same trail (candidates ++ front) labels
  with-front candidates labels =
      same_pool V (List ℕ) w.below w.same ranks_at_most (below_order may.lawful.order) ranks_order may.lawful.forgets.same_itself may.lawful.forgets.same_between
      (λ v k. Member (candidates ++ aboard) (v, k)) (λ v k. Member (candidates ++ front) (v, k)) (map (shown trail) labels)
      (λ v k m. ⊎_elim {C = Member (candidates ++ front) (v, k)}
      (λ a. Member-append_left candidates front (v, k) a)
      (λ b. Member-append_right candidates front (v, k) (aboard-in v k b))
      (Member-append candidates aboard (v, k) m))
      (λ v k m. ⊎_elim {C = Member (candidates ++ aboard) (v, k)}
      (λ a. Member-append_left candidates aboard (v, k) a)
      (λ b. Member-append_right candidates aboard (v, k) (front-in v k b))
      (Member-append candidates front (v, k) m))

  -- what boards rises, where boarding keeps the listing
  module _ (listed : (a b y z : V) → w.board a d ≡ Some y → w.board b d ≡ Some z → w.cmp a b ≡ Less → w.cmp y z ≡ Less) where
    rises-with : (n : ℕ) (l : Label V) (ls : List (Label V)) (o : Option V) → w.board l.value d ≡ o → Each (λ m. w.cmp l.value m.value ≡ Less) ls
        → AreRising w.cmp (boarded_from (λ v. w.board v d) (number_of w rank) (n + 1) ls) → AreRising w.cmp (linked o (record { duty = number_of w rank; place = n }) ++ boarded_from (λ v. w.board v d) (number_of w rank) (n + 1) ls)
    rises-with n l ls None e first rest = rest
    rises-with n l ls (Some y) e first rest = (
      each-of (λ m. w.cmp y m.value ≡ Less) (boarded_from (λ v. w.board v d) (number_of w rank) (n + 1) ls) (λ m k.
          let b = boarded-out (λ v. w.board v d) (number_of w rank) (n + 1) ls m k in
          listed l.value b.0.value y m.value e b.2 (each-member (λ x. w.cmp l.value x.value ≡ Less) ls b.0 first b.1)),
      rest,
    )

    boarded-rises : (n : ℕ) (ls : List (Label V)) → AreRising w.cmp ls → AreRising w.cmp (boarded_from (λ v. w.board v d) (number_of w rank) n ls)
    boarded-rises n [] h = tt
    boarded-rises n (l ∷ ls) h = rises-with n l ls (w.board l.value d) refl h.0 (boarded-rises (n + 1) ls h.1)

    -- and is the front, label by label
    pub front-is-aboard : get_or (labelling_of w).fronts rank [] ≡ boarded_from (λ v. w.board v d) (number_of w rank) 0 from
    front-is-aboard =
        let t = table_of w (labelling_of w) in
        let position = get_or w.leaves.positions rank 0 in
        let into = departures-into w may.terms may.lawful rank d known in
        let counting = may.lawful.counting may.terms.counts.limit may.terms.counts.has_most in
        let counts = boarded_counted (λ v. w.board v d) (number_of w rank) (leads_of t) (trail_of t) rank w.count (λ v z e. counting.one_more v z d e) from into (counted w t w.ready from (departures-ready w may.terms may.lawful position)) in
        one-list w may.terms may.lawful (labelling_of w) (is-right w may.terms may.lawful) (get_or (labelling_of w).fronts rank []) (boarded_from (λ v. w.board v d) (number_of w rank) 0 from)
        (fronts-rise w may.terms may.lawful rank) (boarded-rises 0 from (departures-rise w may.terms may.lawful position))
        (λ l m. (fronts-held w may.terms may.lawful rank l m).leading) (λ l m. (counts l m).leading) front-in aboard-in
