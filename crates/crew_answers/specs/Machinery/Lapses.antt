-- What rests and boardings leave of values of pairings of up to 240 hours.
use Rattle.std.specs.Prelude.{◌≡◌, ◌⊎◌, ℕ, ℤ, Bool, true, false, ◌&&◌, Option, Some}
use Rattle.std.specs.Cmp.{IsTotalOrder, int_cmp_total, on_total, then_total}
use Rattle.std.specs.Option.{option_map}
use Rattle.std.specs.Ordering.{ordering_reverse, ordering_then}
use Rattle.std.specs.declared.cmp.Ordering.{Ordering}
use Rattle.std.specs.declared.cmp.Ordering.TheVariants.{Less, Equal, Greater}
use Rattle.std.proofs.Common.{inl, inr, refl, sym, ◌∙◌, ap, subst}
use Rattle.std.proofs.lemmas.Bool.{false≢true, and_parts, and_from}
use Rattle.std.proofs.lemmas.Cmp.{tied_itself}
use Rattle.crew_pairing.specs.declared.duty.Duty.{Duty}
use Rattle.crew_pairing.specs.declared.events.Arrival.{Arrival}
use Rattle.crew_pairing.specs.declared.events.Departure.{Departure}
use Rattle.crew_pairing.specs.declared.vector.PairingVector.{PairingVector}
use Rattle.crew_resource.specs.Machinery.Both.{both_board, both_wait}
use Rattle.crew_resource.specs.Machinery.BothLaws.{both_parts}
use Rattle.crew_resource.specs.Stages.{ShiftLaws}
use Rattle.crew_vector.specs.Dominance.{is_at_most}
use Rattle.crew_vector.specs.Fronts.{vector_cmp}
use Rattle.crew_vector.specs.Machinery.Named.{named_order}
use Rattle.crew_forgetful.specs.Lapses.{BoardLaws, RestLaws, TogetherLaws, WaitLaws}
use Rattle.crew_forgetful.specs.Machinery.Sums.{is_same}
use Rattle.crew_long.specs.Recents.{is_cut, recent_at_most}
use Rattle.crew_long.specs.RestEnds.{board_rest, is_rest, rest_end_at_most, rest_end_cmp, rested_end, wait_rest}
use Rattle.crew_long.specs.Machinery.Lapsing.{rest_boarded, rest_overwrites, rested_at_most, rested_listed, uncut_reflects, unrested}
use Rattle.crew_long.specs.Machinery.RecentStages.{board_recent, recent_cmp, wait_recent}
use Rattle.crew_long.specs.declared.recent.Recent.{Recent}
use Rattle.crew_long.specs.declared.rest_end.RestEnd.{RestEnd}
use Rattle.crew_answers.specs.Machinery.Joined.{joined, parts_of}
use Rattle.crew_answers.specs.Machinery.JoinedLaws.{unjoined}
use Rattle.crew_answers.specs.declared.value.LongValue.{LongValue}

-- a value without what every rest sets anew
abbrev pub rested_value : Bool → LongValue → LongValue
rested_value is_on v = record { sums = v.sums; rest_end = rested_end is_on v.rest_end; recent = v.recent }

-- values are listed by their parts in order, and at most in each
abbrev pub value_cmp : LongValue → LongValue → Ordering
value_cmp a b =
    ordering_then (vector_cmp a.sums b.sums)
    (ordering_then (rest_end_cmp a.rest_end b.rest_end) (recent_cmp a.recent b.recent))

abbrev pub value_at_most : LongValue → LongValue → Bool
value_at_most a b =
    is_at_most a.sums b.sums
    && (rest_end_at_most a.rest_end b.rest_end && recent_at_most a.recent b.recent)

abbrev same_sums : PairingVector → PairingVector → Bool
same_sums = is_same is_at_most

-- sums are listed in a total order, and the same sums are equal
sums_total : IsTotalOrder vector_cmp
sums_total =
    then_total (on_total (λ (v : PairingVector). v.duty_pay) int_cmp_total)
    (then_total (on_total (λ (v : PairingVector). v.trip_rig) int_cmp_total)
    (then_total (on_total (λ (v : PairingVector). v.guarantee) int_cmp_total)
    (then_total (on_total (λ (v : PairingVector). v.fdp) int_cmp_total)
    (then_total (on_total (λ (v : PairingVector). v.fly) int_cmp_total)
    (then_total (on_total (λ (v : PairingVector). v.duties) int_cmp_total)
    (on_total (λ (v : PairingVector). v.away) int_cmp_total))))))

equal_sums : (a b : PairingVector) → same_sums a b ≡ true → a ≡ b
equal_sums a b h =
    let f = and_parts (is_at_most a b) (is_at_most b a) h in
    named_order.antisymmetric a b f.0 f.1

sums_are_same : (a b : PairingVector) → a ≡ b → same_sums a b ≡ true
sums_are_same a b e =
    subst (λ z. same_sums a z ≡ true) e
    (and_from (is_at_most a a) (is_at_most a a) (named_order.reflexive a) (named_order.reflexive a))

tied : (a b : PairingVector) → a ≡ b → vector_cmp a b ≡ Equal
tied a b e = subst (λ z. vector_cmp a z ≡ Equal) e (tied_itself sums_total a)

-- so those that are listed alike are the same alike
same_too : (a b y z : PairingVector) → vector_cmp y z ≡ vector_cmp a b → same_sums y z ≡ true
    → same_sums a b ≡ true
same_too a b y z e h =
    sums_are_same a b (named_order.exact a b (sym e ∙ tied y z (equal_sums y z h)))

both_ways : (x y : Bool) → (x ≡ true → y ≡ true) → (y ≡ true → x ≡ true) → x ≡ y
both_ways true y f g = sym (f refl)
both_ways false true f g = g refl
both_ways false false f g = refl

same_alike : (a b y z : PairingVector) → vector_cmp y z ≡ vector_cmp a b
    → same_sums y z ≡ same_sums a b
same_alike a b y z e =
    both_ways (same_sums y z) (same_sums a b) (same_too a b y z e) (same_too y z a b (sym e))

-- a value before another has lesser sums or equal ones
sums_first : (o p : Ordering) → ordering_then o p ≡ Less → (o ≡ Less) ⊎ (o ≡ Equal)
sums_first Less p e = inl refl
sums_first Equal p e = inr refl
sums_first Greater p e = absurd (let q : ⊥ = (cc) in q)

sums_before : (a b : LongValue) → value_cmp a b ≡ Less
    → (vector_cmp a.sums b.sums ≡ Less) ⊎ (vector_cmp a.sums b.sums ≡ Equal)
sums_before a b e =
    sums_first (vector_cmp a.sums b.sums)
    (ordering_then (rest_end_cmp a.rest_end b.rest_end) (recent_cmp a.recent b.recent)) e

no_circle : (a b : PairingVector) → vector_cmp a b ≡ Less → vector_cmp b a ≡ Less → ⊥
no_circle a b h k =
    let e : Less ≡ Greater = sym h ∙ (sums_total.antisymm a b ∙ ap ordering_reverse k) in
    let q : ⊥ = (cc) in q

-- what stands between equal sums is equal to them
between : (a b c : PairingVector) → (vector_cmp a b ≡ Less) ⊎ (vector_cmp a b ≡ Equal)
    → (vector_cmp b c ≡ Less) ⊎ (vector_cmp b c ≡ Equal) → a ≡ c → a ≡ b
between a b c (inr e) k same = named_order.exact a b e
between a b c (inl h) (inr e) same = same ∙ sym (named_order.exact b c e)
between a b c (inl h) (inl k) same =
    absurd (no_circle a b h (subst (λ z. vector_cmp b z ≡ Less) (sym same) k))

-- different sums decide the listing
sums_less : (a b : PairingVector) → (vector_cmp a b ≡ Less) ⊎ (vector_cmp a b ≡ Equal)
    → same_sums a b ≡ false → vector_cmp a b ≡ Less
sums_less a b (inl h) n = h
sums_less a b (inr e) n =
    absurd (false≢true (sym n ∙ sums_are_same a b (named_order.exact a b e)))

other_sums : (a b c : PairingVector) → same_sums a b ≡ true → same_sums a c ≡ true
    → same_sums b c ≡ true
other_sums a b c h k = sums_are_same b c (sym (equal_sums a b h) ∙ equal_sums a c k)

-- the laws, over sums that the stages shift
module _ (wait_sums : PairingVector → Arrival → Departure → PairingVector)
    (board_sums : PairingVector → Duty → Option PairingVector)
    (shifts : ShiftLaws vector_cmp is_at_most wait_sums board_sums)
    (rest_on window_on : Bool) (cap : ℤ) where
  abbrev wait : LongValue → Arrival → Departure → LongValue
  wait v x g = joined (both_wait wait_sums (both_wait (wait_rest rest_on) wait_recent) (parts_of v) x g)

  abbrev board_past : (v : LongValue) → Duty → Option (RestEnd × Recent)
  board_past v d = both_board (board_rest rest_on) (board_recent window_on cap) (v.rest_end, v.recent) d

  abbrev board : LongValue → Duty → Option LongValue
  board v d = option_map joined (both_board board_sums
      (both_board (board_rest rest_on) (board_recent window_on cap)) (parts_of v) d)

  sums_boarded : (v z : LongValue) (d : Duty) → board v d ≡ Some z → (board_sums v.sums d ≡ Some z.sums)
      × (board_past v d ≡ Some (z.rest_end, z.recent))
  sums_boarded v z d e = both_parts (board_sums v.sums d) (board_past v d) (parts_of z)
      (unjoined (both_board board_sums (both_board (board_rest rest_on)
      (board_recent window_on cap)) (parts_of v) d) z e)

  past_boarded : (v z : LongValue) (d : Duty) → board v d ≡ Some z
      → (board_rest rest_on v.rest_end d ≡ Some z.rest_end)
      × (board_recent window_on cap v.recent d ≡ Some z.recent)
  past_boarded v z d e = both_parts (board_rest rest_on v.rest_end d)
      (board_recent window_on cap v.recent d) (z.rest_end, z.recent) (sums_boarded v z d e).1

  boards_listed : (a b y z : LongValue) (d : Duty) → board a d ≡ Some y → board b d ≡ Some z
      → vector_cmp y.sums z.sums ≡ vector_cmp a.sums b.sums
  boards_listed a b y z d p q = shifts.board_listed a.sums b.sums y.sums z.sums d
      (sums_boarded a y d p).0 (sums_boarded b z d q).0

  pub sums_together : TogetherLaws value_cmp (λ a b. same_sums a.sums b.sums) wait board
  sums_together = record {
    same_other = λ a b c h k. other_sums a.sums b.sums c.sums h k;
    together = λ a b c h k e. sums_are_same a.sums b.sums (between a.sums b.sums c.sums
        (sums_before a b h) (sums_before b c k) (equal_sums a.sums c.sums e));
    wait_same = λ a b x g. same_alike a.sums b.sums (wait_sums a.sums x g)
        (wait_sums b.sums x g) (shifts.wait_listed a.sums b.sums x g);
    board_same = λ a b y z d p q. same_alike a.sums b.sums y.sums z.sums
        (boards_listed a b y z d p q);
    board_rises = λ a b y z d p q h n. ap (λ o. ordering_then o
        (ordering_then (rest_end_cmp y.rest_end z.rest_end) (recent_cmp y.recent z.recent)))
        (boards_listed a b y z d p q ∙ sums_less a.sums b.sums (sums_before a b h) n);
  }

  -- the sums reflect the order, and the listing of the ends decides that of the whole
  sums_reflect : (a b : LongValue) (x : Arrival) (g : Departure) (p q : Bool)
      → (is_at_most (wait_sums a.sums x g) (wait_sums b.sums x g) && p) ≡ true
      → (p ≡ true → q ≡ true) → (is_at_most a.sums b.sums && q) ≡ true
  sums_reflect a b x g p q h f =
      let k = and_parts (is_at_most (wait_sums a.sums x g) (wait_sums b.sums x g)) p h in
      and_from (is_at_most a.sums b.sums) q (shifts.wait_reflects a.sums b.sums x g k.0) (f k.1)

  ends_decide : (a b : LongValue) (x : Arrival) (g : Departure) (o p : Ordering) → p ≡ o
      → ordering_then (vector_cmp a.sums b.sums) (ordering_then o (recent_cmp a.recent b.recent)) ≡ Less
      → ordering_then (vector_cmp (wait_sums a.sums x g) (wait_sums b.sums x g))
      (ordering_then p (recent_cmp a.recent b.recent)) ≡ Less
  ends_decide a b x g o p e h =
      ap (λ z. ordering_then z (ordering_then p (recent_cmp a.recent b.recent)))
      (shifts.wait_listed a.sums b.sums x g)
      ∙ (ap (λ z. ordering_then (vector_cmp a.sums b.sums)
      (ordering_then z (recent_cmp a.recent b.recent))) e ∙ h)

  pub waits_reflect : WaitLaws value_cmp value_at_most wait (is_rest rest_on)
  waits_reflect = record {
    wait_reflects = λ a b x g n h. sums_reflect a b x g _ _ h
        (subst (λ z. (rest_end_at_most z (wait_rest rest_on b.rest_end x g)
        && recent_at_most a.recent b.recent) ≡ true
        → (rest_end_at_most a.rest_end b.rest_end && recent_at_most a.recent b.recent) ≡ true)
        (sym (unrested rest_on a.rest_end x g n))
        (subst (λ z. (rest_end_at_most a.rest_end z && recent_at_most a.recent b.recent) ≡ true
        → (rest_end_at_most a.rest_end b.rest_end && recent_at_most a.recent b.recent) ≡ true)
        (sym (unrested rest_on b.rest_end x g n)) (λ k. k)));
    wait_rises = λ a b x g n h. ends_decide a b x g (rest_end_cmp a.rest_end b.rest_end)
        (rest_end_cmp (wait_rest rest_on a.rest_end x g) (wait_rest rest_on b.rest_end x g))
        (ap (λ z. rest_end_cmp z (wait_rest rest_on b.rest_end x g))
        (unrested rest_on a.rest_end x g n)
        ∙ ap (rest_end_cmp a.rest_end) (unrested rest_on b.rest_end x g n)) h;
  }

  pub rests_reflect : (arrived : ℕ → PairingVector → Type 0)
      → RestLaws value_cmp value_at_most wait (is_rest rest_on) (rested_value rest_on)
      (λ v. v.sums.duties) (λ n v. arrived n v.sums × (Unit {0} × Unit {0}))
  rests_reflect arrived = record {
    rest_is = λ a x g r. ap (λ z. joined (wait_sums a.sums x g, (z, a.recent)))
        (rest_overwrites rest_on a.rest_end x g r);
    rest_reflects = λ a b x g r h. sums_reflect a b x g _ _ h (λ k.
        and_from (rest_end_at_most (rested_end rest_on a.rest_end) (rested_end rest_on b.rest_end))
        (recent_at_most a.recent b.recent) (rested_at_most rest_on a.rest_end b.rest_end x g r)
        (and_parts (rest_end_at_most (wait_rest rest_on a.rest_end x g)
        (wait_rest rest_on b.rest_end x g)) (recent_at_most a.recent b.recent) k).1);
    rest_rises = λ a b x g r h. ends_decide a b x g
        (rest_end_cmp (rested_end rest_on a.rest_end) (rested_end rest_on b.rest_end))
        (rest_end_cmp (wait_rest rest_on a.rest_end x g) (wait_rest rest_on b.rest_end x g))
        (rested_listed rest_on a.rest_end b.rest_end x g r) h;
    rested_counts = λ a. refl;
    rested_arrived = λ n a h. h;
  }

  pub boards_reflect : BoardLaws value_at_most board (λ v. is_cut window_on v.recent)
  boards_reflect = record {
    board_reflects = λ a b y z d n p q h.
        let i = past_boarded a y d p in
        let j = past_boarded b z d q in
        let k = and_parts (is_at_most y.sums z.sums)
        (rest_end_at_most y.rest_end z.rest_end && recent_at_most y.recent z.recent) h in
        let l = and_parts (rest_end_at_most y.rest_end z.rest_end)
        (recent_at_most y.recent z.recent) k.1 in
        and_from (is_at_most a.sums b.sums)
        (rest_end_at_most a.rest_end b.rest_end && recent_at_most a.recent b.recent)
        (shifts.board_reflects a.sums b.sums y.sums z.sums d (sums_boarded a y d p).0
        (sums_boarded b z d q).0 k.0)
        (and_from (rest_end_at_most a.rest_end b.rest_end) (recent_at_most a.recent b.recent)
        (rest_boarded rest_on a.rest_end b.rest_end y.rest_end z.rest_end d i.0 j.0 l.0)
        (uncut_reflects window_on cap a.recent b.recent y.recent z.recent d n i.1 j.1 l.1));
  }
