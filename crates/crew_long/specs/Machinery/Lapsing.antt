-- What rests and boardings leave of the two parts.
use Rattle.std.specs.Prelude.{◌≡◌, ℕ, ◌+◌, ◌≤ℤ◌, Bool, true, false, cond, not, ◌||◌, nat_le, int_le, ℤ, pos, ◌-ℤ◌, Some, None}
use Rattle.std.specs.Cmp.{int_cmp_total}
use Rattle.std.specs.declared.cmp.Ordering.TheVariants.{Equal}
use Rattle.std.proofs.Common.{refl, sym, ◌∙◌, ap, subst, arith}
use Rattle.std.proofs.lemmas.Bool.{cases_Bool, false≢true, and_parts, and_from}
use Rattle.std.proofs.lemmas.Bool.Decides.{nat_tests}
use Rattle.std.proofs.lemmas.Cmp.{tied_itself}
use Rattle.crew_history.specs.crew_pairing.declared.duty.Duty.{Duty}
use Rattle.crew_history.specs.crew_pairing.declared.events.Arrival.{Arrival}
use Rattle.crew_history.specs.crew_pairing.declared.events.Departure.{Departure}
use Rattle.crew_history.specs.Histories.{minutes_after, IsNoMore, grown}
use Rattle.crew_history.specs.HistoryValues.{history_at_most}
use Rattle.crew_history.specs.Limits.{period_of}
use Rattle.crew_history.proofs.FixedHistories.{at_most_is, at_most_yes}
use Rattle.crew_history.proofs.Uncut.{grown_reflects}
use Rattle.crew_long.specs.Recents.{recent_periods, recent_at_most, may_take, is_cut}
use Rattle.crew_long.specs.RestEnds.{rest_end_cmp, rest_end_at_most, wait_rest, board_rest, rest_end_at, is_rest, rested_end}
use Rattle.crew_long.specs.Machinery.RecentStages.{board_recent, taken_out}
use Rattle.crew_long.specs.Machinery.RestOrder.{rest_end_order}
use Rattle.crew_long.specs.declared.recent.Recent.{Recent}
use Rattle.crew_long.specs.declared.rest_end.RestEnd.{RestEnd}

-- a wait that isn't a rest leaves the end
pub unrested : (is_on : Bool) (v : RestEnd) (x : Arrival) (g : Departure)
    → is_rest is_on x g ≡ false → wait_rest is_on v x g ≡ v
unrested true v x g e = ap (λ b. rest_end_at (cond b g.report v.minute)) e
unrested false v x g e = refl

-- a rest sets it to the report
rest_sets : (is_on : Bool) (v : RestEnd) (x : Arrival) (g : Departure)
    → is_rest is_on x g ≡ true → wait_rest is_on v x g ≡ rest_end_at g.report
rest_sets true v x g e = ap (λ b. rest_end_at (cond b g.report v.minute)) e
rest_sets false v x g e = absurd (false≢true e)

rested_is : (is_on : Bool) (v : RestEnd) (x : Arrival) (g : Departure)
    → is_rest is_on x g ≡ true → rested_end is_on v ≡ rest_end_at (pos 0)
rested_is true v x g e = refl
rested_is false v x g e = absurd (false≢true e)

pub rest_overwrites : (is_on : Bool) (v : RestEnd) (x : Arrival) (g : Departure)
    → is_rest is_on x g ≡ true → wait_rest is_on (rested_end is_on v) x g ≡ wait_rest is_on v x g
rest_overwrites is_on v x g e = rest_sets is_on (rested_end is_on v) x g e ∙ sym (rest_sets is_on v x g e)

pub rested_at_most : (is_on : Bool) (a b : RestEnd) (x : Arrival) (g : Departure)
    → is_rest is_on x g ≡ true → rest_end_at_most (rested_end is_on a) (rested_end is_on b) ≡ true
rested_at_most is_on a b x g e =
    ap (λ z. rest_end_at_most z (rested_end is_on b)) (rested_is is_on a x g e)
    ∙ (ap (rest_end_at_most (rest_end_at (pos 0))) (rested_is is_on b x g e)
    ∙ rest_end_order.reflexive (rest_end_at (pos 0)))

-- both are listed as one
alike : (a b c : RestEnd) → a ≡ c → b ≡ c → rest_end_cmp a b ≡ Equal
alike a b c h k =
    ap (λ z. rest_end_cmp z b) h ∙ (ap (rest_end_cmp c) k ∙ tied_itself int_cmp_total c.minute)

pub rested_listed : (is_on : Bool) (a b : RestEnd) (x : Arrival) (g : Departure)
    → is_rest is_on x g ≡ true → rest_end_cmp (wait_rest is_on a x g) (wait_rest is_on b x g)
    ≡ rest_end_cmp (rested_end is_on a) (rested_end is_on b)
rested_listed is_on a b x g e =
    alike (wait_rest is_on a x g) (wait_rest is_on b x g) (rest_end_at g.report)
    (rest_sets is_on a x g e) (rest_sets is_on b x g e)
    ∙ sym (alike (rested_end is_on a) (rested_end is_on b) (rest_end_at (pos 0))
    (rested_is is_on a x g e) (rested_is is_on b x g e))

taken : {V : Type 0} (t : Bool) (v c : V) → cond t (Some v) None ≡ Some c → v ≡ c
taken true v c e = (cc)
taken false v c e = absurd (let q : ⊥ = (cc) in q)

-- boarding leaves the end of the rest
pub rest_boarded : (is_on : Bool) (a b y z : RestEnd) (d : Duty) → board_rest is_on a d ≡ Some y
    → board_rest is_on b d ≡ Some z → rest_end_at_most y z ≡ true → rest_end_at_most a b ≡ true
rest_boarded is_on a b y z d p q h =
    let first = taken (not is_on || int_le (d.report -ℤ a.minute) (pos 8_280)) a y p in
    let second = taken (not is_on || int_le (d.report -ℤ b.minute) (pos 8_280)) b z q in
    ap (λ v. rest_end_at_most v b) first ∙ (ap (rest_end_at_most y) second ∙ h)

fewer : (a b x y : ℕ) → nat_le x y ≡ true → x ≡ a + 1 → y ≡ b + 1 → nat_le a b ≡ true
fewer a b x y h e f = grind (arith, nat_tests)

-- where nothing of the first is cut, boarding reflects the order
pub uncut_reflects : (is_on : Bool) (cap : ℤ) (a b y z : Recent) (d : Duty) → is_cut is_on a d ≡ false
    → board_recent is_on cap a d ≡ Some y → board_recent is_on cap b d ≡ Some z
    → recent_at_most y z ≡ true → recent_at_most a b ≡ true
uncut_reflects true cap a b y z d c p q h =
    let j = taken_out cap a d (cases_Bool (may_take cap a d)) y p in
    let k = taken_out cap b d (cases_Bool (may_take cap b d)) z q in
    let f = and_parts (nat_le y.duties z.duties) (history_at_most y.history z.history) h in
    let less : IsNoMore (grown (pos 10_080) (recent_periods a) (period_of d)) (grown (pos 10_080) (recent_periods b) (period_of d)) =
    λ t. subst (λ v. minutes_after v t ≤ℤ minutes_after (grown (pos 10_080) (recent_periods b) (period_of d)) t) j.1
    (subst (λ v. minutes_after (recent_periods y) t ≤ℤ minutes_after v t) k.1 (at_most_is y.history z.history f.1 t)) in
    and_from (nat_le a.duties b.duties) (history_at_most a.history b.history)
    (fewer a.duties b.duties y.duties z.duties f.0 j.2 k.2)
    (at_most_yes a.history b.history
    (grown_reflects (pos 10_080) (recent_periods a) (recent_periods b) (period_of d) a.history.kept.2 c less))
uncut_reflects false cap a b y z d c p q h =
    let first : a ≡ y = (cc) in
    let second : b ≡ z = (cc) in
    ap (λ v. recent_at_most v b) first ∙ (ap (recent_at_most y) second ∙ h)
