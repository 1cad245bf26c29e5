-- What the values of a pass over the resource of pairings of up to 240 hours have.
use Rattle.std.proofs.Common.{◌≡◌, ◌∙◌, ◌⊎◌, ◌<◌, ◌+◌, ◌||◌, ◌&&◌, ℕ, zero, suc, Bool, true, false, cond, not, nat_lt, List, [], ◌∷◌, ◌++◌, ℤ, pos, ◌+ℤ◌, ◌-ℤ◌, None, Option, Some, inl, inr, get_or, length, map, int_le, refl, sym, ap, subst, ⊎_elim, arith}
use Rattle.std.specs.Prelude.{◌≤ℤ◌, slice_get}
use Rattle.std.specs.Option.{option_map}
use Rattle.std.proofs.lemmas.Bool.{and_parts, cases_Bool, false≢true}
use Rattle.std.proofs.lemmas.Int.{ints}
use Rattle.crew_answers.proofs.Listed.{StartsLate, cut-starts}
use Rattle.crew_answers.specs.LongVectors.{is_long, settings_of_sums}
use Rattle.crew_answers.specs.Machinery.Joined.{joined, parts_of}
use Rattle.crew_answers.specs.Machinery.JoinedLaws.{unjoined}
use Rattle.crew_answers.specs.Schedules.{schedule_of}
use Rattle.crew_answers.specs.declared.value.LongValue.{LongValue}
use Rattle.crew_forgetful.specs.Sweeps.{network_of}
use Rattle.crew_pass.specs.crew_history.Histories.{may_board}
use Rattle.crew_pass.specs.crew_history.Limits.{period_of}
use Rattle.crew_label.specs.Tables.{trail_in}
use Rattle.crew_label.specs.Walks.{shown, walk_of}
use Rattle.crew_pass.specs.crew_long.Recents.{is_dated, may_take, recent_periods}
use Rattle.crew_pass.specs.crew_long.RestEnds.{board_rest, idle_rest, rest_end_at, wait_rest}
use Rattle.crew_pass.specs.crew_long.Machinery.RecentStages.{board_recent, idle_duties, idle_periods, idle_recent, taken_out, wait_recent}
use Rattle.crew_net.specs.Nets.{Net}
use Rattle.crew_pairing.specs.Events.{arrival_of, departure_of}
use Rattle.crew_pairing.specs.Legs.{Leg}
use Rattle.crew_pairing.specs.declared.duty.Duty.{Duty}
use Rattle.crew_pairing.specs.declared.events.Arrival.{Arrival}
use Rattle.crew_pairing.specs.declared.events.Departure.{Departure}
use Rattle.crew_pass.specs.Passes.{BasePass, IsCoveredBy, keyed_entries}
use Rattle.crew_pass.specs.crew_pool.Ranks.{key_at}
use Rattle.crew_resource.proofs.Members.{Member-map_in}
use Rattle.crew_resource.specs.Machinery.Both.{both}
use Rattle.crew_resource.specs.Machinery.BothLaws.{both_parts}
use Rattle.crew_resource.specs.Members.{Member}
use Rattle.crew_solve.proofs.Lent.{map-long}
use Rattle.crew_net.proofs.Numbers.{get-member}
use Rattle.crew_solve.specs.crew_vector.Machinery.Numbers.{named, numbers_of}
use Rattle.crew_solve.specs.crew_vector.Machinery.Sides.{aboard, idle, waited}
use Rattle.crew_solve.specs.crew_vector.Machinery.VectorLaws.{vector_counting}
use Rattle.crew_solve.specs.crew_vector.Machinery.VectorResources.{vector_resource}
use Rattle.crew_solve.specs.crew_vector.declared.resource.VectorResource.{VectorResource}
use Rattle.crew_fronts.specs.Machinery.Kept.{AreValued}
use Rattle.crew_fronts.specs.Machinery.Values.{IsReal, IsValue, IsWaiting}
use Rattle.crew_fronts.proofs.Valued.{has-all}

abbrev pub idle_value : VectorResource → Bool → Departure → LongValue
idle_value r on g = joined (named (idle r g), (idle_rest on g, idle_recent))

abbrev pub wait_value : VectorResource → Bool → LongValue → Arrival → Departure → LongValue
wait_value r on v x g = joined (named (waited r (numbers_of v.sums) x g), (wait_rest on v.rest_end x g, wait_recent v.recent x g))

abbrev pub board_value : VectorResource → Bool → ℤ → LongValue → Duty → Option LongValue
board_value r on cap v d = option_map joined (both (option_map named (aboard r (numbers_of v.sums) d)) (both (board_rest on v.rest_end d) (board_recent on cap v.recent d)))

-- before the first duty
idles : (r : VectorResource) (on : Bool) (g : Departure) → IsWaiting on g (idle_value r on g) 0
idles r on g = record {
  counting = record {
    counts = (vector_counting r r.max_duties refl).none_yet g;
    tied = λ e. idle_duties;
    rest_off = λ e. ap (λ b. rest_end_at (cond b g.report (pos 0))) e;
    window_off = λ e. refl;
    late = subst StartsLate (sym idle_periods) tt;
  };
  real = λ e. inl (ap (λ b. cond b g.report (pos 0)) e);
}

-- at a report
rested : (b : Bool) (report minute : ℤ) → IsReal minute → (cond b report minute ≡ report) ⊎ IsReal (cond b report minute)
rested true report minute h = inl refl
rested false report minute h = inr h

waits : (r : VectorResource) (on : Bool) (g : Departure) (x : Arrival) (u : LongValue) (n : ℕ) → IsValue on u n → IsWaiting on g (wait_value r on u x g) n
waits r true g x u n h = record {
  counting = record {
    counts = (vector_counting r r.max_duties refl).none_more u.sums x g ∙ h.counting.counts;
    tied = h.counting.tied;
    rest_off = λ e. absurd (false≢true (sym e));
    window_off = h.counting.window_off;
    late = h.counting.late;
  };
  real = λ e. rested (int_le (pos 1_800) (g.report -ℤ x.release)) g.report u.rest_end.minute h.real;
}
waits r false g x u n h = record {
  counting = record {
    counts = (vector_counting r r.max_duties refl).none_more u.sums x g ∙ h.counting.counts;
    tied = h.counting.tied;
    rest_off = h.counting.rest_off;
    window_off = h.counting.window_off;
    late = h.counting.late;
  };
  real = λ e. inr h.real;
}

kept-if : {V : Type 0} (b : Bool) (u v : V) → cond b (Some u) None ≡ Some v → u ≡ v
kept-if true u v e = (cc)
kept-if false u v e = absurd (let q : ⊥ = (cc) in q)

one : {V : Type 0} (u v : V) → Some u ≡ Some v → u ≡ v
one u v e = (cc)

late-more : (h : List (ℤ × ℤ)) (p : ℤ × ℤ) → StartsLate h → pos 0 ≤ℤ p.0 → StartsLate (h ++ p ∷ [])
late-more [] p h k = (k, tt)
late-more (q ∷ h) p s k = (s.0, late-more h p s.1 k)

le-is : (a b : ℤ) → int_le a b ≡ true → a ≤ℤ b
le-is a b h = grind (arith, ints)

one-more : (a b : ℤ) (n : ℕ) → a ≡ pos n → b ≡ a +ℤ pos 1 → b ≡ pos (n + 1)
one-more a b n e f = omega (arith, ints, e, f)

-- a duty that the window remembers reports at a real instant
dated : (cap : ℤ) (u : LongValue) (d : Duty) → may_take cap u.recent d ≡ true → IsReal d.report
dated cap u d h =
    let a = and_parts (nat_lt u.recent.duties 12) (is_dated d && may_board (pos 10_080) cap (recent_periods u.recent) (period_of d)) h in
    let b = and_parts (is_dated d) (may_board (pos 10_080) cap (recent_periods u.recent) (period_of d)) a.1 in
    let c = and_parts (int_le (pos 0) d.report) (int_le d.report (pos 2_000_000_000)) b.0 in
    record { least = le-is (pos 0) d.report c.0; most = le-is d.report (pos 2_000_000_000) c.1 }

-- with a duty more
boards : (r : VectorResource) (on : Bool) (cap : ℤ) (d : Duty) (u v : LongValue) (n : ℕ) → IsWaiting on (departure_of d) u n → board_value r on cap u d ≡ Some v → IsValue on v (n + 1)
boards r true cap d u v n h e =
    let sums = option_map named (aboard r (numbers_of u.sums) d) in
    let rest = board_rest true u.rest_end d in
    let recent = board_recent true cap u.recent d in
    let k = both_parts sums (both rest recent) (parts_of v) (unjoined (both sums (both rest recent)) v e) in
    let past = both_parts rest recent (v.rest_end, v.recent) k.1 in
    let same = kept-if (not true || int_le (d.report -ℤ u.rest_end.minute) (pos 8_280)) u.rest_end v.rest_end past.0 in
    let out = taken_out cap u.recent d (cases_Bool (may_take cap u.recent d)) v.recent past.1 in
    let real = dated cap u d out.0 in
    record {
      counting = record {
        counts = one-more u.sums.duties v.sums.duties n h.counting.counts ((vector_counting r r.max_duties refl).one_more u.sums v.sums d k.0);
        tied = λ z. out.2 ∙ ap (λ m. m + 1) (h.counting.tied refl);
        rest_off = λ z. absurd (false≢true (sym z));
        window_off = λ z. absurd (false≢true (sym z));
        late = subst StartsLate (sym out.1) (cut-starts _ (recent_periods u.recent ++ period_of d ∷ []) (late-more (recent_periods u.recent) (period_of d) h.counting.late real.least));
      };
      real = subst (λ (z : _). IsReal z.minute) same (⊎_elim {C = IsReal u.rest_end.minute} (λ q. subst IsReal (sym q) real) (λ q. q) (h.real refl));
    }
boards r false cap d u v n h e =
    let sums = option_map named (aboard r (numbers_of u.sums) d) in
    let rest = board_rest false u.rest_end d in
    let recent = board_recent false cap u.recent d in
    let k = both_parts sums (both rest recent) (parts_of v) (unjoined (both sums (both rest recent)) v e) in
    let past = both_parts rest recent (v.rest_end, v.recent) k.1 in
    let same = one u.rest_end v.rest_end past.0 in
    let stays = one u.recent v.recent past.1 in
    let off = sym same ∙ h.counting.rest_off refl in
    let zero_real : IsReal (pos 0) = record { least = omega (arith, ints); most = omega (arith, ints) } in
    record {
      counting = record {
        counts = one-more u.sums.duties v.sums.duties n h.counting.counts ((vector_counting r r.max_duties refl).one_more u.sums v.sums d k.0);
        tied = λ z. absurd (false≢true z);
        rest_off = λ z. off;
        window_off = λ z. sym stays ∙ h.counting.window_off refl;
        late = subst (λ z. StartsLate (recent_periods z)) stays h.counting.late;
      };
      real = subst (λ (z : _). IsReal z.minute) (sym off) zero_real;
    }

pub there : {X : Type 0} (xs : List X) (k : ℕ) → k < length xs → (x : X) × (slice_get xs k ≡ Some x)
there [] k h = absurd (omega (arith, h))
there (x ∷ xs) zero h = (x, refl)
there (x ∷ xs) (suc k) h = there xs k (omega (arith, h))

-- and so do the labels of a pass
pub valued : (net : Net) (base : List ℕ) (price : ℤ) (p : BasePass LongValue) (le same : LongValue → LongValue → Bool) → p.net ≡ net
    → IsCoveredBy le same (network_of (schedule_of net.settings base net.duties) departure_of arrival_of
    (idle_value (vector_resource (settings_of_sums net.settings) price) (is_long net.settings))
    (wait_value (vector_resource (settings_of_sums net.settings) price) (is_long net.settings))
    (board_value (vector_resource (settings_of_sums net.settings) price) (is_long net.settings) (pos net.settings.fdp_cap))) p
    → AreValued p
valued net base price p le same is covered rank l within m =
    let s = net.settings in
    let r = vector_resource (settings_of_sums s) price in
    let on = is_long s in
    let found = there p.net.duties rank within in
    let d = found.0 in
    let known = subst (λ (n : Net). Member n.duties d) is (get-member p.net.duties rank d found.1) in
    let trail = trail_in p.leaves p.pools in
    let walk = walk_of trail l.before in
    let entry : Member (keyed_entries p rank) (l.value, map (key_at p.net.duties) walk) =
    Member-map_in (λ (e : LongValue × List ℕ). let x : LongValue × List (List Leg) = (e.0, map (key_at p.net.duties) e.1) in x) (map (shown trail) (get_or p.fronts rank [])) (l.value, walk)
    (Member-map_in (shown trail) (get_or p.fronts rank []) l m) in
    let here = subst (λ (es : List (LongValue × List (List Leg))). Member es (l.value, map (key_at p.net.duties) walk)) (sym (covered.told rank d found.1)) entry in
    let value = has-all (schedule_of s base net.duties) departure_of arrival_of (idle_value r on) (wait_value r on) (board_value r on (pos s.fdp_cap)) le same _ covered.pools covered.arrivals covered.fronts covered.covered
    (IsWaiting on) (IsValue on) (idles r on) (waits r on) (boards r on (pos s.fdp_cap)) d l.value (map (key_at p.net.duties) walk) known here in
    subst (λ (n : Net). IsValue (is_long n.settings) l.value (length walk)) (sym is) (subst (IsValue on l.value) (map-long (key_at p.net.duties) walk) value)
