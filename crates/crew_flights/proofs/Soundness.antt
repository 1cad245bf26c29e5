-- An edit that is accepted leaves a sound timetable.
use Rattle.std.proofs.Common.{◌≡◌, ◌≢◌, ◌≤◌, ◌+◌, ◌-◌, ◌-ℤ◌, ◌≤ℤ◌, ◌⊎◌, ℕ, ℤ, pos, suc, Bool, true, false, not, cond, List, [], ◌∷◌, length, refl, sym, ◌∙◌, ap, subst, inl, inr, arith, Option, Some, None, nat_le}
use Rattle.std.specs.Prelude.{is_some, ◌&&◌, ◌||◌, filter, int_le}
use Rattle.std.specs.declared.cmp.Ordering.TheVariants.{Equal}
use Rattle.std.specs.Ordering.{nat_cmp, eq_by_cmp}
use Rattle.std.specs.Cmp.{nat_cmp_total, eq_by_cmp_equiv}
use Rattle.std.specs.FinMap as map
use Rattle.std.specs.FinMap.Entries.{is_sorted-where_key}
use Rattle.std.proofs.lemmas.Int.{ints}
use Rattle.std.proofs.lemmas.Map.Lookups.{exact_bytes, exact_unsigned}
use Rattle.std.proofs.lemmas.Map.Views.{tells_apart}
use Rattle.crew_flights.specs.Codes.{code_cmp, code_cmp_total, is_airport, pair_cmp, pair_cmp_total}
use Rattle.crew_flights.proofs.Maps.{exact_flights, retained}
use Rattle.crew_flights.proofs.Mirrors.{link_of_others, mirrored_linked, mirrored_removed, mirrored_unlinked, mirrored_without, put_or_old, removed}
use Rattle.crew_flights.specs.FollowOns.{without_link}
use Rattle.crew_flights.specs.Timetable.{Timetable, Turns, IsFlight, IsBasePrice, IsTurn, IsFollowOn, IsSound, JoinsAirports, empty_timetable}
use Rattle.crew_flights.specs.Edits.{is_price, is_block, is_same_code, with_base, with_flight, without_flight, with_turn, without_turn, with_follow, without_follow, with_changed, retimed, repriced, changed, refusal_of, has_flight, has_base, has_turn, is_turn_of, is_followed, is_led, is_taken, has_both, first_of, joins_airports, connects}
use Rattle.crew_flights.specs.declared.flight.Flight.{Flight}
use Rattle.crew_flights.specs.declared.edit.Edit.{Edit}
use Rattle.crew_flights.specs.declared.edit.Edit.TheVariants.{AddBase, BasePrice, AddFlight, Cancel, Retime, Price, Turn, TakeTurn, Follow, TakeFollow}
use Rattle.crew_flights.specs.declared.edit.Refusal.{Refusal}
use Rattle.crew_flights.specs.declared.edit.Refusal.TheVariants.{NoFlight, NoConnection, Taken}

base_price : (price : ℤ) → not (is_price price) ≡ false → IsBasePrice price
base_price price h = record { least = grind (arith, ints); most = grind (arith, ints) }

least_block : (dep arr : ℤ) → not (is_block dep arr) ≡ false → pos 1 ≤ℤ (arr -ℤ dep)
least_block dep arr h = grind (arith, ints)

most_block : (dep arr : ℤ) → not (is_block dep arr) ≡ false → (arr -ℤ dep) ≤ℤ pos 1_440
most_block dep arr h = grind (arith, ints)

apart_codes : (a b : List ℕ) → is_same_code a b ≡ false → a ≢ b
apart_codes a b h e = let k : is_same_code a a ≡ false = subst (λ x. is_same_code a x ≡ false) (sym e) h in let r : is_same_code a a ≡ true = (eq_by_cmp_equiv code_cmp_total).refl a in cc

-- a test of edits that does not hold, and what the later ones come to
passed : (b : Bool) (refusal : Refusal) (rest : Option Refusal) → cond b (Some refusal) rest ≡ None → (b ≡ false) × (rest ≡ None)
passed true refusal rest e = (cc, cc)
passed false refusal rest e = (refl, e)

room_for : (b : Bool) (n most : ℕ) → n ≤ most → (b ≡ true) ⊎ (nat_le most n ≡ false) → cond b n (n + 1) ≤ most
room_for true n most h room = h
room_for false n most h (inl e) = absurd (cc)
room_for false n most h (inr e) = grind arith

fewer : (b : Bool) (n most : ℕ) → n ≤ most → cond b (n - 1) n ≤ most
fewer true n most h = omega arith
fewer false n most h = h

pub empty_sound : IsSound empty_timetable
empty_sound = record {
  flights = λ number flight is. let k : None ≡ Some flight = sym (map.get-empty nat_cmp number) ∙ is in absurd (cc);
  airports = λ number flight is. let k : None ≡ Some flight = sym (map.get-empty nat_cmp number) ∙ is in absurd (cc);
  bases = λ code price is. let k : None ≡ Some price = sym (map.get-empty code_cmp code) ∙ is in absurd (cc);
  base_airports = λ code price is. let k : None ≡ Some price = sym (map.get-empty code_cmp code) ∙ is in absurd (cc);
  turns = λ pair minutes is. let k : None ≡ Some minutes = sym (map.get-empty pair_cmp pair) ∙ is in absurd (cc);
  follow_ons = λ a b is. let k : None ≡ Some b = sym (map.get-empty nat_cmp a) ∙ is in absurd (cc);
  leads = λ a b is. let k : None ≡ Some b = sym (map.get-empty nat_cmp a) ∙ is in absurd (cc);
  follows = λ a b is. let k : None ≡ Some b = sym (map.get-empty nat_cmp a) ∙ is in absurd (cc);
  few_flights = rw map.len-empty (omega arith);
  few_bases = rw map.len-empty (omega arith);
  few_turns = rw map.len-empty (omega arith);
}

-- a flight that was held is held when one is put
still_held : (t : Timetable) (number : ℕ) (flight : Flight) (m : ℕ) → has_flight t m ≡ true → has_flight (with_flight t number flight) m ≡ true
still_held t number flight m h = ap is_some (map.get-insert nat_cmp_total t.flights number flight m)
    ∙ elim (eq_by_cmp nat_cmp m number) as (λ b. is_some (cond b (Some flight) (map.get t.flights m)) ≡ true) [ true ↦ refl | false ↦ h ]

pub with_flight_sound : (t : Timetable) (number : ℕ) (flight : Flight) → IsSound t → IsFlight number flight → JoinsAirports flight → (has_flight t number ≡ true) ⊎ (nat_le 5_000 (map.len t.flights) ≡ false) → IsSound (with_flight t number flight)
with_flight_sound t number flight s f joins room = record {
  flights = λ m g is.
      elim (eq_by_cmp nat_cmp m number) as (λ b. eq_by_cmp nat_cmp m number ≡ b → cond b (Some flight) (map.get t.flights m) ≡ Some g → IsFlight m g) [
        | true ↦ λ e h. let q : flight ≡ g = (cc) in let p = tells_apart exact_unsigned m number e in subst (λ x. IsFlight x g) (sym p) (subst (IsFlight number) q f)
        | false ↦ λ e h. s.flights m g h
      ] refl (sym (map.get-insert nat_cmp_total t.flights number flight m) ∙ is);
  airports = λ m g is.
      elim (eq_by_cmp nat_cmp m number) as (λ b. cond b (Some flight) (map.get t.flights m) ≡ Some g → JoinsAirports g) [
        | true ↦ λ h. let q : flight ≡ g = (cc) in subst JoinsAirports q joins
        | false ↦ λ h. s.airports m g h
      ] (sym (map.get-insert nat_cmp_total t.flights number flight m) ∙ is);
  bases = s.bases;
  base_airports = s.base_airports;
  turns = λ pair minutes is.
      let k = s.turns pair minutes is in
      record {
        before = still_held t number flight pair.0 k.before;
        after = still_held t number flight pair.1 k.after;
        most = k.most;
      };
  follow_ons = λ before after is.
      let k = s.follow_ons before after is in
      record {
        before_held = still_held t number flight before k.before_held;
        after_held = still_held t number flight after k.after_held;
        apart = k.apart;
      };
  leads = s.leads;
  follows = s.follows;
  few_flights = subst (λ n. n ≤ 5_000) (sym (map.len-insert nat_cmp_total t.flights number flight)) (room_for (has_flight t number) (map.len t.flights) 5_000 s.few_flights room);
  few_bases = s.few_bases;
  few_turns = s.few_turns;
}

-- a test of pairs answers alike at pairs that tie
alike_pairs : (p : ℕ × ℕ → Bool) (q x : ℕ × ℕ) → pair_cmp q x ≡ Equal → p x ≡ p q
alike_pairs p q x e = ap p (sym (exact_flights q x e))

fewer_kept : {X : Type 0} (p : X → Bool) (xs : List X) → length (filter p xs) ≤ length xs
fewer_kept p [] = omega arith
fewer_kept p (x ∷ xs) = let k = fewer_kept p xs in elim (p x) as (λ b. length (cond b (x ∷ filter p xs) (filter p xs)) ≤ suc (length xs)) [ true ↦ omega (arith, k) | false ↦ omega (arith, k) ]

few_retained : (m : Turns) (p : ℕ × ℕ → Bool) → map.len (map.retain_keys m p) ≤ map.len m
few_retained m p =
    let same = map.len-entries (map.retain_keys m p) ∙ ap length (ap map.entries (retained pair_cmp pair_cmp_total exact_flights m p) ∙ map.entries-from_sorted pair_cmp _ (is_sorted-where_key pair_cmp p (map.entries m) (map.entries_sorted m))) in
    let fewer = fewer_kept (λ e. p e.0) (map.entries m) in
    omega (arith, same, fewer, map.len-entries m)

kept_test : (b : Bool) (o : Option ℕ) (minutes : ℕ) → cond (not b) o None ≡ Some minutes → (b ≡ false) × (o ≡ Some minutes)
kept_test true o minutes h = absurd (cc)
kept_test false o minutes h = (refl, h)

neither : (a b : Bool) → (a || b) ≡ false → (a ≡ false) × (b ≡ false)
neither true b h = absurd (cc)
neither false b h = (refl, h)

-- a flight that was held is held when another is taken out
left_held : (t : Timetable) (number m : ℕ) → eq_by_cmp nat_cmp m number ≡ false → has_flight t m ≡ true → has_flight (without_flight t number) m ≡ true
left_held t number m other h = ap is_some (map.get-remove nat_cmp_total t.flights number m ∙ ap (λ b. cond b None (map.get t.flights m)) other) ∙ h

other_number : (m number : ℕ) → (m ≡ number → ⊥) → eq_by_cmp nat_cmp m number ≡ false
other_number m number apart =
    elim (eq_by_cmp nat_cmp m number) as (λ b. eq_by_cmp nat_cmp m number ≡ b → b ≡ false) [
      | true ↦ λ e. absurd (apart (tells_apart exact_unsigned m number e))
      | false ↦ λ e. refl
    ] refl

-- a follow-on that is left is of other flights
left_follow_on : (t : Timetable) (number : ℕ) → IsSound t → (before after : ℕ) → map.get (without_link (map.remove t.follows number) (map.get t.leads number)) before ≡ Some after → IsFollowOn (map.remove t.flights number) before after
left_follow_on t number s before after is =
    let p = link_of_others t.follows number (map.get t.leads number) before after is in
    let k = s.follow_ons before after p.0 in
    record {
      before_held = left_held t number before (other_number before number p.1) k.before_held;
      after_held = left_held t number after (other_number after number (λ e. p.2 (subst (λ x. map.get t.leads x ≡ Some before) e (s.leads before after p.0)))) k.after_held;
      apart = k.apart;
    }

pub without_flight_sound : (t : Timetable) (number : ℕ) → IsSound t → IsSound (without_flight t number)
without_flight_sound t number s = record {
  flights = λ m g is.
      elim (eq_by_cmp nat_cmp m number) as (λ b. cond b None (map.get t.flights m) ≡ Some g → IsFlight m g) [
        | true ↦ λ h. absurd (cc)
        | false ↦ λ h. s.flights m g h
      ] (sym (map.get-remove nat_cmp_total t.flights number m) ∙ is);
  airports = λ m g is.
      elim (eq_by_cmp nat_cmp m number) as (λ b. cond b None (map.get t.flights m) ≡ Some g → JoinsAirports g) [
        | true ↦ λ h. absurd (cc)
        | false ↦ λ h. s.airports m g h
      ] (sym (map.get-remove nat_cmp_total t.flights number m) ∙ is);
  bases = s.bases;
  base_airports = s.base_airports;
  turns = λ pair minutes is.
      let k = kept_test (is_turn_of number pair) (map.get t.turns pair) minutes (sym (map.get-retain_keys t.turns (λ p. not (is_turn_of number p)) pair (alike_pairs (λ p. not (is_turn_of number p)) pair)) ∙ is) in
      let apart = neither (eq_by_cmp nat_cmp pair.0 number) (eq_by_cmp nat_cmp pair.1 number) k.0 in
      let held = s.turns pair minutes k.1 in
      record {
        before = left_held t number pair.0 apart.0 held.before;
        after = left_held t number pair.1 apart.1 held.after;
        most = held.most;
      };
  follow_ons = left_follow_on t number s;
  leads = mirrored_without t.follows t.leads s.leads number;
  follows = mirrored_without t.leads t.follows s.follows number;
  few_flights = subst (λ n. n ≤ 5_000) (sym (map.len-remove nat_cmp_total t.flights number)) (fewer (has_flight t number) (map.len t.flights) 5_000 s.few_flights);
  few_bases = s.few_bases;
  few_turns = let k = few_retained t.turns (λ pair. not (is_turn_of number pair)) in let l = s.few_turns in omega (arith, k, l);
}

pub with_turn_sound : (t : Timetable) (before after minutes : ℕ) → IsSound t → IsTurn t.flights (before, after) minutes → (has_turn t before after ≡ true) ⊎ (nat_le 10_000 (map.len t.turns) ≡ false) → IsSound (with_turn t before after minutes)
with_turn_sound t before after minutes s f room = record {
  flights = s.flights;
  airports = s.airports;
  bases = s.bases;
  base_airports = s.base_airports;
  turns = λ pair n is.
      elim (eq_by_cmp pair_cmp pair (before, after)) as (λ b. eq_by_cmp pair_cmp pair (before, after) ≡ b → cond b (Some minutes) (map.get t.turns pair) ≡ Some n → IsTurn t.flights pair n) [
        | true ↦ λ e h.
            let q : minutes ≡ n = (cc) in
            let p : pair ≡ (before, after) = tells_apart exact_flights pair (before, after) e in
            subst (λ x. IsTurn t.flights x n) (sym p) (subst (IsTurn t.flights (before, after)) q f)
        | false ↦ λ e h. s.turns pair n h
      ] refl (sym (map.get-insert pair_cmp_total t.turns (before, after) minutes pair) ∙ is);
  follow_ons = s.follow_ons;
  leads = s.leads;
  follows = s.follows;
  few_flights = s.few_flights;
  few_bases = s.few_bases;
  few_turns = subst (λ n. n ≤ 10_000) (sym (map.len-insert pair_cmp_total t.turns (before, after) minutes)) (room_for (has_turn t before after) (map.len t.turns) 10_000 s.few_turns room);
}

pub without_turn_sound : (t : Timetable) (before after : ℕ) → IsSound t → IsSound (without_turn t before after)
without_turn_sound t before after s = record {
  flights = s.flights;
  airports = s.airports;
  bases = s.bases;
  base_airports = s.base_airports;
  turns = λ pair n is.
      elim (eq_by_cmp pair_cmp pair (before, after)) as (λ b. cond b None (map.get t.turns pair) ≡ Some n → IsTurn t.flights pair n) [
        | true ↦ λ h. absurd (cc)
        | false ↦ λ h. s.turns pair n h
      ] (sym (map.get-remove pair_cmp_total t.turns (before, after) pair) ∙ is);
  follow_ons = s.follow_ons;
  leads = s.leads;
  follows = s.follows;
  few_flights = s.few_flights;
  few_bases = s.few_bases;
  few_turns = subst (λ n. n ≤ 10_000) (sym (map.len-remove pair_cmp_total t.turns (before, after))) (fewer (has_turn t before after) (map.len t.turns) 10_000 s.few_turns);
}

pub with_base_sound : (t : Timetable) (code : List ℕ) (price : ℤ) → IsSound t → IsBasePrice price → is_airport code ≡ true → (has_base t code ≡ true) ⊎ (nat_le 16 (map.len t.bases) ≡ false) → IsSound (with_base t code price)
with_base_sound t code price s f airport room = record {
  flights = s.flights;
  airports = s.airports;
  bases = λ m g is.
      elim (eq_by_cmp code_cmp m code) as (λ b. cond b (Some price) (map.get t.bases m) ≡ Some g → IsBasePrice g) [
        | true ↦ λ h. let q : price ≡ g = (cc) in subst IsBasePrice q f
        | false ↦ λ h. s.bases m g h
      ] (sym (map.get-insert code_cmp_total t.bases code price m) ∙ is);
  base_airports = λ m g is.
      elim (eq_by_cmp code_cmp m code) as (λ b. eq_by_cmp code_cmp m code ≡ b → cond b (Some price) (map.get t.bases m) ≡ Some g → is_airport m ≡ true) [
        | true ↦ λ e h. subst (λ x. is_airport x ≡ true) (sym (tells_apart exact_bytes m code e)) airport
        | false ↦ λ e h. s.base_airports m g h
      ] refl (sym (map.get-insert code_cmp_total t.bases code price m) ∙ is);
  turns = s.turns;
  follow_ons = s.follow_ons;
  leads = s.leads;
  follows = s.follows;
  few_flights = s.few_flights;
  few_bases = subst (λ n. n ≤ 16) (sym (map.len-insert code_cmp_total t.bases code price)) (room_for (has_base t code) (map.len t.bases) 16 s.few_bases room);
  few_turns = s.few_turns;
}

pub with_follow_sound : (t : Timetable) (before after : ℕ) → IsSound t → IsFollowOn t.flights before after → map.get t.follows before ≡ None → map.get t.leads after ≡ None → IsSound (with_follow t before after)
with_follow_sound t before after s f free alone = record {
  flights = s.flights;
  airports = s.airports;
  bases = s.bases;
  base_airports = s.base_airports;
  turns = s.turns;
  follow_ons = λ a b is. by a b (put_or_old t.follows before after a b is);
  leads = mirrored_linked t.follows t.leads s.leads before after alone;
  follows = mirrored_linked t.leads t.follows s.follows after before free;
  few_flights = s.few_flights;
  few_bases = s.few_bases;
  few_turns = s.few_turns;
}
  where
    by : (a b : ℕ) → ((a ≡ before) × (after ≡ b)) ⊎ (map.get t.follows a ≡ Some b) → IsFollowOn t.flights a b
    by a b (inl (is, at)) = subst (λ x. IsFollowOn t.flights x b) (sym is) (subst (λ x. IsFollowOn t.flights before x) at f)
    by a b (inr old) = s.follow_ons a b old

pub without_follow_sound : (t : Timetable) (before : ℕ) → IsSound t → IsSound (without_follow t before)
without_follow_sound t before s = record {
  flights = s.flights;
  airports = s.airports;
  bases = s.bases;
  base_airports = s.base_airports;
  turns = s.turns;
  follow_ons = λ a b is. s.follow_ons a b (removed t.follows before a b is).0;
  leads = mirrored_unlinked t.follows t.leads s.leads before;
  follows = mirrored_removed t.leads t.follows s.follows before;
  few_flights = s.few_flights;
  few_bases = s.few_bases;
  few_turns = s.few_turns;
}

held : (b : Bool) → not b ≡ false → b ≡ true
held true h = refl
held false h = cc

both_held : (a b : Bool) → (a && b) ≡ true → (a ≡ true) × (b ≡ true)
both_held true b h = (refl, h)
both_held false b h = absurd (cc)

-- there is room for one turn more, or it is there already
turn_room : (a b : Bool) → (not a && b) ≡ false → (a ≡ true) ⊎ (b ≡ false)
turn_room true b h = inl refl
turn_room false b h = inr h

few_minutes : (n : ℕ) → not (nat_le n 1_441) ≡ false → n ≤ 1_441
few_minutes n h = grind arith

-- what is found, and what is not
found : {X : Type 0} (o : Option X) → is_some o ≡ true → (x : X) × (o ≡ Some x)
found None h = absurd (cc)
found (Some x) h = (x, refl)

none_found : {X : Type 0} (o : Option X) → is_some o ≡ false → o ≡ None
none_found None h = refl
none_found (Some x) h = absurd (cc)

joined : (flight : Flight) → not (joins_airports flight) ≡ false → JoinsAirports flight
joined flight h =
    let both = both_held (is_airport flight.from) (is_airport flight.to) (held _ h) in
    record { leaves = both.0; reaches = both.1 }

-- no flight connects with itself
connects_no_itself : (o : Option Flight) → ((f : Flight) → o ≡ Some f → f.from ≢ f.to) → connects o o ≡ false
connects_no_itself None apart = refl
connects_no_itself (Some f) apart =
    elim (is_same_code f.to f.from) as (λ b. is_same_code f.to f.from ≡ b → connects (Some f) (Some f) ≡ false) [
      | true ↦ λ e. absurd (apart f refl (sym (tells_apart exact_bytes f.to f.from e)))
      | false ↦ λ e. ap (λ b. b && int_le f.arr f.dep) e
    ] refl

apart_connected : (t : Timetable) (before after : ℕ) → IsSound t → connects (map.get t.flights before) (map.get t.flights after) ≡ true → before ≢ after
apart_connected t before after s h same =
    let itself = subst (λ n. connects (map.get t.flights before) (map.get t.flights n) ≡ true) (sym same) h in
    let no = connects_no_itself (map.get t.flights before) (λ f e. (s.flights before f e).apart) in
    cc

-- a flight that may be followed isn't yet
pub free_to_follow : (t : Timetable) (before after : ℕ) → refusal_of t (Follow before after) ≡ None → map.get t.follows before ≡ None
free_to_follow t before after none =
    let connected = connects (map.get t.flights before) (map.get t.flights after) in
    let a = passed (not (has_both t before after)) NoFlight (first_of ((not connected, NoConnection) ∷ (is_taken t before after, Taken) ∷ [])) none in
    let b = passed (not connected) NoConnection (first_of ((is_taken t before after, Taken) ∷ [])) a.1 in
    let c = passed (is_taken t before after) Taken None b.1 in
    none_found (map.get t.follows before) (neither (is_followed t before) (is_led t after) c.0).0

-- a change of a flight that is held
with_changed_sound : (t : Timetable) (id : ℕ) (change : Flight → Flight) → IsSound t → ((flight : Flight) → IsFlight id flight → IsFlight id (change flight)) → ((flight : Flight) → JoinsAirports flight → JoinsAirports (change flight)) → IsSound (with_changed t id (map.get t.flights id) change)
with_changed_sound t id change s keeps joins =
    elim (map.get t.flights id) as (λ o. map.get t.flights id ≡ o → IsSound (with_changed t id o change)) [
      | None ↦ λ e. s
      | Some flight ↦ λ e. with_flight_sound t id (change flight) s (keeps flight (s.flights id flight e)) (joins flight (s.airports id flight e)) (inl (ap is_some e))
    ] refl

pub changed_sound : (t : Timetable) (edit : Edit) → IsSound t → refusal_of t edit ≡ None → IsSound (changed t edit)
changed_sound t (AddBase code price) s none =
    let a = passed _ _ _ none in
    let b = passed _ _ _ a.1 in
    let c = passed _ _ _ b.1 in
    let d = passed _ _ _ c.1 in
    with_base_sound t code price s (base_price price b.0) (held _ d.0) (inr c.0)
changed_sound t (BasePrice code price) s none =
    let a = passed _ _ _ none in
    let b = passed _ _ _ a.1 in
    let is = found (map.get t.bases code) (held _ a.0) in
    with_base_sound t code price s (base_price price b.0) (s.base_airports code is.0 is.1) (inl (held _ a.0))
changed_sound t (AddFlight flight) s none =
    let a = passed _ _ _ none in
    let b = passed _ _ _ a.1 in
    let c = passed _ _ _ b.1 in
    let d = passed _ _ _ c.1 in
    let e = passed _ _ _ d.1 in
    let f = passed _ _ _ e.1 in
    let price = base_price flight.price d.0 in
    with_flight_sound t flight.id flight s
    (record {
      own = refl;
      least_block = least_block flight.dep flight.arr b.0;
      most_block = most_block flight.dep flight.arr b.0;
      apart = apart_codes flight.from flight.to c.0;
      least_price = price.least;
      most_price = price.most;
    })
    (joined flight f.0)
    (inr e.0)
changed_sound t (Cancel id) s none = without_flight_sound t id s
changed_sound t (Retime id from dep arr report_clock) s none =
    let a = passed _ _ _ none in
    let b = passed _ _ _ a.1 in
    with_changed_sound t id (retimed dep arr report_clock) s (λ flight f. record {
      own = f.own;
      least_block = least_block dep arr b.0;
      most_block = most_block dep arr b.0;
      apart = f.apart;
      least_price = f.least_price;
      most_price = f.most_price;
    })
    (λ flight j. record { leaves = j.leaves; reaches = j.reaches })
changed_sound t (Price id price) s none =
    let a = passed _ _ _ none in
    let b = passed _ _ _ a.1 in
    let p = base_price price b.0 in
    with_changed_sound t id (repriced price) s (λ flight f. record {
      own = f.own;
      least_block = f.least_block;
      most_block = f.most_block;
      apart = f.apart;
      least_price = p.least;
      most_price = p.most;
    })
    (λ flight j. record { leaves = j.leaves; reaches = j.reaches })
changed_sound t (Turn before after minutes) s none =
    let a = passed _ _ _ none in
    let b = passed _ _ _ a.1 in
    let c = passed _ _ _ b.1 in
    let d = passed _ _ _ c.1 in
    let both = both_held (has_flight t before) (has_flight t after) (held _ a.0) in
    with_turn_sound t before after minutes s
    (record {
      before = both.0;
      after = both.1;
      most = few_minutes minutes c.0;
    })
    (turn_room _ _ d.0)
changed_sound t (TakeTurn before after) s none = without_turn_sound t before after s
changed_sound t (Follow before after) s none =
    let a = passed _ _ _ none in
    let b = passed _ _ _ a.1 in
    let c = passed _ _ _ b.1 in
    let both = both_held (has_flight t before) (has_flight t after) (held _ a.0) in
    with_follow_sound t before after s
    (record {
      before_held = both.0;
      after_held = both.1;
      apart = apart_connected t before after s (held _ b.0);
    })
    (free_to_follow t before after none)
    (none_found (map.get t.leads after) (neither (is_followed t before) (is_led t after) c.0).1)
changed_sound t (TakeFollow before) s none = without_follow_sound t before s
