-- Which flights follow one by its turns, among those that leave where it arrives after a gap.
use Rattle.std.proofs.Common.{◌≡◌, ◌≤◌, ◌∙◌, ◌&&◌, ◌-ℤ◌, ℕ, ℤ, pos, int_le, Bool, true, false, cond, if◌then◌else◌, List, [], ◌∷◌, ◌++◌, Option, None, Some, length, refl, sym, ap, arith, filter}
use Rattle.std.specs.Prelude.{◌==◌, slice_get}
use Rattle.std.specs.FinMap as map
use Rattle.std.specs.Option.{unwrap_or}
use Rattle.std.specs.Ordering.{eq_by_cmp}
use Rattle.std.proofs.lemmas.Bool.Decides.{Decides-eqb}
use Rattle.std.proofs.lemmas.Int.{ints}
use Rattle.std.proofs.lemmas.List.Elements.{filter-append}
use Rattle.crew_flights.specs.Codes.{code_cmp}
use Rattle.crew_flights.specs.Timetable.{Turns}
use Rattle.crew_flights.specs.declared.flight.Flight.{Flight}
use Rattle.crew_rules.specs.declared.settings.Settings.{Settings}
use Rattle.crew_pairing.specs.Legality.{turn_time}
use Rattle.crew_duty.specs.Machinery.Plans.{StandAt}
use Rattle.crew_duty.specs.Machinery.Slots.{follows_by, is_after_by}
use Rattle.crew_duty.specs.Machinery.Turns.{is_late_enough, least_gap, minutes_to, turns_from}
use Rattle.crew_duty.proofs.Turned.{filter-alike, filter-both, turn-among}

-- whether there are turns
pub none-of : (own : List ((ℕ × ℕ) × ℕ)) → (length own == 0) ≡ true → own ≡ []
none-of [] h = refl
none-of (e ∷ own) h = absurd (let q : length (e ∷ own) ≡ 0 = (Decides-eqb (length (e ∷ own)) 0).0 h in omega (arith, q))

pub no-gap : (s : Settings) (own : List ((ℕ × ℕ) × ℕ)) → (length own == 0) ≡ false → least_gap s own ≡ 0
no-gap s own h = ap (λ (b : Bool). if b then s.connect else 0) h

-- it is no more than what is asked for where there is no turn
pub gap-most : (s : Settings) (own : List ((ℕ × ℕ) × ℕ)) → least_gap s own ≤ s.connect
gap-most s own = by (length own == 0)
  where
    by : (b : Bool) → (if b then s.connect else 0) ≤ s.connect
    by true = omega arith
    by false = omega arith

own-time : (s : Settings) (turns : Turns) (own : List ((ℕ × ℕ) × ℕ)) (before f : Flight) → own ≡ turns_from turns before.id → turn_time s turns before f ≡ unwrap_or (minutes_to f.id own) s.connect
own-time s turns own before f e = ap (λ (o : Option ℕ). unwrap_or o s.connect) (turn-among turns before.id f.id ∙ ap (minutes_to f.id) (sym e))

same-tests : (a z code top late : Bool) → (a ≡ true → z ≡ true) → (a && ((code && (z && top)) && late)) ≡ ((code && (a && top)) && late)
same-tests true true code top late h = refl
same-tests true false code top late h = absurd (let q : false ≡ true = h refl in cc)
same-tests false z true top late h = refl
same-tests false z false top late h = refl

no-less : (n : ℕ) (gap : ℤ) → int_le (pos n) gap ≡ true → int_le (pos 0) gap ≡ true
no-less n gap h = grind (arith, ints)

-- a flight without turns
none-turned : (s : Settings) (turns : Turns) (own : List ((ℕ × ℕ) × ℕ)) (latest : ℤ) (before f : Flight) → own ≡ turns_from turns before.id → own ≡ [] → is_after_by s s.connect latest before f ≡ follows_by s turns latest before f
none-turned s turns own latest before f e none =
    let time : turn_time s turns before f ≡ s.connect = own-time s turns own before f e ∙ ap (λ (l : List ((ℕ × ℕ) × ℕ)). unwrap_or (minutes_to f.id l) s.connect) none in
    ap (λ (n : ℕ). (eq_by_cmp code_cmp before.to f.from && (int_le (pos n) (f.dep -ℤ before.arr) && int_le (f.dep -ℤ before.arr) (pos s.sit))) && int_le f.dep latest) (sym time)

-- a flight with turns
some-turned : (s : Settings) (turns : Turns) (own : List ((ℕ × ℕ) × ℕ)) (latest : ℤ) (before f : Flight) → own ≡ turns_from turns before.id → (is_late_enough s own before f && is_after_by s 0 latest before f) ≡ follows_by s turns latest before f
some-turned s turns own latest before f e =
    let gap = f.dep -ℤ before.arr in
    let n = unwrap_or (minutes_to f.id own) s.connect in
    same-tests (int_le (pos n) gap) (int_le (pos 0) gap) (eq_by_cmp code_cmp before.to f.from) (int_le gap (pos s.sit)) (int_le f.dep latest) (no-less n gap)
    ∙ ap (λ (m : ℕ). (eq_by_cmp code_cmp before.to f.from && (int_le (pos m) gap && int_le gap (pos s.sit))) && int_le f.dep latest) (sym (own-time s turns own before f e))

pub plain-followers : (s : Settings) (turns : Turns) (own : List ((ℕ × ℕ) × ℕ)) (latest : ℤ) (before : Flight) (fs : List Flight) → own ≡ turns_from turns before.id → own ≡ []
    → filter (is_after_by s (least_gap s own) latest before) fs ≡ filter (follows_by s turns latest before) fs
plain-followers s turns own latest before fs e none =
    ap (λ (l : List ((ℕ × ℕ) × ℕ)). filter (is_after_by s (least_gap s l) latest before) fs) none
    ∙ filter-alike (is_after_by s s.connect latest before) (follows_by s turns latest before) fs (λ f. none-turned s turns own latest before f e none)

pub turned-followers : (s : Settings) (turns : Turns) (own : List ((ℕ × ℕ) × ℕ)) (latest : ℤ) (before : Flight) (fs : List Flight) → own ≡ turns_from turns before.id → least_gap s own ≡ 0
    → filter (is_late_enough s own before) (filter (is_after_by s (least_gap s own) latest before) fs) ≡ filter (follows_by s turns latest before) fs
turned-followers s turns own latest before fs e zero =
    ap (λ (n : ℕ). filter (is_late_enough s own before) (filter (is_after_by s n latest before) fs)) zero
    ∙ sym (filter-both (is_late_enough s own before) (is_after_by s 0 latest before) fs)
    ∙ filter-alike (λ f. is_late_enough s own before f && is_after_by s 0 latest before f) (follows_by s turns latest before) fs (λ f. some-turned s turns own latest before f e)

-- one flight more, where it passes
pub stand-more : (flights : List Flight) (places : List ℕ) (gs : List Flight) (place : ℕ) (g : Flight) (b : Bool) → StandAt flights places gs → slice_get flights place ≡ Some g
    → StandAt flights (places ++ (if b then place ∷ [] else [])) (gs ++ (if b then g ∷ [] else []))
stand-more flights [] [] place g true h e = (e, tt)
stand-more flights [] [] place g false h e = tt
stand-more flights [] (x ∷ gs) place g b h e = absurd h
stand-more flights (p ∷ places) [] place g b h e = absurd h
stand-more flights (p ∷ places) (x ∷ gs) place g b h e = (h.0, stand-more flights places gs place g b h.1 e)

pub filter-more : (p : Flight → Bool) (gs : List Flight) (g : Flight) → filter p (gs ++ g ∷ []) ≡ filter p gs ++ (if p g then g ∷ [] else [])
filter-more p gs g = filter-append p gs (g ∷ []) ∙ ap (λ (l : List Flight). filter p gs ++ l) (one (p g))
  where
    one : (b : Bool) → cond b (g ∷ []) [] ≡ (if b then g ∷ [] else [])
    one true = refl
    one false = refl
