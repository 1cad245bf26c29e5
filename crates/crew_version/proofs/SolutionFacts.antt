-- What a solution says of a timetable.
use Rattle.std.proofs.Common.{◌≡◌, ℕ, zero, suc, take, ℤ, Bool, true, false, cond, List, [], ◌∷◌, Option, Some, None, refl, sym, ap, subst, ◌∙◌, inl, inr, ◌||◌, reverse, arith}
use Rattle.std.specs.Prelude.{◌↔◌, ◌≤ℤ◌, IfSome, IsNone, is_some}
use Rattle.std.proofs.lemmas.Bool.{false≢true}
use Rattle.std.specs.Borrow.{Bor}
use Rattle.std.specs.FinMap as fin
use Rattle.std.specs.Option.{option_copied}
use Rattle.std.specs.Ordering.{eq_by_cmp, is_eq}
use Rattle.std.specs.Cmp.{Equal-is}
use Rattle.std.specs.List.{list_any}
use Rattle.std.proofs.lemmas.Cmp.{tied_itself}
use Rattle.crew_flights.specs.Codes.{code_cmp, code_cmp_total}
use Rattle.crew_flights.proofs.Soundness.{changed_sound, empty_sound}
use Rattle.crew_flights.specs.Edits.{applied, apply_of, refusal_of}
use Rattle.crew_flights.specs.Fold.{data_after, is_in_turn}
use Rattle.crew_flights.specs.Timetable.{IsSound, Timetable, empty_timetable}
use Rattle.crew_flights.specs.declared.edit.Edit.{Edit}
use Rattle.crew_flights.specs.declared.edit.Refusal.{Refusal}
use Rattle.crew_flights.specs.declared.entries.Entry.{Entry}
use Rattle.crew_pairing.specs.Legs.{Leg}
use Rattle.crew_resource.specs.Members.{Member}
use Rattle.crew_rules.specs.declared.settings.Settings.{Settings}
use Rattle.crew_version.specs.Drafts.{IsSolutionOf}
use Rattle.crew_version.specs.Fronts.{IsFrontByKey}
use Rattle.crew_version.specs.Versions.{timetable_of}
use Rattle.crew_version.specs.Machinery.Kept.{IsSolved, best_of}
use Rattle.crew_rules.specs.Settings.{IsChecked}
use Rattle.crew_plan.specs.Apart.{AreApart, AreApartOf, AreTaken}
use Rattle.crew_plan.specs.Cheapest.{AreCheapest, AreCheapestOf, AreFirst, IsBestOf, IsShown, IsShownOf}
use Rattle.crew_plan.specs.Solutions.{IsFrontOf, Solution}
use Rattle.crew_plan.specs.crew_answers.Bests.{IsBest, IsPairing}
use Rattle.crew_plan.proofs.crew_answers_lemmas.Cheapest.{best-least}
use Rattle.crew_plan.specs.crew_answers.Fronts.{IsFrontAt}
use Rattle.crew_plan.specs.crew_answers.LongVectors.{LongVector}
use Rattle.crew_vector.specs.declared.priced.PricedPairing.{PricedPairing}

-- ---- codes among the keys of the bases

same-code : (a : List ℕ) → eq_by_cmp code_cmp a a ≡ true
same-code a = ap is_eq (tied_itself code_cmp_total a)

code-same : (a b : List ℕ) → eq_by_cmp code_cmp a b ≡ true → a ≡ b
code-same a b e = fin.slice_cmp-IsAntisymmetric fin.nat_cmp-IsAntisymmetric a b ((Equal-is (code_cmp a b)).0 e)

any-member : (codes : List (List ℕ)) (a : List ℕ) → Member codes a → list_any (eq_by_cmp code_cmp a) codes ≡ true
any-member [] a m = absurd m
any-member (c ∷ codes) a (inl e) = ap (λ b. b || list_any (eq_by_cmp code_cmp a) codes) (subst (λ x. eq_by_cmp code_cmp x c ≡ true) e (same-code c))
any-member (c ∷ codes) a (inr m) = or-true (eq_by_cmp code_cmp a c) _ (any-member codes a m)
  where
    or-true : (x y : Bool) → y ≡ true → (x || y) ≡ true
    or-true true y h = refl
    or-true false y h = h

member-first : (codes : List (List ℕ)) (a c : List ℕ) (b : Bool) → eq_by_cmp code_cmp a c ≡ b → (b || list_any (eq_by_cmp code_cmp a) codes) ≡ true → (list_any (eq_by_cmp code_cmp a) codes ≡ true → Member codes a) → Member (c ∷ codes) a
member-first codes a c true e k rest = inl (sym (code-same a c e))
member-first codes a c false e k rest = inr (rest k)

member-any : (codes : List (List ℕ)) (a : List ℕ) → list_any (eq_by_cmp code_cmp a) codes ≡ true → Member codes a
member-any [] a h = absurd (cc (h))
member-any (c ∷ codes) a h = member-first codes a c (eq_by_cmp code_cmp a c) refl h (member-any codes a)

priced-of : (o : Option ℤ) → is_some o ≡ true → (price : ℤ) × (o ≡ Some price)
priced-of None h = cc h
priced-of (Some price) h = (price, refl)

-- a code among the keys is a base, and a base's code is among them
base-priced : (t : Timetable) (base : List ℕ) → Member (fin.keys t.bases) base → (price : ℤ) × (fin.get t.bases base ≡ Some price)
base-priced t base m = priced-of (fin.get t.bases base) (fin.contains_key-keys t.bases base ∙ any-member (fin.keys t.bases) base m)

priced-base : (t : Timetable) (base : List ℕ) (price : ℤ) → fin.get t.bases base ≡ Some price → Member (fin.keys t.bases) base
priced-base t base price e = member-any (fin.keys t.bases) base (sym (fin.contains_key-keys t.bases base) ∙ ap is_some e)

-- ---- fronts

-- the front that a solution shows is the front of the base and the duty
pub front-shown : (s : Settings) (t : Timetable) (solution : Solution) (base : List ℕ) (key : List Leg) (front : Option (List (LongVector × List (List Leg)))) → IsSolutionOf s t solution → IsFrontOf solution base key front
    → IsFrontByKey s t base key front
front-shown s t solution base key None h shown = λ price d based duty named.
    let listed = subst (Member h.network.0) (sym duty.3) (h.network.1.every duty.0 duty.1 duty.2) in
    shown d (rw h.network.2.bases (priced-base t base price based)) (rw h.network.2.duties listed) named
front-shown s t solution base key (Some entries) h shown =
    let priced = base-priced t base (rw h.network.2.bases at shown.1) in
    let duty = h.network.1.sound shown.0 (rw h.network.2.duties at shown.2) in
    (priced.0, shown.0, priced.1, duty, shown.3, subst (IsFrontAt s t base priced.0 shown.0) (sym shown.4) (h.scratch.fronts base priced.0 shown.0 priced.1 duty), shown.5)

no-base : (base : List ℕ) (price : ℤ) → fin.get empty_timetable.bases base ≡ Some price → ⊥
no-base base price h = let none : fin.get empty_timetable.bases base ≡ None = fin.get-empty code_cmp base in cc (none, h)

-- before any entry there is none
pub no-front-at-start : (s : Settings) (t : Timetable) (base : List ℕ) (key : List Leg) → t ≡ empty_timetable → IsFrontByKey s t base key None
no-front-at-start s t base key e = rw e (λ price d based duty named. no-base base price based)

-- ---- the cheapest

sound-by : (t : Timetable) (edit : Edit) (o : Option Refusal) → refusal_of t edit ≡ o → IsSound t → IsSound (applied t edit o).0
sound-by t edit None e h = changed_sound t edit h e
sound-by t edit (Some why) e h = h

sound-if : (b : Bool) (t u : Timetable) → IsSound t → IsSound u → IsSound (cond b t u)
sound-if true t u h k = h
sound-if false t u h k = k

sound-after : (earlier : List Entry) → IsSound (data_after earlier)
sound-after [] = empty_sound
sound-after (e ∷ earlier) =
    let h = sound-after earlier in
    sound-if (is_in_turn earlier e) (apply_of (data_after earlier) e.edit).0 (data_after earlier) (sound-by (data_after earlier) e.edit (refusal_of (data_after earlier) e.edit) refl h) h

-- the timetable of a log is one that edits can make
pub timetable-sound : (entries : List Entry) → IsSound (timetable_of entries)
timetable-sound entries = sound-after (reverse entries)

-- where none is shown none is the first
no-first : (Shown : PricedPairing → Type 0) (limit : ℕ) → ((q : PricedPairing) → Shown q → ⊥) → AreFirst Shown limit []
no-first Shown limit none = record { rise = tt; few = omega arith; shown = λ p m. absurd m; least = λ q h. absurd (none q h) }

none-taken : (Shown : PricedPairing → Type 0) (limit share : ℕ) → ((q : PricedPairing) → Shown q → ⊥) → AreTaken Shown limit share []
none-taken Shown limit share none = record {
  all = [];
  are = record { rise = tt; shown = λ p m. absurd m; each = λ q h. absurd (none q h) };
  first = none-of limit;
}
  where
    none-of : (n : ℕ) → let none : List PricedPairing = [] in none ≡ take n none
    none-of zero = refl
    none-of (suc n) = refl

-- before any entry there is none
none-legal : (s : Settings) (t : Timetable) → t ≡ empty_timetable → (p : PricedPairing) → IsPairing s t p → ⊥
none-legal s t e = rw e (λ p h. no-base p.base h.price h.based)

pub no-pairing-at-start : (s : Settings) (t : Timetable) (limit : ℕ) → t ≡ empty_timetable → AreCheapest s t limit []
no-pairing-at-start s t limit e = no-first (IsShown s t) limit (λ q h. none-legal s t e q h.pairing)

pub none-apart-at-start : (s : Settings) (t : Timetable) (limit share : ℕ) → t ≡ empty_timetable → AreApart s t limit share []
none-apart-at-start s t limit share e = none-taken (IsShown s t) limit share (λ q h. none-legal s t e q h.pairing)

-- nor of any base
pub no-best-of-at-start : (s : Settings) (t : Timetable) (base : List ℕ) → t ≡ empty_timetable → IsBestOf s t base None
no-best-of-at-start s t base e = λ p is own. none-legal s t e p is

pub none-of-at-start : (s : Settings) (t : Timetable) (base : List ℕ) (limit : ℕ) → t ≡ empty_timetable → AreCheapestOf s t base limit []
none-of-at-start s t base limit e = no-first (IsShownOf s t base) limit (λ q h. none-legal s t e q h.0.pairing)

pub none-apart-of-at-start : (s : Settings) (t : Timetable) (base : List ℕ) (limit share : ℕ) → t ≡ empty_timetable → AreApartOf s t base limit share []
none-apart-of-at-start s t base limit share e = none-taken (IsShownOf s t base) limit share (λ q h. none-legal s t e q h.0.pairing)

-- ---- the best

pub best-right : (s : Settings) (t : Timetable) (solution : Option Solution) → IsSolved s t solution → IsBest s t (best_of solution)
best-right s t None e = rw e (λ p pairing. no-base p.base pairing.price pairing.based)
best-right s t (Some solution) h = h.scratch.best_is

-- ---- what the best says, where it is lent

pub best-legal : (s : Settings) (t : Timetable) (lent : Option (Bor PricedPairing)) → IsBest s t (option_copied lent) → IfSome lent (λ b. IsPairing s t b.now)
best-legal s t None h = tt
best-legal s t (Some b) h = h.0.pairing

pub best-costs-least : (s : Settings) (t : Timetable) (lent : Option (Bor PricedPairing)) → IsChecked s → IsSound t → IsBest s t (option_copied lent)
    → IfSome lent (λ b. (p : PricedPairing) → IsPairing s t p → b.now.cost ≤ℤ p.cost)
best-costs-least s t None checked sound h = tt
best-costs-least s t (Some b) checked sound h = λ p is. best-least s t checked sound b.now p h is

pub best-none : (s : Settings) (t : Timetable) (lent : Option (Bor PricedPairing)) → IsBest s t (option_copied lent) → IsNone lent ↔ ((p : PricedPairing) → IsPairing s t p → ⊥)
best-none s t None h = (λ _. h, λ _. refl)
best-none s t (Some b) h = (λ e. absurd (false≢true (sym e)), λ none. absurd (none b.now h.0.pairing))
