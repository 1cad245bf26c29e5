-- The events that pass a test, where they stand in a window: that part of the list.
use Rattle.std.proofs.Common.{◌≡◌, ◌∙◌, ◌<◌, ◌≤◌, ◌+◌, ◌-◌, ℕ, zero, suc, Bool, true, false, cond, List, [], ◌∷◌, Some, length, take, drop, refl, ap, arith, length-drop}
use Rattle.std.specs.Prelude.{◌↔◌, slice_get}
use Rattle.std.specs.List.{filter}
use Rattle.std.proofs.lemmas.List.{length-take-le}
use Rattle.crew_net.specs.Events.{IsWindow}
use Rattle.crew_net.specs.declared.window.Window.{Window}

-- from a place on as many pass, and no others
abbrev PassFrom : {E : Type 0} → (E → Bool) → List E → ℕ → ℕ → Type 0
PassFrom {E} passes events from many = (k : ℕ) (e : E) → slice_get events k ≡ Some e → (passes e ≡ true) ↔ ((from ≤ k) × (k < from + many))

kept : {E : Type 0} (p : E → Bool) (e : E) (es : List E) → p e ≡ true → filter p (e ∷ es) ≡ e ∷ filter p es
kept p e es h = ap (λ (b : Bool). cond b (e ∷ filter p es) (filter p es)) h

passed-by : {E : Type 0} (p : E → Bool) (e : E) (es : List E) → (p e ≡ true → ⊥) → filter p (e ∷ es) ≡ filter p es
passed-by p e es h = by (p e) refl
  where
    by : (b : Bool) → p e ≡ b → cond b (e ∷ filter p es) (filter p es) ≡ filter p es
    by true q = absurd (h q)
    by false q = refl

filter-part : {E : Type 0} (p : E → Bool) (es : List E) (from many : ℕ) → PassFrom p es from many → from + many ≤ length es → filter p es ≡ take many (drop from es)
filter-part p [] zero zero h l = refl
filter-part p [] zero (suc many) h l = absurd (omega (arith, l))
filter-part p [] (suc from) many h l = absurd (omega (arith, l))
filter-part p (e ∷ es) zero zero h l =
    passed-by p e es (λ t. let b = ((h 0 e refl).0 t).1 in absurd (omega (arith, b)))
    ∙ filter-part p es zero zero (λ k f at. (
      λ t. let b = ((h (suc k) f at).0 t).1 in absurd (omega (arith, b)),
      λ s. let b = s.1 in absurd (omega (arith, b)),
    )) (omega arith)
filter-part p (e ∷ es) zero (suc many) h l =
    kept p e es ((h 0 e refl).1 (omega arith, omega arith))
    ∙ ap (λ fs. e ∷ fs) (filter-part p es zero many (λ k f at. (
      λ t. let b = ((h (suc k) f at).0 t).1 in (omega arith, omega (arith, b)),
      λ s. let b = s.1 in (h (suc k) f at).1 (omega arith, omega (arith, b)),
    )) (omega (arith, l)))
filter-part p (e ∷ es) (suc from) many h l =
    passed-by p e es (λ t. let b = ((h 0 e refl).0 t).0 in absurd (omega (arith, b)))
    ∙ filter-part p es from many (λ k f at. (
      λ t. let b = (h (suc k) f at).0 t in let lower = b.0 in let upper = b.1 in (omega (arith, lower), omega (arith, upper)),
      λ s. let lower = s.0 in let upper = s.1 in (h (suc k) f at).1 (omega (arith, lower), omega (arith, upper)),
    )) (omega (arith, l))

drop-got : {E : Type 0} (from : ℕ) (es : List E) (k : ℕ) (e : E) → slice_get (drop from es) k ≡ Some e → slice_get es (from + k) ≡ Some e
drop-got zero es k e h = let q : 0 + k ≡ k = omega arith in ap (slice_get es) q ∙ h
drop-got (suc from) [] k e h = absurd (let q : ⊥ = (cc) in q)
drop-got (suc from) (f ∷ es) k e h = let q : suc from + k ≡ suc (from + k) = omega arith in ap (slice_get (f ∷ es)) q ∙ drop-got from es k e h

take-got : {E : Type 0} (many : ℕ) (es : List E) (k : ℕ) (e : E) → slice_get (take many es) k ≡ Some e → (k < many) × (slice_get es k ≡ Some e)
take-got zero [] k e h = absurd (let q : ⊥ = (cc) in q)
take-got zero (f ∷ es) k e h = absurd (let q : ⊥ = (cc) in q)
take-got (suc many) [] k e h = absurd (let q : ⊥ = (cc) in q)
take-got (suc many) (f ∷ es) zero e h = (omega arith, h)
take-got (suc many) (f ∷ es) (suc k) e h = let r = take-got many es k e h in let b = r.0 in (omega (arith, b), r.1)

-- what stands in a window
abbrev pub part : {E : Type 0} → List E → Window → List E
part events window = take (window.end - window.from) (drop window.from events)

module _ {E : Type 0} (passes : E → Bool) (events : List E) (window : Window) (h : IsWindow passes events window) where
  -- is what passes
  pub filter-is-part : filter passes events ≡ part events window
  filter-is-part =
      let ordered = h.ordered in
      let within = h.within in
      let sum : window.from + (window.end - window.from) ≡ window.end = omega (arith, ordered) in
      filter-part passes events window.from (window.end - window.from) (λ k e at. (
        λ t. let b = (h.exact k e at).0 t in let upper = b.1 in (b.0, omega (arith, sum, upper)),
        λ s. let upper = s.1 in (h.exact k e at).1 (s.0, omega (arith, sum, upper)),
      )) (omega (arith, sum, within))

  -- as many as it is long
  pub part-long : length (part events window) ≡ window.end - window.from
  part-long =
      let within = h.within in
      let long = length-drop window.from events in
      length-take-le (window.end - window.from) (drop window.from events) (omega (arith, long, within))

  -- at their places
  pub part-got : (k : ℕ) (e : E) → slice_get (part events window) k ≡ Some e → (window.from + k < window.end) × (slice_get events (window.from + k) ≡ Some e)
  part-got k e at =
      let r = take-got (window.end - window.from) (drop window.from events) k e at in
      let b = r.0 in
      (omega (arith, b), drop-got window.from events k e r.1)
