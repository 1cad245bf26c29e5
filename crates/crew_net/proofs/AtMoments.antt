-- Events by the duties that have them.
use Rattle.std.proofs.Common.{◌≡◌, ◌<◌, ◌+◌, inl, inr, ℕ, ℤ, List, [], ◌∷◌, ◌++◌, length, refl, sym, ap, subst, ◌∙◌, arith, get_or, map}
use Rattle.std.proofs.lemmas.List.{get_or-map, length_push, get_or_append_left, get_or_push}
use Rattle.crew_resource.specs.Members.{Member}
use Rattle.crew_resource.proofs.Members.{Member-get}
use Rattle.crew_net.specs.Machinery.Held.{AreAt, IsAtMoment}
use Rattle.crew_net.proofs.Moments.{under-cases}
use Rattle.crew_pairing.specs.declared.duty.Duty.{Duty}

module _ {E : Type 0} (event_of : Duty → E) (at : Duty → ℤ) (duties : List Duty) (moments : List ℤ) where
  -- the events of the first n moments
  pub record AtSoFar (n : ℕ) (events : List E) : Type 0 where
    pub long : length events ≡ n
    pub own : (k : ℕ) (e : E) (m : ℤ) → k < length events → (d : Duty) × Member duties d × (event_of d ≡ get_or events k e) × (at d ≡ get_or moments k m)

  pub none-so-far : AtSoFar 0 []
  none-so-far = record { long = refl; own = λ k e m h. absurd (omega (arith, h)) }

  pub at-all : (n : ℕ) (events : List E) → n ≡ length moments → AtSoFar n events → AreAt event_of at duties moments events
  at-all n events e so = record { long = so.long ∙ e; own = so.own }

  pub at-more : (n : ℕ) (events : List E) (d : Duty) → n < length moments → IsAtMoment (map at duties) duties moments n d → AtSoFar n events → AtSoFar (n + 1) (events ++ event_of d ∷ [])
  at-more n events d h its so =
      let long = length_push events (event_of d) in
      let before = so.long in
      let rank = its.0 in
      let same : get_or duties rank d ≡ d = its.2 d in
      record {
        long = omega (arith, long, before);
        own = λ k e m hk. elim (under-cases k n (omega (arith, hk, long, before))) [
          | inl l ↦ (let r = so.own k e m (omega (arith, l, before)) in (r.0, r.1, r.2 ∙ sym (get_or_append_left events (event_of d ∷ []) e k (omega (arith, l, before))), r.3))
          | inr f ↦ (
            d,
            subst (Member duties) same (Member-get duties rank d its.1),
            sym (get_or_push events (event_of d) e k (before ∙ sym f)),
            ap at (sym same) ∙ (sym (get_or-map at duties rank d m its.1) ∙ (its.3 m ∙ ap (λ (j : ℕ). get_or moments j m) (sym f))),
          )
        ];
      }
