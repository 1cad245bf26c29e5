-- Sets that grew, one after another.
use Rattle.std.proofs.Common.{◌≡◌, ℕ, true, false, Bool, List, get_or, ◌⊎◌, inl, inr, refl, ◌∙◌, ⊎_elim}
use Rattle.crew_round.specs.Machinery.Lines.{Grows, Stays}
use Rattle.crew_round.specs.declared.line.Line.{Line}

pub stays-then : (a b c : Line) → Stays a b → Stays b c → Stays a c
stays-then a b c s t = record {
  counts = t.counts ∙ s.counts;
  any = t.any ∙ s.any;
  long = t.long ∙ s.long;
  kept = λ k e. t.kept k (s.kept k e);
}

pub stays-same : (a : Line) → Stays a a
stays-same a = record { counts = refl; any = refl; long = refl; kept = λ k e. e }

pub grows-none : (Every Only : ℕ → Type 0) (a : List Bool) → ((k : ℕ) → Every k → ⊥) → Grows Every Only a a
grows-none Every Only a none = record { all = λ k e. absurd (none k e); only = λ k e. inl e }

pub grows-then : (E1 O1 E2 O2 Every Only : ℕ → Type 0) (a b c : List Bool) → Grows E1 O1 a b → Grows E2 O2 b c → ((k : ℕ) → get_or b k false ≡ true → get_or c k false ≡ true)
    → ((k : ℕ) → Every k → E1 k ⊎ E2 k) → ((k : ℕ) → O1 k → Only k) → ((k : ℕ) → O2 k → Only k) → Grows Every Only a c
grows-then E1 O1 E2 O2 Every Only a b c g h kept e o p = record {
  all = λ k x. ⊎_elim {C = get_or c k false ≡ true} (λ y. kept k (g.all k y)) (λ y. h.all k y) (e k x);
  only = λ k t.
      ⊎_elim {C = (get_or a k false ≡ true) ⊎ Only k}
      (λ s. ⊎_elim {C = (get_or a k false ≡ true) ⊎ Only k} (λ y. inl y) (λ y. inr (o k y)) (g.only k s))
      (λ y. inr (p k y))
      (h.only k t);
}
