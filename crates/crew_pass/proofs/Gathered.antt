-- Pools of several pools by what their candidates are.
use Rattle.std.proofs.Common.{◌≡◌, ◌++◌, ◌⊎◌, ℕ, List, [], inl, inr, sym, subst, ⊎_elim}
use Rattle.crew_label.specs.Pools.{ArePoolOf}
use Rattle.crew_label.specs.declared.label.Label.{Label}
use Rattle.crew_label.specs.declared.label.Link.{Link}
use Rattle.crew_labelling.specs.Candidates.{AreGathered}
use Rattle.crew_labelling.specs.Terms.{Terms}
use Rattle.crew_resource.specs.Members.{Member}
use Rattle.crew_resource.proofs.Members.{Member-append, Member-append_left, Member-append_right}

module _ {V : Type 0} (w : Terms V) (trail : Link → List ℕ) where
  -- of no candidates
  pub empty-pool : (labels : List (Label V)) → labels ≡ [] → ArePoolOf w.below w.same trail [] labels
  empty-pool labels is =
      subst (λ (ls : List (Label V)). ArePoolOf w.below w.same trail [] ls) (sym is) (record { among = λ v k m. m; covers = λ v k m. absurd m; alone = λ v k x y m. absurd m })

  -- no labels
  pub none-gathered : (C : V → List ℕ → Type 0) (labels : List (Label V)) → labels ≡ [] → ((v : V) (k : List ℕ) → C v k → ⊥) → AreGathered w trail C labels
  none-gathered C labels is none =
      subst (λ (ls : List (Label V)). AreGathered w trail C ls) (sym is)
      (record { listed = []; pool = record { among = λ v k m. m; covers = λ v k m. absurd m; alone = λ v k x y m. absurd m }; among = λ v k m. absurd m; every = λ v k c. absurd (none v k c) })

  -- the pool of two
  pub both-gathered : (C D E : V → List ℕ → Type 0) (one two whole : List (Label V)) → AreGathered w trail C one → AreGathered w trail D two
      → ((firsts seconds : List (V × List ℕ)) → ArePoolOf w.below w.same trail firsts one → ArePoolOf w.below w.same trail seconds two → ArePoolOf w.below w.same trail (firsts ++ seconds) whole)
      → ((v : V) (k : List ℕ) → C v k ⊎ D v k → E v k) → ((v : V) (k : List ℕ) → E v k → C v k ⊎ D v k) → AreGathered w trail E whole
  both-gathered C D E one two whole h k joins there back = record {
    listed = h.listed ++ k.listed;
    pool = joins h.listed k.listed h.pool k.pool;
    among = λ v p m. there v p (⊎_elim {C = C v p ⊎ D v p} (λ a. inl (h.among v p a)) (λ b. inr (k.among v p b)) (Member-append h.listed k.listed (v, p) m));
    every = λ v p e. ⊎_elim {C = Member (h.listed ++ k.listed) (v, p)}
        (λ c. Member-append_left h.listed k.listed (v, p) (h.every v p c))
        (λ d. Member-append_right h.listed k.listed (v, p) (k.every v p d)) (back v p e);
  }

  -- the pool of three
  pub three-gathered : (B C D E : V → List ℕ → Type 0) (one two three whole : List (Label V)) → AreGathered w trail B one → AreGathered w trail C two → AreGathered w trail D three
      → ((firsts seconds thirds : List (V × List ℕ)) → ArePoolOf w.below w.same trail firsts one → ArePoolOf w.below w.same trail seconds two → ArePoolOf w.below w.same trail thirds three
      → ArePoolOf w.below w.same trail ((firsts ++ seconds) ++ thirds) whole)
      → ((v : V) (k : List ℕ) → (B v k ⊎ C v k) ⊎ D v k → E v k) → ((v : V) (k : List ℕ) → E v k → (B v k ⊎ C v k) ⊎ D v k) → AreGathered w trail E whole
  three-gathered B C D E one two three whole h j k joins there back =
      let both = h.listed ++ j.listed in
      record {
        listed = (h.listed ++ j.listed) ++ k.listed;
        pool = joins h.listed j.listed k.listed h.pool j.pool k.pool;
        among = λ v p m. there v p (⊎_elim {C = (B v p ⊎ C v p) ⊎ D v p}
            (λ a. inl (⊎_elim {C = B v p ⊎ C v p} (λ b. inl (h.among v p b)) (λ c. inr (j.among v p c)) (Member-append h.listed j.listed (v, p) a)))
            (λ d. inr (k.among v p d))
            (Member-append both k.listed (v, p) m));
        every = λ v p e. ⊎_elim {C = Member ((h.listed ++ j.listed) ++ k.listed) (v, p)}
            (λ bc. Member-append_left both k.listed (v, p) (⊎_elim {C = Member (h.listed ++ j.listed) (v, p)}
            (λ b. Member-append_left h.listed j.listed (v, p) (h.every v p b)) (λ c. Member-append_right h.listed j.listed (v, p) (j.every v p c)) bc))
            (λ d. Member-append_right both k.listed (v, p) (k.every v p d)) (back v p e);
      }
