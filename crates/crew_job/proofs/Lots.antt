-- Lists of jobs that stand on one ground.
use Rattle.std.specs.Prelude.{◌==◌}
use Rattle.std.proofs.Common.{◌≡◌, ◌<◌, ◌∙◌, ◌++◌, ◌∷◌, ◌+◌, [], inl, inr, ℕ, zero, suc, List, ap, arith, false, get_or, length, refl, sym, take, ⊎_elim}
use Rattle.std.proofs.Math.Seq.{take-suc}
use Rattle.crew_job.specs.Grounds.{Ground}
use Rattle.crew_job.specs.Jobs.{Job}
use Rattle.crew_job.specs.Lots.{IsLot, StandOn}
use Rattle.crew_resource.proofs.Members.{Member-append}
use Rattle.crew_resource.specs.Members.{Member}

-- one more stands on the ground of the others
pub stand-more : (g : Ground) (jobs : List Job) (job : Job) → StandOn g jobs → job.ground ≡ g → StandOn g (jobs ++ job ∷ [])
stand-more g jobs job all here other m =
    ⊎_elim {C = other.ground ≡ g}
    (λ before. all other before)
    (λ last. ⊎_elim {C = other.ground ≡ g} (λ e. ap (λ (j : Job). j.ground) (sym e) ∙ here) (λ none. absurd none) last)
    (Member-append jobs (job ∷ []) other m)

-- what isn't empty has a first
pub some-first : (n : ℕ) → false ≡ (n == 0) → 0 < n
some-first zero e = absurd (let q : ⊥ = (cc) in q)
some-first (suc n) e = omega arith

-- jobs on a ground are a lot
pub lot-on : (g : Ground) (jobs : List Job) → StandOn g jobs → IsLot jobs
lot-on g jobs all one other m n = all one m ∙ sym (all other n)

pub lot-more : (jobs : List Job) (job : Job) → StandOn job.ground jobs → IsLot (jobs ++ job ∷ [])
lot-more jobs job all = lot-on job.ground (jobs ++ job ∷ []) (stand-more job.ground jobs job all refl)

-- a lot stands on the ground of each of its jobs
pub stand-with : (jobs : List Job) (job : Job) → IsLot jobs → Member jobs job → StandOn job.ground jobs
stand-with jobs job is m other n = is other job n m

pub member-taken : {X : Type 0} (k : ℕ) (xs : List X) (x : X) → Member (take k xs) x → Member xs x
member-taken zero [] x m = m
member-taken zero (y ∷ xs) x m = absurd m
member-taken (suc k) [] x m = m
member-taken (suc k) (y ∷ xs) x (inl e) = inl e
member-taken (suc k) (y ∷ xs) x (inr m) = inr (member-taken k xs x m)

-- the first of them stand on the ground of each
pub stand-taken : (k : ℕ) (jobs : List Job) (job : Job) → IsLot jobs → Member jobs job → StandOn job.ground (take k jobs)
stand-taken k jobs job is m other n = is other job (member-taken k jobs other n) m

-- one more of them
pub one-more : {X : Type 0} (xs : List X) (k : ℕ) (x : X) → k < length xs → x ≡ get_or xs k x → take (k + 1) xs ≡ take k xs ++ x ∷ []
one-more xs k x low is =
    let next : k + 1 ≡ suc k = omega arith in
    ap (λ n. take n xs) next ∙ (take-suc xs k x low ∙ ap (λ y. take k xs ++ y ∷ []) (sym is))
