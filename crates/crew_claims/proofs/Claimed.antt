-- What stands at the places when one more result is put there.
use Rattle.std.proofs.Common.{rules, ◌≡◌, ◌∙◌, ◌<◌, ◌≤◌, ℕ, List, [], ◌∷◌, ◌++◌, Option, Some, All, IfSome, ap, length, set, get_or, ⊎_elim, sym, subst, arith}
use denote.Param.Members.{Shared}
use Rattle.std.specs.Fn.{FnReturns}
use Rattle.std.specs.Fork.{GivesJob}
use Rattle.std.specs.Fork.Halves.{GivesFor}
use Rattle.std.proofs.lemmas.Bool.{cases_eq, cases_lt}
use Rattle.std.proofs.lemmas.List.{get_or-set_same, get_or-set_other, get_or_append_left, get_or_push, length-set, length_push}
use Rattle.std.proofs.lemmas.List.Elements.{All-append, All-head, All-tail, All-same}
use Rattle.crew_claims.specs.Machinery.Claims.{ArePlaced, IsMade}

-- one more, where each before it has a property, and it too
pub all-and-one : {A : Type 0} (P : A → Type 0) (before all : List A) (x : A) → all ≡ before ++ x ∷ [] → All P before → P x → All P all
all-and-one P before all x is each one = All-same P all (before ++ x ∷ []) is (All-append P before (x ∷ []) each (search rules))

module _ {F X : Type 0} (g : Shared F (ℕ × Unit {0}) X) (f : F) where
  placed-more : (places : List (Option X)) (count index : ℕ) (x : X) → length places ≡ count → ArePlaced g f places → IsMade g f count (index, x)
      → ArePlaced g f (set places index (Some x))
  placed-more places count index x long placed made =
      let P : ℕ → Option X → Type 0 = λ k place. IfSome place (λ y. FnReturns g f (k, tt) y) in
      let inside : index < length places = omega (arith, long, made.below) in
      λ k d l. ⊎_elim
      (λ e. subst (λ j. P j (get_or (set places index (Some x)) j d)) (sym e) (subst (P index) (sym (get_or-set_same places index (Some x) d inside)) made.call))
      (λ n. subst (P k) (sym (get_or-set_other places index k (Some x) d n)) (placed k d (omega (arith, l, length-set places index (Some x)))))
      (cases_eq k index)

  -- a step of the loop that puts what a thread made at its places
  pub placed-next : (places : List (Option X)) (count index : ℕ) (x : X) (left rest : List (ℕ × X)) → left ≡ (index, x) ∷ rest
      → (length places ≡ count) × ArePlaced g f places × All (IsMade g f count) left
      → (length (set places index (Some x)) ≡ count) × ArePlaced g f (set places index (Some x)) × All (IsMade g f count) rest
  placed-next places count index x left rest is held =
      let made : All (IsMade g f count) ((index, x) ∷ rest) = All-same (IsMade g f count) ((index, x) ∷ rest) left (sym is) held.2 in (
        length-set places index (Some x) ∙ held.0,
        placed-more places count index x held.0 held.1 (All-head (IsMade g f count) (index, x) rest made),
        All-tail (IsMade g f count) (index, x) rest made,
      )

-- what came of the jobs before, and of one more
module _ {F J Y : Type 0} (g : Shared F (J × Unit {0}) Y) (f : F) where
  pub done-more : (all before : List J) (job : J) (ys zs : List Y) (y : Y) → all ≡ before ++ job ∷ [] → zs ≡ ys ++ y ∷ []
      → GivesFor g f before ys → FnReturns g f (job, tt) y → GivesFor g f all zs
  done-more all before job ys zs y is more done call =
      let here : (i : ℕ) (d : Y) → i ≡ length before → GivesJob g f all i (get_or zs i d) = λ i d same. record {
        job = job;
        job_read = sym (ap (λ js. get_or js i job) is ∙ get_or_push before job job i (sym same));
        job_is = λ e. ap (λ js. get_or js i e) is ∙ get_or_push before job e i (sym same);
        call = subst (FnReturns g f (job, tt)) (sym (ap (λ rs. get_or rs i d) more ∙ get_or_push ys y d i (done.len ∙ sym same))) call;
      } in
      let earlier : (i : ℕ) (d : Y) → i < length before → GivesJob g f all i (get_or zs i d) = λ i d less. let was = done.each i d less in record {
        job = was.job;
        job_read = was.job_read ∙ sym (ap (λ js. get_or js i was.job) is ∙ get_or_append_left before (job ∷ []) was.job i less);
        job_is = λ e. ap (λ js. get_or js i e) is ∙ get_or_append_left before (job ∷ []) e i less ∙ was.job_is e;
        call = subst (FnReturns g f (was.job, tt)) (sym (ap (λ rs. get_or rs i d) more ∙ get_or_append_left ys (y ∷ []) d i (omega (arith, less, done.len)))) was.call;
      } in
      record {
        len = omega (arith, ap length more, ap length is, length_push ys y, length_push before job, done.len);
        each = λ i d inside. ⊎_elim (earlier i d) (λ (past : length before ≤ i). here i d (omega (arith, past, inside, ap length is, length_push before job))) (cases_lt i (length before));
      }
