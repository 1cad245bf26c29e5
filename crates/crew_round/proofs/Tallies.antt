-- How many marks there are of a kind, when another is written.
use Rattle.std.proofs.Common.{◌≡◌, ℕ, zero, suc, ◌+◌, ◌<◌, ◌≤◌, Bool, false, not, List, [], ◌∷◌, Some, filter, get_or, length, replicate, slice_set, refl, sym, ◌∙◌, ap, subst, ⊎_elim, arith}
use Rattle.std.specs.Prelude.{slice_get}
use Rattle.std.proofs.lemmas.Bool.{cases_Bool}
use Rattle.std.proofs.lemmas.List.{length-set, map-set}
use Rattle.std.proofs.lemmas.Bool.{cases_lt}
use Rattle.crew_round.proofs.Lists.{get-set-here, get-set-other}
use Rattle.crew_round.specs.Machinery.Cells.{AreTallied, is_undone, mark_of, one_if}
use Rattle.crew_round.specs.Marks.{is_done, is_out}
use Rattle.crew_round.specs.declared.mark.Mark.{Mark}
use Rattle.crew_round.specs.declared.mark.Mark.TheVariants.{Done}

module _ {X : Type 0} (p : X → Bool) where
  one-more : (x : X) (xs : List X) → length (filter p (x ∷ xs)) ≡ length (filter p xs) + one_if (p x)
  one-more x xs =
      ⊎_elim {C = length (filter p (x ∷ xs)) ≡ length (filter p xs) + one_if (p x)}
      (λ t. rw t (omega arith))
      (λ f. rw f (omega arith))
      (cases_Bool (p x))

  pub count-set : (xs : List X) (i : ℕ) (y d : X) → i < length xs → length (filter p (slice_set xs i y)) + one_if (p (get_or xs i d)) ≡ length (filter p xs) + one_if (p y)
  count-set [] i y d h = absurd (omega (arith, h))
  count-set (x ∷ xs) zero y d h =
      let a = one-more y xs in
      let b = one-more x xs in
      omega (arith, a, b)
  count-set (x ∷ xs) (suc i) y d h =
      let a = one-more x (slice_set xs i y) in
      let b = one-more x xs in
      let r = count-set xs i y d (omega (arith, h)) in
      omega (arith, a, b, r)

  pub count-few : (xs : List X) → length (filter p xs) ≤ length xs
  count-few [] = omega arith
  count-few (x ∷ xs) =
      let a = one-more x xs in
      let r = count-few xs in
      ⊎_elim {C = length (filter p (x ∷ xs)) ≤ suc (length xs)}
      (λ t. (let o : one_if (p x) ≡ 1 = ap one_if t in omega (arith, a, r, o)))
      (λ f. (let o : one_if (p x) ≡ 0 = ap one_if f in omega (arith, a, r, o)))
      (cases_Bool (p x))

  pub count-some : (xs : List X) (i : ℕ) (d : X) → i < length xs → one_if (p (get_or xs i d)) ≤ length (filter p xs)
  count-some [] i d h = absurd (omega (arith, h))
  count-some (x ∷ xs) zero d h = let a = one-more x xs in omega (arith, a)
  count-some (x ∷ xs) (suc i) d h =
      let a = one-more x xs in
      let r = count-some xs i d (omega (arith, h)) in
      omega (arith, a, r)

-- one mark is written
pub tallied-set : (marks : List Mark) (undone : List Bool) (done out done2 out2 place : ℕ) (was mark : Mark) → AreTallied marks undone done out → place < length marks → was ≡ get_or marks place was
    → done2 + one_if (is_done was) ≡ done + one_if (is_done mark) → out2 + one_if (is_out was) ≡ out + one_if (is_out mark)
    → AreTallied (slice_set marks place mark) (slice_set undone place (not (is_done mark))) done2 out2
tallied-set marks undone done out done2 out2 place was mark t h e a b =
    let d1 = count-set is_done marks place mark was h in
    let o1 = count-set is_out marks place mark was h in
    let d2 : one_if (is_done was) ≡ one_if (is_done (get_or marks place was)) = ap (λ (m : Mark). one_if (is_done m)) e in
    let o2 : one_if (is_out was) ≡ one_if (is_out (get_or marks place was)) = ap (λ (m : Mark). one_if (is_out m)) e in
    let d3 : done ≡ length (filter is_done marks) = t.done_count in
    let o3 : out ≡ length (filter is_out marks) = t.out_count in
    record {
      set = ap (λ (z : List Bool). slice_set z place (not (is_done mark))) t.set ∙ sym (map-set is_undone marks place mark);
      done_count = omega (arith, d1, d2, d3, a);
      out_count = omega (arith, o1, o2, o3, b);
    }

pub all-tallied : (n : ℕ) → AreTallied (replicate n Done) (replicate n false) n 0
all-tallied zero = record { set = refl; done_count = refl; out_count = refl }
all-tallied (suc n) =
    let r = all-tallied n in
    let d : n ≡ length (filter is_done (replicate n Done)) = r.done_count in
    let o : 0 ≡ length (filter is_out (replicate n Done)) = r.out_count in
    record { set = ap (λ (z : List Bool). false ∷ z) r.set; done_count = omega (arith, d); out_count = o }

pub long-copies : {X : Type 0} (n : ℕ) (x : X) → length (replicate n x) ≡ n
long-copies zero x = refl
long-copies (suc n) x = ap suc (long-copies n x)

-- the marks so far are those of the flags
pub record AreMarksTo (flags : List Bool) (n : ℕ) (marks : List Mark) : Type 0 where
  pub long : length marks ≡ length flags
  pub right : (k : ℕ) → k < n → slice_get marks k ≡ Some (mark_of (get_or flags k false))

pub marks-more : (flags : List Bool) (n : ℕ) (marks : List Mark) (mark : Mark) → AreMarksTo flags n marks → n < length flags → mark ≡ mark_of (get_or flags n false) → AreMarksTo flags (n + 1) (slice_set marks n mark)
marks-more flags n marks mark a h e =
    let long = a.long in
    record {
      long = length-set marks n mark ∙ long;
      right = λ k l.
          ⊎_elim {C = slice_get (slice_set marks n mark) k ≡ Some (mark_of (get_or flags k false))}
          (λ less. get-set-other marks n k mark (λ q. omega (arith, less, q)) ∙ a.right k less)
          (λ more.
          let q : k ≡ n = omega (arith, l, more) in
          ap (slice_get (slice_set marks n mark)) q ∙ (get-set-here marks n mark (omega (arith, h, long)) ∙ (ap (λ (m : Mark). Some m) e ∙ ap (λ (z : ℕ). Some (mark_of (get_or flags z false))) (sym q))))
          (cases_lt k n);
    }

pub tallied-by : (marks : List Mark) (undone next : List Bool) (done out done2 out2 place : ℕ) (was mark : Mark) (a b c d e : Bool) → AreTallied marks undone done out → place < length marks → was ≡ get_or marks place was
    → a ≡ is_done was → b ≡ is_done mark → c ≡ is_out was → d ≡ is_out mark → e ≡ is_done mark
    → done2 + one_if a ≡ done + one_if b → out2 + one_if c ≡ out + one_if d → next ≡ slice_set undone place (not e)
    → AreTallied (slice_set marks place mark) next done2 out2
tallied-by marks undone next done out done2 out2 place was mark a b c d e t h at ea eb ec ed ee x y n =
    let xa = ap one_if ea in
    let xb = ap one_if eb in
    let yc = ap one_if ec in
    let yd = ap one_if ed in
    subst (λ (z : List Bool). AreTallied (slice_set marks place mark) z done2 out2) (sym (n ∙ ap (λ (q : Bool). slice_set undone place (not q)) ee))
    (tallied-set marks undone done out done2 out2 place was mark t h at (omega (arith, x, xa, xb)) (omega (arith, y, yc, yd)))

pub count-here : (p : Mark → Bool) (marks : List Mark) (place count : ℕ) (was : Mark) (a : Bool) → count ≡ length (filter p marks) → place < length marks → was ≡ get_or marks place was → a ≡ p was → one_if a ≤ count
count-here p marks place count was a e h at ea =
    let some = count-some p marks place was h in
    let x : one_if a ≡ one_if (p (get_or marks place was)) = ap one_if ea ∙ ap (λ (m : Mark). one_if (p m)) at in
    omega (arith, some, x, e)
