-- Two lists that are gone over side by side.
use Rattle.std.proofs.Common.{◌≡◌, Bool, true, false, List, [], ◌∷◌, ◌++◌, Option, Some, None, map, refl, sym, ap, ◌∙◌, true≢false}
use Rattle.std.specs.Prelude.{IfSome, MatchOption}
use Rattle.std.specs.Bool.{Decides}
use Rattle.std.specs.Iterator.{ComparesItemsByEq, Yields, YieldsFirstBy}
use Rattle.std.specs.List.{AllZip}
use Rattle.std.proofs.lemmas.List.{append_cancel_left}

-- what an iterator has left
pub left-by : {S A B : Type 0} (v : A → B) (rest : S → List B) (s : S) (xs : List A) (t : S) → Yields (YieldsFirstBy v rest) s xs t → rest s ≡ map v xs ++ rest t
left-by v rest s [] t y = ap rest y
left-by {B = B} v rest s (x ∷ xs) t y = y.1 ∙ ap (λ (l : List B). v x ∷ l) (left-by v rest y.0 xs t y.2)

module _ {S T U A B : Type 0} (v : A → B) (rest : S → List B) (others : T → List B) (becomes : U → T → Type 0) (eq : A → A → Bool) (exact : (x y : A) → Decides (eq x y) (v x ≡ v y)) where
  zip-same : (xs ys : List A) → AllZip (λ x y. eq x y ≡ true) xs ys → map v xs ≡ map v ys
  zip-same [] [] z = refl
  zip-same [] (y ∷ ys) z = absurd z
  zip-same (x ∷ xs) [] z = absurd z
  zip-same (x ∷ xs) (y ∷ ys) z = ap (λ (b : B). b ∷ map v xs) ((exact x y).0 z.0) ∙ ap (λ (l : List B). v y ∷ l) (zip-same xs ys z.1)

  abbrev Last : Bool → Option A → Option A → Type 0
  Last r o p = MatchOption o (MatchOption p (r ≡ true) (λ _. r ≡ false)) (λ x. (r ≡ false) × IfSome p (λ y. eq x y ≡ false))

  module _ (r : Bool) (as' bs zs : List B) (t u : S) (q w : T) (a : as' ≡ zs ++ rest t) (b : bs ≡ zs ++ others q) where
    abbrev left : as' ≡ bs → rest t ≡ others q
    left e = append_cancel_left zs (rest t) (others q) (sym a ∙ (e ∙ b))

    finish : (o p : Option A) → YieldsFirstBy v rest t o u → YieldsFirstBy v others q p w → Last r o p → Decides r (as' ≡ bs)
    finish None None h k l = (λ _. a ∙ (ap (λ (z : List B). zs ++ z) (h.0 ∙ sym k.0) ∙ sym b), λ _. l)
    finish None (Some y) h k l = (λ e. absurd (true≢false (sym e ∙ l)), λ e. absurd (let m = left e in let g = h.0 in let n : ⊥ = (cc (m, g, k)) in n))
    finish (Some x) None h k l = (λ e. absurd (true≢false (sym e ∙ l.0)), λ e. absurd (let m = left e in let g = k.0 in let n : ⊥ = (cc (m, g, h)) in n))
    finish (Some x) (Some y) h k l = (
      λ e. absurd (true≢false (sym e ∙ l.0)),
      λ e.
          let m = left e in
          let same : v x ≡ v y = (cc (m, h, k)) in
          absurd (true≢false (sym ((exact x y).1 same) ∙ l.1)),
    )

  -- what `eq` of two iterators tells
  pub compared : (s : S) (other : U) (r : Bool) (as' bs : List B) → rest s ≡ as' → ((it : T) → becomes other it → others it ≡ bs) → ComparesItemsByEq (YieldsFirstBy v rest) becomes (YieldsFirstBy v others) s other eq r → Decides r (as' ≡ bs)
  compared s other r as' bs start opens c =
      let ours = c.8 in
      let theirs = c.9 in
      let same = zip-same c.1 c.2 c.10 in
      let a : as' ≡ map v c.1 ++ rest ours.0 = sym start ∙ left-by v rest s c.1 ours.0 ours.1 in
      let b : bs ≡ map v c.1 ++ others theirs.0 = sym (opens c.0 c.7) ∙ (left-by v others c.0 c.2 theirs.0 theirs.1 ∙ ap (λ (z : List B). z ++ others theirs.0) (sym same)) in
      finish r as' bs (map v c.1) ours.0 c.5 theirs.0 c.6 a b c.3 c.4 ours.2 theirs.2 c.11
