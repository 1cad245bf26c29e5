use Rattle.std.proofs.Common.{◌≡◌, ◌∙◌, ◌&&◌, Bool, ap, arith, neg_ℤ, of_z, pos, to_z, w32, w64, ℕ, ℤ}
use Rattle.std.specs.Prelude.{int_le, nat_le}
use Rattle.std.proofs.lemmas.Int.{ints}
use Rattle.crew_anchor.specs.contracts.vector.AnchoredVector.{the_view}
use Rattle.crew_vector.specs.Dominance.{is_at_most}
use Rattle.crew_anchor.proofs.resource.AnchoredResourceResource.at_most.Goals as goal

abbrev seven : Bool → Bool → Bool → Bool → Bool → Bool → Bool → Bool
seven a b c f y n w = (a && (b && c)) && ((f && y) && (n && w))

money : (x y : ℤ) → to_z w64 (of_z w64 x) ≡ x → to_z w64 (of_z w64 y) ≡ y → int_le (to_z w64 (of_z w64 x)) (to_z w64 (of_z w64 y)) ≡ int_le x y
money x y h k = ap (λ z. int_le z (to_z w64 (of_z w64 y))) h ∙ ap (int_le x) k

counts : (x y : ℕ) → nat_le x y ≡ int_le (pos x) (pos y)
counts x y = grind (arith, ints)

minutes : (x y : ℤ) → to_z w32 (of_z w32 x) ≡ x → to_z w32 (of_z w32 y) ≡ y → int_le (to_z w32 (of_z w32 y)) (to_z w32 (of_z w32 x)) ≡ int_le (neg_ℤ x) (neg_ℤ y)
minutes x y h k = grind (arith, ints)

same : (a b c f y n w a' b' c' f' y' n' w' : Bool) → a ≡ a' → b ≡ b' → c ≡ c' → f ≡ f' → y ≡ y' → n ≡ n' → w ≡ w' → seven a b c f y n w ≡ seven a' b' c' f' y' n' w'
same a b c f y n w a' b' c' f' y' n' w' p q r i j k l =
    ap (λ z. seven z b c f y n w) p
    ∙ (ap (λ z. seven a' z c f y n w) q
    ∙ (ap (λ z. seven a' b' z f y n w) r
    ∙ (ap (λ z. seven a' b' c' z y n w) i
    ∙ (ap (λ z. seven a' b' c' f' z n w) j
    ∙ (ap (λ z. seven a' b' c' f' y' z w) k
    ∙ ap (λ z. seven a' b' c' f' y' n' z) l)))))

pub returns : goal.returns
returns c =
    let a = c.a.inside in
    let b = c.b.inside in
    same _ _ _ _ _ _ _ _ _ _ _ _ _ _
    (money a.duty_pay b.duty_pay (omega (arith, ints)) (omega (arith, ints))) (money a.trip_rig b.trip_rig (omega (arith, ints)) (omega (arith, ints))) (money a.guarantee b.guarantee (omega (arith, ints)) (omega (arith, ints)))
    (counts a.fdp b.fdp) (counts a.fly b.fly) (counts a.duties b.duties) (minutes a.report b.report (omega (arith, ints)) (omega (arith, ints)))
    ∙ (ap (λ z. is_at_most z (the_view b)) c.a.view_is ∙ ap (is_at_most c.args.a.now) c.b.view_is)
