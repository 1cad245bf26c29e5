-- The number of items of a list, and its laws.
use Rattle.std.specs.Prelude.{◌≡◌, ℕ, min, Option, Some, ℤ, pos, negsuc, ◌+ℤ◌, int_le, FitsSigned}
use Rattle.std.specs.Int.{w64}
use Rattle.std.proofs.Common.{refl, sym, subst, arith}
use Rattle.std.proofs.lemmas.Int.{ints}
use Rattle.crew_resource.specs.Resource.{GradesOrder}
use Rattle.crew_resource.specs.Machinery.Sum.{capped}
use Rattle.crew_resource.specs.Stages.{StagedLaws, CountingLaws, BoundLaws, shifted, boarded}
use Rattle.crew_resource.specs.Machinery.SumStages.{capped_is, sum_staged, sum_fits, sum_ready, sum_arrived, sum_bounds}

-- the number, or the nearest of 32 bits
abbrev pub count_grade : ℤ → ℕ
count_grade (pos n) = min n 4294967295
count_grade (negsuc n) = 0

pub count_grades : GradesOrder int_le count_grade
count_grades (pos a) (pos b) h = grind (arith, ints)
count_grades (pos a) (negsuc b) h = grind (arith, ints)
count_grades (negsuc a) b h = omega arith

pub count_staged : {I X G : Type 0} (most : ℕ) (arrives : I → X) (leaves : I → G)
    → StagedLaws (λ _. capped (Some (pos most)) (pos 1))
    (λ v _ _. capped (Some (pos most)) (v +ℤ pos 1)) int_le arrives leaves (λ _. pos 0)
    (shifted (λ _ _. pos 0)) (boarded (Some (pos most)) (λ _. pos 1))
count_staged most arrives leaves = sum_staged (Some (pos most)) arrives leaves (λ _. pos 0)
    (λ _ _. pos 0) (λ _. pos 1)

pub count_counting : {I X G : Type 0} (most m : ℕ) → ◌≡◌ {A = Option ℕ} (Some most) (Some m)
    → CountingLaws {I = I} {X = X} {G = G} (λ v. v) m (λ _. pos 0) (shifted (λ _ _. pos 0))
    (boarded (Some (pos most)) (λ _. pos 1))
count_counting most m e =
    let same : most ≡ m = (cc) in record {
      none_yet = λ g. refl;
      none_more = λ v x g. omega (arith, ints);
      one_more = λ v z i d. sym (capped_is (Some (pos most)) (v +ℤ pos 1) z d).1;
      ends = λ v z i d.
          let k = capped_is (Some (pos most)) (v +ℤ pos 1) z d in
          let t = k.0 in
          let u = k.1 in
          grind (arith, ints);
    }

pub count_bounds : {I X G : Type 0} (most : ℕ) (is_sound : I → Type 0) (may_begin : G → Type 0)
    (may_follow : X → G → Type 0) (arrives : I → X) (leaves : I → G)
    → BoundLaws is_sound may_begin may_follow arrives leaves (λ _. pos 0) (shifted (λ _ _. pos 0))
    (boarded (Some (pos most)) (λ _. pos 1))
    (λ _. Unit {0}) (λ v _ _. FitsSigned w64 (v +ℤ pos 1)) may_begin
    (λ _ x g. may_follow x g)
    (λ v i. is_sound i × FitsSigned w64 (v +ℤ pos 1))
    (sum_fits 1) (sum_ready 1) (sum_arrived 1)
count_bounds most is_sound may_begin may_follow arrives leaves =
    let b = sum_bounds is_sound may_begin may_follow arrives leaves (Some (pos most)) (λ _. pos 0)
    (λ _ _. pos 0) (λ _. pos 1) 1
    record {
      idle_share = λ g b. record { least = omega (arith, ints); most = omega (arith, ints) };
      wait_share = λ x g f. record { least = omega (arith, ints); most = omega (arith, ints) };
      own_share = λ i s. record { least = omega (arith, ints); most = omega (arith, ints) };
    } in record {
      idle_ready = b.idle_ready;
      wait_ready = b.wait_ready;
      board_arrived = b.board_arrived;
      fewer = b.fewer;
      starts = λ i s m f. tt;
      extends = λ n v last i s t f h a.
          let none : v +ℤ pos 0 ≡ v = omega (arith, ints) in
          subst (λ z. FitsSigned w64 (z +ℤ pos 1)) none (b.extends n v last i s t f h a).1.1;
      idles = b.idles;
      waits = λ n v x g f h a. f;
      boards = b.boards;
    }
