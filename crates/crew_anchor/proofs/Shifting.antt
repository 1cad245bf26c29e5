-- Anchoring is a shift of two parts: it keeps and reflects the order, the listing and equality.
use Rattle.std.proofs.Common.{◌≡◌, ℕ, ℤ, pos, ◌+ℤ◌, ◌-ℤ◌, ◌*ℤ◌, ◌&&◌, int_le, sym, ◌∙◌, ap, arith}
use Rattle.std.specs.Ordering.{int_cmp, ordering_then}
use Rattle.std.specs.declared.cmp.Ordering.{Ordering}
use Rattle.std.proofs.lemmas.Int.{ints}
use Rattle.crew_vector.specs.Dominance.{is_at_most}
use Rattle.crew_vector.specs.Fronts.{vector_cmp}
use Rattle.crew_pairing.specs.declared.vector.PairingVector.{PairingVector}
use Rattle.crew_anchor.specs.Anchors.{anchored, shown}
use Rattle.crew_anchor.specs.Machinery.Shifts.{cmp_less, le_less}

-- vectors by their parts
abbrev pub seven : ℤ → ℤ → ℤ → ℤ → ℤ → ℤ → ℤ → PairingVector
seven a b c f y n w = record { duty_pay = a; trip_rig = b; guarantee = c; fdp = f; fly = y; duties = n; away = w }

pub same-parts : (a b c f y n w a' b' c' f' y' n' w' : ℤ) → a ≡ a' → b ≡ b' → c ≡ c' → f ≡ f' → y ≡ y' → n ≡ n' → w ≡ w' → seven a b c f y n w ≡ seven a' b' c' f' y' n' w'
same-parts a b c f y n w a' b' c' f' y' n' w' p q r i j k l =
    ap (λ z. seven z b c f y n w) p
    ∙ (ap (λ z. seven a' z c f y n w) q
    ∙ (ap (λ z. seven a' b' z f y n w) r
    ∙ (ap (λ z. seven a' b' c' z y n w) i
    ∙ (ap (λ z. seven a' b' c' f' z n w) j
    ∙ (ap (λ z. seven a' b' c' f' y' z w) k
    ∙ ap (λ z. seven a' b' c' f' y' n' z) l)))))

-- with another trip rig and other minutes away
abbrev pub put : PairingVector → ℤ → ℤ → PairingVector
put v b w = record { duty_pay = v.duty_pay; trip_rig = b; guarantee = v.guarantee; fdp = v.fdp; fly = v.fly; duties = v.duties; away = w }

pub put-same : (v : PairingVector) (b w b' w' : ℤ) → b ≡ b' → w ≡ w' → put v b w ≡ put v b' w'
put-same v b w b' w' p q = ap (λ z. put v z w) p ∙ ap (λ z. put v b' z) q

back : (a d : ℤ) → (a -ℤ d) +ℤ d ≡ a
back a d = omega (arith, ints)

forth : (a d : ℤ) → (a +ℤ d) -ℤ d ≡ a
forth a d = omega (arith, ints)

pub shown-anchored : (rate : ℕ) (minute : ℤ) (v : PairingVector) → shown rate minute (anchored rate minute v) ≡ v
shown-anchored rate minute v = put-same v _ _ _ _ (back v.trip_rig (pos rate *ℤ minute)) (back v.away minute)

pub anchored-shown : (rate : ℕ) (minute : ℤ) (v : PairingVector) → anchored rate minute (shown rate minute v) ≡ v
anchored-shown rate minute v = put-same v _ _ _ _ (forth v.trip_rig (pos rate *ℤ minute)) (forth v.away minute)

pub anchored-exact : (rate : ℕ) (minute : ℤ) (a b : PairingVector) → anchored rate minute a ≡ anchored rate minute b → a ≡ b
anchored-exact rate minute a b e = sym (shown-anchored rate minute a) ∙ (ap (shown rate minute) e ∙ shown-anchored rate minute b)

pub anchored-order : (rate : ℕ) (minute : ℤ) (a b : PairingVector) → is_at_most (anchored rate minute a) (anchored rate minute b) ≡ is_at_most a b
anchored-order rate minute a b =
    ap (λ z. (int_le a.duty_pay b.duty_pay && (z && int_le a.guarantee b.guarantee)) && ((int_le a.fdp b.fdp && int_le a.fly b.fly) && (int_le a.duties b.duties && int_le (a.away -ℤ minute) (b.away -ℤ minute))))
    (le_less a.trip_rig b.trip_rig (pos rate *ℤ minute))
    ∙ ap (λ z. (int_le a.duty_pay b.duty_pay && (int_le a.trip_rig b.trip_rig && int_le a.guarantee b.guarantee)) && ((int_le a.fdp b.fdp && int_le a.fly b.fly) && (int_le a.duties b.duties && z)))
    (le_less a.away b.away minute)

abbrev listed : PairingVector → PairingVector → Ordering → Ordering → Ordering
listed a b rig away =
    ordering_then (int_cmp a.duty_pay b.duty_pay)
    (ordering_then rig (ordering_then (int_cmp a.guarantee b.guarantee) (ordering_then (int_cmp a.fdp b.fdp) (ordering_then (int_cmp a.fly b.fly) (ordering_then (int_cmp a.duties b.duties) away)))))

pub anchored-listing : (rate : ℕ) (minute : ℤ) (a b : PairingVector) → vector_cmp (anchored rate minute a) (anchored rate minute b) ≡ vector_cmp a b
anchored-listing rate minute a b =
    ap (λ z. listed a b z (int_cmp (a.away -ℤ minute) (b.away -ℤ minute))) (cmp_less a.trip_rig b.trip_rig (pos rate *ℤ minute))
    ∙ ap (λ z. listed a b (int_cmp a.trip_rig b.trip_rig) z) (cmp_less a.away b.away minute)

same-le : (a p b q : ℤ) → a ≡ b → p ≡ q → int_le a p ≡ int_le b q
same-le a p b q e f = ap (λ z. int_le z p) e ∙ ap (int_le b) f

-- four tests of equal numbers
pub same-caps : (f y n w fc yc nc wc f' y' n' w' fc' yc' nc' wc' : ℤ) → f ≡ f' → fc ≡ fc' → y ≡ y' → yc ≡ yc' → n ≡ n' → nc ≡ nc' → w ≡ w' → wc ≡ wc'
    → (int_le f fc && (int_le y yc && (int_le n nc && int_le w wc))) ≡ (int_le f' fc' && (int_le y' yc' && (int_le n' nc' && int_le w' wc')))
same-caps f y n w fc yc nc wc f' y' n' w' fc' yc' nc' wc' a b c d p q r s =
    ap (λ z. z && (int_le y yc && (int_le n nc && int_le w wc))) (same-le f fc f' fc' a b)
    ∙ (ap (λ z. int_le f' fc' && (z && (int_le n nc && int_le w wc))) (same-le y yc y' yc' c d)
    ∙ (ap (λ z. int_le f' fc' && (int_le y' yc' && (z && int_le w wc))) (same-le n nc n' nc' p q)
    ∙ ap (λ z. int_le f' fc' && (int_le y' yc' && (int_le n' nc' && z))) (same-le w wc w' wc' r s)))
