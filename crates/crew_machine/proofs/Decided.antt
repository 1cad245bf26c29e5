-- Nodes, fronts and jobs can be told apart, and the least number with a property found.
use Rattle.std.proofs.Common.{◌≡◌, ℕ, zero, suc, ◌<◌, ◌==◌, Bool, true, false, List, [], ◌∷◌, Option, Some, None, ◌⊎◌, inl, inr, ℤ, refl, sym, ◌∙◌, ap, subst, ⊎_elim, arith}
use Rattle.std.specs.Bool.{Decides}
use Rattle.std.specs.Ordering.{int_eq}
use Rattle.std.proofs.lemmas.Bool.{cases_Bool}
use Rattle.std.proofs.lemmas.Bool.Decides.{Decides-eqb, Decides-int_eq}
use Rattle.crew_answers.specs.LongVectors.{LongVector}
use Rattle.crew_machine.specs.Crew.{DutyNode, DutyWork, Entries, Inputs}
use Rattle.crew_pairing.specs.Legs.{Leg}
use Rattle.crew_pairing.specs.declared.duty.Duty.{Duty}
use Rattle.crew_pairing.specs.declared.vector.PairingVector.{PairingVector}
use Rattle.crew_resource.specs.Members.{Member}
use Rattle.crew_rules.specs.declared.settings.Settings.{Settings}

abbrev pub Decided : Type 0 → Type 0
Decided P = P ⊎ (P → ⊥)

abbrev pub Told : Type 0 → Type 0
Told X = (a b : X) → Decided (a ≡ b)

by-test : {P : Type 0} (b : Bool) → Decides b P → Decided P
by-test {P} b d = ⊎_elim {C = Decided P} (λ t. inl (d.0 t)) (λ f. inr (λ p. (let e : true ≡ false = sym (d.1 p) ∙ f in let q : ⊥ = (cc) in q))) (cases_Bool b)

told-nat : Told ℕ
told-nat a b = by-test (a == b) (Decides-eqb a b)

told-int : Told ℤ
told-int a b = by-test (int_eq a b) (Decides-int_eq a b)

told-bool : Told Bool
told-bool true true = inl refl
told-bool true false = inr (λ e. (let q : ⊥ = (cc) in q))
told-bool false true = inr (λ e. (let q : ⊥ = (cc) in q))
told-bool false false = inl refl

-- what is made of parts, and made again of them, is told by them
told-by : {X Y : Type 0} (f : X → Y) (g : Y → X) → ((x : X) → g (f x) ≡ x) → Told Y → Told X
told-by f g back told a b = ⊎_elim {C = Decided (a ≡ b)} (λ e. inl (sym (back a) ∙ (ap g e ∙ back b))) (λ n. inr (λ e. n (ap f e))) (told (f a) (f b))

told-pair : {X Y : Type 0} → Told X → Told Y → Told (X × Y)
told-pair {X} {Y} x y a b =
    ⊎_elim {C = Decided (a ≡ b)}
    (λ e. ⊎_elim {C = Decided (a ≡ b)}
    (λ f. inl (ap (λ (z : X). let p : X × Y = (z, a.1) in p) e ∙ ap (λ (z : Y). let p : X × Y = (b.0, z) in p) f))
    (λ n. inr (λ q. n (ap (λ (z : X × Y). z.1) q)))
    (y a.1 b.1))
    (λ n. inr (λ q. n (ap (λ (z : X × Y). z.0) q)))
    (x a.0 b.0)

told-list : {X : Type 0} → Told X → Told (List X)
told-list x [] [] = inl refl
told-list x [] (b ∷ bs) = inr (λ e. (let q : ⊥ = (cc) in q))
told-list x (a ∷ as') [] = inr (λ e. (let q : ⊥ = (cc) in q))
told-list x (a ∷ as') (b ∷ bs) =
    ⊎_elim {C = Decided (a ∷ as' ≡ b ∷ bs)}
    (λ e. ⊎_elim {C = Decided (a ∷ as' ≡ b ∷ bs)}
    (λ f. inl (ap (λ z. z ∷ as') e ∙ ap (λ z. b ∷ z) f))
    (λ n. inr (λ q. n (let r : as' ≡ bs = (cc) in r)))
    (told-list x as' bs))
    (λ n. inr (λ q. n (let r : a ≡ b = (cc) in r)))
    (x a b)

told-option : {X : Type 0} → Told X → Told (Option X)
told-option x None None = inl refl
told-option x None (Some b) = inr (λ e. (let q : ⊥ = (cc) in q))
told-option x (Some a) None = inr (λ e. (let q : ⊥ = (cc) in q))
told-option x (Some a) (Some b) = ⊎_elim {C = Decided (Some a ≡ Some b)} (λ e. inl (ap Some e)) (λ n. inr (λ q. n (let r : a ≡ b = (cc) in r))) (x a b)

-- ---- of crew pairing

told-leg : Told Leg
told-leg = told-by (λ (l : Leg). let p : ℕ × Bool = (l.flight, l.deadhead) in p) (λ (p : ℕ × Bool). let l : Leg = record { flight = p.0; deadhead = p.1 } in l) (λ l. refl) (told-pair told-nat told-bool)

abbrev Three : Type 0
Three = ℤ × (ℤ × ℤ)

told-three : Told Three
told-three = told-pair told-int (told-pair told-int told-int)

abbrev Texts : Type 0
Texts = List Leg × (List ℕ × List ℕ)

abbrev duty-parts : Duty → Texts × (Three × Three)
duty-parts d = ((d.key, (d.from, d.to)), ((d.report, (d.release, d.fdp)), (d.fly, (d.pay, d.price))))

abbrev duty-from : Texts × (Three × Three) → Duty
duty-from p = record {
  key = p.0.0;
  from = p.0.1.0;
  to = p.0.1.1;
  report = p.1.0.0;
  release = p.1.0.1.0;
  fdp = p.1.0.1.1;
  fly = p.1.1.0;
  pay = p.1.1.1.0;
  price = p.1.1.1.1;
}

told-duty : Told Duty
told-duty = told-by duty-parts duty-from (λ d. refl) (told-pair (told-pair (told-list told-leg) (told-pair (told-list told-nat) (told-list told-nat))) (told-pair told-three told-three))

pub told-node : Told DutyNode
told-node = told-by (λ (n : DutyNode). let p : List ℕ × Duty = (n.base, n.duty) in p) (λ (p : List ℕ × Duty). let n : DutyNode = record { base = p.0; duty = p.1 } in n) (λ n. refl) (told-pair (told-list told-nat) told-duty)

abbrev vector-parts : PairingVector → ℤ × (Three × Three)
vector-parts v = (v.duty_pay, ((v.trip_rig, (v.guarantee, v.fdp)), (v.fly, (v.duties, v.away))))

abbrev vector-from : ℤ × (Three × Three) → PairingVector
vector-from p = record {
  duty_pay = p.0;
  trip_rig = p.1.0.0;
  guarantee = p.1.0.1.0;
  fdp = p.1.0.1.1;
  fly = p.1.1.0;
  duties = p.1.1.1.0;
  away = p.1.1.1.1;
}

told-sums : Told PairingVector
told-sums = told-by vector-parts vector-from (λ v. refl) (told-pair told-int (told-pair told-three told-three))

abbrev long-from : PairingVector × (ℤ × List (ℤ × ℤ)) → LongVector
long-from p = record { sums = p.0; since_rest = p.1.0; history = p.1.1 }

told-vector : Told LongVector
told-vector = told-by (λ (v : LongVector). let p : PairingVector × (ℤ × List (ℤ × ℤ)) = (v.sums, (v.since_rest, v.history)) in p) long-from (λ v. refl) (told-pair told-sums (told-pair told-int (told-list (told-pair told-int told-int))))

told-entries : Told Entries
told-entries = told-list (told-pair told-vector (told-list (told-list told-leg)))

pub told-price : Told (Option ℤ)
told-price = told-option told-int

pub same-work : (j k : DutyWork) → j.node ≡ k.node → j.input ≡ k.input → j.before ≡ k.before → j ≡ k
same-work j k n i b =
    ap (λ (z : DutyNode). let r : DutyWork = record { node = z; input = j.input; before = j.before } in r) n
    ∙ (ap (λ (z : Inputs). let r : DutyWork = record { node = k.node; input = z; before = j.before } in r) i
    ∙ ap (λ (z : List (DutyNode × Entries)). let r : DutyWork = record { node = k.node; input = k.input; before = z } in r) b)

-- two jobs under the same settings
pub told-work : (j k : DutyWork) → j.input.settings ≡ k.input.settings → Decided (j ≡ k)
told-work j k s =
    ⊎_elim {C = Decided (j ≡ k)}
    (λ n. ⊎_elim {C = Decided (j ≡ k)}
    (λ p. ⊎_elim {C = Decided (j ≡ k)}
    (λ b.
    let input : j.input ≡ k.input = ap (λ (z : Settings). let r : Inputs = record { settings = z; price = j.input.price } in r) s ∙ ap (λ (z : Option ℤ). let r : Inputs = record { settings = k.input.settings; price = z } in r) p in
    inl (same-work j k n input b))
    (λ f. inr (λ e. f (ap (λ (z : DutyWork). z.before) e)))
    (told-list (told-pair told-node told-entries) j.before k.before))
    (λ f. inr (λ e. f (ap (λ (z : DutyWork). z.input.price) e)))
    (told-price j.input.price k.input.price))
    (λ f. inr (λ e. f (ap (λ (z : DutyWork). z.node) e)))
    (told-node j.node k.node)

pub is-in : (ns : List DutyNode) (n : DutyNode) → Decided (Member ns n)
is-in [] n = inr (λ m. m)
is-in (x ∷ ns) n =
    ⊎_elim {C = Decided (Member (x ∷ ns) n)}
    (λ e. inl (inl e))
    (λ f. ⊎_elim {C = Decided (Member (x ∷ ns) n)} (λ m. inl (inr m)) (λ g. inr (λ h. ⊎_elim f g h)) (is-in ns n))
    (told-node x n)

-- the least number below a limit that has a property, or that there is none
pub least-or-none : (P : ℕ → Type 0) → ((i : ℕ) → Decided (P i)) → (k : ℕ) → ((i : ℕ) × P i × ((j : ℕ) → j < i → P j → ⊥)) ⊎ ((j : ℕ) → j < k → P j → ⊥)
least-or-none P d zero = inr (λ j l p. absurd (omega (arith, l)))
least-or-none P d (suc k) =
    ⊎_elim {C = ((i : ℕ) × P i × ((j : ℕ) → j < i → P j → ⊥)) ⊎ ((j : ℕ) → j < suc k → P j → ⊥)}
    (λ f. inl f)
    (λ none.
    ⊎_elim {C = ((i : ℕ) × P i × ((j : ℕ) → j < i → P j → ⊥)) ⊎ ((j : ℕ) → j < suc k → P j → ⊥)}
    (λ p. inl (k, p, none))
    (λ n. inr (λ j l p. ⊎_elim (λ less. none j less p) (λ e. n (subst P e p)) (either j k l)))
    (d k))
    (least-or-none P d k)
  where
    either : (j k : ℕ) → j < suc k → (j < k) ⊎ (j ≡ k)
    either j k l = ⊎_elim {C = (j < k) ⊎ (j ≡ k)} (λ e. inr e) (λ n. inl (omega (arith, l, n))) (told-nat j k)
