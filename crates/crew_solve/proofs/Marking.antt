-- Marks of walks that begin no pairing that may be asked for.
use Rattle.std.proofs.Common.{◌≡◌, ◌≢◌, ◌∙◌, ◌⊎◌, ℕ, zero, suc, ℤ, Bool, true, false, ◌&&◌, List, ◌++◌, append-nil, Option, Some, None, inl, inr, refl, sym, ap, get_or, map, replicate, set, ⊎_elim}
use Rattle.std.specs.Prelude.{count_by, nat_lt}
use Rattle.std.specs.List.{flat_map, list_all}
use Rattle.std.proofs.lemmas.List.{get_or-set_other, map-append}
use Rattle.std.proofs.lemmas.List.Folds.{list_all-append}
use Rattle.crew_pairing.specs.Legs.{Leg}
use Rattle.crew_pairing.specs.declared.vector.PairingVector.{PairingVector}
use Rattle.crew_pool.specs.Arena.{walk_at}
use Rattle.crew_pool.specs.LabelWalks.{duty_of}
use Rattle.crew_pool.specs.Ranks.{key_at}
use Rattle.crew_pool.specs.declared.label_walk.LabelWalk.{LabelWalk}
use Rattle.crew_solve.proofs.Flooring.{same-or}
use Rattle.crew_solve.proofs.Listed.{flat-append}
use Rattle.crew_solve.proofs.Rooms.{and-false}
use Rattle.crew_solve.specs.Apart.{flies, flown, flown_on}
use Rattle.crew_solve.specs.Machinery.Floors.{AreMarks, may_begin}
use Rattle.crew_solve.specs.Machinery.Homes.{pairing_at, walk_by_key}
use Rattle.crew_solve.specs.Machinery.Keeps.{is_wanted}
use Rattle.crew_solve.specs.Machinery.Takes.{Taken, is_past}
use Rattle.crew_sweep.specs.Sweeps.{BaseSweep}

pub no-mark : (n k : ℕ) → get_or (replicate n false) k false ≡ false
no-mark zero k = refl
no-mark (suc n) zero = refl
no-mark (suc n) (suc k) = no-mark n k

-- where none is set
pub marks-none : (beside : Option Taken) (b : BaseSweep) (n : ℕ) (marks : List Bool) → marks ≡ replicate n false → AreMarks beside b marks
marks-none beside b n marks is walk e = let both : false ≡ true = sym (no-mark n walk) ∙ (ap (λ l. get_or l walk false) (sym is) ∙ e) in absurd (let z : ⊥ = (cc) in z)

-- a mark is set
set-mark-by : (marks : List Bool) (walk k : ℕ) → (k ≡ walk) ⊎ (k ≢ walk) → get_or (set marks walk true) k false ≡ true → (walk ≡ k) ⊎ (get_or marks k false ≡ true)
set-mark-by marks walk k (inl e) m = inl (sym e)
set-mark-by marks walk k (inr n) m = inr (sym (get_or-set_other marks walk k true false n) ∙ m)

pub set-mark : (marks : List Bool) (walk k : ℕ) → get_or (set marks walk true) k false ≡ true → (walk ≡ k) ⊎ (get_or marks k false ≡ true)
set-mark marks walk k m = set-mark-by marks walk k (same-or k walk) m

-- with one more
pub marks-more : (beside : Option Taken) (b : BaseSweep) (marks next : List Bool) (label : LabelWalk) → label.duty ≡ 4294967295 → AreMarks beside b marks
    → ((k : ℕ) → get_or next k false ≡ true → (label.walk ≡ k) ⊎ (get_or marks k false ≡ true)) → may_begin beside (walk_by_key b label) ≡ false → AreMarks beside b next
marks-more beside b marks next label whole h more none k m =
    ⊎_elim {C = may_begin beside (walk_by_key b (record { walk = k; duty = 4_294_967_295 })) ≡ false}
    (λ e. (λ i. may_begin beside (walk_by_key b (record { walk = sym e i; duty = sym whole i }))) ∙ none)
    (h k)
    (more k m)

-- a label whose walk is marked
pub marked : (beside : Option Taken) (b : BaseSweep) (marks : List Bool) (label : LabelWalk) → label.duty ≡ 4294967295 → AreMarks beside b marks → get_or marks label.walk false ≡ true → may_begin beside (walk_by_key b label) ≡ false
marked beside b marks label whole h m = (λ i. may_begin beside (walk_by_key b (record { walk = label.walk; duty = whole i }))) ∙ h label.walk m

-- what begins with a walk that has no room has none
more-flown : (room : ℕ → Bool) (xs ys : List (List Leg)) → list_all room (flown xs) ≡ false → list_all room (flown (xs ++ ys)) ≡ false
more-flown room xs ys e = ap (list_all room) (flat-append (flat_map flown_on) xs ys) ∙ (list_all-append room (flown xs) (flown ys) ∙ ap (λ b. b && list_all room (flown ys)) e)

unasked-after : (beside : Option Taken) (b : BaseSweep) (minute : ℤ) (label : PairingVector × LabelWalk) → may_begin beside (walk_by_key b (record { walk = label.1.walk; duty = 4_294_967_295 })) ≡ false → is_wanted beside (pairing_at b minute label) ≡ false
unasked-after None b minute label e = absurd (let z : ⊥ = (cc) in z)
unasked-after (Some t) b minute label e =
    let room = λ (flight : ℕ). nat_lt (count_by (flies flight) t.pairings) t.share in
    let key = key_at b.net.duties in
    let before = walk_at b.walks label.1.walk in
    let own : list_all room (flown (map key before)) ≡ false = ap (λ w. list_all room (flown (map key w))) (sym (append-nil before)) ∙ e in
    let apart : list_all room (flown (walk_by_key b label.1)) ≡ false = ap (λ w. list_all room (flown w)) (map-append key before (duty_of label.1.duty)) ∙ more-flown room (map key before) (map key (duty_of label.1.duty)) own in
    ap (λ x. is_past t.last (pairing_at b minute label) && x) apart ∙ and-false (is_past t.last (pairing_at b minute label))

-- a pairing that begins with a marked walk is not asked for
pub unasked-marked : (beside : Option Taken) (b : BaseSweep) (marks : List Bool) (minute : ℤ) (label : PairingVector × LabelWalk) → AreMarks beside b marks → get_or marks label.1.walk false ≡ true → is_wanted beside (pairing_at b minute label) ≡ false
unasked-marked beside b marks minute label h m = unasked-after beside b minute label (h label.1.walk m)
