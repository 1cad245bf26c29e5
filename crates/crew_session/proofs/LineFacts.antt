-- How the lines of refusals follow one another.
use Rattle.std.proofs.Common.{◌≡◌, ◌<◌, ◌+◌, ℕ, zero, suc, List, [], ◌∷◌, ◌++◌, length, get_or, drop, Option, Some, None, Result, Ok, Err, refl, sym, ap, ◌∙◌, arith, add-one, drop-cons, append_assoc}
use Rattle.std.specs.Prelude.{OnOk, slice_get}
use Rattle.std.specs.Io.KnownBytes.{Appends}
use Rattle.std.proofs.lemmas.List.{append-nil}
use Rattle.crew_flights.specs.declared.edit.Verdict.{Verdict}
use Rattle.std.specs.List.{flat_map}
use Rattle.crew_session.specs.Lines.{refused_lines}
use Rattle.crew_session.specs.Verdicts.{verdict_text}

pub appends-none : (w : Option (List ℕ)) → Appends w w []
appends-none None = tt
appends-none (Some x) = sym (append-nil x)

pub appends-both : (a b c : Option (List ℕ)) (x y : List ℕ) → Appends a b x → Appends b c y → Appends a c (x ++ y)
appends-both None b c x y p q = tt
appends-both (Some s) None c x y p q = absurd p
appends-both (Some s) (Some t) None x y p q = absurd q
appends-both (Some s) (Some t) (Some u) x y p q = q ∙ ap (λ (l : List ℕ). l ++ y) p ∙ append_assoc s x y

-- a text and then a second
pub wrote-both : {F : Type 0} (r : Result (Unit {0}) F) (a b c : Option (List ℕ)) (x y : List ℕ) → Appends a b x → OnOk r (Appends b c y) → OnOk r (Appends a c (x ++ y))
wrote-both (Ok u) a b c x y p q = appends-both a b c x y p q
wrote-both (Err e) a b c x y p q = tt

no-verdicts : (numbers : List ℕ) → refused_lines numbers [] ≡ []
no-verdicts [] = refl
no-verdicts (n ∷ ns) = refl

-- the line of the verdict at a place, and then the others
one-more : (vs : List Verdict) (p n : ℕ) (ns : List ℕ) → refused_lines (n ∷ ns) (drop p vs) ≡ verdict_text n (slice_get vs p) ++ refused_lines ns (drop (suc p) vs)
one-more [] zero n ns = sym (no-verdicts ns)
one-more [] (suc p) n ns = sym (no-verdicts ns)
one-more (v ∷ vs) zero n ns = refl
one-more (v ∷ vs) (suc p) n ns = one-more vs p n ns

pub refused-more : (ns : List ℕ) (vs : List Verdict) (first i : ℕ) → i < length ns
    → refused_lines (drop i ns) (drop (first + i) vs) ≡ verdict_text (get_or ns i 0) (slice_get vs (first + i)) ++ refused_lines (drop (i + 1) ns) (drop (first + (i + 1)) vs)
refused-more ns vs first i h =
    let next : first + (i + 1) ≡ suc (first + i) = omega arith in
    rw (next, drop-cons ns i 0, add-one i) (one-more vs (first + i) (get_or ns i 0) (drop (suc i) ns))

-- the line of what stands at a place, and then the others
pub each-more : {X : Type 0} (line : X → List ℕ) (xs : List X) (i : ℕ) (x : X) → i < length xs → flat_map line (drop i xs) ≡ line (get_or xs i x) ++ flat_map line (drop (i + 1) xs)
each-more line xs i x h = rw (drop-cons xs i x, add-one i) refl

-- nothing is left
pub refused-all : (ns : List ℕ) (vs : List Verdict) (i : ℕ) → length ns < i + 1 → refused_lines (drop i ns) vs ≡ []
refused-all [] vs zero h = refl
refused-all [] vs (suc i) h = refl
refused-all (n ∷ ns) vs zero h = absurd (omega arith)
refused-all (n ∷ ns) vs (suc i) h = refused-all ns vs i (omega arith)
