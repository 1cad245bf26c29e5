-- How a beginning of a text goes on.
use Rattle.std.proofs.Common.{◌≡◌, ◌∙◌, List, [], ◌++◌, Option, Result, Ok, Err, refl, sym, ap, subst, append_assoc, inl, inr, ℕ}
use Rattle.std.specs.Prelude.{OnErr}
use Rattle.std.proofs.lemmas.List.{append-nil}
use Rattle.std.specs.Io.KnownBytes.{Appends}
use Rattle.crew_session.specs.Texts.{AppendsBeginning, BeginsOne}
use Rattle.crew_session.proofs.LineFacts.{appends-both, appends-none}

-- nothing begins each text
pub begins-nothing : (w : Option (List ℕ)) (text : List ℕ) → AppendsBeginning w w text
begins-nothing w text = ([], text, refl, appends-none w)

pub begins-none-of : (w : Option (List ℕ)) (Is : List ℕ → Type 0) → BeginsOne w w Is
begins-none-of w Is = inl (appends-none w)

-- after a text, a beginning of what comes next
pub begins-after : (a b c : Option (List ℕ)) (done line rest whole : List ℕ) → Appends a b done → AppendsBeginning b c line → done ++ (line ++ rest) ≡ whole → AppendsBeginning a c whole
begins-after a b c done line rest whole first next e =
    (done ++ next.0, next.1 ++ rest, sym e ∙ ap (λ (t : List ℕ). done ++ (t ++ rest)) next.2 ∙ ap (λ (t : List ℕ). done ++ t) (append_assoc next.0 next.1 rest) ∙ sym (append_assoc done next.0 (next.1 ++ rest)), appends-both a b c done next.0 first next.3)

-- a beginning of a text begins each longer one
pub begins-longer : (a b : Option (List ℕ)) (text rest : List ℕ) → AppendsBeginning a b text → AppendsBeginning a b (text ++ rest)
begins-longer a b text rest h = (h.0, h.1 ++ rest, ap (λ (t : List ℕ). t ++ rest) h.2 ∙ append_assoc h.0 h.1 rest, h.3)

-- after a first text, a beginning of a second
pub begins-then : (a b c : Option (List ℕ)) (first second : List ℕ) → Appends a b first → AppendsBeginning b c second → AppendsBeginning a c (first ++ second)
begins-then a b c first second w h =
    (first ++ h.0, h.1, ap (λ (t : List ℕ). first ++ t) h.2 ∙ sym (append_assoc first h.0 h.1), appends-both a b c first h.0 w h.3)

-- the whole text begins it
pub begins-whole : (a b : Option (List ℕ)) (text : List ℕ) → Appends a b text → AppendsBeginning a b text
begins-whole a b text w = (text, [], sym (append-nil text), w)

-- what holds, holds of an answer that is an error
pub on-err : {U F : Type 0} (r : Result U F) (P : Type 0) → P → OnErr r P
on-err (Ok u) P h = tt
on-err (Err x) P h = h

pub on-err-weaker : {U F : Type 0} (r : Result U F) (P Q : Type 0) → (P → Q) → OnErr r P → OnErr r Q
on-err-weaker (Ok u) P Q k h = tt
on-err-weaker (Err x) P Q k h = k h

-- the text that was begun, under another name
pub begun-as : {F : Type 0} (r : Result (Unit {0}) F) (a b : Option (List ℕ)) (was is : List ℕ) → was ≡ is → OnErr r (AppendsBeginning a b was) → OnErr r (AppendsBeginning a b is)
begun-as (Ok u) a b was is e h = tt
begun-as (Err x) a b was is e h = subst (AppendsBeginning a b) e h

-- after a first text, a beginning of a second, or all of it
pub begun-then : {F : Type 0} (r : Result (Unit {0}) F) (a b c : Option (List ℕ)) (first second whole : List ℕ) → Appends a b first → first ++ second ≡ whole → OnErr r (AppendsBeginning b c second) → OnErr r (AppendsBeginning a c whole)
begun-then (Ok u) a b c first second whole w e h = tt
begun-then (Err x) a b c first second whole w e h = subst (AppendsBeginning a c) e (begins-then a b c first second w h)

-- a beginning of a text that comes of what was asked
pub begun-one : {F : Type 0} (r : Result (Unit {0}) F) (a b : Option (List ℕ)) (text : List ℕ) (Is : List ℕ → Type 0) → Is text → OnErr r (AppendsBeginning a b text) → OnErr r (BeginsOne a b Is)
begun-one (Ok u) a b text Is is h = tt
begun-one (Err x) a b text Is is h = inr (text, is, h)
