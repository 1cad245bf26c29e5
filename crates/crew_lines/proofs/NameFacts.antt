-- The parts of a line.
use Rattle.std.proofs.Common.{◌≡◌, ◌∙◌, ◌+◌, ◌<◌, ◌&&◌, ℕ, Bool, true, false, List, Option, Some, None, length, take, drop, nat_lt, refl, sym, ap, subst, lt-ltb, if◌then◌else◌}
use Rattle.std.specs.Io.BufRead.{drop_through}
use Rattle.crew_lines.specs.Bytes.{before}
use Rattle.crew_lines.specs.NameBytes.{is_name, name_in}
use Rattle.crew_lines.specs.Names.{split_at_comma}
use Rattle.crew_lines.proofs.ByteFacts.{after-there, before-front}

-- what stands before the comma is no name
no-name : {X : Type 0} (t l : Bool) (name : List ℕ) (parts : X) → None ≡ (if t then Some name else None) → None ≡ (if l && t then Some parts else None)
no-name true l name parts h = cc h
no-name false true name parts h = refl
no-name false false name parts h = refl

pub split-none : (line : List ℕ) (n : ℕ) → n ≡ length (before 44 line) → None ≡ name_in (take n line) → None ≡ split_at_comma line
split-none line n is none =
    let name = before 44 line in
    let front : name ≡ take n line = before-front 44 line ∙ ap (λ k. take k line) (sym is) in
    no-name (is_name name) (nat_lt (length name) (length line)) name (name, drop_through 44 line) (none ∙ ap name_in (sym front))

-- .. is one
a-name : {X : Type 0} (t l : Bool) (bytes name : List ℕ) (parts : List ℕ → X) → l ≡ true → Some bytes ≡ (if t then Some name else None) → Some (parts bytes) ≡ (if l && t then Some (parts name) else None)
a-name true true bytes name parts e h = let same : bytes ≡ name = cc h in ap (λ b. Some (parts b)) same
a-name false l bytes name parts e h = cc h
a-name true false bytes name parts e h = cc e

pub split-some : (line : List ℕ) (n : ℕ) (bytes part : List ℕ) → n ≡ length (before 44 line) → n < length line → Some bytes ≡ name_in (take n line) → part ≡ drop (n + 1) line
    → ◌≡◌ {A = Option (List ℕ × List ℕ)} (Some (bytes, part)) (split_at_comma line)
split-some line n bytes part is there some whole =
    let name = before 44 line in
    let front : name ≡ take n line = before-front 44 line ∙ ap (λ k. take k line) (sym is) in
    let after : part ≡ drop_through 44 line = whole ∙ ap (λ k. drop (k + 1) line) is ∙ after-there 44 line (subst (λ k. k < length line) is there) in
    let with_part : List ℕ → Option (List ℕ × List ℕ) = λ p. Some (bytes, p) in
    ap with_part after
    ∙ a-name {X = List ℕ × List ℕ} (is_name name) (nat_lt (length name) (length line)) bytes name (λ b. (b, drop_through 44 line)) (lt-ltb (length name) (length line) (subst (λ k. k < length line) is there)) (some ∙ ap name_in (sym front))
