-- The names of beginnings.
use Rattle.std.proofs.Common.{◌≡◌, ◌∙◌, ◌<◌, ◌≤◌, ◌&&◌, ◌⊎◌, ℕ, Bool, true, false, List, Some, None, length, length-take-le, take, take_all, nat_le, nat_lt, option_map, refl, sym, ap, subst, inl, inr, arith, lt-ltb, if◌then◌else◌}
use Rattle.std.proofs.lemmas.Bool.{lt-leb}
use Rattle.std.proofs.lemmas.Bool.Decides.{leb_tells}
use Rattle.std.specs.Io.BufRead.{drop_through}
use Rattle.std.specs.List.{list_all}
use Rattle.crew_lines.specs.Bytes.{before}
use Rattle.crew_lines.specs.NameBytes.{is_name, is_name_byte, name_in}
use Rattle.crew_lines.specs.Names.{BeginningsShowNames, name_of_line}
use Rattle.crew_lines.proofs.ByteFacts.{before-take}

-- the name of the parts
picked : {X : Type 0} (t l : Bool) (name : List ℕ) (rest : X) → l ≡ true → option_map (λ (p : List ℕ × X). p.0) (if l && t then Some (name, rest) else None) ≡ (if t then Some name else None)
picked t false name rest e = cc e
picked true true name rest e = refl
picked false true name rest e = refl

-- a line that has a comma
named : (line name : List ℕ) → before 44 line ≡ name → length name < length line → name_of_line line ≡ name_in name
named line name is there =
    picked (is_name (before 44 line)) (nat_lt (length (before 44 line)) (length line)) (before 44 line) (drop_through 44 line)
    (lt-ltb _ _ (subst (λ (l : List ℕ). length l < length line) (sym is) there)) ∙ ap name_in is

-- more than 32 bytes are no name
not-all : (a c t : Bool) → t ≡ false → (a && t && c) ≡ false
not-all true c true e = cc e
not-all true c false e = refl
not-all false c t e = refl

no-parts : {X : Type 0} (l t : Bool) (name : List ℕ) (rest : X) → t ≡ false → option_map (λ (p : List ℕ × X). p.0) (if l && t then Some (name, rest) else None) ≡ None
no-parts l true name rest e = cc e
no-parts true false name rest e = refl
no-parts false false name rest e = refl

unnamed : (line : List ℕ) → 32 < length (before 44 line) → name_of_line line ≡ None
unnamed line long =
    let name = before 44 line in
    no-parts (nat_lt (length name) (length line)) (is_name name) name (drop_through 44 line)
    (not-all (nat_le 1 (length name)) (list_all is_name_byte name) (nat_le (length name) 32) (lt-leb (length name) 32 long))

pub names-shown : BeginningsShowNames
names-shown line = by_length (leb_tells (length line) 33)
  where
    cut : 33 < length line → ((nat_le (length (before 44 line)) 32 ≡ true) × (length (before 44 line) ≤ 32)) ⊎ ((nat_le (length (before 44 line)) 32 ≡ false) × (32 < length (before 44 line)))
        → name_of_line (take 33 line) ≡ name_of_line line
    cut more (inl h) =
        let name = before 44 line in
        let same : before 44 (take 33 line) ≡ name = before-take 44 33 line ∙ take_all 33 name (omega (arith, h.1)) in
        let long : length (take 33 line) ≡ 33 = length-take-le 33 line (omega arith) in
        named (take 33 line) name same (omega (arith, long, h.1)) ∙ sym (named line name refl (omega (arith, h.1)))
    cut more (inr h) =
        let same = before-take 44 33 line in
        let long : length (before 44 (take 33 line)) ≡ 33 = ap length same ∙ length-take-le 33 (before 44 line) (omega (arith, h.1)) in
        unnamed (take 33 line) (omega (arith, long)) ∙ sym (unnamed line h.1)

    by_length : ((nat_le (length line) 33 ≡ true) × (length line ≤ 33)) ⊎ ((nat_le (length line) 33 ≡ false) × (33 < length line)) → name_of_line (take 33 line) ≡ name_of_line line
    by_length (inl h) = ap name_of_line (take_all 33 line h.1)
    by_length (inr h) = cut h.1 (leb_tells (length (before 44 line)) 32)
