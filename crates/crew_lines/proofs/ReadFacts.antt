-- Known bytes over passes and reads.
use Rattle.std.proofs.Common.{◌≡◌, ◌∙◌, ◌<◌, ◌≤◌, ◌++◌, ℕ, zero, suc, Bool, true, false, List, [], ◌∷◌, Option, Some, None, length, length-append, take, drop, option_map, refl, sym, ap, ap₂, subst, arith}
use mathlib.Core.List.{cons≢nil}
use lib.Seq.{drop-append-le}
use Rattle.std.specs.Io.BufRead.{drop_through}
use Rattle.std.specs.Io.KnownBytes.{IsAtEnd, Keeps, prepend_known}
use Rattle.crew_lines.specs.Bytes.{before}
use Rattle.crew_lines.specs.Finding.{FindsIn, IsFound, after_long, told_as}
use Rattle.crew_lines.specs.Known.{Passes, PassesWithin}
use Rattle.crew_lines.specs.Lines.{told_in, told_of}
use Rattle.crew_lines.specs.Reading.{HasNone, Takes}
use Rattle.crew_lines.specs.declared.search.Found.{Found}
use Rattle.crew_lines.proofs.FoundFacts.{found-last}
use Rattle.crew_lines.proofs.LineFacts.{told-first}

pub within-refl : (a : Option (List ℕ)) → PassesWithin a a
within-refl None = tt
within-refl (Some x) = refl

-- the end of the line was held
pub pass-ended : (a r : Option (List ℕ)) (h h' : List ℕ) → PassesWithin a (prepend_known h r) → ((xs : List ℕ) → h' ++ xs ≡ drop_through 10 (h ++ xs)) → Passes a (prepend_known h' r)
pass-ended None r h h' so_far ended = tt
pass-ended (Some x) None h h' so_far ended = absurd so_far
pass-ended (Some x) (Some ys) h h' so_far ended = ended ys ∙ so_far

-- it was not, and all that was held is passed
pub pass-on : (a r b : Option (List ℕ)) (h h' : List ℕ) → PassesWithin a (prepend_known h r) → ((xs : List ℕ) → drop_through 10 xs ≡ drop_through 10 (h ++ xs)) → h' ≡ []
    → Keeps (prepend_known h' r) b → PassesWithin a b
pass-on None r b h h' so_far on none kept = tt
pass-on (Some x) None b h h' so_far on none kept = absurd so_far
pass-on (Some x) (Some ys) None h h' so_far on none kept = absurd kept
pass-on (Some x) (Some ys) (Some zs) h h' so_far on none kept = ap (drop_through 10) (kept ∙ ap (λ l. l ++ ys) none) ∙ on ys ∙ so_far

-- nothing is left at all
pub pass-end : (a r : Option (List ℕ)) (h : List ℕ) → PassesWithin a (prepend_known h r) → h ≡ [] → IsAtEnd r → Passes a (prepend_known h r)
pass-end None r h so_far none end = tt
pass-end (Some x) None h so_far none end = absurd so_far
pass-end (Some x) (Some ys) h so_far none end = let all : h ++ ys ≡ [] = ap₂ (λ (l m : List ℕ). l ++ m) none end in all ∙ (sym (ap (drop_through 10) all) ∙ so_far)

-- what is found in bytes that are held is found in those ahead
pub finds-held : (r : Option (List ℕ)) (h : List ℕ) (found : Found) → ((xs : List ℕ) → IsFound h (h ++ xs) found) → FindsIn h (prepend_known h r) found
finds-held None h found is = tt
finds-held (Some xs) h found is = is xs

pub finds-last : (r : Option (List ℕ)) (h : List ℕ) (n : ℕ) → IsAtEnd r → n ≡ length h → length h ≤ length (before 10 h) → length h ≤ 65536
    → FindsIn h (prepend_known h r) (record { shown = n; passed = n; is_long = false })
finds-last None h n end all none short = tt
finds-last (Some xs) h n end all none short = subst (λ l. IsFound h (h ++ l) (record { shown = n; passed = n; is_long = false })) (sym end) (found-last h n all none short)

none-ahead : (h : List ℕ) → 0 ≡ length h → h ≡ []
none-ahead [] e = refl
none-ahead (x ∷ xs) e = absurd (omega arith)

pub end-ahead : (r : Option (List ℕ)) (h : List ℕ) → IsAtEnd r → length h ≡ 0 → IsAtEnd (prepend_known h r)
end-ahead None h end none = tt
end-ahead (Some xs) h end none = ap₂ (λ (l m : List ℕ). l ++ m) (none-ahead h (sym none)) end

-- a new reader has all that is known
pub left-new : (r : Option (List ℕ)) (h : List ℕ) → h ≡ [] → option_map told_in (option_map (λ xs. after_long false (drop 0 h ++ xs)) r) ≡ option_map told_in r
left-new None h none = refl
left-new (Some xs) h none = ap (λ l. Some (told_in (l ++ xs))) none

-- where nothing is passed but the rest of a long line
pub left-passed : (r s : Option (List ℕ)) (h k : List ℕ) (p : ℕ) (long : Bool) → p ≡ 0 → long ≡ true → Passes (prepend_known h r) (prepend_known k s)
    → Keeps (option_map (λ xs. after_long long (drop p h ++ xs)) r) (option_map (λ xs. after_long false (drop p k ++ xs)) s)
left-passed None s h k p long none is all = tt
left-passed (Some xs) None h k p long none is all = absurd all
left-passed (Some xs) (Some ys) h k p long none is all =
    ap (λ n. drop n k ++ ys) none ∙ all ∙ sym (ap (λ n. after_long long (drop n h ++ xs)) none ∙ ap (λ t. after_long t (h ++ xs)) is)

pub left-within : (r s : Option (List ℕ)) (h k : List ℕ) (p : ℕ) (long : Bool) → p ≡ 0 → long ≡ true → PassesWithin (prepend_known h r) (prepend_known k s)
    → Keeps (option_map (λ xs. after_long long (drop p h ++ xs)) r) (option_map (λ xs. after_long long (drop p k ++ xs)) s)
left-within None s h k p long none is some = tt
left-within (Some xs) None h k p long none is some = absurd some
left-within (Some xs) (Some ys) h k p long none is some =
    ap (λ n. after_long long (drop n k ++ ys)) none ∙ ap (λ t. after_long t (k ++ ys)) is ∙ some
    ∙ sym (ap (λ n. after_long long (drop n h ++ xs)) none ∙ ap (λ t. after_long t (h ++ xs)) is)

pub left-kept : (r s : Option (List ℕ)) (h k : List ℕ) (p : ℕ) (long : Bool) → p ≡ 0 → Keeps (prepend_known h r) (prepend_known k s)
    → Keeps (option_map (λ xs. after_long long (drop p h ++ xs)) r) (option_map (λ xs. after_long long (drop p k ++ xs)) s)
left-kept None s h k p long none kept = tt
left-kept (Some xs) None h k p long none kept = absurd kept
left-kept (Some xs) (Some ys) h k p long none kept =
    ap (λ n. after_long long (drop n k ++ ys)) none ∙ ap (after_long long) kept ∙ sym (ap (λ n. after_long long (drop n h ++ xs)) none)

-- what is told of bytes that there are
told-some : (xs : List ℕ) → 0 < length xs → told_in xs ≡ told_of (before 10 xs) ∷ told_in (drop_through 10 xs)
told-some [] some = absurd (omega arith)
told-some (x ∷ xs) some = told-first x xs

-- the line that was found is the first one that was left
pub left-found : (r s : Option (List ℕ)) (h k : List ℕ) (p : ℕ) (long : Bool) (found : Found) → p ≡ 0 → long ≡ false → Keeps (prepend_known h r) (prepend_known k s)
    → FindsIn k (prepend_known k s) found → 0 < found.passed → found.passed ≤ length k
    → Takes (option_map told_in (option_map (λ xs. after_long long (drop p h ++ xs)) r)) (option_map told_in (option_map (λ xs. after_long found.is_long (drop found.passed k ++ xs)) s))
    (told_as found.is_long (take found.shown k))
left-found None s h k p long found none is kept finds some within = tt
left-found (Some xs) None h k p long found none is kept finds some within = absurd kept
left-found (Some xs) (Some ys) h k p long found none is kept finds some within =
    let more = length-append k ys in
    let ahead : after_long long (drop p h ++ xs) ≡ k ++ ys = ap (λ n. after_long long (drop n h ++ xs)) none ∙ ap (λ t. after_long t (h ++ xs)) is ∙ sym kept in
    let rest : drop_through 10 (k ++ ys) ≡ after_long found.is_long (drop found.passed k ++ ys) =
    sym finds.rest ∙ ap (after_long found.is_long) (drop-append-le found.passed k ys within) in
    ap told_in ahead ∙ told-some (k ++ ys) (omega (arith, more)) ∙ ap₂ (λ t l. t ∷ told_in l) finds.told rest

-- nothing is left where nothing is found
pub none-left : (s : Option (List ℕ)) (k : List ℕ) (p : ℕ) (long : Bool) → IsAtEnd (prepend_known k s)
    → HasNone (option_map told_in (option_map (λ xs. after_long long (drop p k ++ xs)) s))
none-left None k p long end = tt
none-left (Some ys) k p long end = nothing k ys p long end
  where
    nothing : (k ys : List ℕ) (p : ℕ) (long : Bool) → k ++ ys ≡ [] → told_in (after_long long (drop p k ++ ys)) ≡ []
    nothing [] [] zero true e = refl
    nothing [] [] zero false e = refl
    nothing [] [] (suc p) true e = refl
    nothing [] [] (suc p) false e = refl
    nothing [] (y ∷ ys) p long e = absurd (cons≢nil e)
    nothing (x ∷ k) ys p long e = absurd (cons≢nil e)

-- .. and nothing was
pub left-none : (r s : Option (List ℕ)) (h k : List ℕ) (p : ℕ) (long : Bool) → p ≡ 0 → long ≡ false → Keeps (prepend_known h r) (prepend_known k s) → IsAtEnd (prepend_known k s)
    → HasNone (option_map told_in (option_map (λ xs. after_long long (drop p h ++ xs)) r))
left-none None s h k p long none is kept end = tt
left-none (Some xs) None h k p long none is kept end = absurd kept
left-none (Some xs) (Some ys) h k p long none is kept end =
    ap told_in (ap (λ n. after_long long (drop n h ++ xs)) none ∙ ap (λ t. after_long t (h ++ xs)) is ∙ sym kept ∙ end)
