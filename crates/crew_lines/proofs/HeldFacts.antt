-- Parts of a list.
use Rattle.std.proofs.Common.{◌≡◌, ◌∙◌, ◌+◌, ◌-◌, ◌≤◌, ◌++◌, ℕ, List, Option, Some, None, length, take, drop, slice_range, sym, ap, ap₂, arith, append_assoc, drop-drop, length-take, take-append-drop}
use lib.Seq.{take-take}
use Rattle.std.proofs.lemmas.List.{drop-take}
use Rattle.std.specs.Io.KnownBytes.{Consumes, Keeps, prepend_known}

-- a part without its first
pub part-passed : (xs : List ℕ) (a e n : ℕ) → e ≤ length xs → n ≤ length (slice_range xs a e) → slice_range xs (a + n) e ≡ drop n (slice_range xs a e)
part-passed xs a e n b h =
    let long = length-take (e - a) (drop a xs) in
    let whole : n + (e - (a + n)) ≡ e - a = omega arith in
    ap (take (e - (a + n))) (sym (drop-drop n a xs)) ∙ sym (drop-take n (e - (a + n)) (drop a xs)) ∙ ap (λ k. drop n (take k (drop a xs))) whole

-- a front and what stands behind it
front-more : (e n : ℕ) (xs : List ℕ) → take (e + n) xs ≡ take e xs ++ take n (drop e xs)
front-more e n xs = sym (take-append-drop e (take (e + n) xs)) ∙ ap₂ (λ (l m : List ℕ). l ++ m) (take-take e (e + n) xs (omega arith)) (drop-take e n xs)

-- what was read behind those that are held
pub held-more : (a b : Option (List ℕ)) (held xs : List ℕ) (e n : ℕ) → take e xs ≡ held → Consumes a b (take n (drop e xs))
    → Keeps (prepend_known held a) (prepend_known (slice_range xs 0 (e + n)) b)
held-more None b held xs e n front read = tt
held-more (Some ys) None held xs e n front read = absurd read
held-more (Some ys) (Some zs) held xs e n front read =
    let all : e + n - 0 ≡ e + n = omega arith in
    ap (λ k. take k xs ++ zs) all ∙ ap (λ l. l ++ zs) (front-more e n xs ∙ ap (λ l. l ++ take n (drop e xs)) front)
    ∙ append_assoc held (take n (drop e xs)) zs ∙ ap (λ l. held ++ l) (sym read)
