use Rattle.std.proofs.Common.{◌≡◌, ◌∙◌, ◌++◌, ◌-◌, ℕ, List, length, take, drop, arith, Option, Some, None, append_assoc, ap, sym}
use Rattle.std.proofs.lemmas.List.{length-drop, take-append-drop, take_all}
use Rattle.std.specs.Io.KnownBytes.{Appends}
use Rattle.crew_session.proofs.text.write_text.Goals as goal

appends : (before mid after : Option (List ℕ)) (xs ys : List ℕ) → Appends before mid xs → Appends mid after ys → Appends before after (xs ++ ys)
appends None mid after xs ys a b = tt
appends (Some x) None after xs ys a b = absurd a
appends (Some x) (Some y) None xs ys a b = absurd b
appends (Some x) (Some y) (Some z) xs ys a b = b ∙ (ap (λ l. l ++ ys) a ∙ append_assoc x xs ys)

-- what is left of the text after n more bytes of it
left : (part rest text : List ℕ) (n : ℕ) → text ≡ part ++ rest → text ≡ (part ++ take n rest) ++ take (length rest - n) (drop n rest)
left part rest text n e =
    let all : take (length rest - n) (drop n rest) ≡ drop n rest = ap (λ k. take k (drop n rest)) (sym (length-drop n rest)) ∙ take_all (length (drop n rest)) (drop n rest) (omega arith) in
    e ∙ (ap (λ l. part ++ l) (sym (take-append-drop n rest)) ∙ (sym (append_assoc part (take n rest) (drop n rest))
    ∙ ap (λ l. (part ++ take n rest) ++ l) (sym all)))

pub loop-rest-preserved : goal.loop-rest-preserved
loop-rest-preserved g c =
    let so_far = c.loop-rest.invariant in
    let n = c.in_ok-taken.taken in (
      so_far.0 ++ take n c.loop-rest.rest.now,
      left so_far.0 c.loop-rest.rest.now c.args.text.now n so_far.1,
      appends _ _ _ so_far.0 (take n c.loop-rest.rest.now) so_far.2 c.in_ok-taken.ensures.bytes,
    )
