use Rattle.std.proofs.Common.{rules, ◌≡◌, ◌+◌, ◌++◌, ◌∷◌, [], Some, take, ap₂, ◌<◌, IsTrue, List, ap, arith, get_or, length, map, subst, sym, ◌∙◌, ℕ}
use Rattle.std.proofs.lemmas.List.{get_or-map, map-append, take_more}
use Rattle.crew_pairing.proofs.Blocks.{slice-within}
use Rattle.std.specs.Prelude.{slice_get}
use Rattle.crew_pairing.specs.Events.{arrival_of, departure_of}
use Rattle.crew_pairing.specs.declared.events.Arrival.{Arrival}
use Rattle.crew_pairing.specs.declared.events.Departure.{Departure}
use Rattle.crew_net.proofs.Slices.{get-at}
use Rattle.crew_net.proofs.events.have_same_events.Goals as goal

-- where two lists have the same events
events-at : {X E : Type 0} (event_of : X → E) (xs ys : List X) (i : ℕ) (x y : X) → map event_of xs ≡ map event_of ys
    → i < length xs → i < length ys → x ≡ get_or xs i x → y ≡ get_or ys i y → event_of x ≡ event_of y
events-at {X} {E} event_of xs ys i x y same within-x within-y at-x at-y =
    ap event_of at-x
    ∙ (sym (get_or-map event_of xs i x (event_of x) within-x)
    ∙ (ap (λ (es : List E). get_or es i (event_of x)) same
    ∙ (get_or-map event_of ys i y (event_of x) within-y
    ∙ sym (ap event_of at-y))))

pub returns-then-not-has_same_events : goal.returns-then-not-has_same_events
returns-then-not-has_same_events c =
    let i = c.loop-rank.rank in
    let xs = c.args.before.now in
    let ys = c.args.after.now in
    let x = c.at.result.now in
    let y = c.at-in-loop-rank.result.now in
    let first : i < length xs = omega (arith, c.loop-rank-test.true, c.len-rank-end.ensures) in
    let within : i < length ys = omega (arith, first, c.if-len.false, c.len.ensures, c.len-2.ensures) in (
      λ t. absurd (let q : ⊥ = (cc) in q),
      λ h.
          let leave = events-at departure_of xs ys i x y h.0 first within (sym (get-at xs i x x c.at.ensures)) (sym (get-at ys i y y c.at-in-loop-rank.ensures)) in
          let arrive = events-at arrival_of xs ys i x y h.1 first within (sym (get-at xs i x x c.at.ensures)) (sym (get-at ys i y y c.at-in-loop-rank.ensures)) in
          subst IsTrue c.if-not-has_same_events.true (c.has_same_events.ensures.1 (leave, arrive)),
    )

more : {X E : Type 0} (event_of : X → E) (xs : List X) (i : ℕ) (x : X) → slice_get xs i ≡ Some x → map event_of (take (i + 1) xs) ≡ map event_of (take i xs) ++ event_of x ∷ []
more {X} event_of xs i x at =
    ap (map event_of) (take_more xs i x (slice-within xs i x at))
    ∙ (map-append event_of (take i xs) (get_or xs i x ∷ []) ∙ ap (λ (y : X). map event_of (take i xs) ++ event_of y ∷ []) (get-at xs i x x at))

pub loop-rank-preserved : goal.loop-rank-preserved
loop-rank-preserved c =
    let i = c.loop-rank.rank in
    let xs = c.args.before.now in
    let ys = c.args.after.now in
    let x = c.at.result.now in
    let y = c.at-in-loop-rank.result.now in
    let same = c.has_same_events.ensures.0 (search rules) in (
      more departure_of xs i x c.at.ensures ∙ (ap₂ (λ (es : List Departure) (e : Departure). es ++ e ∷ []) c.loop-rank.invariant.0 same.0 ∙ sym (more departure_of ys i y c.at-in-loop-rank.ensures)),
      more arrival_of xs i x c.at.ensures ∙ (ap₂ (λ (es : List Arrival) (e : Arrival). es ++ e ∷ []) c.loop-rank.invariant.1 same.1 ∙ sym (more arrival_of ys i y c.at-in-loop-rank.ensures)),
    )
