use Rattle.std.proofs.Common.{◌≡◌, ◌<◌, ◌≤◌, ◌+◌, ◌-◌, ◌++◌, ◌∷◌, ◌∙◌, ℕ, [], List, ap, arith, get_or, inl, length, refl, subst, sym, ⊎_elim}
use Rattle.std.proofs.lemmas.Option.{slice_get-get_or}
use Rattle.std.specs.Prelude.{slice_get}
use Rattle.crew_pool.proofs.MergeLemmas.{some_is}
use Rattle.crew_net.proofs.Numbers.{get-within}
use Rattle.crew_net.proofs.Slices.{member-place}
use Rattle.crew_resource.specs.Members.{Member}
use Rattle.crew_resource.proofs.Members.{Member-append, Member-append_left, Member-append_right, Member-get}
use Rattle.crew_sweep.specs.Machinery.Boardings.{IsAsGood}
use Rattle.crew_sweep.proofs.AsGood.{as-good-itself, one-more}
use Rattle.crew_sweep.proofs.boardings.without_worse.Goals.{then-not-has_as_good+in_ok-push, else-not-has_as_good}
use Rattle.crew_sweep.proofs.boardings.without_worse.Goals as goal

pub has_as_good-requires-clause-rank : goal.has_as_good-requires-clause-rank
has_as_good-requires-clause-rank c =
    let place = length c.args.ranks.now - 1 - c.loop-back.back in
    let within : place < length c.args.ranks.now = omega (arith, c.loop-back-test.true) in
    c.requires.ranks _ (Member-get c.args.ranks.now place 0 within)

pub loop-back-preserved : goal.loop-back-preserved
loop-back-preserved c =
    let duties = c.args.duties.now in
    let positions = c.args.positions.now in
    let ranks = c.args.ranks.now in
    let back = c.loop-back.back in
    let place = length ranks - 1 - back in
    let rank = get_or ranks place 0 in
    let inv = c.loop-back.invariant in
    let old = c.loop-back.kept.items in
    let there : back < length ranks = c.loop-back-test.true in
    let within : place < length ranks = omega (arith, there) in
    let Goal = λ (kept : List ℕ). ((k : ℕ) → Member kept k → Member ranks k)
    × ((i : ℕ) → i < length ranks → length ranks - (back + 1) ≤ i → (k : ℕ) × Member kept k × IsAsGood duties positions k (get_or ranks i 0)) in
    elim c.if-not-has_as_good.branch [
      | then-not-has_as_good+in_ok-push w ↦
          let more = old ++ rank ∷ [] in
          let grown : c.if-not-has_as_good.kept.items ≡ more = ap (λ v. v.items) w.kept-is ∙ w.in_ok-push.ensures.items in
          subst Goal (sym grown) (
            λ k m. ⊎_elim {C = Member ranks k} (inv.0 k) (λ n. ⊎_elim {C = Member ranks k} (λ e. subst (Member ranks) e (Member-get ranks place 0 within)) (λ b. absurd b) n) (Member-append old (rank ∷ []) k m),
            one-more duties positions ranks old more back there (λ k m. Member-append_left old (rank ∷ []) k m)
                (rank, Member-append_right old (rank ∷ []) rank (inl refl), as-good-itself duties positions rank) inv.1,
          )
      | else-not-has_as_good w ↦
          let same : c.if-not-has_as_good.kept.items ≡ old = ap (λ v. v.items) w.kept-is in
          let k = c.has_as_good.ensures w.if-not-has_as_good.false in
          let held = subst (λ (ks : List ℕ). Member ks k.0) c.deref.ensures.value k.1 in
          subst Goal (sym same) (inv.0, one-more duties positions ranks old old back there (λ j m. m) (k.0, held, k.2) inv.1)
    ]

pub returns-clause-as_good : goal.returns-clause-as_good
returns-clause-as_good c rank m =
    let ranks = c.args.ranks.now in
    let at = member-place ranks rank m in
    let within = get-within ranks at.0 rank at.1 in
    let is : get_or ranks at.0 0 ≡ rank = some_is (get_or ranks at.0 0) rank (slice_get ranks at.0) (slice_get-get_or ranks at.0 0 within) at.1 in
    let from : length ranks - c.loop-back.back ≤ at.0 = omega (arith, c.loop-back-test.false) in
    subst (λ j. (k : ℕ) × Member c.loop-back.kept.items k × IsAsGood c.args.duties.now c.args.positions.now k j) is (c.loop-back.invariant.1 at.0 within from)
