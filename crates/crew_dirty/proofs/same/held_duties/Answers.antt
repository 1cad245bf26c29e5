use Rattle.std.proofs.Common.{◌≡◌, ◌+◌, ◌++◌, ◌∙◌, ◌⊎◌, inl, inr, Bool, List, None, ap, arith, drop, false, get_or, length, subst, sym, take, true, ℕ}
use Rattle.std.specs.Prelude.{slice_get}
use Rattle.std.proofs.Math.Seq.{take-append_seam}
use Rattle.std.proofs.lemmas.Option.{slice_get-get_or}
use Rattle.crew_dirty.proofs.Sames.{AreHeldTo, held-all, held-more}
use Rattle.crew_dirty.proofs.same.held_duties.Goals as goal

pub note-requires-clause-long : goal.note-requires-clause-long
note-requires-clause-long c = ap length c.deref_mut.ensures.value ∙ c.loop-old.invariant.0

pub loop-old-preserved : goal.loop-old-preserved
loop-old-preserved c =
    let olds = c.args.olds.now in
    let news = c.args.news.now in
    let k = c.loop-old.old in
    let now = c.note.new.flags in
    let was = c.loop-old.flags.items in
    let value = c.deref_mut.ensures.value in
    let long : length now ≡ length news = c.note.ensures.long ∙ (ap length value ∙ c.loop-old.invariant.0) in
    let len : length now ≡ c.loop-old.flags.len = c.note.ensures.long ∙ c.deref_mut.ensures.len in
    let whole : take c.loop-old.flags.len (now ++ drop (length now) was) ≡ now = ap (λ (n : ℕ). take n (now ++ drop (length now) was)) (sym len) ∙ take-append_seam now (drop (length now) was) in
    let next : AreHeldTo olds news (k + 1) now = held-more olds news c.args.ranks.now c.requires.all k (get_or c.args.ranks.now k None) (slice_get-get_or c.args.ranks.now k None c.loop-old-test.true) was now
    (λ rank t. c.note.ensures.kept rank (ap (λ (fs : List Bool). get_or fs rank false) value ∙ t))
    c.note.ensures.there
    (λ rank t. elim (c.note.ensures.from rank t) as (λ _. (get_or was rank false ≡ true) ⊎ (slice_get olds k ≡ slice_get news rank)) [
      | inl before ↦ inl (ap (λ (fs : List Bool). get_or fs rank false) (sym value) ∙ before)
      | inr same ↦ inr same
    ])
    c.loop-old.invariant.1 in
    subst (λ (fs : List Bool). (length fs ≡ length news) × AreHeldTo olds news (k + 1) fs) (sym whole) (long, next)

pub returns-clause-flags : goal.returns-clause-flags
returns-clause-flags c =
    let all = c.loop-old-test.false in
    let long = c.requires.long in
    held-all c.args.olds.now c.args.news.now c.loop-old.old c.loop-old.flags.items (omega (arith, all, long)) c.loop-old.invariant.1
