use Rattle.std.proofs.Common.{◌≡◌, ◌∙◌, ◌⊎◌, inl, inr, true, false, get_or, ap, sym, arith}
use Rattle.std.specs.Prelude.{slice_get}
use Rattle.crew_carry.proofs.Pushed.{some-once}
use Rattle.crew_dirty.proofs.Sames.{put-from, put-kept, put-there}
use Rattle.crew_dirty.proofs.same.note.Goals as goal

pub returns-clause-kept : goal.returns-clause-kept
returns-clause-kept c =
    let within = c.requires.new c.in-Some.new c.in-Some.is in
    let long = c.requires.long in
    put-kept c.args.flags.now c.in-Some.new c.is_same_at-same.result (omega (arith, within, long))

pub returns-clause-there : goal.returns-clause-there
returns-clause-there c = λ k is same.
    let within = c.requires.new c.in-Some.new c.in-Some.is in
    let long = c.requires.long in
    let one : c.in-Some.new ≡ k = some-once c.in-Some.new k (sym c.in-Some.is ∙ is) in
    put-there c.args.flags.now c.in-Some.new c.is_same_at-same.result (omega (arith, within, long)) k one (c.is_same_at-same.ensures.1 (same ∙ ap (slice_get c.args.news.now) (sym one)))

pub returns-clause-from : goal.returns-clause-from
returns-clause-from c = λ k t.
    let within = c.requires.new c.in-Some.new c.in-Some.is in
    let long = c.requires.long in
    elim (put-from c.args.flags.now c.in-Some.new c.is_same_at-same.result (omega (arith, within, long)) k t) as (λ _. (get_or c.args.flags.now k false ≡ true) ⊎ (slice_get c.args.olds.now c.args.old ≡ slice_get c.args.news.now k)) [
      | inl was ↦ inl was
      | inr own ↦ inr (c.is_same_at-same.ensures.0 own.1 ∙ ap (slice_get c.args.news.now) own.0)
    ]
