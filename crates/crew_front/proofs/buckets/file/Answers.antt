use Rattle.std.proofs.Common.{◌∙◌, ap, ltb, not, arith}
use Rattle.std.specs.List.{position_or_len, insert}
use Rattle.std.proofs.lemmas.List.Sums.{prefix_len-le-length}
use Rattle.crew_front.specs.declared.buckets.Graded.{Graded}
use Rattle.crew_front.proofs.EntryLemmas.{insert-first}
use Rattle.crew_front.proofs.buckets.file.Goals as goal

pub insert-requires : goal.insert-requires
insert-requires g c =
    let Slot = Graded g.row.V.Denot in
    omega (arith, c.end_of-end.ensures, prefix_len-le-length (λ (x : Slot). not (ltb c.args.grade x.grade)) c.deref.result.now, c.deref.ensures.len)

pub returns-clause-ok : goal.returns-clause-ok
returns-clause-ok g c =
    let Slot = Graded g.row.V.Denot in
    let xs = c.args.values.now.items in
    let new : Slot = record { grade = c.args.grade; value = c.args.value } in
    let end = c.end_of-end.ensures ∙ ap (position_or_len (λ (x : Slot). ltb c.args.grade x.grade)) c.deref.ensures.value in
    c.in_ok-insert.ensures.items ∙ (ap (λ i. insert xs i new) end ∙ insert-first (λ (x : Slot). ltb c.args.grade x.grade) new xs)
