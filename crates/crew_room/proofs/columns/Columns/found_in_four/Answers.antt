use Rattle.std.proofs.Common.{ap, length, arith, rules, w32, ℕ, FitsSigned}
use Rattle.std.proofs.lemmas.Int.{to_z-of_z}
use Rattle.crew_pool.specs.Marks.{mark_at}
use Rattle.crew_pool.proofs.LaneLemmas.{found}
use Rattle.crew_pool.proofs.ColumnLemmas.{long_view}
use Rattle.crew_room.proofs.columns.Columns.found_in_four.Goals as goal

pub above-requires : goal.above-requires
above-requires c = let long = long_view c.self.invariant c.self.view_is in let is = ap length c.deref.ensures.value in let within = c.requires in omega (arith, within, long, is)

pub above-requires-2 : goal.above-requires-2
above-requires-2 c = let long = long_view c.self.invariant c.self.view_is in let is = ap length c.deref-2.ensures.value in let within = c.requires in omega (arith, within, long, is, c.self.invariant.second)

pub above-requires-3 : goal.above-requires-3
above-requires-3 c = let long = long_view c.self.invariant c.self.view_is in let is = ap length c.deref-3.ensures.value in let within = c.requires in omega (arith, within, long, is, c.self.invariant.third)

pub above-requires-4 : goal.above-requires-4
above-requires-4 c = let long = long_view c.self.invariant c.self.view_is in let is = ap length c.deref-4.ensures.value in let within = c.requires in omega (arith, within, long, is, c.self.invariant.fourth)

pub returns : goal.returns
returns c =
    let m = c.args.marks.now in
    let at = c.args.at in
    let same = λ (k : ℕ) (f : FitsSigned w32 (mark_at k m)). to_z-of_z w32 (mark_at k m) f in
    rw (c.above.ensures, c.above-2.ensures, c.above-3.ensures, c.above-4.ensures, c.deref.ensures.value, c.deref-2.ensures.value, c.deref-3.ensures.value, c.deref-4.ensures.value, ← c.self.view_is, same 0 (search rules), same 1 (search rules), same 2 (search rules), same 3 (search rules))
    (found c.self.invariant at (let long = long_view c.self.invariant c.self.view_is in let within = c.requires in omega (arith, within, long)) m)
