use Rattle.std.proofs.Common.{◌≡◌, ◌<◌, ◌∙◌, ◌∷◌, ◌≤ℤ◌, ℕ, ℤ, List, [], ap, arith, get_or, length, pos, rules, subst, sym, to_z, of_z, w32}
use Rattle.std.proofs.lemmas.Int.{to_z-of_z}
use Rattle.crew_pool.specs.Marks.{are_at_most}
use Rattle.crew_pool.specs.Machinery.Columns.{Rows}
use Rattle.crew_pool.proofs.ColumnLemmas.{below_rows, long_view, same_four}
use Rattle.crew_room.proofs.columns.Columns.least.Goals as goal

-- what is said of a list that was read holds of the list
of_column : (x : ℤ) (read column : List ℤ) → read ≡ column → ((k : ℕ) → k < length read → x ≤ℤ get_or read k (pos 0)) → (k : ℕ) → k < length column → x ≤ℤ get_or column k (pos 0)
of_column x read column e h = subst (λ (xs : List ℤ). (k : ℕ) → k < length xs → x ≤ℤ get_or xs k (pos 0)) e h

pub returns : goal.returns
returns c k l =
    let x = c.least_of.result in
    let y = c.least_of-2.result in
    let z = c.least_of-3.result in
    let w = c.least_of-4.result in
    let inside = c.self.inside in
    let long = long_view c.self.invariant c.self.view_is in
    let below = below_rows c.self.invariant x y z w
    (of_column x c.deref.result.now inside.first.items c.deref.ensures.value c.least_of.ensures)
    (of_column y c.deref-2.result.now inside.second.items c.deref-2.ensures.value c.least_of-2.ensures)
    (of_column z c.deref-3.result.now inside.third.items c.deref-3.ensures.value c.least_of-3.ensures)
    (of_column w c.deref-4.result.now inside.fourth.items c.deref-4.ensures.value c.least_of-4.ensures)
    k (omega (arith, l, long))
    in
    let same : (to_z w32 (of_z w32 x) ∷ to_z w32 (of_z w32 y) ∷ to_z w32 (of_z w32 z) ∷ to_z w32 (of_z w32 w) ∷ []) ≡ (x ∷ y ∷ z ∷ w ∷ []) =
    same_four (to_z-of_z w32 x (search rules)) (to_z-of_z w32 y (search rules)) (to_z-of_z w32 z (search rules)) (to_z-of_z w32 w (search rules))
    in
    ap (λ row. are_at_most row (get_or c.args.self.now.rows k [])) same
    ∙ (ap (λ (r : Rows). are_at_most (x ∷ y ∷ z ∷ w ∷ []) (get_or r.rows k [])) (sym c.self.view_is) ∙ below)
