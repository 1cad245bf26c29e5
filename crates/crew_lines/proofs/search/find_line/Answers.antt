use Rattle.std.proofs.Common.{◌≡◌, ◌≤◌, List, length, rules, subst, sym, ℕ}
use Rattle.crew_lines.specs.Bytes.{before}
use Rattle.crew_lines.proofs.ReadFacts.{finds-last}
use Rattle.crew_lines.proofs.search.find_line.Goals as goal

pub returns-then-branch-eq0-clause-found : goal.returns-then-branch-eq0-clause-found
returns-then-branch-eq0-clause-found g c = λ _.
    let zero : c.in_ok-fill.field-0 ≡ 0 = search rules in
    let same : c.fill.new.self ≡ c.loop.held = c.in_ok-fill.ensures.none zero in
    let none : length c.loop.held ≤ length (before 10 c.loop.held) = search rules in
    let short : length c.loop.held ≤ 65536 = search rules in
    finds-last (g.R.Read.remaining c.fill.new.reader) c.fill.new.self c.count-count.result (c.in_ok-fill.ensures.end zero) c.count-count.ensures
    (subst (λ (h : List ℕ). length h ≤ length (before 10 h)) (sym same) none) (subst (λ (h : List ℕ). length h ≤ 65536) (sym same) short)
