use Rattle.std.proofs.Common.{◌≡◌, ℤ, true, not, List, inl, refl, sym, subst, ◌∙◌}
use Rattle.std.specs.Prelude.{◌||◌}
use Rattle.crew_resource.specs.Members.{Member}
use Rattle.crew_label.specs.Machinery.Marks.{are_at_most}
use Rattle.crew_label.specs.Machinery.Rules.{same_by}
use Rattle.crew_label.specs.Pools.{stands_label}
use Rattle.crew_label.specs.Walks.{ranks_at_most, walk_of}
use Rattle.crew_label.specs.declared.seen.Seen.{Seen}
use Rattle.crew_label.proofs.Indexed.{found_is_any}
use Rattle.crew_label.proofs.Marked.{and_first, asked_of}
use Rattle.crew_label.proofs.index.is_reached_by.Goals as goal

pub returns : goal.returns
returns g c =
    let r = c.args.resource.now in
    let t = c.requires.told.0 in
    let marks = λ (v : g.row.R-Value.Denot). g.R.Marked.marks_of r v t in
    let here = c.args.seen.now.label.now in
    let told : c.args.seen.now.marks.now ≡ marks here.value = c.requires.told.1 c.args.seen.now (inl refl) in
    let same = same_by g.R.Resource.below g.R.Forgets.same_sums c.args.rule in
    let trail = g.T.Trails.trail c.args.trails.now in
    let test = λ (s : Seen g.row.R-Value.Denot). stands_label g.R.Resource.below same trail s.label.now here in
    let asked = λ (s : Seen g.row.R-Value.Denot) (m : Member c.args.others.now s) (h : test s ≡ true).
    let l = s.label.now in
    subst (λ (p : List ℤ). are_at_most p c.args.seen.now.marks.now ≡ true) (sym (c.requires.told.2 s m))
    (subst (λ (q : List ℤ). are_at_most (marks l.value) q ≡ true) (sym told)
    (asked_of (marks l.value) (marks here.value) (g.met.R.Marked.marks_rise r t l.value here.value
    (and_first (g.R.Resource.below l.value here.value) (not (same l.value here.value) || ranks_at_most (walk_of trail l.before) (walk_of trail here.before)) h)))) in
    c.in_groups.ensures
    ∙ found_is_any (λ (s : Seen g.row.R-Value.Denot). s.marks.now) c.args.others.now c.args.groups.now test c.args.seen.now.marks.now c.requires.groups asked
