use Rattle.std.proofs.Common.{◌≡◌, ◌∙◌, ◌++◌, ◌∷◌, List, ap, sym, refl, subst, true≢false}
use Rattle.crew_pairing.proofs.Tree.{Each-member}
use Rattle.crew_resource.specs.Members.{Member}
use Rattle.crew_solve.proofs.Beside.{gone-over, left-first, shown-of, shows, stands-between}
use Rattle.crew_solve.proofs.Lent.{Entry}
use Rattle.crew_solve.proofs.same_front.are_entries_of.Goals as goal

pub loop-entry-init : goal.loop-entry-init
loop-entry-init c = (tt, shows c.args.other.now c.lookup-left.result c.lookup-left.ensures.entries)

pub returns-then-not-has_entry-clause-all : goal.returns-then-not-has_entry-clause-all
returns-then-not-has_entry-clause-all c =
    let ys : List Entry = c.loop-entry.yielded in
    let entry : Entry = c.in-Some.entry in
    let shown : List Entry = c.shown-entry-items.result in
    let left = left-first (λ (s : List Entry). s) _ ys c.loop-entry.entry-iterator c.loop-entry.yielded_by in
    let is : shown ≡ ys ++ entry ∷ c.next.new.self = sym c.into_iter-entry-iterator.ensures.into_iter_gives ∙ (left ∙ ap (λ (l : List Entry). ys ++ l) c.in-Some.ensures.steps) in
    let among = subst (λ (l : List Entry). Member l entry) (sym is) (stands-between ys c.next.new.self entry) in (
      λ t. absurd (true≢false (sym t)),
      λ h. absurd (true≢false (sym (c.has_entry.ensures.found.1 (h entry (shows c.args.one.now shown c.shown-entry-items.ensures.entries entry among))) ∙ c.if-not-has_entry.true)),
    )

pub returns-clause-all : goal.returns-clause-all
returns-clause-all c =
    let ys : List Entry = c.loop-entry.yielded in
    let shown : List Entry = c.shown-entry-items.result in
    let left = left-first (λ (s : List Entry). s) _ ys c.loop-entry.entry-iterator c.loop-entry.yielded_by in
    let all = gone-over shown ys c.loop-entry.entry-iterator (sym c.into_iter-entry-iterator.ensures.into_iter_gives ∙ left) c.in-None.ensures.steps.0 in (
      λ _ e m. Each-member (Member c.args.other.now) ys e c.loop-entry.invariant.0 (subst (λ (l : List Entry). Member l e) all (shown-of c.args.one.now shown c.shown-entry-items.ensures.entries e m)),
      λ _. refl,
    )
