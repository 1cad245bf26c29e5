use Rattle.std.proofs.Common.{List, [], ◌∷◌, inl, sym, subst}
use Rattle.crew_resource.specs.Members.{Member}
use Rattle.crew_resource.proofs.Members.{Member-append_left, Member-append_right}
use Rattle.crew_label.specs.declared.blocks.Entry.{Entry}
use Rattle.crew_label.specs.declared.seen.Seen.{Seen}
use Rattle.crew_label.proofs.Indexed.{entry_same, no_entry}
use Rattle.crew_label.proofs.blocks.push_entry.Goals as goal

pub returns-in_default-clause-has : goal.returns-in_default-clause-has
returns-in_default-clause-has g c e m p =
    absurd (no_entry (λ (s : Seen g.row.V.Denot). s.marks.now) c.args.list.now e c.args.place m p c.in_default.ensures)

pub returns-clause-has : goal.returns-clause-has
returns-clause-has g c e m p =
    let marks = λ (s : Seen g.row.V.Denot). s.marks.now in
    let x : Entry = record { marks = c.in-Some.seen.now.marks.now; place = c.args.place } in
    subst (λ (es : List Entry). Member es e) (sym c.in_ok-push.ensures.items)
    (Member-append_right c.args.entries.now.items (x ∷ []) e (inl (entry_same marks c.args.list.now e c.args.place c.in-Some.seen.now m p c.in-Some.ensures)))

pub returns-clause-stays : goal.returns-clause-stays
returns-clause-stays g c e m =
    let x : Entry = record { marks = c.in-Some.seen.now.marks.now; place = c.args.place } in
    subst (λ (es : List Entry). Member es e) (sym c.in_ok-push.ensures.items) (Member-append_left c.args.entries.now.items (x ∷ []) e m)
