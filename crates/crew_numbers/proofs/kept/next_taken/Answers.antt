use Rattle.std.proofs.Common.{◌∙◌, ℕ, Vec, Global, ap, arith, length, sym}
use Rattle.std.specs.Arc.{arc_value}
use Rattle.crew_net.proofs.Oks.{IfOk-from}
use Rattle.crew_numbers.specs.Machinery.Kept.{AlikeIn, AreKeptOf, StayIn}
use Rattle.crew_numbers.specs.Machinery.Taken.{AreFresh, Keep}
use Rattle.crew_numbers.specs.declared.taking.Taken.{Taken}
use Rattle.crew_numbers.proofs.Keeping.{alike-in, are-kept, copy-below, kept-along, keys-distinct, keys_of, stay-in}
use Rattle.crew_numbers.proofs.kept.next_taken.Goals as goal

pub number-requires-clause-kept : goal.number-requires-clause-kept
number-requires-clause-kept c =
    let old = keys_of c.args.old.now.duties in
    let new = keys_of c.args.new.now.duties in
    let taken = c.args.taken.now in
    let numbers = taken.numbers.value.items in
    let kept = c.deref-3.result.now in
    let is : AreKeptOf old new numbers kept = kept-along (c.deref-2.ensures.value ∙ ap (λ (v : Vec ℕ Global). v.items) c.deref.ensures) (sym c.deref-3.ensures.value) c.in_ok-kept.ensures.kept in
    are-kept old new numbers taken.ranks.value.items taken.keys c.in_ok-copied.field-0 kept (length c.args.old.now.duties) c.requires.numbered c.in_ok-copied.ensures is (keys-distinct c.args.new.now.duties c.in_ok-kept.ensures.rising)

pub number-requires-clause-below : goal.number-requires-clause-below
number-requires-clause-below c = λ n h.
    let old = keys_of c.args.old.now.duties in
    let new = keys_of c.args.new.now.duties in
    let taken = c.args.taken.now in
    let numbers = taken.numbers.value.items in
    let kept = c.deref-3.result.now in
    let is : AreKeptOf old new numbers kept = kept-along (c.deref-2.ensures.value ∙ ap (λ (v : Vec ℕ Global). v.items) c.deref.ensures) (sym c.deref-3.ensures.value) c.in_ok-kept.ensures.kept in
    let below = copy-below old new numbers taken.ranks.value.items taken.keys c.in_ok-copied.field-0 kept (length c.args.old.now.duties) c.requires.numbered c.in_ok-copied.ensures is n h in
    let long = ap (λ (v : Vec ℕ Global). length v.items) c.deref-4.ensures in
    omega (arith, below, long)

pub returns-clause-stay : goal.returns-clause-stay
returns-clause-stay c =
    let old = keys_of c.args.old.now.duties in
    let new = keys_of c.args.new.now.duties in
    let numbers = c.args.taken.now.numbers.value.items in
    let kept = c.deref-3.result.now in
    let is : AreKeptOf old new numbers kept = kept-along (c.deref-2.ensures.value ∙ ap (λ (v : Vec ℕ Global). v.items) c.deref.ensures) (sym c.deref-3.ensures.value) c.in_ok-kept.ensures.kept in
    IfOk-from (λ (next : Taken). Keep kept (arc_value next.numbers).items) (λ (next : Taken). StayIn old new numbers (arc_value next.numbers).items) c.number.result
    (λ next keep. stay-in old new numbers (arc_value next.numbers).items kept (keys-distinct c.args.old.now.duties c.requires.rising) is keep) c.number.ensures.keep

pub returns-clause-alike : goal.returns-clause-alike
returns-clause-alike c =
    let old = keys_of c.args.old.now.duties in
    let new = keys_of c.args.new.now.duties in
    let taken = c.args.taken.now in
    let numbers = taken.numbers.value.items in
    let kept = c.deref-3.result.now in
    let copy = c.in_ok-copied.field-0 in
    let is : AreKeptOf old new numbers kept = kept-along (c.deref-2.ensures.value ∙ ap (λ (v : Vec ℕ Global). v.items) c.deref.ensures) (sym c.deref-3.ensures.value) c.in_ok-kept.ensures.kept in
    IfOk-from (λ (next : Taken). AreFresh kept copy (arc_value next.numbers).items) (λ (next : Taken). AlikeIn old new numbers (arc_value next.numbers).items) c.number.result
    (λ next fresh. alike-in old new numbers taken.ranks.value.items taken.keys copy kept (length c.args.old.now.duties) c.requires.numbered c.in_ok-copied.ensures is (arc_value next.numbers).items fresh) c.number.ensures.fresh
