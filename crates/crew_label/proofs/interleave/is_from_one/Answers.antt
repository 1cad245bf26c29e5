use Rattle.std.proofs.Common.{◌≡◌, get_or, sym, ◌∙◌, ap, subst}
use Rattle.std.specs.Ordering.{is_lt}
use Rattle.std.specs.declared.cmp.Ordering.TheVariants.{Less}
use Rattle.crew_resource.proofs.Members.{Member-get_or}
use Rattle.crew_label.specs.declared.seen.Seen.{Seen}
use Rattle.crew_label.proofs.Interleaved.{at_place, listed_second}
use Rattle.crew_label.proofs.SeenLabels.{member_label}
use Rattle.crew_label.proofs.interleave.is_from_one.Goals as goal

pub returns-clause-two : goal.returns-clause-two
returns-clause-two g c f =
    let cmp = g.R.Value.Ord.cmp in
    let one = c.args.one.now in
    let two = c.args.two.now in
    let x = c.index-one-i.result in
    let y = c.index-two-j.result in
    let p = x.label.now in
    let q = y.label.now in
    let less : cmp q.value p.value ≡ Less =
    listed_second cmp g.met.R.Value.Ord.total g.met.R.Resource.order.exact p.value q.value
    (ap (λ (z : Seen g.row.R-Value.Denot). is_lt (cmp z.label.now.value q.value)) c.index-one-i.is
    ∙ (ap (λ (z : Seen g.row.R-Value.Denot). is_lt (cmp (get_or one c.args.i x).label.now.value z.label.now.value)) c.index-two-j.is
    ∙ (ap is_lt (sym c.cmp.ensures) ∙ (sym c.is_lt.ensures ∙ f))))
    (c.requires.distinct p q (member_label one x (Member-get_or one c.args.i x c.if-i-one.false (sym c.index-one-i.is))) (member_label two y (Member-get_or two c.args.j y c.if-j-two.false (sym c.index-two-j.is)))) in
    record {
      there = c.if-j-two.false;
      first = λ l m h k.
          subst (λ (z : Seen g.row.R-Value.Denot). cmp z.label.now.value m.label.now.value ≡ Less) (at_place two c.args.j y l c.if-j-two.false c.index-two-j.is h)
          (subst (λ (z : Seen g.row.R-Value.Denot). cmp q.value z.label.now.value ≡ Less) (at_place one c.args.i x m c.if-i-one.false c.index-one-i.is k) less);
    }
