use Rattle.std.proofs.Common.{◌≡◌, ◌<◌, ◌≤◌, ◌-◌, List, false, ap, length, sym, subst, arith}
use Rattle.crew_pairing.specs.declared.vector.PairingVector.{PairingVector}
use Rattle.crew_pool.specs.Apart.{AreApart}
use Rattle.crew_pool.specs.Counted.{AreCounted}
use Rattle.crew_pool.specs.Machinery.Meets.{vectors_of}
use Rattle.crew_pool.specs.declared.label_walk.LabelWalk.{LabelWalk}
use Rattle.crew_vector.specs.Dominance.{is_at_most}
use Rattle.crew_sweep.specs.Machinery.Parts.{AreSuffixes, IsPart}
use Rattle.crew_sweep.proofs.Parts.{part-after}
use Rattle.crew_sweep.proofs.Slidings.{covers-more, part-first}
use Rattle.crew_sweep.proofs.slide.Slide.slide_to.Goals as goal

pub joined-requires-clause-first : goal.joined-requires-clause-first
joined-requires-clause-first c =
    let Labels = List (PairingVector × LabelWalk) in
    let now = c.go_on.new.self in
    let begun = c.begin_at.new.self in
    let begins = c.in_ok-begin_at.ensures in
    let item = c.index-first.result.now in
    let same : now.before.items ≡ begun.before.items = ap (λ v. v.items) c.go_on.ensures.before in
    let reach : now.middle - c.args.window.from < length now.before.items = subst (λ (ls : List Labels). now.middle - c.args.window.from < length ls) (sym same) (subst (λ m. m - c.args.window.from < length begun.before.items) (sym c.go_on.ensures.middle) begins.reach) in
    let suffixes = subst (λ (ls : List Labels). AreSuffixes c.args.walks.now c.args.held.now now.middle ls) (sym same) (subst (λ m. AreSuffixes c.args.walks.now c.args.held.now m begun.before.items) (sym c.go_on.ensures.middle) begins.stacked.before) in
    let first : c.args.window.from ≤ now.middle = subst (λ m. c.args.window.from ≤ m) (sym c.go_on.ensures.middle) begins.first in
    (part-first c.args.walks.now c.args.held.now now.middle c.args.window.from now.before.items item suffixes first reach c.index-first.ensures).counts

pub joined-requires-clause-apart : goal.joined-requires-clause-apart
joined-requires-clause-apart c =
    subst (λ (ls : List (PairingVector × LabelWalk)). AreApart is_at_most (vectors_of ls)) (sym c.as_slice.ensures.all) c.as_slice.ensures.apart

pub joined-requires-clause-second : goal.joined-requires-clause-second
joined-requires-clause-second c =
    subst (λ (ls : List (PairingVector × LabelWalk)). AreCounted (λ (v : PairingVector). v.duties) c.args.walks.now false ls) (sym c.as_slice.ensures.all) c.in_ok-go_on.ensures.after.counts

pub returns-clause-sliding : goal.returns-clause-sliding
returns-clause-sliding c =
    let Labels = List (PairingVector × LabelWalk) in
    let walks = c.args.walks.now in
    let held = c.args.held.now in
    let from = c.args.window.from in
    let now = c.go_on.new.self in
    let begun = c.begin_at.new.self in
    let begins = c.in_ok-begin_at.ensures in
    let goes = c.in_ok-go_on.ensures in
    let item = c.index-first.result.now in
    let same : now.before.items ≡ begun.before.items = ap (λ v. v.items) goes.before in
    let reach : now.middle - from < length now.before.items = subst (λ (ls : List Labels). now.middle - from < length ls) (sym same) (subst (λ m. m - from < length begun.before.items) (sym goes.middle) begins.reach) in
    let suffixes = subst (λ (ls : List Labels). AreSuffixes walks held now.middle ls) (sym same) (subst (λ m. AreSuffixes walks held m begun.before.items) (sym goes.middle) begins.stacked.before) in
    let first : from ≤ now.middle = subst (λ m. from ≤ m) (sym goes.middle) begins.first in
    let after : IsPart walks held now.middle c.args.window.end now.after = subst (λ m. IsPart walks held m c.args.window.end now.after) (sym goes.middle) goes.after in
    let ordered : now.middle ≤ c.args.window.end = omega (arith, goes.middle, begins.stacked.ordered, begins.end) in
    let labels = c.as_slice.result.now in
    let own = subst (λ (ls : Labels). IsPart walks held now.middle c.args.window.end ls) (sym c.as_slice.ensures.all) after in
    let one = part-first walks held now.middle from now.before.items item suffixes first reach c.index-first.ensures in
    record {
      stacked = record {
        ordered = subst (λ e. now.middle ≤ e) (sym goes.end) ordered;
        before = suffixes;
        after = subst (λ e. IsPart walks held now.middle e now.after) (sym goes.end) after;
      };
      shown = part-after walks held from now.middle c.args.window.end item labels c.in_ok-self.field-0 first ordered one own c.in_ok-self.ensures.local c.in_ok-self.ensures.counts;
    }

pub returns-clause-covers : goal.returns-clause-covers
returns-clause-covers c =
    let now = c.go_on.new.self in
    let begins = c.in_ok-begin_at.ensures in
    let goes = c.in_ok-go_on.ensures in
    covers-more c.begin_at.new.self c.args.self.now now.middle (length now.before.items) now.end c.args.window.from c.args.window.end goes.middle (ap (λ v. length v.items) goes.before) goes.end
    begins.stacked.ordered begins.first begins.covers
