use Rattle.std.proofs.Common.{◌∙◌, ap, sym, subst, ℕ, List, Bool}
use Rattle.std.specs.Prelude.{slice_get}
use Rattle.crew_dirty.specs.Carried.{AreFlags}
use Rattle.crew_dirty.specs.Dirty.{IsSameDuty}
use Rattle.crew_net.proofs.Forward.{ends-no-earlier}
use Rattle.crew_resource.proofs.Members.{Member-at}
use Rattle.crew_dirty.proofs.Priced.{same-base}
use Rattle.crew_dirty.proofs.carried.carry.Goals as goal

pub unreached_duties-requires-clause-forward : goal.unreached_duties-requires-clause-forward
unreached_duties-requires-clause-forward c = ends-no-earlier c.args.new.now.settings c.args.timetable.now c.args.new.now.duties c.base_count-count.ensures.sound c.requires.new.duties

pub returns : goal.returns
returns c =
    let t = c.args.old_timetable.now in
    let u = c.args.timetable.now in
    let old = c.args.old.now in
    let new = c.args.new.now in
    let flags = c.in_ok-same.ensures.flags in
    record {
      is_net = c.requires.new;
      base_flags = λ place base at.
          let m = Member-at new.bases place base at in
          let own = same-base t u old new base c.requires.old.bases c.requires.new.bases m in
          let told = c.in_ok-bases.ensures place base (ap (λ (bs : List (List ℕ)). slice_get bs place) c.bases.ensures ∙ at) in
          (λ e. own.0 (told.0 e), λ same. told.1 (own.1 same));
      same_flags = flags;
      unreached_flags = c.in_ok-unreached.ensures old (subst (λ (fs : List Bool). AreFlags (IsSameDuty old new) new.duties fs) (sym c.deref.ensures.value) flags);
      long = c.in_ok-departures.ensures.long;
      leaves = c.in_ok-departures.ensures.leaves;
    }
