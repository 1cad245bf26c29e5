use Rattle.std.proofs.Common.{◌∙◌, ap, sym, true≢false}
use Rattle.crew_version.specs.Versions.{Snapshot}
use Rattle.crew_serve.proofs.ClerkFacts.{met-after, seen-sight}
use Rattle.crew_serve.proofs.clerk.Clerk.see.Goals as goal

pub invariant_of-self-then-not-is_under : goal.invariant_of-self-then-not-is_under
invariant_of-self-then-not-is_under g c =
    let old = c.self.invariant in
    let extends = c.in-Ok.ensures.told c.self.inside.seen.value.version old.met in
    record {
      checked = old.checked;
      met = met-after c.view.new.self _ c.in-Ok.view.version c.in-Ok.view.list c.in-Ok.ensures.chain.1 c.in-Ok.ensures.last extends;
      right = old.right;
      under = old.under;
      numbered = old.numbered;
    }

pub returns-then-not-is_under-clause-fault : goal.returns-then-not-is_under-clause-fault
returns-then-not-is_under-clause-fault g c =
    let old = c.self.invariant in
    rw (← c.self.view_is) (
      c.in-Ok.view.version,
      c.in-Ok.ensures.told c.self.inside.seen.value.version old.met,
      λ same. true≢false (sym (c.is_under.ensures.under.1 (ap (λ (v : Snapshot). v.settings) c.version.ensures.value ∙ same ∙ old.under)) ∙ c.if-not-is_under.true),
    )

pub returns-clause-sight : goal.returns-clause-sight
returns-clause-sight g c =
    let old = c.self.invariant in
    rw (← c.self.view_is) (seen-sight c.self.inside.seen.value.version c.in-Ok.view.version c.version.result.now c.self.inside.hall.now.settings (c.in-Ok.ensures.told c.self.inside.seen.value.version old.met) c.version.ensures.value c.is_under.ensures.right (c.is_under.ensures.under.0 c.if-not-is_under.false) old.under)
