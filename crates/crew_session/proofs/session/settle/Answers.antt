use Rattle.crew_session.proofs.SessionFacts.{begun-declining, begun-publishing, published}
use Rattle.crew_session.proofs.BeginFacts.{on-err}
use Rattle.crew_session.proofs.OddFacts.{refused-odd, shown-odd}
use Rattle.crew_flights.specs.declared.entries.Entry.{Entry}
use Rattle.crew_session.specs.Machinery.Journals.{since, state_of}
use Rattle.crew_session.specs.Oddities.{IsTold}
use Rattle.std.proofs.Common.{◌≡◌, ◌∙◌, ◌+◌, List, ap, arith, length, length-append, refl, subst, sym, true≢false}
use Rattle.crew_version.specs.Versions.{Snapshot}
use Rattle.crew_session.proofs.session.settle.Goals as goal

pub returns-in-TooManyDuties-clause-begun : goal.returns-in-TooManyDuties-clause-begun
returns-in-TooManyDuties-clause-begun g c =
    begun-declining c.decline.result g.E.Engine.MAY_BE_STRANGE c.args.journal.now _ _ _ _ c.args.number _ _ c.requires.in_step c.in-Err.ensures.err c.settle.ensures.entries c.decline.ensures.begun

pub returns-in_err-publish-clause-begun : goal.returns-in_err-publish-clause-begun
returns-in_err-publish-clause-begun g c =
    let ok = c.in-Ok.ensures in
    let next = c.is_next.ensures.next.0 c.if-not-is_next.false in
    let number : (g.E.Engine.shown c.settle.new.self).number ≡ (g.E.Engine.shown c.args.engine.now).number + 1 =
    omega (arith, next.0, c.number-before.ensures.value, ap (λ (v : Snapshot). v.number) c.version.ensures, ap (λ (v : Snapshot). v.number) c.version-3.ensures) in
    let first : c.count-first.result ≡ length (g.E.Engine.shown c.args.engine.now).entries = c.count-first.ensures ∙ ap (λ (v : Snapshot). length v.entries) c.version-2.ensures in
    let count : length (g.E.Engine.shown c.settle.new.self).entries ≡ length (g.E.Engine.shown c.args.engine.now).entries + length c.args.journal.now.records.items =
    omega (arith, next.1, first, ap (λ (v : Snapshot). length v.entries) c.version-3.ensures, c.len.ensures) in
    on-err c.from_residual.result _ (begun-publishing g.E.Engine.MAY_BE_STRANGE c.args.journal.now _ _ _ _ c.args.number _ _ c.requires.in_step c.settle.ensures.entries ok.ok number count c.settle.ensures.settings ok.right
    (rw (c.deref.ensures.value, first, c.version-4.ensures) at c.in_err-publish.ensures.begun))

pub returns-clause-settles : goal.returns-clause-settles
returns-clause-settles g c =
    let ok = c.in-Ok.ensures in
    let next = c.is_next.ensures.next.0 c.if-not-is_next.false in
    let number : (g.E.Engine.shown c.settle.new.self).number ≡ (g.E.Engine.shown c.args.engine.now).number + 1 =
    omega (arith, next.0, c.number-before.ensures.value, ap (λ (v : Snapshot). v.number) c.version.ensures, ap (λ (v : Snapshot). v.number) c.version-3.ensures) in
    let first : c.count-first.result ≡ length (g.E.Engine.shown c.args.engine.now).entries = c.count-first.ensures ∙ ap (λ (v : Snapshot). length v.entries) c.version-2.ensures in
    let count : length (g.E.Engine.shown c.settle.new.self).entries ≡ length (g.E.Engine.shown c.args.engine.now).entries + length c.args.journal.now.records.items =
    omega (arith, next.1, first, ap (λ (v : Snapshot). length v.entries) c.version-3.ensures, c.len.ensures) in
    let written = rw (c.deref.ensures.value, first, c.version-4.ensures) at c.in_ok-publish.ensures.written in
    (_, written, published g.E.Engine.MAY_BE_STRANGE c.args.journal.now c.clear.new.self _ _ _ _ c.args.number _ c.requires.in_step c.settle.ensures.entries ok.ok number count c.settle.ensures.settings ok.right refl c.clear.ensures.zones c.clear.ensures.records)

pub returns-in-TooManyDuties-clause-fault : goal.returns-in-TooManyDuties-clause-fault
returns-in-TooManyDuties-clause-fault g c = rw (c.in-Err.ensures.err, c.settle.ensures.entries) at c.decline.ensures.fault

pub returns-in_default-clause-fault : goal.returns-in_default-clause-fault
returns-in_default-clause-fault g c =
    let here = state_of c.args.journal.now (g.E.Engine.shown c.args.engine.now) (g.E.Engine.entries c.args.engine.now) in
    rw c.stop.ensures
    (refused-odd g.E.Engine.MAY_BE_STRANGE here (g.E.Engine.entries c.args.engine.now) (g.E.Engine.shown c.settle.new.self) _ c.in-Err.fault (sym c.requires.in_step.goes_on) c.in_default.not-TooManyDuties
    (omega (arith, c.requires.early, c.ranges.number.fits)) c.in-Err.ensures.fault c.in-Err.ensures.found (λ s. (_, _, c.settle.ensures.told s)))

pub returns-then-not-is_next-clause-fault : goal.returns-then-not-is_next-clause-fault
returns-then-not-is_next-clause-fault g c =
    let old = g.E.Engine.shown c.args.engine.now in
    let taken = g.E.Engine.entries c.args.engine.now in
    let here = state_of c.args.journal.now old taken in
    let total : length taken ≡ length old.entries + length (since old taken) = ap length c.requires.in_step.goes_on ∙ length-append old.entries (since old taken) in
    let first : c.count-first.result ≡ length old.entries = c.count-first.ensures ∙ ap (λ (v : Snapshot). length v.entries) c.version-2.ensures in
    let before : c.number-before.result ≡ old.number = c.number-before.ensures.value ∙ ap (λ (v : Snapshot). v.number) c.version.ensures in
    let is = c.version-3.ensures in
    rw c.stop-then-not-is_next.ensures
    (shown-odd g.E.Engine.MAY_BE_STRANGE here taken (g.E.Engine.shown c.settle.new.self) _ (length taken) (sym c.requires.in_step.goes_on) refl
    (λ next. true≢false (sym (c.is_next.ensures.next.1 (
      ap (λ (v : Snapshot). v.number) is ∙ next.0 ∙ ap (λ n. n + 1) (sym before),
      omega (arith, ap (λ (v : Snapshot). length v.entries) is, next.1, total, first, c.requires.in_step.records, c.len.ensures),
    )) ∙ c.if-not-is_next.true))
    c.in-Ok.ensures.whole c.in-Ok.ensures.found (λ s. (_, _, c.settle.ensures.told s)))

pub decline-requires-clause-told : goal.decline-requires-clause-told
decline-requires-clause-told g c κs within s =
    let old = g.E.Engine.made c.args.engine.now in
    let made = g.E.Engine.made c.settle.new.self in
    let found = g.E.Engine.found c.settle.new.self in
    (old, subst (λ (es : List Entry). IsTold old es made found) (sym c.settle.ensures.entries) (c.settle.ensures.told s))
