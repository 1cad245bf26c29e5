use Rattle.crew_session.proofs.SessionFacts.{edit-begin, submit-text}
use Rattle.crew_session.proofs.BeginFacts.{begun-as}
use Rattle.std.proofs.Common.{◌∙◌, None, Some, sym}
use Rattle.crew_flights.specs.declared.edit.Edit.TheVariants as edit
use Rattle.crew_session.specs.Machinery.Journals.{state_of, zones_of}
use Rattle.crew_session.specs.Zones.{clock_at, flight_with}
use Rattle.crew_session.proofs.SessionFacts.{begun-do, settled-begin, told-begin}
use Rattle.std.proofs.Common.{refl}
use Rattle.crew_session.proofs.SessionFacts.{did, told-of}
use Rattle.std.proofs.lemmas.Result.{IfErr-weaker}
use Rattle.crew_session.proofs.OddFacts.{odd-of}
use Rattle.crew_session.proofs.session.obey.Goals as goal

pub returns-in-AddZone-clause-obeys : goal.returns-in-AddZone-clause-obeys
returns-in-AddZone-clause-obeys g c = did c.add_zone.result _ _ c.args.settings.now c.args.number _ _ _ _ _ _ c.in-AddZone.is refl (λ text d. d) (c.add_zone.ensures.came (g.E.Engine.shown c.args.engine.now) (g.E.Engine.entries c.args.engine.now))

pub returns-in-AddZone-clause-begun : goal.returns-in-AddZone-clause-begun
returns-in-AddZone-clause-begun g c = begun-do c.add_zone.result _ _ c.args.settings.now c.args.number _ _ _ _ c.in-AddZone.is (λ b text d. d) (c.add_zone.ensures.begun (g.E.Engine.shown c.args.engine.now) (g.E.Engine.entries c.args.engine.now))

pub returns-in-Submit-clause-begun : goal.returns-in-Submit-clause-begun
returns-in-Submit-clause-begun g c = begun-do c.submit.result _ _ c.args.settings.now c.args.number _ _ _ _ c.in-Submit.is (λ b text d. d) c.submit.ensures.begun

pub returns-in-Settle-clause-begun : goal.returns-in-Settle-clause-begun
returns-in-Settle-clause-begun g c = settled-begin c.settle.result _ _ c.args.settings.now c.args.number _ _ c.in-Settle.is c.settle.ensures.begun

pub returns-in-Refuse-clause-begun : goal.returns-in-Refuse-clause-begun
returns-in-Refuse-clause-begun g c = begun-do c.write_refused-in-Refuse.result _ _ c.args.settings.now c.args.number _ _ _ (_, _) c.in-Refuse.is (λ b text d. d) (rw c.number-in-Refuse.ensures at c.write_refused-in-Refuse.ensures.begun)

pub returns-in-None-clause-begun : goal.returns-in-None-clause-begun
returns-in-None-clause-begun g c =
    edit-begin c.write_refused.result _ _ c.args.settings.now c.args.number _ _ (state_of c.args.journal.now (g.E.Engine.shown c.args.engine.now) (g.E.Engine.entries c.args.engine.now))
    (clock_at c.args.settings.now (zones_of c.args.journal.now.zones) c.in-AddFlight.from c.in-AddFlight.dep) None (flight_with c.in-AddFlight.id c.in-AddFlight.from c.in-AddFlight.to c.in-AddFlight.dep c.in-AddFlight.arr c.in-AddFlight.price) c.in-AddFlight.is (sym c.in-None.is ∙ c.clock_at.ensures) (λ b text d. d) (rw c.number.ensures at c.write_refused.ensures.begun)

pub returns-in-Some-clause-begun : goal.returns-in-Some-clause-begun
returns-in-Some-clause-begun g c =
    edit-begin c.submit-in-Some.result _ _ c.args.settings.now c.args.number _ _ (state_of c.args.journal.now (g.E.Engine.shown c.args.engine.now) (g.E.Engine.entries c.args.engine.now))
    (clock_at c.args.settings.now (zones_of c.args.journal.now.zones) c.in-AddFlight.from c.in-AddFlight.dep) (Some c.in-Some.report_clock) (flight_with c.in-AddFlight.id c.in-AddFlight.from c.in-AddFlight.to c.in-AddFlight.dep c.in-AddFlight.arr c.in-AddFlight.price) c.in-AddFlight.is (sym c.in-Some.is ∙ c.clock_at.ensures) (λ b text d. d) (begun-as c.submit-in-Some.result _ _ _ _ (submit-text c.args.number _ _ (state_of c.args.journal.now (g.E.Engine.shown c.args.engine.now) (g.E.Engine.entries c.args.engine.now))) c.submit-in-Some.ensures.begun)

pub returns-in-None-clock_at-clause-begun : goal.returns-in-None-clock_at-clause-begun
returns-in-None-clock_at-clause-begun g c =
    edit-begin c.write_refused-in-None-clock_at.result _ _ c.args.settings.now c.args.number _ _ (state_of c.args.journal.now (g.E.Engine.shown c.args.engine.now) (g.E.Engine.entries c.args.engine.now))
    (clock_at c.args.settings.now (zones_of c.args.journal.now.zones) c.in-Retime.from c.in-Retime.dep) None (edit.Retime c.in-Retime.id c.in-Retime.from c.in-Retime.dep c.in-Retime.arr) c.in-Retime.is (sym c.in-None-clock_at.is ∙ c.clock_at-in-Retime.ensures) (λ b text d. d) (rw c.number-in-None-clock_at.ensures at c.write_refused-in-None-clock_at.ensures.begun)

pub returns-in-Some-clock_at-clause-begun : goal.returns-in-Some-clock_at-clause-begun
returns-in-Some-clock_at-clause-begun g c =
    edit-begin c.submit-in-Some-clock_at.result _ _ c.args.settings.now c.args.number _ _ (state_of c.args.journal.now (g.E.Engine.shown c.args.engine.now) (g.E.Engine.entries c.args.engine.now))
    (clock_at c.args.settings.now (zones_of c.args.journal.now.zones) c.in-Retime.from c.in-Retime.dep) (Some c.in-Some-clock_at.report_clock) (edit.Retime c.in-Retime.id c.in-Retime.from c.in-Retime.dep c.in-Retime.arr) c.in-Retime.is (sym c.in-Some-clock_at.is ∙ c.clock_at-in-Retime.ensures) (λ b text d. d) c.submit-in-Some-clock_at.ensures.begun

pub returns-in-Settle-clause-fault : goal.returns-in-Settle-clause-fault
returns-in-Settle-clause-fault g c =
    IfErr-weaker c.settle.result _ _ (λ fault h. odd-of _ _ fault (λ number m. (m.0, (m.1.0, (c.in-Settle.is, m.1.1), m.1.2))) h) c.settle.ensures.fault

pub returns-in_default-clause-obeys : goal.returns-in_default-clause-obeys
returns-in_default-clause-obeys g c =
    told-of c.answer.result _ _ c.args.settings.now c.args.number _ (state_of c.args.journal.now (g.E.Engine.shown c.args.engine.now) (g.E.Engine.entries c.args.engine.now)) _ c.version.ensures c.answer.ensures.answered

pub returns-in_default-clause-begun : goal.returns-in_default-clause-begun
returns-in_default-clause-begun g c =
    told-begin c.answer.result _ _ c.args.settings.now c.args.number _ (state_of c.args.journal.now (g.E.Engine.shown c.args.engine.now) (g.E.Engine.entries c.args.engine.now)) _ c.version.ensures c.answer.ensures.begun
