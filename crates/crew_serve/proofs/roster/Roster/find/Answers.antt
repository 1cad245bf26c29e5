use Rattle.std.proofs.Common.{◌∙◌, arith, sym, true≢false}
use Rattle.std.proofs.lemmas.Option.{slice_get_read}
use Rattle.crew_serve.proofs.RosterFacts.{at-none, not-next}
use Rattle.crew_serve.proofs.roster.Roster.find.Goals as goal

pub returns-then-is_named-clause-some : goal.returns-then-is_named-clause-some
returns-then-is_named-clause-some c =
    let read = slice_get_read c.self.inside.names.items c.len-desk-end.result c.loop-desk.desk c.index.result.now (omega (arith, c.len-desk-end.ensures, c.self.inside.names.ok)) c.loop-desk-test.true c.index.ensures in
    (c.index.result.now, rw (← c.self.view_is) read, c.is_named.ensures.0 c.if-is_named.true)

pub loop-desk-preserved : goal.loop-desk-preserved
loop-desk-preserved c =
    let read = slice_get_read c.self.inside.names.items c.len-desk-end.result c.loop-desk.desk c.index.result.now (omega (arith, c.len-desk-end.ensures, c.self.inside.names.ok)) c.loop-desk-test.true c.index.ensures in
    not-next c.args.self.now _ c.loop-desk.desk c.index.result.now (rw (← c.self.view_is) read) (λ named. true≢false (sym (c.is_named.ensures.1 named) ∙ c.if-is_named.false)) c.loop-desk.invariant

pub returns-clause-none : goal.returns-clause-none
returns-clause-none c = at-none c.args.self.now _ c.loop-desk.desk (rw (← c.self.view_is) (omega (arith, c.len-desk-end.ensures, c.self.inside.names.ok, c.loop-desk-test.false))) c.loop-desk.invariant
