use Rattle.std.proofs.Common.{◌∙◌, sym, ap, arith}
use Rattle.std.specs.Prelude.{is_some}
use Rattle.crew_flights.specs.Codes.{code_cmp}
use Rattle.crew_flights.proofs.Maps.{get_seen, len_seen}
use Rattle.crew_session.proofs.ZoneFacts.{fault-exists, fault-many, fault-none}
use Rattle.crew_session.proofs.zones.Zones.refusal.Goals as goal

pub returns-then-contains_key : goal.returns-then-contains_key
returns-then-contains_key c =
    let held = ap is_some (get_seen code_cmp c.args.self.now.by_code.entries c.args.code c.args.self.now.ordered) ∙ sym c.contains_key.ensures in
    sym (fault-exists _ c.args.code (held ∙ c.if-contains_key.true))

pub returns-then-len-ge-ZONES : goal.returns-then-len-ge-ZONES
returns-then-len-ge-ZONES c =
    let held = ap is_some (get_seen code_cmp c.args.self.now.by_code.entries c.args.code c.args.self.now.ordered) ∙ sym c.contains_key.ensures in
    let count = len_seen code_cmp c.args.self.now.by_code.entries c.args.self.now.ordered in
    sym (fault-many _ c.args.code (held ∙ c.if-contains_key.false) (omega (arith, count, c.len.ensures.len)))

pub returns : goal.returns
returns c =
    let held = ap is_some (get_seen code_cmp c.args.self.now.by_code.entries c.args.code c.args.self.now.ordered) ∙ sym c.contains_key.ensures in
    let count = len_seen code_cmp c.args.self.now.by_code.entries c.args.self.now.ordered in
    sym (fault-none _ c.args.code (held ∙ c.if-contains_key.false) (omega (arith, count, c.len.ensures.len)))
