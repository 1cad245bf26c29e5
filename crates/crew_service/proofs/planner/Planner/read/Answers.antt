use Rattle.std.proofs.Common.{◌≡◌, ◌∙◌, ℕ, List, length, sym, ap, subst, arith}
use Rattle.boxcar.specs.Table.{Where}
use Rattle.crew_flights.specs.declared.entries.Entry.{Entry}
use Rattle.crew_log.specs.Logs.{AreOf, IsRun, Log}
use Rattle.crew_service.proofs.Plans.{with-receipts}
use Rattle.crew_service.specs.Machinery.Kept.{IsPlanning}
use Rattle.crew_service.specs.Plans.{Planning}
use Rattle.crew_service.proofs.planner.Planner.read.Goals as goal

pub invariant_of-self-2 : goal.invariant_of-self-2
invariant_of-self-2 g c =
    let p : Planning = record {
      log = c.self.inside.of.value;
      version = c.self.inside.version.value;
      receipts = c.self.inside.receipts.items;
      published = c.self.inside.publisher.list;
    } in
    let more = c.in_ok-more.more.items in
    let log : c.log.result.now ≡ p.log = c.log.ensures ∙ sym (ap (λ (v : Planning). v.log) c.self.view_is ∙ c.requires.own) in
    let from : c.len-from.result ≡ length p.receipts = omega (arith, c.len-from.ensures, c.self.inside.receipts.ok) in
    let of = subst (λ (l : Log). AreOf l more) log c.in_ok-more.ensures.of in
    let run = subst (λ (n : ℕ). IsRun n more) from c.in_ok-more.ensures.places in
    let all = with-receipts p more c.self.invariant of run in
    subst (λ (rs : List (Where Entry)). IsPlanning (record { log = p.log; version = p.version; receipts = rs; published = p.published })) (sym c.in_ok-append.ensures.items) all
