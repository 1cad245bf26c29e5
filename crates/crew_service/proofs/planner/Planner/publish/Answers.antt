use Rattle.std.proofs.Common.{◌≡◌, ◌++◌, ◌∷◌, [], ◌∙◌, List, refl, sym, ap, subst}
use Rattle.std.specs.Arc.{arc_value}
use Rattle.crew_service.specs.Next.{IsNextOver}
use Rattle.crew_service.proofs.Plans.{with-next, with-shown}
use Rattle.crew_service.specs.Machinery.Kept.{IsPlanning}
use Rattle.crew_service.specs.Plans.{Planning, entries_of}
use Rattle.crew_board.specs.crew_version.Versions.{Snapshot}
use Rattle.crew_service.proofs.planner.Planner.publish.Given.{Over}
use Rattle.crew_service.proofs.planner.Planner.publish.Goals as goal
use Rattle.crew_service.proofs.planner.Planner.publish.Goals.{After-drop-self-inside}

abbrev plan : (g : Over) → After-drop-self-inside g → Planning
plan g c = record {
  log = c.self.inside.of.value;
  version = c.self.inside.version.value;
  receipts = c.self.inside.receipts.items;
  published = c.self.inside.publisher.list;
}

-- what is published is the next version of what the planner holds
next : (g : Over) (c : After-drop-self-inside g) → IsNextOver (plan g c).version (entries_of (plan g c).receipts) (arc_value c.args.version)
next g c = subst (λ (p : Planning). IsNextOver p.version (entries_of p.receipts) (arc_value c.args.version)) (sym c.self.view_is) c.requires

shown : (g : Over) (c : After-drop-self-inside g) → c.add.new.publisher.list ≡ (plan g c).published ++ arc_value c.args.version ∷ []
shown g c = c.in-Ok.ensures.ok ∙ ap (λ (v : Snapshot). c.self.inside.publisher.list ++ v ∷ []) c.in_ok-shared.ensures

pub invariant_of-self-2 : goal.invariant_of-self-2
invariant_of-self-2 g c =
    let p = plan g c in
    let v = arc_value c.args.version in
    let made : IsPlanning (record { log = p.log; version = v; receipts = p.receipts; published = p.published }) = with-next p v c.self.invariant (next g c) in
    subst (λ (list : List Snapshot). IsPlanning (record { log = p.log; version = v; receipts = p.receipts; published = list })) (sym (shown g c)) (with-shown (record { log = p.log; version = v; receipts = p.receipts; published = p.published }) made)

pub returns-clause-ok : goal.returns-clause-ok
returns-clause-ok g c =
    let is = c.self.view_is in
    record {
      log = ap (λ (p : Planning). p.log) is;
      version = refl;
      receipts = ap (λ (p : Planning). p.receipts) is;
      shown = shown g c ∙ ap (λ (p : Planning). p.published ++ arc_value c.args.version ∷ []) is;
    }

pub returns-clause-own : goal.returns-clause-own
returns-clause-own g c = (c.self.invariant.of, c.self.invariant.run)
