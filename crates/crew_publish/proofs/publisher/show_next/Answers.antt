use Rattle.std.proofs.Common.{◌≡◌, drop, fold, false, sym, subst, []}
use Rattle.std.proofs.lemmas.Result.{MatchResult-at_ok}
use Rattle.crew_publish.specs.declared.shown.Common.{Common}
use Rattle.std.specs.Arc.{arc_value}
use Rattle.left_right.specs.Sides.{view}
use Rattle.crew_version.specs.Versions.{Snapshot}
use Rattle.crew_publish.specs.Chain.{Follows}
use Rattle.crew_publish.specs.Machinery.Rule.{Added, IsHeld}
use Rattle.crew_publish.proofs.Moves.{adds, shows_last, held_after, common}
use Rattle.crew_publish.proofs.publisher.show_next.Goals as goal
use Rattle.crew_publish.proofs.publisher.show_next.Goals.{After-publish_as-pen, In-Ok, In-Ok-done}

held_before : (g : _) (c : In-Ok g) → IsHeld (view c.append.new.self.desk.place) c.append.new.self.desk.shown.value
held_before g c = subst (λ d. IsHeld (view d.place) d.shown.value) (sym c.append.ensures.desk) c.requires.held

follows_before : (g : _) (c : In-Ok g) → Follows (arc_value c.append.new.self.desk.shown.value.version) (arc_value c.args.version)
follows_before g c = subst (λ d. Follows (arc_value d.shown.value.version) (arc_value c.args.version)) (sym c.append.ensures.desk) c.requires.follows

pub publish_as-pen-requires : goal.publish_as-pen-requires
publish_as-pen-requires g c next is =
    let now = c.append.new.self in
    let t = shows_last arc_value now.desk.shown.value next (drop c.args.pen.behind c.args.pen.log.items) (drop now.behind now.log.items) c.args.version c.in-Ok.ensures.pending is in
    adds _ _ now.desk.shown.value next (held_before g c) (subst (λ (u : Snapshot). Follows (arc_value now.desk.shown.value.version) u) (sym t.0) (follows_before g c)) t.1

shown_after : (g : _) (c : In-Ok-done g) → arc_value c.publish_as-pen.result.0.desk.shown.value.version ≡ arc_value c.args.version
shown_after g c =
    let now = c.append.new.self in
    let next = c.publish_as-pen.result.0 in
    let ops = drop now.behind now.log.items in
    let values = MatchResult-at_ok (λ _. (common next.desk.shown.value ≡ fold (λ (s : Common) a. record { version = arc_value a; opening = false }) (common now.desk.shown.value) ops) × (drop next.behind next.log.items ≡ []))
    (λ _. (next.desk.shown.value ≡ now.desk.shown.value) × (drop next.behind next.log.items ≡ ops)) c.in-Ok-done.field-0 c.in-Ok-done.is c.publish_as-pen.ensures.values in
    (shows_last arc_value now.desk.shown.value next.desk.shown.value (drop c.args.pen.behind c.args.pen.log.items) ops c.args.version c.in-Ok.ensures.pending values.0).0

rule_after : (g : _) (c : In-Ok-done g) → Added (view c.append.new.self.desk.place) c.append.new.self.desk.shown.value c.publish_as-pen.result.0.desk.shown.value (view c.publish_as-pen.result.0.desk.place)
rule_after g c =
    let now = c.append.new.self in
    let next = c.publish_as-pen.result.0 in
    MatchResult-at_ok (λ _. Added (view now.desk.place) now.desk.shown.value next.desk.shown.value (view next.desk.place)) (λ _. view next.desk.place ≡ view now.desk.place) c.in-Ok-done.field-0 c.in-Ok-done.is c.publish_as-pen.ensures.rule

pub returns-clause-held : goal.returns-clause-held
returns-clause-held g c =
    let now = c.append.new.self in
    held_after _ _ now.desk.shown.value _ (rule_after g (goal.at.returns-clause-held g c).In-Ok-done) (held_before g (goal.at.returns-clause-held g c).In-Ok) (subst (λ (u : Snapshot). Follows (arc_value now.desk.shown.value.version) u) (sym (shown_after g (goal.at.returns-clause-held g c).In-Ok-done)) (follows_before g (goal.at.returns-clause-held g c).In-Ok))
