use Rattle.std.proofs.Common.{◌≡◌, ◌∙◌, ◌<◌, ◌/◌, ◌%◌, length, sym, ap, subst}
use Rattle.std.specs.Prelude.{slice_get}
use Rattle.std.specs.Arc.{arc_value}
use Rattle.std.specs.Option.{option_map}
use Rattle.std.proofs.lemmas.Option.{slice_get_within}
use Rattle.crew_board.proofs.Inside.{marked_of}
use Rattle.crew_board.proofs.Keeping.{found-here, readable}
use Rattle.crew_board.specs.Machinery.Held.{Marked}
use Rattle.crew_board.specs.Machinery.Turns.{IsReadableFrom}
use Rattle.crew_job.specs.Grounds.{Ground, node_at, nodes_in}
use Rattle.crew_job.specs.Jobs.{job_node}
use Rattle.crew_job.specs.Shown.{AreReadable}
use Rattle.crew_net.specs.Nets.{Net}
use Rattle.crew_round.specs.Marks.{IsReady}
use Rattle.crew_round.specs.declared.mark.Mark.TheVariants.{Waiting}
use Rattle.crew_board.proofs.round.Round.job_at.Goals as goal

pub sweep_for-requires-clause-base : goal.sweep_for-requires-clause-base
sweep_for-requires-clause-base c =
    let r = marked_of c.self.inside in
    let place = c.args.place in
    let ready = subst (λ (z : Marked). IsReady z.marks place) (sym c.self.view_is) c.requires in
    let low = slice_get_within r.marks.marks place Waiting ready.0 in
    let f = found-here r c.self.invariant.marked place low in
    let count : c.duty_count-count.result ≡ length r.ground.plan.net.duties = c.duty_count-count.ensures.count ∙ (ap (λ (n : Net). length n.duties) c.net.ensures.net ∙ ap (λ (g : Ground). length g.plan.net.duties) c.deref.ensures) in
    let here = subst (λ k. place / k < length r.ground.plan.prices) (sym count) f.priced in
    subst (λ (z : Marked). place / c.duty_count-count.result < length z.ground.plan.prices) c.self.view_is here

pub new-requires-clause-base : goal.new-requires-clause-base
new-requires-clause-base c =
    let r = marked_of c.self.inside in
    let place = c.args.place in
    let ready = subst (λ (z : Marked). IsReady z.marks place) (sym c.self.view_is) c.requires in
    let low = slice_get_within r.marks.marks place Waiting ready.0 in
    let f = found-here r c.self.invariant.marked place low in
    let count : c.duty_count-count.result ≡ length r.ground.plan.net.duties = c.duty_count-count.ensures.count ∙ (ap (λ (n : Net). length n.duties) c.net.ensures.net ∙ ap (λ (g : Ground). length g.plan.net.duties) c.deref.ensures) in
    let here = subst (λ k. place / k < length r.ground.plan.net.bases) (sym count) f.base in
    subst (λ (g : Ground). place / c.duty_count-count.result < length g.plan.net.bases) (sym c.in_ok-ground.ensures) here

pub new-requires-clause-readable : goal.new-requires-clause-readable
new-requires-clause-readable c =
    let r = marked_of c.self.inside in
    let place = c.args.place in
    let sweep = option_map arc_value c.in_ok-sweep.sweep in
    let ready = subst (λ (z : Marked). IsReady z.marks place) (sym c.self.view_is) c.requires in
    let low = slice_get_within r.marks.marks place Waiting ready.0 in
    let count : c.duty_count-count.result ≡ length r.ground.plan.net.duties = c.duty_count-count.ensures.count ∙ (ap (λ (n : Net). length n.duties) c.net.ensures.net ∙ ap (λ (g : Ground). length g.plan.net.duties) c.deref.ensures) in
    let told = subst (λ (z : Marked). IsReadableFrom z place (place / c.duty_count-count.result) sweep) (sym c.self.view_is) c.in_ok-sweep.ensures in
    let from = subst (λ k. IsReadableFrom r place (place / k) sweep) count told in
    let all = readable r c.self.invariant.marked place low sweep from in
    let here = subst (λ k. AreReadable r.ground (place / k) (place % k) sweep) (sym count) all in
    subst (λ (g : Ground). AreReadable g (place / c.duty_count-count.result) (place % c.duty_count-count.result) sweep) (sym c.in_ok-ground.ensures) here

pub returns-clause-node : goal.returns-clause-node
returns-clause-node c =
    let r = marked_of c.self.inside in
    let place = c.args.place in
    let ready = subst (λ (z : Marked). IsReady z.marks place) (sym c.self.view_is) c.requires in
    let low = slice_get_within r.marks.marks place Waiting ready.0 in
    let f = found-here r c.self.invariant.marked place low in
    let count : c.duty_count-count.result ≡ length r.ground.plan.net.duties = c.duty_count-count.ensures.count ∙ (ap (λ (n : Net). length n.duties) c.net.ensures.net ∙ ap (λ (g : Ground). length g.plan.net.duties) c.deref.ensures) in
    let parts = ap (λ k. node_at r.ground.plan.net (place / k) (place % k)) count ∙ f.by_parts in
    let ground = ap (λ (g : Ground). node_at g.plan.net (place / c.duty_count-count.result) (place % c.duty_count-count.result)) c.in_ok-ground.ensures in
    let made = ap job_node c.new.ensures in
    let here = f.at ∙ sym (made ∙ (ground ∙ parts)) in
    subst (λ (z : Marked). slice_get (nodes_in z.ground.plan.net) place ≡ job_node c.new.result) c.self.view_is here
