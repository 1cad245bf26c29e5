-- A job stands for one piece of work.
use Rattle.std.proofs.Common.{◌≡◌, ◌∙◌, ℕ, List, Option, Some, map, refl, sym, ap, subst}
use Rattle.std.specs.Prelude.{slice_get}
use Rattle.crew_board.proofs.Existence.{fronts-over}
use Rattle.crew_board.proofs.Grounded.{plan-nodes}
use Rattle.crew_board.specs.Cells.{CrewCells}
use Rattle.crew_job.specs.Grounds.{IsGround, data_of, node_of}
use Rattle.crew_job.specs.Jobs.{IsJobOf, IsPlaced, Job, job_node}
use Rattle.crew_machine.proofs.Cells.{Some-same, map-map_lem}
use Rattle.crew_machine.proofs.CrewLaws.{timetable-sound}
use Rattle.crew_machine.proofs.NodeList.{listed, node-of}
use Rattle.crew_machine.proofs.OwnJobs.{one-job, right-work}
use Rattle.crew_machine.proofs.Progress.{own-job}
use Rattle.crew_machine.specs.Crew.{DutyNode, DutyWork, Entries, IsFrontOf, MayPrecede, crew}
use Rattle.crew_machine.specs.Worlds.{AreNodes}
use Rattle.crew_machine.specs.declared.rounds.Cell.{Cell}
use Rattle.crew_machine.specs.declared.rounds.Cell.TheVariants.{Done}
use Rattle.crew_net.proofs.InTime.{item-at}
use Rattle.crew_resource.proofs.Members.{Member-map_out}
use Rattle.crew_resource.specs.Members.{Member}

pub node-named : (job : Job) → IsPlaced job → (n : DutyNode) × (job_node job ≡ Some n)
node-named job placed =
    let b = item-at job.ground.plan.net.bases job.base placed.base in
    let d = item-at job.ground.plan.net.duties job.rank placed.rank in
    let e : job_node job ≡ Some (node-of b.0 d.0) = ap (λ (o : Option (List ℕ)). node_of o (slice_get job.ground.plan.net.duties job.rank)) b.1 ∙ ap (node_of (Some b.0)) d.1 in
    (node-of b.0 d.0, e)

abbrev done : DutyNode × Entries → DutyNode × Cell Entries
done e = (e.0, Done e.1)

pub some-work-of : (job : Job) → IsGround job.ground → IsPlaced job → (work : DutyWork) × IsJobOf job work
some-work-of job ground placed =
    let g = job.ground in
    let s = g.settings in
    let t = data_of g in
    let net = g.plan.net in
    let ns = listed net.bases net.duties in
    let nodes = plan-nodes s t g.plan ground.planned in
    let f = fronts-over s ground.checked t (timetable-sound g.entries) ns (λ n m. (nodes.exact n).0 m) in
    let cells : CrewCells = map done f.fronts in
    let names : map (λ (c : DutyNode × Cell Entries). c.0) cells ≡ ns = sym (map-map_lem done (λ (c : DutyNode × Cell Entries). c.0) (λ (e : DutyNode × Entries). e.0) (λ e. refl) f.fronts) ∙ f.names in
    let are : AreNodes (crew s) t (map (λ (c : DutyNode × Cell Entries). c.0) cells) = subst (AreNodes (crew s) t) (sym names) nodes in
    let n = node-named job placed in
    let all : (p : DutyNode) (c : Cell Entries) → Member cells (p, c) → MayPrecede s p n.0 → (e : Entries) × (c ≡ Done e) = λ p c m a.
    (let from = Member-map_out done f.fronts (p, c) m in (from.0.1, sym (ap (λ (z : DutyNode × Cell Entries). z.1) from.2))) in
    let right : (p : DutyNode) (e : Entries) → Member cells (p, Done e) → IsFrontOf s t p e = λ p e m.
    (
    let from = Member-map_out done f.fronts (p, Done e) m in
    let node : from.0.0 ≡ p = ap (λ (z : DutyNode × Cell Entries). z.0) from.2 in
    let cell : Done from.0.1 ≡ Done e = ap (λ (z : DutyNode × Cell Entries). z.1) from.2 in
    let front : from.0.1 ≡ e = (cc) in
    subst (IsFrontOf s t p) front (subst (λ (z : DutyNode). IsFrontOf s t z from.0.1) node (f.right from.0.0 from.0.1 from.1))) in
    let own = own-job s t cells are n.0 all in
    (own.0, record { node = n.1 ∙ ap (λ (z : DutyNode). Some z) (sym own.1); own = right-work s ground.checked t cells are right own.0 own.2 })

pub one-work-of : (job : Job) → IsGround job.ground → (a b : DutyWork) → IsJobOf job a → IsJobOf job b → a ≡ b
one-work-of job ground a b h k = one-job job.ground.settings ground.checked (data_of job.ground) a b (Some-same a.node b.node (sym h.node ∙ k.node)) h.own k.own
