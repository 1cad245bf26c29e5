-- What a round keeps, and what its parts tell of jobs.
use Rattle.std.proofs.Common.{◌≡◌, ◌<◌, ◌+◌, ◌*◌, ◌/◌, ◌%◌, ◌∙◌, ℕ, true, List, Option, Some, length, sym, ap, subst, arith}
use Rattle.std.specs.Prelude.{◌↔◌, slice_get}
use Rattle.std.proofs.lemmas.Option.{slice_get_within}
use Rattle.crew_board.proofs.Existence.{listed-length}
use Rattle.crew_board.proofs.Grounded.{plan-nodes, plan-rises}
use Rattle.crew_board.proofs.OnePlan.{as-many}
use Rattle.crew_board.proofs.Places.{at-out, just-before-in, listed-there, one-place}
use Rattle.crew_board.proofs.Untouched.{rank-of, row-of}
use Rattle.crew_board.proofs.Works.{node-named, some-work-of}
use Rattle.crew_board.specs.Machinery.Held.{IsMarkedOver, Marked}
use Rattle.crew_board.specs.Machinery.Turns.{IsNowhere, IsOwnPlace}
use Rattle.crew_job.specs.Grounds.{Ground, IsGround, data_of, node_at, node_of, nodes_in, sealed_data_of}
use Rattle.crew_job.specs.Jobs.{IsJobOf, IsKeptAt, IsOwnAt, IsPlaced, Job, job_node}
use Rattle.crew_job.specs.Shown.{IsAsSealed, ShowsFrontOf}
use Rattle.crew_machine.proofs.Alike.{same-front-of}
use Rattle.crew_machine.proofs.Cells.{Some-same}
use Rattle.crew_machine.proofs.CrewLaws.{crew-laws, timetable-sound}
use Rattle.crew_machine.proofs.NodeList.{node-of}
use Rattle.crew_machine.proofs.Sorted.{rising-front}
use Rattle.crew_machine.specs.Crew.{DutyNode, DutyWork, Entries, IsFrontOf, IsLocalOf, IsNodeOf, MayPrecede, crew}
use Rattle.crew_machine.specs.Worlds.{AreNodes}
use Rattle.crew_net.proofs.InTime.{item-at}
use Rattle.crew_net.specs.Nets.{Net}
use Rattle.crew_pairing.specs.Pairings.{may_stand_after}
use Rattle.crew_resource.proofs.Members.{Member-at}
use Rattle.crew_round.specs.Marks as Marks
use Rattle.crew_round.specs.Marks.{AreDoneBefore, AreSameBefore, IsMarked, node_count, with_mark}
use Rattle.crew_rules.specs.declared.settings.Settings.{Settings}
use Rattle.crew_job.specs.crew_fronts.Fronts.{BaseFronts, front_at}

-- ---- jobs

module _ (g : Ground) (is : IsGround g) where
  ground-nodes : AreNodes (crew g.settings) (data_of g) (nodes_in g.plan.net)
  ground-nodes = plan-nodes g.settings (data_of g) g.plan is.planned

  -- a node has one place
  pub once : (p q : ℕ) (n : DutyNode) → slice_get (nodes_in g.plan.net) p ≡ Some n → slice_get (nodes_in g.plan.net) q ≡ Some n → p ≡ q
  once p q n e f = one-place (nodes_in g.plan.net) ground-nodes.rise p q n e f

  pub node-is-of : (p : ℕ) (n : DutyNode) → slice_get (nodes_in g.plan.net) p ≡ Some n → IsNodeOf g.settings (data_of g) n
  node-is-of p n e = (ground-nodes.exact n).0 (Member-at (nodes_in g.plan.net) p n e)

  pub below : (p : ℕ) (n : DutyNode) → slice_get (nodes_in g.plan.net) p ≡ Some n → p < node_count g.plan.net
  below p n e =
      let long = listed-length g.plan.net.bases g.plan.net.duties in
      let here = slice_get_within (nodes_in g.plan.net) p n e in
      omega (arith, long, here)

  -- the node at a place, by its base and its rank
  pub record Found (place : ℕ) : Type 0 where
    pub node : DutyNode
    pub at : slice_get (nodes_in g.plan.net) place ≡ Some node
    pub by_parts : node_at g.plan.net (place / length g.plan.net.duties) (place % length g.plan.net.duties) ≡ Some node
    pub base : place / length g.plan.net.duties < length g.plan.net.bases
    pub rank : place % length g.plan.net.duties < length g.plan.net.duties
    pub priced : place / length g.plan.net.duties < length g.plan.prices

  pub found : (place : ℕ) → place < node_count g.plan.net → Found place
  found place h =
      let net = g.plan.net in
      let long = listed-length net.bases net.duties in
      let n = item-at (nodes_in net) place (omega (arith, long, h)) in
      let at = at-out net place n.0 n.1 in
      let row = row-of net place at.0 at.1 n.0.duty at.2 in
      let rank = rank-of net place at.0 at.1 n.0.duty at.2 in
      let parts : node_at net at.0 at.1 ≡ Some n.0 = ap (λ (o : Option (List ℕ)). node_of o (slice_get net.duties at.1)) at.3 ∙ ap (node_of (Some n.0.base)) at.2.duty in
      let many = as-many g.settings (data_of g) g.plan is.planned in
      let base = at.2.in_bases in
      let within = slice_get_within net.duties at.1 n.0.duty at.2.duty in
      record {
        node = n.0;
        at = n.1;
        by_parts = ap (λ k. node_at net k (place % length net.duties)) row ∙ (ap (λ k. node_at net at.0 k) rank ∙ parts);
        base = subst (λ k. k < length net.bases) (sym row) base;
        rank = subst (λ k. k < length net.duties) (sym rank) within;
        priced = subst (λ k. k < length g.plan.prices) (sym row) (omega (arith, many, base));
      }

-- the node of a job is one of its ground's timetable
pub job-node-is : (job : Job) → IsGround job.ground → IsPlaced job → (n : DutyNode) → job_node job ≡ Some n → IsNodeOf job.ground.settings (data_of job.ground) n
job-node-is job ground placed n e =
    let net = job.ground.plan.net in
    let x = item-at net.bases job.base placed.base in
    let d = item-at net.duties job.rank placed.rank in
    let named : job_node job ≡ Some (node-of x.0 d.0) = ap (λ (o : Option (List ℕ)). node_of o (slice_get net.duties job.rank)) x.1 ∙ ap (node_of (Some x.0)) d.1 in
    let same : node-of x.0 d.0 ≡ n = Some-same (node-of x.0 d.0) n (sym named ∙ e) in
    let there = listed-there net.bases net.duties job.base job.rank x.0 d.0 x.1 d.1 in
    subst (IsNodeOf job.ground.settings (data_of job.ground)) same (node-is-of job.ground ground (job.base * length net.duties + job.rank) (node-of x.0 d.0) there)

module _ (r : Marked) (over : IsMarkedOver r) where
  net-here : {X : Type 0} (f : Net → X) → f r.marks.net ≡ f r.ground.plan.net
  net-here f = ap f over.net

  -- an arc of nodes is one of their places
  pub arc-in : (p q : ℕ) (n m : DutyNode) → slice_get (nodes_in r.ground.plan.net) p ≡ Some n → slice_get (nodes_in r.ground.plan.net) q ≡ Some m → MayPrecede r.ground.settings n m → Marks.IsJustBefore r.marks.net p q
  arc-in p q n m e f a =
      let net = r.ground.plan.net in
      let settings : net.settings ≡ r.ground.settings = over.ground.planned.network.2.settings in
      let rested : may_stand_after net.settings n.duty m.duty ≡ true = ap (λ (z : Settings). may_stand_after z n.duty m.duty) settings ∙ a.rested in
      let rise = plan-rises r.ground.settings (data_of r.ground) r.ground.plan over.ground.planned in
      subst (λ (z : Net). Marks.IsJustBefore z p q) (sym over.net) (just-before-in net rise p q n m e f a.base rested)

  pub in-marks : (p : ℕ) (n : DutyNode) → slice_get (nodes_in r.ground.plan.net) p ≡ Some n → p < length r.marks.marks
  in-marks p n e =
      let low = below r.ground over.ground p n e in
      let own : node_count r.marks.net ≡ node_count r.ground.plan.net = ap node_count over.net in
      let long = over.long in
      omega (arith, low, own, long)

  pub at-marks : (p : ℕ) (n : DutyNode) → slice_get (nodes_in r.ground.plan.net) p ≡ Some n → slice_get (nodes_in r.marks.net) p ≡ Some n
  at-marks p n e = ap (λ (z : Net). slice_get (nodes_in z) p) over.net ∙ e

  module _ (job : Job) (ground : IsGround job.ground) (placed : IsPlaced job) where
    own-node : (q : ℕ) → IsOwnPlace r job q → slice_get (nodes_in r.ground.plan.net) q ≡ job_node job
    own-node q own = let w = some-work-of job ground placed in (own.own w.0 w.1).node ∙ sym w.1.node

    pub nowhere-none : ((place : ℕ) → slice_get (nodes_in r.ground.plan.net) place ≡ job_node job → ⊥) → IsNowhere r job
    nowhere-none none place own = none place (own-node place own)

    pub own-once : (p q : ℕ) → slice_get (nodes_in r.ground.plan.net) p ≡ job_node job → IsOwnPlace r job q → p ≡ q
    own-once p q e own =
        let n = node-named job placed in
        once r.ground over.ground p q n.0 (e ∙ n.1) (own-node q own ∙ n.1)

    pub nowhere-unclear : (place : ℕ) → slice_get (nodes_in r.ground.plan.net) place ≡ job_node job → (AreDoneBefore r.marks place → ⊥) → IsNowhere r job
    nowhere-unclear place e unclear q own = unclear (subst (AreDoneBefore r.marks) (sym (own-once place q e own)) own.before)

    pub nowhere-other : (place : ℕ) → slice_get (nodes_in r.ground.plan.net) place ≡ job_node job → (((w : DutyWork) → IsJobOf job w → IsOwnAt r.ground place w) → ⊥) → IsNowhere r job
    nowhere-other place e other q own = other (λ w is. subst (λ k. IsOwnAt r.ground k w) (sym (own-once place q e own)) (own.own w is))

    pub job-within : (place : ℕ) → slice_get (nodes_in r.ground.plan.net) place ≡ job_node job → place < length r.marks.marks
    job-within place e = let n = node-named job placed in in-marks place n.0 (e ∙ n.1)

    -- what is done is the front of the node at its own place
    pub own-front : (place : ℕ) (front : Entries) → IsOwnPlace r job place → ((w : DutyWork) → IsJobOf job w → IsLocalOf w front) → (n : DutyNode) → slice_get (nodes_in r.ground.plan.net) place ≡ Some n
        → IsFrontOf r.ground.settings (data_of r.ground) n front
    own-front place front own local n at =
        let g = r.ground in
        let s = g.settings in
        let w = some-work-of job ground placed in
        let here = own.own w.0 w.1 in
        let node : w.0.node ≡ n = Some-same w.0.node n (sym here.node ∙ at) in
        let first : IsFrontOf s (data_of g) w.0.node front = (crew-laws s over.ground.checked).local_in g.entries w.0 front (node-is-of g over.ground place w.0.node here.node) here.own (local w.0 w.1) in
        subst (λ (z : DutyNode). IsFrontOf s (data_of g) z front) node first

    -- whether the version before has the node with the front that is done
    pub kept-told : (place : ℕ) (front : Entries) → IsOwnPlace r job place → ((w : DutyWork) → IsJobOf job w → IsLocalOf w front) → (n : DutyNode) → slice_get (nodes_in r.ground.plan.net) place ≡ Some n
        → IsKeptAt r.ground place front ↔ IsAsSealed r.ground n
    kept-told place front own local n at =
        let g = r.ground in
        let s = g.settings in
        let w = some-work-of job ground placed in
        let here = own.own w.0 w.1 in
        let node : w.0.node ≡ n = Some-same w.0.node n (sym here.node ∙ at) in
        let is = node-is-of g over.ground place w.0.node here.node in
        let first : IsFrontOf s (data_of g) w.0.node front = (crew-laws s over.ground.checked).local_in g.entries w.0 front is here.own (local w.0 w.1) in
        let is-front : IsFrontOf s (data_of g) n front = subst (λ (z : DutyNode). IsFrontOf s (data_of g) z front) node first in (
          λ k. (
              let same : k.node ≡ n = Some-same k.node n (sym k.stands ∙ at) in
              let there : IsNodeOf s (sealed_data_of g) n = subst (IsNodeOf s (sealed_data_of g)) same k.there in
              let old : IsFrontOf s (sealed_data_of g) n front = subst (λ (z : DutyNode). IsFrontOf s (sealed_data_of g) z front) same k.is_front in
              record {
                there = there;
                front = λ f was. subst (IsFrontOf s (data_of g) n) (same-front-of s over.ground.checked (sealed_data_of g) n front f old was) is-front;
              }),
          λ a. (
              let f = rising-front s (sealed_data_of g) over.ground.checked (timetable-sound g.sealed.entries) n a.there in
              let one : f.0 ≡ front = same-front-of s over.ground.checked (data_of g) n f.0 front (a.front f.0 f.1) is-front in
              record { node = n; stands = at; there = a.there; is_front = subst (IsFrontOf s (sealed_data_of g) n) one f.1 }),
        )

    -- what shows a node's front for a job that is its own shows it for the round
    pub shows-own : (place : ℕ) (b : BaseFronts) → IsOwnPlace r job place → ((n : DutyNode) → job_node job ≡ Some n → ShowsFrontOf job.ground.settings (data_of job.ground) n b) → (n : DutyNode) → slice_get (nodes_in r.ground.plan.net) place ≡ Some n
        → ShowsFrontOf r.ground.settings (data_of r.ground) n b
    shows-own place b own shown n at =
        let g = r.ground in
        let w = some-work-of job ground placed in
        let here = own.own w.0 w.1 in
        let node : w.0.node ≡ n = Some-same w.0.node n (sym here.node ∙ at) in
        let was = shown w.0.node w.1.node in
        let is = node-is-of g over.ground place w.0.node here.node in
        let there : IsNodeOf job.ground.settings (data_of job.ground) w.0.node = job-node-is job ground placed w.0.node w.1.node in
        let front : IsFrontOf g.settings (data_of g) w.0.node (front_at b w.0.node.duty) =
        (
        let local = (crew-laws job.ground.settings ground.checked).local_out job.ground.entries w.0 (front_at b w.0.node.duty) there w.1.own was.front in
        (crew-laws g.settings over.ground.checked).local_in g.entries w.0 (front_at b w.0.node.duty) is here.own local) in
        let all : ShowsFrontOf g.settings (data_of g) w.0.node b = record { own = was.own; there = was.there; front = front } in
        subst (λ (z : DutyNode). ShowsFrontOf g.settings (data_of g) z b) node all
