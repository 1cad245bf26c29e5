-- A base's sweep shows the fronts of all nodes of the base.
use Rattle.std.proofs.Common.{◌≡◌, ◌<◌, ◌∙◌, ℕ, ℤ, List, Some, length, sym, ap, subst}
use Rattle.std.specs.Prelude.{slice_get}
use Rattle.std.specs.FinMap as fin
use Rattle.std.specs.Cmp.{eq_by_cmp_equiv}
use Rattle.std.specs.Option.{option_map}
use Rattle.std.proofs.lemmas.Map.Entries.{lookup_from_place}
use Rattle.std.proofs.lemmas.Map.Keys.{IsDistinct-from_sorted}
use Rattle.std.proofs.lemmas.Option.{slice_get-map}
use Rattle.crew_flights.proofs.Listed.{keys_rise}
use Rattle.crew_flights.proofs.Maps.{find_lookup}
use Rattle.crew_flights.specs.Codes.{code_cmp, code_cmp_total}
use Rattle.crew_flights.specs.Timetable.{Timetable}
use Rattle.crew_job.proofs.NodePlaces.{node-from, node-parts, some-node-at}
use Rattle.crew_job.proofs.Planned.{data-sound, duty-legal, legal-duty, net-bases, net-duties, net-settings}
use Rattle.crew_job.specs.Grounds.{Ground, IsGround, data_of, node_at}
use Rattle.crew_job.specs.Jobs.{IsJobOf, Job, job_node}
use Rattle.crew_job.specs.Machinery.Held.{IsSwept}
use Rattle.crew_job.specs.Shown.{ShowsFrontOf}
use Rattle.crew_machine.proofs.CrewLaws.{crew-laws}
use Rattle.crew_machine.proofs.Reuse.{place-of-member}
use Rattle.crew_machine.proofs.NodeList.{has-price}
use Rattle.crew_machine.specs.Worlds.{IsBefore}
use Rattle.crew_machine.specs.Crew.{DutyNode, DutyWork, Entries, IsFrontOf, IsLocalOf, IsNodeOf, crew}
use Rattle.crew_net.specs.Nets.{Net}
use Rattle.crew_pairing.specs.Duties.{AreDuties, flights_of}
use Rattle.crew_pairing.specs.Pairings.{IsDuty}
use Rattle.crew_pairing.specs.declared.duty.Duty.{Duty}
use Rattle.crew_resource.proofs.Members.{Member-at}
use Rattle.crew_resource.specs.Members.{Member}
use Rattle.crew_rules.specs.declared.settings.Settings.{Settings}
use Rattle.crew_version.specs.crew_fronts.Fronts.{BaseFronts, ShowsFronts, front_at}
use Rattle.crew_dirty.specs.crew_answers.Fronts.{IsFrontAt}
use Rattle.crew_version.specs.crew_plan.Plans.{AreFrontsIn}

-- the price of the base at a place
pub priced-at : (t : Timetable) (place : ℕ) (base : List ℕ) (price : ℤ) → slice_get (fin.entries t.bases) place ≡ Some (base, price) → fin.get t.bases base ≡ Some price
priced-at t place base price h =
    fin.get-entries t.bases base ∙ (find_lookup code_cmp base (fin.entries t.bases) ∙ lookup_from_place (eq_by_cmp_equiv code_cmp_total) (fin.entries t.bases) place base price (IsDistinct-from_sorted code_cmp _ (keys_rise code_cmp t.bases)) h)

-- a node of a ground's network is one of its timetable's
pub node-legal : (g : Ground) → IsGround g → (base rank : ℕ) (n : DutyNode) → node_at g.plan.net base rank ≡ Some n → IsNodeOf g.settings (data_of g) n
node-legal g is base rank n e =
    let parts = node-parts g.plan.net base rank n e in
    let among : Member (fin.keys (data_of g).bases) n.base = subst (λ (l : List (List ℕ)). Member l n.base) (net-bases g is) (Member-at g.plan.net.bases base n.base parts.0) in
    let price = has-price (data_of g) n.base among in
    record { price = price.0; based = price.1; legal = duty-legal g is n.duty (Member-at g.plan.net.duties rank n.duty parts.1) }

pub shows-front : (g : Ground) → IsGround g → (base rank : ℕ) (b : BaseFronts) (n : DutyNode) → AreFrontsIn g.plan base b → node_at g.plan.net base rank ≡ Some n → ShowsFrontOf g.settings (data_of g) n b
shows-front g is base rank b n sweep e =
    let t = data_of g in
    let parts = node-parts g.plan.net base rank n e in
    let pair = sweep.0 in
    let entry : slice_get (fin.entries t.bases) base ≡ Some pair = subst (λ (l : List (List ℕ × ℤ)). slice_get l base ≡ Some pair) is.planned.prices sweep.1 in
    let key : slice_get (fin.keys t.bases) base ≡ Some pair.0 = slice_get-map (λ (z : List ℕ × ℤ). z.0) (fin.entries t.bases) base ∙ ap (option_map (λ (z : List ℕ × ℤ). z.0)) entry in
    let here : slice_get (fin.keys t.bases) base ≡ Some n.base = subst (λ (l : List (List ℕ)). slice_get l base ≡ Some n.base) (net-bases g is) parts.0 in
    let code : pair.0 ≡ n.base = some-same pair.0 n.base (sym key ∙ here) in
    let own : b.base ≡ n.base = ap (λ (z : List ℕ × ℤ). z.0) sweep.2.own ∙ code in
    let price : b.price ≡ pair.1 = ap (λ (z : List ℕ × ℤ). z.1) sweep.2.own in
    let based : fin.get t.bases n.base ≡ Some pair.1 = subst (λ (z : List ℕ). fin.get t.bases z ≡ Some pair.1) code (priced-at t base pair.0 pair.1 entry) in
    let settings : b.net.settings ≡ g.settings = ap (λ (z : Net). z.settings) sweep.2.same ∙ net-settings g is in
    let duties : AreDuties g.plan.net.settings t g.plan.net.duties = subst (λ (z : Settings). AreDuties z t g.plan.net.duties) (sym (net-settings g is)) (net-duties g is) in
    let shown : ShowsFronts t b = sweep.2.fronts t (data-sound g is) is.planned.dated duties in
    let member : Member g.plan.net.duties n.duty = Member-at g.plan.net.duties rank n.duty parts.1 in
    let legal : IsDuty b.net.settings (flights_of t) n.duty = subst (λ (z : Settings). IsDuty z (flights_of t) n.duty) (sym settings) (duty-legal g is n.duty member) in
    let both = shown n.duty legal in
    let front : IsFrontAt g.settings t n.base pair.1 n.duty (front_at b n.duty) =
    subst (λ (z : ℤ). IsFrontAt g.settings t n.base z n.duty (front_at b n.duty)) price
    (subst (λ (z : List ℕ). IsFrontAt g.settings t z b.price n.duty (front_at b n.duty)) own
    (subst (λ (z : Settings). IsFrontAt z t b.base b.price n.duty (front_at b n.duty)) settings both.0)) in
    record {
      own = own;
      there = subst (λ (z : Net). Member z.duties n.duty) (sym sweep.2.same) member;
      front = record { price = pair.1; based = based; front = front; rises = both.1 };
    }
  where
    some-same : {X : Type 0} (x y : X) → Some x ≡ Some y → x ≡ y
    some-same x y e = cc

-- what a sweep shows at a job's rank is the front of the job's node
pub done-front : (job : Job) (b : BaseFronts) → IsSwept job b → (rank : ℕ) (f : Entries) → rank ≡ job.rank → ((d : Duty) → slice_get b.net.duties rank ≡ Some d → f ≡ front_at b d) → (n : DutyNode) → job_node job ≡ Some n
    → IsFrontOf job.ground.settings (data_of job.ground) n f
done-front job b kept rank f e shown n is =
    let g = job.ground in
    let shows = shows-front g kept.right job.base job.rank b n kept.swept is in
    let parts = node-parts g.plan.net job.base job.rank n is in
    let there : slice_get b.net.duties rank ≡ Some n.duty = ap (slice_get b.net.duties) e ∙ (ap (λ (z : Net). slice_get z.duties job.rank) kept.swept.2.same ∙ parts.1) in
    subst (IsFrontOf g.settings (data_of g) n) (sym (shown n.duty there)) shows.front

-- .. and local to the job's work
pub done-local : (job : Job) (b : BaseFronts) → IsSwept job b → (rank : ℕ) (f : Entries) → rank ≡ job.rank → ((d : Duty) → slice_get b.net.duties rank ≡ Some d → f ≡ front_at b d) → (work : DutyWork) → IsJobOf job work → IsLocalOf work f
done-local job b kept rank f e shown work is =
    let g = job.ground in
    (crew-laws g.settings kept.right.checked).local_out g.entries work f (node-legal g kept.right job.base job.rank work.node is.node) is.own (done-front job b kept rank f e shown work.node is.node)

-- a node just before that of a base's place and a rank stands at the same base's place
pub before-place : (g : Ground) → IsGround g → (base rank : ℕ) (n p : DutyNode) → node_at g.plan.net base rank ≡ Some n → IsBefore (crew g.settings) (data_of g) p n → (other : ℕ) × (node_at g.plan.net base other ≡ Some p)
before-place g is base rank n p e b =
    let parts = node-parts g.plan.net base rank n e in
    let at = place-of-member g.plan.net.duties p.duty (legal-duty g is p.duty b.0.legal) in
    (at.0, node-from g.plan.net base at.0 p.base p.duty (parts.0 ∙ ap Some (sym b.1.base)) at.1)

-- .. and its front is shown by the base's sweep
pub shows-before : (g : Ground) → IsGround g → (base rank : ℕ) (p : DutyNode) (b : BaseFronts) → base < length g.plan.net.bases → rank < length g.plan.net.duties
    → ((n : DutyNode) → node_at g.plan.net base rank ≡ Some n → IsBefore (crew g.settings) (data_of g) p n) → AreFrontsIn g.plan base b → ShowsFrontOf g.settings (data_of g) p b
shows-before g is base rank p b h k before swept =
    let n = some-node-at g.plan.net base rank h k in
    let at = before-place g is base rank n.0 p n.1 (before n.0 n.1) in
    shows-front g is base at.0 b p swept at.1
