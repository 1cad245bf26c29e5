-- A job's work, compared with that of its node in another ground.
use Rattle.std.proofs.Common.{◌≡◌, ◌∙◌, ℕ, ℤ, true, List, Some, refl, sym, ap, subst}
use Rattle.std.specs.FinMap as fin
use Rattle.crew_flights.specs.Timetable.{Timetable}
use Rattle.crew_job.proofs.BaseSweeps.{node-legal}
use Rattle.crew_job.proofs.Planned.{data-sound, duty-legal, legal-duty}
use Rattle.crew_job.proofs.Works.{own-duties, own-from, own-fronts, own-price, own-work, some-work}
use Rattle.crew_job.specs.Grounds.{Ground, IsGround, data_of}
use Rattle.crew_job.specs.Jobs.{IsJobOf, IsOwnWork, Job, job_node}
use Rattle.crew_job.specs.Machinery.Compared.{HasSameFront, HaveSameBefore, HaveSameFronts, IsAlike}
use Rattle.crew_machine.proofs.Alike.{same-front-of}
use Rattle.crew_machine.specs.Crew.{DutyNode, DutyWork, Entries, Inputs, IsFrontOf, IsNodeOf, MayPrecede, crew}
use Rattle.crew_machine.specs.Worlds.{IsBefore}
use Rattle.crew_net.specs.Nets.{Net}
use Rattle.crew_pairing.specs.Duties.{flights_of}
use Rattle.crew_pairing.specs.Pairings.{IsDuty, may_stand_after}
use Rattle.crew_pairing.specs.declared.duty.Duty.{Duty}
use Rattle.crew_resource.specs.Members.{Member}
use Rattle.crew_rules.specs.declared.settings.Settings.{Settings}

some-same : {X : Type 0} (x y : X) → Some x ≡ Some y → x ≡ y
some-same x y e = cc

-- two fronts of a node that are one tell that all are
pub same-fronts-told : (one other : Ground) → IsGround one → IsGround other → (p : DutyNode) (f g : Entries) → IsFrontOf one.settings (data_of one) p f → IsFrontOf other.settings (data_of other) p g → f ≡ g → HasSameFront one other p
same-fronts-told one other is here p f g x y e = λ a b u v.
    same-front-of one.settings is.checked (data_of one) p a f u x ∙ (e ∙ same-front-of other.settings here.checked (data_of other) p g b y v)

-- the same settings and timetables have the same own works
pub own-by-data : (one other : Ground) (work : DutyWork) → one.settings ≡ other.settings → data_of one ≡ data_of other → IsOwnWork one work → IsOwnWork other work
own-by-data one other work s t h =
    subst (λ (z : Timetable). own-work other.settings z work) t (subst (λ (z : Settings). own-work z (data_of one) work) s h)

pub moved-before : (s s' : Settings) (x x' y y' : Net) (d : Duty) → s ≡ s' → x ≡ x' → y ≡ y' → HaveSameBefore s x y d → HaveSameBefore s' x' y' d
moved-before s s' x x' y y' d e f g h =
    subst (λ (z : Net). HaveSameBefore s' x' z d) g (subst (λ (z : Net). HaveSameBefore s' z y d) f (subst (λ (z : Settings). HaveSameBefore z x y d) e h))

-- a duty that may stand just before the node in one ground does so in the other
pub alike-before : (job : Job) (g : Ground) → IsGround job.ground → (code : List ℕ) (d : Duty) (base : ℕ) → IsAlike job g code d base → (e : Duty) → Member g.plan.net.duties e → may_stand_after g.settings e d ≡ true
    → (n : DutyNode) → job_node job ≡ Some n → IsBefore (crew job.ground.settings) (data_of job.ground) (record { base = code; duty = e }) n
alike-before job g is code d base alike e m may n at =
    let node : DutyNode = record { base = code; duty = d } in
    let same : node ≡ n = some-same node n (sym alike.node ∙ at) in
    let own = node-legal job.ground is job.base job.rank node alike.node in
    let there = (alike.before e may).1 m in
    let rested : may_stand_after job.ground.settings e d ≡ true = subst (λ (z : Settings). may_stand_after z e d ≡ true) (sym alike.settings) may in
    let p : DutyNode = record { base = code; duty = e } in
    let is_node : IsNodeOf job.ground.settings (data_of job.ground) p = record { price = own.price; based = own.based; legal = duty-legal job.ground is e there } in
    let arc : MayPrecede job.ground.settings p node = record { base = refl; rested = rested } in
    subst (IsBefore (crew job.ground.settings) (data_of job.ground) p) same (is_node, arc)

module _ (job : Job) (g : Ground) (is : IsGround job.ground) (here : IsGround g) (code : List ℕ) (d : Duty) (node : job_node job ≡ Some (record { base = code; duty = d })) where
  abbrev n : DutyNode
  n = record { base = code; duty = d }

  abbrev s : Settings
  s = g.settings

  abbrev t : Timetable
  t = data_of job.ground

  abbrev u : Timetable
  u = data_of g

  -- what is the same in both grounds makes the job's work the own one in the other
  pub work-own : job.ground.settings ≡ g.settings → fin.get t.bases code ≡ fin.get u.bases code → HaveSameBefore g.settings job.ground.plan.net g.plan.net d → HaveSameFronts job g code d → (work : DutyWork) → IsJobOf job work → IsOwnWork g work
  work-own settings price before fronts work of =
      let same : n ≡ work.node = some-same n work.node (sym node ∙ of.node) in
      let own : own-work s t work = subst (λ (z : Settings). own-work z t work) settings of.own in
      let to : (e : Duty) → may_stand_after s e d ≡ true → IsDuty s (flights_of t) e → IsDuty s (flights_of u) e = λ e may legal.
      duty-legal g here e ((before e may).0 (legal-duty job.ground is e (subst (λ (z : Settings). IsDuty z (flights_of t) e) (sym settings) legal))) in
      let from : (e : Duty) → may_stand_after s e d ≡ true → IsDuty s (flights_of u) e → IsDuty s (flights_of t) e = λ e may legal.
      subst (λ (z : Settings). IsDuty z (flights_of t) e) settings (duty-legal job.ground is e ((before e may).1 (legal-duty g here e legal))) in
      let shown : (p : DutyNode) (x y : Entries) → IsBefore (crew s) u p n → IsFrontOf s t p x → IsFrontOf s u p y → x ≡ y = λ p x y b f h.
      (
      let at : p ≡ record { base = code; duty = p.duty } = ap (λ (z : List ℕ). let q : DutyNode = record { base = z; duty = p.duty } in q) b.1.base in
      let own_front : IsFrontOf job.ground.settings t p x = subst (λ (z : Settings). IsFrontOf z t p x) (sym settings) f in
      fronts p.duty (legal-duty g here p.duty b.0.legal) b.1.rested x y (subst (λ (z : DutyNode). IsFrontOf job.ground.settings t z x) at own_front) (subst (λ (z : DutyNode). IsFrontOf s u z y) at h)) in
      own-from s here.checked t u (data-sound g here) work
      (subst (λ (z : DutyNode). fin.get t.bases z.base ≡ fin.get u.bases z.base) same price)
      (subst (λ (z : DutyNode). (e : Duty) → may_stand_after s e z.duty ≡ true → IsDuty s (flights_of t) e → IsDuty s (flights_of u) e) same to)
      (subst (λ (z : DutyNode). (e : Duty) → may_stand_after s e z.duty ≡ true → IsDuty s (flights_of u) e → IsDuty s (flights_of t) e) same from)
      (subst (λ (z : DutyNode). (p : DutyNode) (x y : Entries) → IsBefore (crew s) u p z → IsFrontOf s t p x → IsFrontOf s u p y → x ≡ y) same shown)
      own

  -- the job has a work, which stands at its node
  some-own : (work : DutyWork) × (work.node ≡ n) × IsOwnWork job.ground work
  some-own = some-work job.ground.settings is.checked t (data-sound job.ground is) is.few n

  module _ (all : (work : DutyWork) → IsJobOf job work → IsOwnWork g work) where
    first-own : IsOwnWork g some-own.0
    first-own = all some-own.0 (record { node = node ∙ ap Some (sym some-own.1); own = some-own.2 })

    -- .. and only where all of it is the same
    pub own-settings : job.ground.settings ≡ g.settings
    own-settings = ap (λ (i : Inputs). i.settings) (sym some-own.2.input ∙ first-own.input)

    first : own-work s t some-own.0
    first = subst (λ (z : Settings). own-work z t some-own.0) own-settings some-own.2

    pub own-prices : fin.get t.bases code ≡ fin.get u.bases code
    own-prices = subst (λ (z : DutyNode). fin.get t.bases z.base ≡ fin.get u.bases z.base) some-own.1 (own-price s here.checked t u some-own.0 first first-own)

    based : (price : ℤ) × (fin.get t.bases code ≡ Some price)
    based = (let is_node = node-legal job.ground is job.base job.rank n node in (is_node.price, is_node.based))

    pub own-before : HaveSameBefore g.settings job.ground.plan.net g.plan.net d
    own-before e may =
        let w = some-own.0 in
        let at : may_stand_after s e w.node.duty ≡ true = subst (λ (z : DutyNode). may_stand_after s e z.duty ≡ true) (sym some-own.1) may in
        let here_based : fin.get t.bases w.node.base ≡ Some based.0 = subst (λ (z : DutyNode). fin.get t.bases z.base ≡ Some based.0) (sym some-own.1) based.1 in
        let there_based : fin.get u.bases w.node.base ≡ Some based.0 = subst (λ (z : DutyNode). fin.get u.bases z.base ≡ Some based.0) (sym some-own.1) (sym own-prices ∙ based.1) in (
          λ m. legal-duty g here e (own-duties s here.checked t u w first first-own based.0 here_based e at (subst (λ (z : Settings). IsDuty z (flights_of t) e) own-settings (duty-legal job.ground is e m))),
          λ m. legal-duty job.ground is e (subst (λ (z : Settings). IsDuty z (flights_of t) e) (sym own-settings) (own-duties s here.checked u t w first-own first based.0 there_based e at (duty-legal g here e m))),
        )

    pub own-same-fronts : HaveSameFronts job g code d
    own-same-fronts e m may x y f h =
        let p : DutyNode = record { base = code; duty = e } in
        let is_node : IsNodeOf s u p = record { price = based.0; based = sym own-prices ∙ based.1; legal = duty-legal g here e m } in
        let arc : MayPrecede s p n = record { base = refl; rested = may } in
        let before : IsBefore (crew s) u p some-own.0.node = subst (IsBefore (crew s) u p) (sym some-own.1) (is_node, arc) in
        own-fronts s here.checked t u some-own.0 first first-own p x y before (subst (λ (z : Settings). IsFrontOf z t p x) own-settings f) h
