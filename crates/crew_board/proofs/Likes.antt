-- What is known of two grounds that are so like.
use Rattle.std.proofs.Common.{◌≡◌, ◌∙◌, [], ℕ, List, Option, Some, None, IfSome, MatchOption, refl, sym, subst}
use Rattle.std.specs.Prelude.{slice_get}
use Rattle.crew_board.specs.Machinery.Likes.{AreLike, AreOfOneRound, HaveSameData}
use Rattle.crew_board.specs.declared.alike.Likeness.{Likeness}
use Rattle.crew_board.specs.declared.alike.Likeness.TheVariants.{Unknown, SameData, SameRound}
use Rattle.crew_job.proofs.Comparing.{own-by-data}
use Rattle.crew_flights.specs.Timetable.{Timetable}
use Rattle.crew_job.specs.Grounds.{Ground, data_of, nodes_in, sealed_data_of}
use Rattle.crew_job.specs.Jobs.{IsJobOf, IsOwnAt, Job, job_node}
use Rattle.crew_job.specs.Lots.{StandOn}
use Rattle.crew_job.specs.Shown.{IsAsSealed}
use Rattle.crew_machine.specs.Crew.{DutyNode, DutyWork, Entries, IsFrontOf, IsNodeOf}
use Rattle.crew_rules.specs.declared.settings.Settings.{Settings}
use Rattle.crew_resource.specs.Members.{Member}

pub like-round : (like : Likeness) (one other : Ground) → like ≡ SameRound → AreLike like one other → AreOfOneRound one other
like-round like one other e h = subst (λ (l : Likeness). AreLike l one other) e h

pub like-plan : (like : Likeness) (one other : Ground) → like ≡ SameRound → AreLike like one other → one.plan ≡ other.plan
like-plan like one other e h = (like-round like one other e h).plan

-- in grounds of one round a node has its front of before in both, or in neither
as-sealed-in : (s u : Settings) (t v x y : Timetable) → s ≡ u → t ≡ v → x ≡ y → (n : DutyNode) → IsNodeOf s x n → ((f : Entries) → IsFrontOf s x n f → IsFrontOf s t n f) → IsNodeOf u y n × ((f : Entries) → IsFrontOf u y n f → IsFrontOf u v n f)
as-sealed-in s u t v x y e f g n there front =
    subst (λ (z : Timetable). IsNodeOf u z n × ((f : Entries) → IsFrontOf u z n f → IsFrontOf u v n f)) g
    (subst (λ (z : Timetable). IsNodeOf u x n × ((f : Entries) → IsFrontOf u x n f → IsFrontOf u z n f)) f
    (subst (λ (z : Settings). IsNodeOf z x n × ((f : Entries) → IsFrontOf z x n f → IsFrontOf z t n f)) e (there, front)))

pub as-sealed-alike : (one other : Ground) → AreOfOneRound one other → (n : DutyNode) → IsAsSealed one n → IsAsSealed other n
as-sealed-alike one other same n h =
    let k = as-sealed-in one.settings other.settings (data_of one) (data_of other) (sealed_data_of one) (sealed_data_of other) same.same.settings same.same.timetable same.sealed n h.there h.front in
    record { there = k.0; front = k.1 }

pub one-round-back : (one other : Ground) → AreOfOneRound one other → AreOfOneRound other one
one-round-back one other h = record {
  same = record { settings = sym h.same.settings; timetable = sym h.same.timetable };
  plan = sym h.plan;
  sealed = sym h.sealed;
}

pub like-data : (like : Likeness) (one other : Ground) → (like ≡ Unknown → ⊥) → AreLike like one other → HaveSameData one other
like-data Unknown one other known h = absurd (known refl)
like-data SameData one other known h = h
like-data SameRound one other known h = h.same

-- a job whose ground has the same data is the own one of its node
pub own-alike : (job : Job) (g : Ground) → HaveSameData job.ground g → (place : ℕ) → slice_get (nodes_in g.plan.net) place ≡ job_node job → (work : DutyWork) → IsJobOf job work → IsOwnAt g place work
own-alike job g same place stands work of = record { node = stands ∙ of.node; own = own-by-data job.ground g work same.settings same.timetable of.own }

-- a ground is so like, and so is that of each job that stands on it
pub like-each : {X : Type 0} (o : Option X) (now : X → Ground) (like : Likeness) (jobs : List Job) (own : Ground) → MatchOption o (jobs ≡ []) (λ x. StandOn (now x) jobs) → IfSome o (λ x. AreLike like (now x) own) → (job : Job) → Member jobs job → AreLike like job.ground own
like-each None now like jobs own none h job m = absurd (subst (λ (l : List Job). Member l job) none m)
like-each (Some x) now like jobs own stand h job m = subst (λ (g : Ground). AreLike like g own) (sym (stand job m)) h

-- what is told of an option, told otherwise
pub told-as : {X : Type 0} (o : Option X) (A B : Type 0) (P Q : X → Type 0) → (A → B) → ((x : X) → P x → Q x) → MatchOption o A P → MatchOption o B Q
told-as None A B P Q f g h = f h
told-as (Some x) A B P Q f g h = g x h
