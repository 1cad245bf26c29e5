-- Each call of the board keeps that what is done is right.
use Rattle.std.proofs.Common.{◌≡◌, ◌≢◌, ℕ, zero, suc, ◌<◌, ◌≤◌, Bool, true, false, List, map, slice_set, Some, None, inl, inr, refl, sym, ◌∙◌, ap, subst, ⊎_elim, arith}
use Rattle.std.specs.List.{slice_get}
use Rattle.crew_resource.specs.Members.{Member}
use Rattle.crew_machine.specs.Worlds.{AreNodes, IsWorkOf, Work, World}
use Rattle.crew_machine.specs.Rounds.{Abandons, Board, Brings, Claims, Frees, GivesBack, IsDone, IsOfVersion, IsOwn, IsReusable, Opens, Restores, Round, Seals, StaysOrReused, Stores, Version, last_number}
use Rattle.crew_machine.specs.declared.rounds.Cell.{Cell}
use Rattle.crew_machine.specs.declared.rounds.Cell.TheVariants.{Waiting, Out, Done}
use Rattle.crew_machine.specs.declared.rounds.Brought.{Brought}
use Rattle.crew_machine.specs.declared.rounds.Brought.TheVariants.{Stale, Again, Stored}
use Rattle.crew_machine.specs.Machinery.Sound.{IsVersion, IsRound, IsStanding}
use Rattle.crew_machine.specs.Machinery.Worked.{Laws}
use Rattle.crew_machine.proofs.Cells.{IsSameNode, Member-slice_set, Some-same, map-map_lem, map-slice_set_same, same-nodes, same-place}
use Rattle.crew_machine.proofs.Reuse.{place-of-member}
use Rattle.crew_resource.proofs.Members.{Member-at, Member-map_in}

abbrev front_in : {F : Type 0} → Cell F → F → F
front_in Waiting f = f
front_in Out f = f
front_in (Done g) f = g

-- a job over fewer facts is one over weaker facts
pub IsWorkOf-weaker : {E D N I F B : Type 0} (w : World E D N I F B) (d : D) (P Q : N → F → Type 0) (job : Work N I F) → ((n : N) (f : F) → P n f → Q n f) → IsWorkOf w d P job → IsWorkOf w d Q job
IsWorkOf-weaker w d P Q job g k = record { input = k.input; before = k.before; fronts = λ p f m. g p f (k.fronts p f m) }

abbrev cells_of : {E N F : Type 0} → Round E N F → List (N × Cell F) → Round E N F
cells_of r cells = record { entries = r.entries; cells = cells }

module _ {E D N I F B : Type 0} (w : World E D N I F B) (laws : Laws w) where
  -- the front that a job gives is the node's front
  own_front : (sealed : Version E N F B) (r : Round E N F) (i : ℕ) (cell : Cell F) (job : Work N I F) (f : F)
      → IsRound w sealed r → IsOwn w r i cell job → w.IsLocal job f → w.IsFront (w.fold r.entries) job.node f
  own_front sealed r i cell job f sound own local =
      let there : w.IsNode (w.fold r.entries) job.node = (sound.nodes.exact job.node).0 (Member-map_in (λ c. c.0) r.cells (job.node, cell) (Member-at r.cells i (job.node, cell) own.0)) in
      laws.local_in r.entries job f there (IsWorkOf-weaker w (w.fold r.entries) (IsDone w r.cells) (w.IsFront (w.fold r.entries)) job sound.right own.1) local

  -- a cell is written with what is right
  pub write_sound : (sealed : Version E N F B) (r : Round E N F) (i : ℕ) (n : N) (was now : Cell F)
      → IsRound w sealed r → slice_get r.cells i ≡ Some (n, was) → ((f : F) → now ≡ Done f → w.IsFront (w.fold r.entries) n f)
      → IsRound w sealed (cells_of r (slice_set r.cells i (n, now)))
  write_sound sealed r i n was now sound stands right = record {
    nodes = subst (AreNodes w (w.fold r.entries)) (sym (map-slice_set_same (λ c. c.0) r.cells i (n, was) (n, now) stands refl)) sound.nodes;
    right = λ m f there. ⊎_elim
        (λ e. let same : n ≡ m = ap (λ z. z.0) e in subst (λ z. w.IsFront (w.fold r.entries) z f) same (right f (ap (λ z. z.1) e)))
        (sound.right m f)
        (Member-slice_set r.cells i (n, now) (m, Done f) there);
    begins = sound.begins;
    small = sound.small;
    number_left = sound.number_left;
  }

  Done-same : (f g : F) → Done f ≡ Done g → f ≡ g
  Done-same f g e = ap (λ c. front_in c f) e

  pub store_sound : (sealed : Version E N F B) (r : Round E N F) (i : ℕ) (cell : Cell F) (job : Work N I F) (f : F)
      → IsRound w sealed r → IsOwn w r i cell job → w.IsLocal job f → IsRound w sealed (cells_of r (slice_set r.cells i (job.node, Done f)))
  store_sound sealed r i cell job f sound own local =
      write_sound sealed r i job.node cell (Done f) sound own.0
      (λ g e. subst (λ z. w.IsFront (w.fold r.entries) job.node z) (Done-same f g e) (own_front sealed r i cell job f sound own local))

  -- an equal job has an equal front
  version_local : (sealed : Version E N F B) (job : Work N I F) (f : F) → IsVersion w sealed → IsOfVersion w sealed job f → w.IsLocal job f
  version_local sealed job f scratch v =
      laws.local_out sealed.entries job f v.there
      (IsWorkOf-weaker w (w.fold sealed.entries) (λ p g. Member sealed.fronts (p, g)) (w.IsFront (w.fold sealed.entries)) job scratch.right v.work)
      (scratch.right job.node f v.front_is)

  pub reusable_local : (sealed : Version E N F B) (r : Round E N F) (i : ℕ) (job : Work N I F) (f : F)
      → IsVersion w sealed → IsReusable w sealed r i job f → w.IsLocal job f
  reusable_local sealed r i job f scratch u =
      version_local sealed job f scratch u.1

  -- where one node is stored, and others are reused, each that is done is right, the earlier ones first
  module _ (sealed : Version E N F B) (scratch : IsVersion w sealed) (r : Round E N F) (sound : IsRound w sealed r) (i : ℕ) (cell : Cell F) (job : Work N I F) (f : F) (own : IsOwn w r i cell job) (local : w.IsLocal job f)
      (cells : List (N × Cell F)) (stored : slice_get cells i ≡ Some (job.node, Done f)) (others : (k : ℕ) → k ≢ i → StaysOrReused w sealed r.entries r.cells cells k) where
    right_below : (bound : ℕ) (n : N) (g : F) (k : ℕ) → laws.time r.entries n < bound → slice_get cells k ≡ Some (n, Done g) → w.IsFront (w.fold r.entries) n g
    right_below zero n g k low at = absurd (omega (arith, low))
    right_below (suc bound) n g k low at =
        ⊎_elim {C = w.IsFront (w.fold r.entries) n g}
        (λ e. same_front i job.node f n g stored (subst (λ z. slice_get cells z ≡ Some (n, Done g)) e at) (own_front sealed r i cell job f sound own local))
        (λ other.
        ⊎_elim {C = w.IsFront (w.fold r.entries) n g}
        (λ s. sound.right n g (Member-at r.cells k (n, Done g) (sym s ∙ at)))
        (λ u.
        let there : w.IsNode (w.fold r.entries) u.job.node = (sound.nodes.exact u.job.node).0 (Member-map_in (λ c. c.0) r.cells (u.job.node, Waiting) (Member-at r.cells k (u.job.node, Waiting) u.waited)) in
        let node : u.job.node ≡ n = ap (λ z. z.0) (Some-same (u.job.node, Done u.front) (n, Done g) (sym u.own.0 ∙ at)) in
        let same : laws.time r.entries u.job.node ≡ laws.time r.entries n = ap (laws.time r.entries) node in
        let work : IsWorkOf w (w.fold r.entries) (w.IsFront (w.fold r.entries)) u.job = record {
          input = u.own.1.input;
          before = u.own.1.before;
          fronts = λ p h x.
              let less = laws.earlier r.entries p u.job.node ((u.own.1.before.exact p).0 (Member-map_in (λ e. e.0) u.job.before (p, h) x)) in
              let found = place-of-member cells (p, Done h) (u.own.1.fronts p h x) in
              right_below bound p h found.0 (omega (arith, low, less, same)) found.1;
        } in
        same_front k u.job.node u.front n g u.own.0 at (laws.local_in r.entries u.job u.front there work (version_local sealed u.job u.front scratch u.of_version)))
        (others k other))
        (same-place k i)
      where
        same_front : (place : ℕ) (m : N) (h : F) (n : N) (g : F) → slice_get cells place ≡ Some (m, Done h) → slice_get cells place ≡ Some (n, Done g) → w.IsFront (w.fold r.entries) m h → w.IsFront (w.fold r.entries) n g
        same_front place m h n g here there front =
            let a : N × Cell F = (m, Done h) in
            let b : N × Cell F = (n, Done g) in
            let pair : a ≡ b = Some-same a b (sym here ∙ there) in
            subst (λ z. w.IsFront (w.fold r.entries) z g) (ap (λ z. z.0) pair) (subst (λ z. w.IsFront (w.fold r.entries) m z) (Done-same h g (ap (λ z. z.1) pair)) front)

    same_at : (k : ℕ) → IsSameNode r.cells cells k
    same_at k =
        ⊎_elim {C = IsSameNode r.cells cells k}
        (λ e. inr (job.node, cell, Done f, ap (slice_get r.cells) e ∙ own.0, ap (slice_get cells) e ∙ stored))
        (λ other. ⊎_elim {C = IsSameNode r.cells cells k} (λ s. inl s) (λ u. inr (u.job.node, Waiting, Done u.front, u.waited, u.own.0)) (others k other))
        (same-place k i)

    pub reuses_sound : IsRound w sealed (cells_of r cells)
    reuses_sound = record {
      nodes = subst (AreNodes w (w.fold r.entries)) (sym (same-nodes r.cells cells same_at)) sound.nodes;
      right = λ n g m. (let found = place-of-member cells (n, Done g) m in right_below (suc (laws.time r.entries n)) n g found.0 (omega arith) found.1);
      begins = sound.begins;
      small = sound.small;
      number_left = sound.number_left;
    }

  -- a board over a round that is right
  pub standing_over : (sealed : Version E N F B) (r : Round E N F) → IsVersion w sealed → IsRound w sealed r → IsStanding w (record { sealed = sealed; round = Some r })
  standing_over sealed r scratch sound = record { sealed = scratch; number = (let left = sound.number_left in omega (arith, left)); round = λ q e. subst (IsRound w sealed) (Some-same r q e) sound }

  pub standing_idle : (sealed : Version E N F B) → IsVersion w sealed → sealed.number ≤ last_number → IsStanding w (record { sealed = sealed; round = None })
  standing_idle sealed scratch number = record { sealed = scratch; number = number; round = λ q e. absurd (let b : ⊥ = (cc) in b) }

  pub opens_sound : (old : Board E N F B) (entries : List E) (new : Board E N F B) → IsStanding w old → Opens w old entries new → IsStanding w new
  opens_sound old entries new s o = subst (IsStanding w) (sym o.after) (standing_over old.sealed (record { entries = entries; cells = o.cells }) s.sealed (record {
    nodes = o.carried.nodes;
    right = λ n f m.
        let d = o.carried.done n f m in
        let there : w.IsNode (w.fold entries) n = (o.carried.nodes.exact n).0 (Member-map_in (λ c. c.0) o.cells (n, Done f) m) in
        laws.carried old.sealed.entries entries n f there d.0 (s.sealed.right n f d.1);
    begins = o.begins;
    small = o.small;
    number_left = o.number_left;
  }))

  pub claims_sound : (old : Board E N F B) (job : Work N I F) (new : Board E N F B) → IsStanding w old → Claims w old job new → IsStanding w new
  claims_sound old job new s c = subst (IsStanding w) (sym c.after)
      (standing_over old.sealed (cells_of c.round (slice_set c.round.cells c.place (job.node, Out))) s.sealed
      (write_sound old.sealed c.round c.place job.node Waiting Out (s.round c.round c.is_open) c.own.0 (λ f e. absurd (let b : ⊥ = (cc) in b))))

  pub frees_sound : (old : Board E N F B) (job : Work N I F) (new : Board E N F B) → IsStanding w old → Frees w old job new → IsStanding w new
  frees_sound old job new s c = subst (IsStanding w) (sym c.after)
      (standing_over old.sealed (cells_of c.round (slice_set c.round.cells c.place (job.node, Waiting))) s.sealed
      (write_sound old.sealed c.round c.place job.node Out Waiting (s.round c.round c.is_open) c.own.0 (λ f e. absurd (let b : ⊥ = (cc) in b))))

  pub stores_sound : (old : Board E N F B) (job : Work N I F) (front : F) (new : Board E N F B) → IsStanding w old → Stores w old job front new → IsStanding w new
  stores_sound old job front new s c = subst (IsStanding w) (sym c.after)
      (standing_over old.sealed (cells_of c.round c.cells) s.sealed
      (reuses_sound old.sealed s.sealed c.round (s.round c.round c.is_open) c.place c.cell job front c.own c.local c.cells c.stored c.others))

  pub brings_sound : (old : Board E N F B) (job : Work N I F) (front : F) (brought : Brought) (new : Board E N F B) → IsStanding w old → Brings w old job front brought new → IsStanding w new
  brings_sound old job front Stale new s b = subst (IsStanding w) (sym b.1) s
  brings_sound old job front Again new s b = subst (IsStanding w) (sym b.1) s
  brings_sound old job front Stored new s b = stores_sound old job front new s b

  pub gives_back_sound : (old : Board E N F B) (job : Work N I F) (freed : Bool) (new : Board E N F B) → IsStanding w old → GivesBack w old job freed new → IsStanding w new
  gives_back_sound old job true new s b = frees_sound old job new s b
  gives_back_sound old job false new s b = subst (IsStanding w) (sym b.1) s

  pub abandons_sound : (old : Board E N F B) (was_open : Bool) (new : Board E N F B) → IsStanding w old → Abandons w old was_open new → IsStanding w new
  abandons_sound old true new s b = subst (IsStanding w) (sym b.1) (standing_idle old.sealed s.sealed s.number)
  abandons_sound old false new s b = subst (IsStanding w) (sym b.1) s

  pub seals_version : (old : Board E N F B) (version : Version E N F B) (new : Board E N F B) → IsStanding w old → Seals w old version new → IsVersion w version
  seals_version old version new s c =
      let sound = s.round c.round c.is_open in
      let d : w.fold c.round.entries ≡ w.fold version.entries = ap w.fold (sym c.entries) in
      let listed : map (λ e. e.0) version.fronts ≡ map (λ c. c.0) c.round.cells =
      map-map_lem (λ e. (e.0, Done e.1)) (λ c. c.0) (λ e. e.0) (λ e. refl) version.fronts ∙ ap (λ z. map (λ c. c.0) z) c.fronts in
      let nodes : AreNodes w (w.fold version.entries) (map (λ e. e.0) version.fronts) =
      subst (λ z. AreNodes w z (map (λ e. e.0) version.fronts)) d (subst (AreNodes w (w.fold c.round.entries)) (sym listed) sound.nodes) in
      let right : (n : N) (f : F) → Member version.fronts (n, f) → w.IsFront (w.fold version.entries) n f =
      λ n f m. subst (λ z. w.IsFront z n f) d (sound.right n f (subst (λ z. Member z (n, Done f)) c.fronts (Member-map_in (λ e. (e.0, Done e.1)) version.fronts (n, f) m))) in
      record { nodes = nodes; right = right; best_is = laws.least version.entries version.fronts version.best nodes right c.least; small = subst w.IsSmall d sound.small }

  pub seals_sound : (old : Board E N F B) (version : Version E N F B) (new : Board E N F B) → IsStanding w old → Seals w old version new → IsStanding w new
  seals_sound old version new s c = subst (IsStanding w) (sym c.after) (standing_idle version (seals_version old version new s c) (let left = (s.round c.round c.is_open).number_left in let next = c.number in omega (arith, left, next)))

  -- a board that a right version is restored to is right
  pub restores_sound : (old : Board E N F B) (version : Version E N F B) (new : Board E N F B) → IsVersion w version → version.number ≤ last_number → Restores w old version new → IsStanding w new
  restores_sound old version new scratch number r = subst (IsStanding w) (sym r) (standing_idle version scratch number)
