-- The log is what was pushed, and what is settled or open is a beginning of it.
use Rattle.std.proofs.Common.{◌≡◌, ℕ, Bool, true, false, List, [], ◌∷◌, ◌++◌, Some, None, refl, sym, ◌∙◌, ap, subst, ⊎_elim, append_assoc, append-nil}
use mathlib.Core.List.{IsPrefix}
use Rattle.crew_machine.proofs.Cells.{Some-same}
use Rattle.crew_machine.proofs.Runs.{prefix_trans, slice_get_push_cases}
use Rattle.crew_machine.specs.Machinery.Sound.{IsLogged}
use Rattle.crew_machine.specs.Rounds.{Abandons, Board, Brings, Claims, GivesBack, Round}
use Rattle.crew_machine.specs.Steps.{Abandon, Abandoned, Act, Answered, Ask, Begin, Begun, Bring, Busy, Claim, Claimed, Give_back, Given_back, Last_version, No_round, None_ready, Not_brought, Not_done, Not_given_back, Nothing_new, Publish, Push, Pushed, Reply, Run, Seal, Sealed, State, Step, Too_large, Was_brought, Was_published, opening, pushed_by, pushed_in, start}
use Rattle.crew_machine.specs.Worlds.{Work, World}
use Rattle.crew_machine.specs.declared.rounds.Brought.{Brought}
use Rattle.crew_machine.specs.declared.rounds.Brought.TheVariants.{Stale, Again, Stored}

module _ {E D N I F B : Type 0} (w : World E D N I F B) where
  -- the same sealed version, and no other entries in a round
  record Keeps (old new : Board E N F B) : Type 0 where
    pub sealed : new.sealed ≡ old.sealed
    pub round : (r : Round E N F) → new.round ≡ Some r → (was : Round E N F) × (old.round ≡ Some was) × (r.entries ≡ was.entries)

  keeps_same : (old new : Board E N F B) → new ≡ old → Keeps old new
  keeps_same old new e = record { sealed = ap (λ z. z.sealed) e; round = λ r is. (r, sym (ap (λ z. z.round) e) ∙ is, refl) }

  keeps_cells : (old new : Board E N F B) (was now : Round E N F) → old.round ≡ Some was → now.entries ≡ was.entries → new ≡ record { sealed = old.sealed; round = Some now } → Keeps old new
  keeps_cells old new was now is same e = record {
    sealed = ap (λ z. z.sealed) e;
    round = λ r at. (was, is, ap (λ z. z.entries) (sym (Some-same now r (sym (ap (λ z. z.round) e) ∙ at))) ∙ same);
  }

  keeps_none : (old new : Board E N F B) → new ≡ record { sealed = old.sealed; round = None } → Keeps old new
  keeps_none old new e = record { sealed = ap (λ z. z.sealed) e; round = λ r at. absurd (let q = sym (ap (λ z. z.round) e) ∙ at in let b : ⊥ = (cc) in b) }

  claims_keeps : (old : Board E N F B) (job : Work N I F) (new : Board E N F B) → Claims w old job new → Keeps old new
  claims_keeps old job new c = keeps_cells old new c.round _ c.is_open refl c.after

  brings_keeps : (old : Board E N F B) (job : Work N I F) (front : F) (brought : Brought) (new : Board E N F B) → Brings w old job front brought new → Keeps old new
  brings_keeps old job front Stale new b = keeps_same old new b.1
  brings_keeps old job front Again new b = keeps_same old new b.1
  brings_keeps old job front Stored new b = keeps_cells old new b.round _ b.is_open refl b.after

  gives_back_keeps : (old : Board E N F B) (job : Work N I F) (freed : Bool) (new : Board E N F B) → GivesBack w old job freed new → Keeps old new
  gives_back_keeps old job true new b = keeps_cells old new b.round _ b.is_open refl b.after
  gives_back_keeps old job false new b = keeps_same old new b.1

  abandons_keeps : (old : Board E N F B) (was_open : Bool) (new : Board E N F B) → Abandons w old was_open new → Keeps old new
  abandons_keeps old true new b = keeps_none old new b.1
  abandons_keeps old false new b = keeps_same old new b.1

  -- the log is as it was, and the board keeps
  kept : (old : State E N I F B) (board : Board E N F B) (jobs : List (Work N I F)) (seen : List (ℕ × ℕ)) → IsLogged w old → Keeps old.board board
      → IsLogged w (record { log = old.log; board = board; jobs = jobs; published = old.published; seen = seen })
  kept old board jobs seen l k = record {
    sealed = subst (λ z. IsPrefix z old.log) (ap (λ z. z.entries) (sym k.sealed)) l.sealed;
    round = λ r is. (let was = k.round r is in subst (λ z. IsPrefix z old.log) (sym was.2) (l.round was.0 was.1));
    published = l.published;
  }

  longer : {X : Type 0} (a b : List X) (x : X) → IsPrefix a b → IsPrefix a (b ++ x ∷ [])
  longer a b x p = prefix_trans a b (b ++ x ∷ []) p (x ∷ [], refl)

  pub step_logged : (old : State E N I F B) (act : Act E) (reply : Reply E N I F B) (new : State E N I F B) → IsLogged w old → Step w old act reply new → IsLogged w new
  step_logged old (Push e) (Pushed k) new l h = subst (IsLogged w) (sym h.1) (record {
    sealed = longer old.board.sealed.entries old.log e l.sealed;
    round = λ r is. longer r.entries old.log e (l.round r is);
    published = λ k v at. longer v.entries old.log e (l.published k v at);
  })
  step_logged old Begin Begun new l h =
      let board = ap (λ z. z.board) h.after ∙ h.opens.after in
      subst (IsLogged w) (sym h.after) (record {
        sealed = subst (λ z. IsPrefix z old.log) (ap (λ z. z.sealed.entries) (sym h.opens.after)) l.sealed;
        round = λ r is. subst (λ z. IsPrefix z old.log) (ap (λ z. z.entries) (Some-same _ r (sym (ap (λ z. z.round) h.opens.after) ∙ is))) h.beginning;
        published = l.published;
      })
  step_logged old Begin Busy new l h = subst (IsLogged w) (sym h.1) l
  step_logged old Begin Last_version new l h = subst (IsLogged w) (sym h.2) l
  step_logged old Begin Too_large new l h = subst (IsLogged w) (sym h.1) l
  step_logged old Claim (Claimed j job) new l h = subst (IsLogged w) (sym h.1.after) (kept old h.1.board (old.jobs ++ job ∷ []) old.seen l (claims_keeps old.board job h.1.board h.1.claims))
  step_logged old Claim None_ready new l h = subst (IsLogged w) (sym h.1) l
  step_logged old (Bring j) (Not_brought k) new l h = subst (IsLogged w) (sym h.2) l
  step_logged old (Bring j) (Was_brought k b) new l h = subst (IsLogged w) (sym h.1.after) (kept old h.1.board old.jobs old.seen l (brings_keeps old.board h.1.job h.1.front b h.1.board h.1.brings))
  step_logged old (Give_back j) (Not_given_back k) new l h = subst (IsLogged w) (sym h.2) l
  step_logged old (Give_back j) (Given_back k freed) new l h = subst (IsLogged w) (sym h.1.after) (kept old h.1.board old.jobs old.seen l (gives_back_keeps old.board h.1.job freed h.1.board h.1.gives_back))
  step_logged old Abandon (Abandoned was_open) new l h = subst (IsLogged w) (sym h.after) (kept old h.board old.jobs old.seen l (abandons_keeps old.board was_open h.board h.abandons))
  step_logged old Seal (Sealed settled version) new l h = subst (IsLogged w) (sym h.1.after) (record {
    sealed = subst (λ z. IsPrefix z old.log) (sym h.1.seals.entries ∙ ap (λ z. z.sealed.entries) (sym h.1.seals.after)) (l.round h.1.seals.round h.1.seals.is_open);
    round = λ r is. absurd (let q = sym (ap (λ z. z.round) h.1.seals.after) ∙ is in let b : ⊥ = (cc) in b);
    published = l.published;
  })
  step_logged old Seal No_round new l h = subst (IsLogged w) (sym h.1) l
  step_logged old Seal (Not_done n) new l h = subst (IsLogged w) (sym h.1) l
  step_logged old Publish (Was_published version) new l h = subst (IsLogged w) (sym h.1.after) (record {
    sealed = l.sealed;
    round = l.round;
    published = λ k v at. ⊎_elim (λ q. l.published k v q.1) (λ q. subst (λ z. IsPrefix z.entries old.log) q.1 l.sealed) (slice_get_push_cases old.published old.board.sealed v k at);
  })
  step_logged old Publish Nothing_new new l h = subst (IsLogged w) (sym h.1) l
  step_logged old (Ask r) (Answered q place version) new l h = subst (IsLogged w) (sym h.1.after) (kept old old.board old.jobs ((r, place) ∷ old.seen) l (keeps_same old.board old.board refl))
  step_logged old act reply new l h = absurd h

  pub run_logged : (old : State E N I F B) (acts : List (Act E)) (replies : List (Reply E N I F B)) (new : State E N I F B) → IsLogged w old → Run w old acts replies new → IsLogged w new
  run_logged old [] [] new l h = subst (IsLogged w) (sym h) l
  run_logged old [] (reply ∷ replies) new l h = absurd h
  run_logged old (act ∷ acts) [] new l h = absurd h
  run_logged old (act ∷ acts) (reply ∷ replies) new l h = run_logged h.0 acts replies new (step_logged old act reply h.0 l h.1) h.2

  pub start_logged : IsLogged w (start w)
  start_logged = record {
    sealed = ([], refl);
    round = λ r e. absurd (let b : ⊥ = (cc) in b);
    published = λ k v e. ⊎_elim (λ q. absurd (let b : ⊥ = (cc) in b)) (λ q. subst (λ z. IsPrefix z.entries []) q.1 ([], refl)) (slice_get_push_cases [] (opening w) v k e);
  }

  pub all_logged : (acts : List (Act E)) (replies : List (Reply E N I F B)) (s : State E N I F B) → Run w (start w) acts replies s → IsLogged w s
  all_logged acts replies s h = run_logged (start w) acts replies s start_logged h

  -- a step puts what it pushes at the end of the log
  same_log : (old new : State E N I F B) → new.log ≡ old.log → new.log ≡ old.log ++ []
  same_log old new e = e ∙ sym (append-nil old.log)

  step_log : (old : State E N I F B) (act : Act E) (reply : Reply E N I F B) (new : State E N I F B) → Step w old act reply new → new.log ≡ old.log ++ pushed_by act
  step_log old (Push e) (Pushed k) new h = ap (λ z. z.log) h.1
  step_log old Begin Begun new h = same_log old new (ap (λ z. z.log) h.after)
  step_log old Begin Busy new h = same_log old new (ap (λ z. z.log) h.1)
  step_log old Begin Last_version new h = same_log old new (ap (λ z. z.log) h.2)
  step_log old Begin Too_large new h = same_log old new (ap (λ z. z.log) h.1)
  step_log old Claim (Claimed j job) new h = same_log old new (ap (λ z. z.log) h.1.after)
  step_log old Claim None_ready new h = same_log old new (ap (λ z. z.log) h.1)
  step_log old (Bring j) (Not_brought k) new h = same_log old new (ap (λ z. z.log) h.2)
  step_log old (Bring j) (Was_brought k b) new h = same_log old new (ap (λ z. z.log) h.1.after)
  step_log old (Give_back j) (Not_given_back k) new h = same_log old new (ap (λ z. z.log) h.2)
  step_log old (Give_back j) (Given_back k freed) new h = same_log old new (ap (λ z. z.log) h.1.after)
  step_log old Abandon (Abandoned was_open) new h = same_log old new (ap (λ z. z.log) h.after)
  step_log old Seal (Sealed settled version) new h = same_log old new (ap (λ z. z.log) h.1.after)
  step_log old Seal No_round new h = same_log old new (ap (λ z. z.log) h.1)
  step_log old Seal (Not_done n) new h = same_log old new (ap (λ z. z.log) h.1)
  step_log old Publish (Was_published version) new h = same_log old new (ap (λ z. z.log) h.1.after)
  step_log old Publish Nothing_new new h = same_log old new (ap (λ z. z.log) h.1)
  step_log old (Ask r) (Answered q place version) new h = same_log old new (ap (λ z. z.log) h.1.after)
  step_log old act reply new h = absurd h

  pub run_log : (old : State E N I F B) (acts : List (Act E)) (replies : List (Reply E N I F B)) (new : State E N I F B) → Run w old acts replies new → new.log ≡ old.log ++ pushed_in acts
  run_log old [] [] new h = same_log old new (ap (λ z. z.log) h)
  run_log old [] (reply ∷ replies) new h = absurd h
  run_log old (act ∷ acts) [] new h = absurd h
  run_log old (act ∷ acts) (reply ∷ replies) new h = run_log h.0 acts replies new h.2 ∙ (ap (λ z. z ++ pushed_in acts) (step_log old act reply h.0 h.1) ∙ append_assoc old.log (pushed_by act) (pushed_in acts))
