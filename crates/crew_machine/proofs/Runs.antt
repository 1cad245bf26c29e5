-- Every run keeps what is sound.
use Rattle.std.proofs.Common.{◌≡◌, ◌≢◌, ℕ, zero, suc, ◌+◌, ◌-◌, ◌<◌, ◌≤◌, ◌==◌, cond, Bool, true, false, List, [], ◌∷◌, ◌++◌, length, Some, ◌⊎◌, inl, inr, refl, sym, ◌∙◌, ap, subst, ⊎_elim, arith, append_assoc}
use Rattle.std.specs.List.{slice_get}
use Rattle.std.proofs.lemmas.Bool.{cases_Bool}
use Rattle.std.proofs.lemmas.Option.{slice_get_within}
use mathlib.Core.List.{IsPrefix}
use Rattle.crew_resource.specs.Members.{Member}
use Rattle.crew_machine.specs.Worlds.{Work, World}
use Rattle.crew_machine.specs.Rounds.{Abandons, Board, Brings, GivesBack, Opens, Seals, Version}
use Rattle.crew_machine.specs.declared.rounds.Brought.{Brought}
use Rattle.crew_machine.specs.declared.rounds.Brought.TheVariants.{Stale, Again, Stored}
use Rattle.crew_machine.specs.Steps.{Abandon, Abandoned, Act, Answered, Ask, Begin, Begun, Bring, Busy, Claim, Claimed, Give_back, Given_back, Last_version, No_round, None_ready, Not_brought, Not_done, Not_given_back, Nothing_new, Publish, Push, Pushed, Reply, Run, Seal, Sealed, State, Step, Too_large, Was_brought, Was_published, last_of, opening, seen_by, start}
use Rattle.crew_machine.specs.Chains.{Follows, NeverFalls, answers_to}
use Rattle.crew_resource.specs.Chains.{ChainFrom, IsChain}
use Rattle.crew_machine.specs.Machinery.Sound.{IsSound, IsStanding, IsVersion}
use Rattle.crew_machine.specs.Machinery.Worked.{Laws}
use Rattle.crew_machine.proofs.Cells.{Some-same}
use Rattle.crew_machine.proofs.Boards.{abandons_sound, brings_sound, claims_sound, gives_back_sound, opens_sound, seals_sound}

-- the list and one more element
pub slice_get_push_old : {X : Type 0} (xs : List X) (y : X) (i : ℕ) → i < length xs → slice_get (xs ++ y ∷ []) i ≡ slice_get xs i
slice_get_push_old [] y i h = absurd (omega arith)
slice_get_push_old (x ∷ xs) y zero h = refl
slice_get_push_old (x ∷ xs) y (suc i) h = slice_get_push_old xs y i (omega arith)

pub slice_get_push_new : {X : Type 0} (xs : List X) (y : X) → slice_get (xs ++ y ∷ []) (length xs) ≡ Some y
slice_get_push_new [] y = refl
slice_get_push_new (x ∷ xs) y = slice_get_push_new xs y

pub slice_get_push_cases : {X : Type 0} (xs : List X) (y x : X) (i : ℕ) → slice_get (xs ++ y ∷ []) i ≡ Some x → ((i < length xs) × (slice_get xs i ≡ Some x)) ⊎ ((i ≡ length xs) × (y ≡ x))
slice_get_push_cases [] y x zero e = inr (refl, Some-same y x e)
slice_get_push_cases [] y x (suc i) e = absurd (let b : ⊥ = (cc) in b)
slice_get_push_cases (z ∷ xs) y x zero e = inl (omega arith, e)
slice_get_push_cases (z ∷ xs) y x (suc i) e = ⊎_elim (λ k. inl (omega (arith, k.0), k.1)) (λ k. inr (omega (arith, k.0), k.1)) (slice_get_push_cases xs y x i e)

pub length_push_lem : {X : Type 0} (xs : List X) (y : X) → length (xs ++ y ∷ []) ≡ length xs + 1
length_push_lem [] y = refl
length_push_lem (x ∷ xs) y = omega (arith, length_push_lem xs y)

last_push : {X : Type 0} (xs : List X) (y : X) → last_of (xs ++ y ∷ []) ≡ Some y
last_push xs y =
    let n : length (xs ++ y ∷ []) - 1 ≡ length xs = omega (arith, length_push_lem xs y) in
    ap (λ i. slice_get (xs ++ y ∷ []) i) n ∙ slice_get_push_new xs y

pub prefix_trans : {E : Type 0} (a b c : List E) → IsPrefix a b → IsPrefix b c → IsPrefix a c
prefix_trans a b c p q = (p.0 ++ q.0, sym (append_assoc a p.0 q.0) ∙ (ap (λ z. z ++ q.0) p.1 ∙ q.1))

follows_trans : {E N F B : Type 0} (a b c : Version E N F B) → Follows a b → Follows b c → Follows a c
follows_trans a b c p q = record {
  rises = (let x = p.rises in let y = q.rises in omega (arith, x, y));
  begins = prefix_trans a.entries b.entries c.entries p.begins q.begins;
}

-- one more version at the end of a chain
chain_from_push : {E N F B : Type 0} (first : Version E N F B) (versions : List (Version E N F B)) (last v : Version E N F B) → ChainFrom Follows first versions → slice_get (first ∷ versions) (length versions) ≡ Some last → Follows last v → ChainFrom Follows first (versions ++ v ∷ [])
chain_from_push first [] last v chain ends follows = (subst (λ z. Follows z v) (sym (Some-same first last ends)) follows, tt)
chain_from_push first (next ∷ versions) last v chain ends follows = (chain.0, chain_from_push next versions last v chain.1 ends follows)

chain_push : {E N F B : Type 0} (versions : List (Version E N F B)) (last v : Version E N F B) → IsChain Follows versions → last_of versions ≡ Some last → Follows last v → IsChain Follows (versions ++ v ∷ [])
chain_push [] last v chain ends follows = tt
chain_push (first ∷ versions) last v chain ends follows =
    let at : length versions ≡ length (first ∷ versions) - 1 = omega arith in
    chain_from_push first versions last v chain (ap (slice_get (first ∷ versions)) at ∙ ends) follows

module _ {E D N I F B : Type 0} (w : World E D N I F B) (laws : Laws w) where
  -- what a new standing with the same sealed version keeps
  on_standing : (old : State E N I F B) (log : List E) (board : Board E N F B) (jobs : List (Work N I F)) (seen : List (ℕ × ℕ))
      → IsSound w old → IsStanding w board → old.board.sealed ≡ board.sealed
      → IsSound w (record { log = log; board = board; jobs = jobs; published = old.published; seen = seen })
  on_standing old log board jobs seen s b same = record {
    board = b;
    published = s.published;
    chain = s.chain;
    newest = subst (λ z. (v : Version E N F B) × (last_of old.published ≡ Some v) × ((v ≡ z) ⊎ Follows v z)) same s.newest;
  }

  opens_same : (old : Board E N F B) (entries : List E) (new : Board E N F B) → Opens w old entries new → old.sealed ≡ new.sealed
  opens_same old entries new o = ap (λ z. z.sealed) (sym o.after)

  brings_same : (old : Board E N F B) (job : Work N I F) (front : F) (brought : Brought) (new : Board E N F B) → Brings w old job front brought new → old.sealed ≡ new.sealed
  brings_same old job front Stale new b = ap (λ z. z.sealed) (sym b.1)
  brings_same old job front Again new b = ap (λ z. z.sealed) (sym b.1)
  brings_same old job front Stored new b = ap (λ z. z.sealed) (sym b.after)

  gives_back_same : (old : Board E N F B) (job : Work N I F) (freed : Bool) (new : Board E N F B) → GivesBack w old job freed new → old.sealed ≡ new.sealed
  gives_back_same old job true new b = ap (λ z. z.sealed) (sym b.after)
  gives_back_same old job false new b = ap (λ z. z.sealed) (sym b.1)

  abandons_same : (old : Board E N F B) (was_open : Bool) (new : Board E N F B) → Abandons w old was_open new → old.sealed ≡ new.sealed
  abandons_same old true new b = ap (λ z. z.sealed) (sym b.1)
  abandons_same old false new b = ap (λ z. z.sealed) (sym b.1)

  seals_newest : (old : State E N I F B) (version : Version E N F B) (board : Board E N F B) → IsSound w old → Seals w old.board version board
      → (v : Version E N F B) × (last_of old.published ≡ Some v) × ((v ≡ version) ⊎ Follows v version)
  seals_newest old version board s c =
      let begins = (s.board.round c.round c.is_open).begins in
      let number = c.number in let next : Follows old.board.sealed version = record { rises = omega (arith, number); begins = (begins.0, begins.1 ∙ sym c.entries) } in
      (s.newest.0, s.newest.1, inr (⊎_elim (λ e. subst (λ z. Follows z version) (sym e) next) (λ f. follows_trans s.newest.0 old.board.sealed version f next) s.newest.2))

  shows_sound : (old : State E N I F B) → IsSound w old → last_of old.published ≢ Some old.board.sealed
      → IsSound w (record { log = old.log; board = old.board; jobs = old.jobs; published = old.published ++ old.board.sealed ∷ []; seen = old.seen })
  shows_sound old s is_new = record {
    board = s.board;
    published = λ k v e. ⊎_elim (λ q. s.published k v q.1) (λ q. subst (IsVersion w) q.1 s.board.sealed) (slice_get_push_cases old.published old.board.sealed v k e);
    chain = chain_push old.published s.newest.0 old.board.sealed s.chain s.newest.1 (⊎_elim (λ e. absurd (is_new (s.newest.1 ∙ ap Some e))) (λ f. f) s.newest.2);
    newest = (old.board.sealed, last_push old.published old.board.sealed, inl refl);
  }

  pub step_sound : (old : State E N I F B) (act : Act E) (reply : Reply E N I F B) (new : State E N I F B) → IsSound w old → Step w old act reply new → IsSound w new
  step_sound old (Push e) (Pushed k) new s h = subst (IsSound w) (sym h.1) (on_standing old (old.log ++ e ∷ []) old.board old.jobs old.seen s s.board refl)
  step_sound old Begin Begun new s h = subst (IsSound w) (sym h.after) (on_standing old old.log h.board old.jobs old.seen s (opens_sound w laws old.board h.entries h.board s.board h.opens) (opens_same old.board h.entries h.board h.opens))
  step_sound old Begin Busy new s h = subst (IsSound w) (sym h.1) s
  step_sound old Begin Last_version new s h = subst (IsSound w) (sym h.2) s
  step_sound old Begin Too_large new s h = subst (IsSound w) (sym h.1) s
  step_sound old Claim (Claimed j job) new s h = subst (IsSound w) (sym h.1.after) (on_standing old old.log h.1.board (old.jobs ++ job ∷ []) old.seen s (claims_sound w laws old.board job h.1.board s.board h.1.claims) (ap (λ z. z.sealed) (sym h.1.claims.after)))
  step_sound old Claim None_ready new s h = subst (IsSound w) (sym h.1) s
  step_sound old (Bring j) (Not_brought k) new s h = subst (IsSound w) (sym h.2) s
  step_sound old (Bring j) (Was_brought k b) new s h = subst (IsSound w) (sym h.1.after) (on_standing old old.log h.1.board old.jobs old.seen s (brings_sound w laws old.board h.1.job h.1.front b h.1.board s.board h.1.brings) (brings_same old.board h.1.job h.1.front b h.1.board h.1.brings))
  step_sound old (Give_back j) (Not_given_back k) new s h = subst (IsSound w) (sym h.2) s
  step_sound old (Give_back j) (Given_back k freed) new s h = subst (IsSound w) (sym h.1.after) (on_standing old old.log h.1.board old.jobs old.seen s (gives_back_sound w laws old.board h.1.job freed h.1.board s.board h.1.gives_back) (gives_back_same old.board h.1.job freed h.1.board h.1.gives_back))
  step_sound old Abandon (Abandoned was_open) new s h = subst (IsSound w) (sym h.after) (on_standing old old.log h.board old.jobs old.seen s (abandons_sound w laws old.board was_open h.board s.board h.abandons) (abandons_same old.board was_open h.board h.abandons))
  step_sound old Seal (Sealed settled version) new s h = subst (IsSound w) (sym h.1.after) (record {
    board = seals_sound w laws old.board version h.1.board s.board h.1.seals;
    published = s.published;
    chain = s.chain;
    newest = subst (λ z. (v : Version E N F B) × (last_of old.published ≡ Some v) × ((v ≡ z) ⊎ Follows v z)) (ap (λ z. z.sealed) (sym h.1.seals.after)) (seals_newest old version h.1.board s h.1.seals);
  })
  step_sound old Seal No_round new s h = subst (IsSound w) (sym h.1) s
  step_sound old Seal (Not_done n) new s h = subst (IsSound w) (sym h.1) s
  step_sound old Publish (Was_published version) new s h = subst (IsSound w) (sym h.1.after) (shows_sound old s h.1.is_new)
  step_sound old Publish Nothing_new new s h = subst (IsSound w) (sym h.1) s
  step_sound old (Ask r) (Answered q place version) new s h = subst (IsSound w) (sym h.1.after) (on_standing old old.log old.board old.jobs ((r, place) ∷ old.seen) s s.board refl)
  step_sound old act reply new s h = absurd h

  pub run_sound : (old : State E N I F B) (acts : List (Act E)) (replies : List (Reply E N I F B)) (new : State E N I F B) → IsSound w old → Run w old acts replies new → IsSound w new
  run_sound old [] [] new s h = subst (IsSound w) (sym h) s
  run_sound old [] (reply ∷ replies) new s h = absurd h
  run_sound old (act ∷ acts) [] new s h = absurd h
  run_sound old (act ∷ acts) (reply ∷ replies) new s h = run_sound h.0 acts replies new (step_sound old act reply h.0 s h.1) h.2

  pub start_sound : IsSound w (start w)
  start_sound = record {
    board = record { sealed = laws.opening; number = omega arith; round = λ r e. absurd (let b : ⊥ = (cc) in b) };
    published = λ k v e. ⊎_elim (λ q. absurd (let b : ⊥ = (cc) in b)) (λ q. subst (IsVersion w) q.1 laws.opening) (slice_get_push_cases [] (opening w) v k e);
    chain = tt;
    newest = (opening w, refl, inl refl);
  }

  -- every run from the start is sound
  pub all_sound : (acts : List (Act E)) (replies : List (Reply E N I F B)) (s : State E N I F B) → Run w (start w) acts replies s → IsSound w s
  all_sound acts replies s h = run_sound (start w) acts replies s start_sound h

  -- the places that one reader is answered
  step_seen : (r : ℕ) (old : State E N I F B) (act : Act E) (reply : Reply E N I F B) (mid : State E N I F B) (acts : List (Act E)) (replies : List (Reply E N I F B))
      → Step w old act reply mid → NeverFalls (seen_by r mid.seen) (answers_to r acts replies) → NeverFalls (seen_by r old.seen) (answers_to r (act ∷ acts) (reply ∷ replies))
  step_seen r old (Push e) (Pushed k) mid acts replies h n = subst (λ z. NeverFalls (seen_by r z.seen) (answers_to r acts replies)) h.1 n
  step_seen r old Begin Begun mid acts replies h n = subst (λ z. NeverFalls (seen_by r z.seen) (answers_to r acts replies)) h.after n
  step_seen r old Begin Busy mid acts replies h n = subst (λ z. NeverFalls (seen_by r z.seen) (answers_to r acts replies)) h.1 n
  step_seen r old Begin Last_version mid acts replies h n = subst (λ z. NeverFalls (seen_by r z.seen) (answers_to r acts replies)) h.2 n
  step_seen r old Begin Too_large mid acts replies h n = subst (λ z. NeverFalls (seen_by r z.seen) (answers_to r acts replies)) h.1 n
  step_seen r old Claim (Claimed j job) mid acts replies h n = subst (λ z. NeverFalls (seen_by r z.seen) (answers_to r acts replies)) h.1.after n
  step_seen r old Claim None_ready mid acts replies h n = subst (λ z. NeverFalls (seen_by r z.seen) (answers_to r acts replies)) h.1 n
  step_seen r old (Bring j) (Not_brought k) mid acts replies h n = subst (λ z. NeverFalls (seen_by r z.seen) (answers_to r acts replies)) h.2 n
  step_seen r old (Bring j) (Was_brought k b) mid acts replies h n = subst (λ z. NeverFalls (seen_by r z.seen) (answers_to r acts replies)) h.1.after n
  step_seen r old (Give_back j) (Not_given_back k) mid acts replies h n = subst (λ z. NeverFalls (seen_by r z.seen) (answers_to r acts replies)) h.2 n
  step_seen r old (Give_back j) (Given_back k freed) mid acts replies h n = subst (λ z. NeverFalls (seen_by r z.seen) (answers_to r acts replies)) h.1.after n
  step_seen r old Abandon (Abandoned was_open) mid acts replies h n = subst (λ z. NeverFalls (seen_by r z.seen) (answers_to r acts replies)) h.after n
  step_seen r old Seal (Sealed settled version) mid acts replies h n = subst (λ z. NeverFalls (seen_by r z.seen) (answers_to r acts replies)) h.1.after n
  step_seen r old Seal No_round mid acts replies h n = subst (λ z. NeverFalls (seen_by r z.seen) (answers_to r acts replies)) h.1 n
  step_seen r old Seal (Not_done m) mid acts replies h n = subst (λ z. NeverFalls (seen_by r z.seen) (answers_to r acts replies)) h.1 n
  step_seen r old Publish (Was_published version) mid acts replies h n = subst (λ z. NeverFalls (seen_by r z.seen) (answers_to r acts replies)) h.1.after n
  step_seen r old Publish Nothing_new mid acts replies h n = subst (λ z. NeverFalls (seen_by r z.seen) (answers_to r acts replies)) h.1 n
  step_seen r old (Ask q) (Answered q' place version) mid acts replies h n =
      let after : NeverFalls (cond (q == r) place (seen_by r old.seen)) (answers_to r acts replies) = subst (λ z. NeverFalls (seen_by r z.seen) (answers_to r acts replies)) h.1.after n in
      ⊎_elim
      (λ t.
      let same : q ≡ r = grind (arith, t) in
      let low : seen_by r old.seen ≤ place = subst (λ z. seen_by z old.seen ≤ place) same h.1.not_before in
      let at : NeverFalls place (answers_to r acts replies) = rw t at after in
      rw t (low, at))
      (λ f. let at : NeverFalls (seen_by r old.seen) (answers_to r acts replies) = rw f at after in rw f at)
      (cases_Bool (q == r))
  step_seen r old act reply mid acts replies h n = absurd h

  -- no answer is before that reader's last
  pub run_seen : (r : ℕ) (old : State E N I F B) (acts : List (Act E)) (replies : List (Reply E N I F B)) (new : State E N I F B) → Run w old acts replies new → NeverFalls (seen_by r old.seen) (answers_to r acts replies)
  run_seen r old [] [] new h = tt
  run_seen r old [] (reply ∷ replies) new h = absurd h
  run_seen r old (act ∷ acts) [] new h = absurd h
  run_seen r old (act ∷ acts) (reply ∷ replies) new h = step_seen r old act reply h.0 acts replies h.1 (run_seen r h.0 acts replies new h.2)

  -- what stands in the published list stays there
  stays_published : (old new : State E N I F B) (place : ℕ) (v : Version E N F B) → old.published ≡ new.published → slice_get old.published place ≡ Some v → slice_get new.published place ≡ Some v
  stays_published old new place v e h = subst (λ z. slice_get z place ≡ Some v) e h

  step_published : (old : State E N I F B) (act : Act E) (reply : Reply E N I F B) (new : State E N I F B) (place : ℕ) (v : Version E N F B) → Step w old act reply new → slice_get old.published place ≡ Some v → slice_get new.published place ≡ Some v
  step_published old (Push e) (Pushed k) new place v h s = stays_published old new place v (ap (λ z. z.published) (sym (h.1))) s
  step_published old Begin Begun new place v h s = stays_published old new place v (ap (λ z. z.published) (sym (h.after))) s
  step_published old Begin Busy new place v h s = stays_published old new place v (ap (λ z. z.published) (sym (h.1))) s
  step_published old Begin Last_version new place v h s = stays_published old new place v (ap (λ z. z.published) (sym (h.2))) s
  step_published old Begin Too_large new place v h s = stays_published old new place v (ap (λ z. z.published) (sym (h.1))) s
  step_published old Claim (Claimed j job) new place v h s = stays_published old new place v (ap (λ z. z.published) (sym (h.1.after))) s
  step_published old Claim None_ready new place v h s = stays_published old new place v (ap (λ z. z.published) (sym (h.1))) s
  step_published old (Bring j) (Not_brought k) new place v h s = stays_published old new place v (ap (λ z. z.published) (sym (h.2))) s
  step_published old (Bring j) (Was_brought k b) new place v h s = stays_published old new place v (ap (λ z. z.published) (sym (h.1.after))) s
  step_published old (Give_back j) (Not_given_back k) new place v h s = stays_published old new place v (ap (λ z. z.published) (sym (h.2))) s
  step_published old (Give_back j) (Given_back k freed) new place v h s = stays_published old new place v (ap (λ z. z.published) (sym (h.1.after))) s
  step_published old Abandon (Abandoned was_open) new place v h s = stays_published old new place v (ap (λ z. z.published) (sym (h.after))) s
  step_published old Seal (Sealed settled version) new place v h s = stays_published old new place v (ap (λ z. z.published) (sym (h.1.after))) s
  step_published old Seal No_round new place v h s = stays_published old new place v (ap (λ z. z.published) (sym (h.1))) s
  step_published old Seal (Not_done n) new place v h s = stays_published old new place v (ap (λ z. z.published) (sym (h.1))) s
  step_published old Publish (Was_published version) new place v h s =
      let within = slice_get_within old.published place v s in
      subst (λ z. slice_get z.published place ≡ Some v) (sym h.1.after) (slice_get_push_old old.published old.board.sealed place within ∙ s)
  step_published old Publish Nothing_new new place v h s = stays_published old new place v (ap (λ z. z.published) (sym (h.1))) s
  step_published old (Ask r) (Answered q at version) new place v h s = stays_published old new place v (ap (λ z. z.published) (sym (h.1.after))) s
  step_published old act reply new place v h s = absurd h

  run_published : (old : State E N I F B) (acts : List (Act E)) (replies : List (Reply E N I F B)) (new : State E N I F B) (place : ℕ) (v : Version E N F B) → Run w old acts replies new → slice_get old.published place ≡ Some v → slice_get new.published place ≡ Some v
  run_published old [] [] new place v h s = stays_published old new place v (ap (λ z. z.published) (sym h)) s
  run_published old [] (reply ∷ replies) new place v h s = absurd h
  run_published old (act ∷ acts) [] new place v h s = absurd h
  run_published old (act ∷ acts) (reply ∷ replies) new place v h s = run_published h.0 acts replies new place v h.2 (step_published old act reply h.0 place v h.1 s)

  -- an answer is a published version
  step_answers : (old : State E N I F B) (act : Act E) (reader place : ℕ) (v : Version E N F B) (new : State E N I F B) → Step w old act (Answered reader place v) new → slice_get new.published place ≡ Some v
  step_answers old (Ask r) reader place v new h = stays_published old new place v (ap (λ z. z.published) (sym h.1.after)) h.1.stands
  step_answers old (Push e) reader place v new h = absurd h
  step_answers old Begin reader place v new h = absurd h
  step_answers old Claim reader place v new h = absurd h
  step_answers old (Bring j) reader place v new h = absurd h
  step_answers old (Give_back j) reader place v new h = absurd h
  step_answers old Abandon reader place v new h = absurd h
  step_answers old Seal reader place v new h = absurd h
  step_answers old Publish reader place v new h = absurd h

  pub run_answers : (old : State E N I F B) (acts : List (Act E)) (replies : List (Reply E N I F B)) (new : State E N I F B) (reader place : ℕ) (v : Version E N F B) → Run w old acts replies new → Member replies (Answered reader place v) → slice_get new.published place ≡ Some v
  run_answers old [] [] new reader place v h m = absurd m
  run_answers old [] (reply ∷ replies) new reader place v h m = absurd h
  run_answers old (act ∷ acts) [] new reader place v h m = absurd h
  run_answers old (act ∷ acts) (reply ∷ replies) new reader place v h m =
      ⊎_elim
      (λ e. run_published h.0 acts replies new place v h.2 (step_answers old act reader place v h.0 (subst (λ z. Step w old act z h.0) e h.1)))
      (λ k. run_answers h.0 acts replies new reader place v h.2 k)
      m
