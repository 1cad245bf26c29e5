-- Calls for lots: from the turns of a round, one after another, to the machine's steps.
use Rattle.std.proofs.Common.{◌≡◌, ◌≤◌, ◌<◌, ◌∙◌, ◌++◌, ◌∷◌, [], ◌+◌, ℕ, Bool, true, false, List, Result, Ok, Err, IfOk, OnErr, OnOk, Some, None, length, map, refl, sym, ap, subst, arith, true≢false}
use Rattle.std.specs.Result.{is_err}
use Rattle.crew_board.proofs.Answered.{brought, brought-keeps, claimed, claimed-keeps, given-back, given-back-keeps, none-brought, none-claimed, none-given-back}
use Rattle.crew_board.specs.Boards.{IsBoardOf}
use Rattle.crew_board.specs.Lots.{AreResultsOf, AreWorksOf, BringsEach, GivesBackEach, HandsOutEach, HasBroughtLot, HasClaimedLot, HasGivenBackLot, counted, freed_of, tally_of}
use Rattle.crew_board.specs.Machinery.Held.{Marked}
use Rattle.crew_board.specs.Machinery.Settled.{IsRoundOver, board_of}
use Rattle.crew_board.specs.Machinery.Turns.{ClaimsAt, ClaimsEach, HasBrought, HasGivenBack, TakesBack, TakesBackEach, TakesIn, TakesInEach}
use Rattle.crew_board.specs.declared.tally.Tally.{Tally}
use Rattle.crew_job.specs.Jobs.{Job}
use Rattle.crew_machine.specs.Crew.{CrewBoard, DutyWork, Entries}
use Rattle.crew_machine.specs.declared.rounds.Brought.{Brought}
use Rattle.crew_machine.specs.declared.rounds.Brought.TheVariants.{Stale, Again, Stored}
use Rattle.crew_round.specs.Marks as Marks
use Rattle.crew_job.specs.crew_version.Versions.{Snapshot}

-- ---- one more

pub claims-more : (old mid new : Marked) (jobs : List Job) (job : Job) → ClaimsEach old jobs mid → ClaimsAt mid job new → ClaimsEach old (jobs ++ job ∷ []) new
claims-more old mid new [] job e t = (new, subst (λ (z : Marked). ClaimsAt z job new) e t, refl)
claims-more old mid new (j ∷ jobs) job e t = (e.0, e.1, claims-more e.0 mid new jobs job e.2 t)

pub takes-more : (old mid new : Marked) (jobs : List Job) (others : List Brought) (job : Job) (what : Brought) → TakesInEach old jobs others mid → TakesIn mid job what new → TakesInEach old (jobs ++ job ∷ []) (others ++ what ∷ []) new
takes-more old mid new [] [] job what e t = (new, subst (λ (z : Marked). TakesIn z job what new) e t, refl)
takes-more old mid new [] (w ∷ others) job what e t = absurd e
takes-more old mid new (j ∷ jobs) [] job what e t = absurd e
takes-more old mid new (j ∷ jobs) (w ∷ others) job what e t = (e.0, e.1, takes-more e.0 mid new jobs others job what e.2 t)

pub takes-back-more : (old mid new : Marked) (jobs : List Job) (others : List Bool) (job : Job) (what : Bool) → TakesBackEach old jobs others mid → TakesBack mid job what new → TakesBackEach old (jobs ++ job ∷ []) (others ++ what ∷ []) new
takes-back-more old mid new [] [] job what e t = (new, subst (λ (z : Marked). TakesBack z job what new) e t, refl)
takes-back-more old mid new [] (w ∷ others) job what e t = absurd e
takes-back-more old mid new (j ∷ jobs) [] job what e t = absurd e
takes-back-more old mid new (j ∷ jobs) (w ∷ others) job what e t = (e.0, e.1, takes-back-more e.0 mid new jobs others job what e.2 t)

-- ---- the ground stays

pub claims-ground : (old : Marked) (job : Job) (new : Marked) → ClaimsAt old job new → new.ground ≡ old.ground
claims-ground old job new c = ap (λ (z : Marked). z.ground) c.after

pub takes-ground : (old : Marked) (job : Job) (what : Brought) (new : Marked) → TakesIn old job what new → new.ground ≡ old.ground
takes-ground old job what new t = of-turn what t.turn
  where
    of-turn : (w : Brought) → HasBrought old job w new → new.ground ≡ old.ground
    of-turn Stale h = ap (λ (z : Marked). z.ground) h.1
    of-turn Again h = ap (λ (z : Marked). z.ground) h.3
    of-turn Stored h = ap (λ (z : Marked). z.ground) h.after

pub takes-back-ground : (old : Marked) (job : Job) (freed : Bool) (new : Marked) → TakesBack old job freed new → new.ground ≡ old.ground
takes-back-ground old job freed new t = of-turn freed t.turn
  where
    of-turn : (w : Bool) → HasGivenBack old job w new → new.ground ≡ old.ground
    of-turn true h = ap (λ (z : Marked). z.ground) h.3
    of-turn false h = ap (λ (z : Marked). z.ground) h.1

-- ---- tallies

in-turn : (one other : Brought) (t : Tally) → counted one (counted other t) ≡ counted other (counted one t)
in-turn Stored Stored t = refl
in-turn Stored Again t = refl
in-turn Stored Stale t = refl
in-turn Again Stored t = refl
in-turn Again Again t = refl
in-turn Again Stale t = refl
in-turn Stale Stored t = refl
in-turn Stale Again t = refl
in-turn Stale Stale t = refl

pub tally-more : (others : List Brought) (what : Brought) → tally_of (others ++ what ∷ []) ≡ counted what (tally_of others)
tally-more [] what = refl
tally-more (w ∷ others) what = ap (counted w) (tally-more others what) ∙ in-turn w what (tally_of others)

total-counted : (what : Brought) (t : Tally) → (counted what t).stored + (counted what t).again + (counted what t).stale ≡ t.stored + t.again + t.stale + 1
total-counted Stored t = omega arith
total-counted Again t = omega arith
total-counted Stale t = omega arith

pub tally-total : (others : List Brought) → (tally_of others).stored + (tally_of others).again + (tally_of others).stale ≡ length others
tally-total [] = refl
tally-total (what ∷ others) =
    let one = total-counted what (tally_of others) in
    let rest = tally-total others in
    omega (arith, one, rest)

pub takes-long : (old new : Marked) (jobs : List Job) (others : List Brought) → TakesInEach old jobs others new → length others ≡ length jobs
takes-long old new [] [] e = refl
takes-long old new [] (w ∷ others) e = absurd e
takes-long old new (j ∷ jobs) [] e = absurd e
takes-long old new (j ∷ jobs) (w ∷ others) e = let rest = takes-long e.0 new jobs others e.2 in omega (arith, rest)

pub stale-tally : (jobs : List Job) → tally_of (map (λ (job : Job). Stale) jobs) ≡ (let t : Tally = record { stored = 0; again = 0; stale = length jobs } in t)
stale-tally [] = refl
stale-tally (job ∷ jobs) =
    ap (counted Stale) (stale-tally jobs) ∙ ap (λ n. let t : Tally = record { stored = 0; again = 0; stale = n } in t) (omega arith)

pub freed-more : (others : List Bool) (what : Bool) → freed_of (others ++ what ∷ []) ≡ freed_of others + freed_of (what ∷ [])
freed-more [] what = omega arith
freed-more (true ∷ others) what = let rest = freed-more others what in omega (arith, rest)
freed-more (false ∷ others) what = freed-more others what

pub freed-few : (what : Bool) → freed_of (what ∷ []) ≤ 1
freed-few true = omega arith
freed-few false = omega arith

-- ---- with a round open

-- what doesn't fail has what it is to have
pub unless-failed : {X E : Type 0} (result : Result X E) (P : Type 0) → false ≡ is_err result → OnOk result P → P
unless-failed (Ok x) P e h = h
unless-failed (Err fault) P e h = absurd (true≢false (sym e))

pub handed-each : (s : Snapshot) (r : Marked) → IsRoundOver s r → (jobs : List Job) (new : Marked) → ClaimsEach r jobs new → (b : CrewBoard) → IsBoardOf (board_of s (Some r)) b
    → (after : CrewBoard) × HandsOutEach (board_of s (Some r)) b jobs (board_of s (Some new)) after × IsBoardOf (board_of s (Some new)) after
handed-each s r k [] new e b is = (b, (ap (λ (z : Marked). board_of s (Some z)) e, refl), subst (λ (z : Marked). IsBoardOf (board_of s (Some z)) b) (sym e) is)
handed-each s r k (job ∷ jobs) new e b is =
    let step = claimed s r k (Some job) e.0 e.1 b is in
    let over = claimed-keeps s r k (Some job) e.0 e.1 in
    let rest = handed-each s e.0 over jobs new e.2 step.after step.shows in
    (rest.0, (board_of s (Some e.0), step, rest.1), rest.2)

pub claimed-lot : (s : Snapshot) (r : Marked) → IsRoundOver s r → (lot : List Job) (most : ℕ) (new : Marked) → ClaimsEach r lot new → length lot ≤ most → (lot ≡ [] → 0 < most → Marks.NoneReady r.marks) → (b : CrewBoard) → IsBoardOf (board_of s (Some r)) b
    → HasClaimedLot (board_of s (Some r)) b most lot (board_of s (Some new))
claimed-lot s r k lot most new e low none b is =
    let h = handed-each s r k lot new e b is in
    record {
      after = h.0;
      each = h.1;
      shows = h.2;
      few = low;
      some = λ empty asked. (claimed s r k None r (none empty asked, refl) b is).0;
    }

pub claimed-lot-answers : {E : Type 0} (s : Snapshot) (r : Marked) → IsRoundOver s r → (result : Result (List Job) E) (most : ℕ) (new : Marked) → IfOk result (λ lot. ClaimsEach r lot new) → IfOk result (λ lot. length lot ≤ most) → IfOk result (λ lot. lot ≡ [] → 0 < most → Marks.NoneReady r.marks)
    → IfOk result (λ lot. (b : CrewBoard) → IsBoardOf (board_of s (Some r)) b → HasClaimedLot (board_of s (Some r)) b most lot (board_of s (Some new)))
claimed-lot-answers s r k (Ok lot) most new e low none = claimed-lot s r k lot most new e low none
claimed-lot-answers s r k (Err fault) most new e low none = tt

pub claims-keep : (s : Snapshot) (r : Marked) → IsRoundOver s r → (jobs : List Job) (new : Marked) → ClaimsEach r jobs new → IsRoundOver s new
claims-keep s r k [] new e = subst (IsRoundOver s) (sym e) k
claims-keep s r k (job ∷ jobs) new e = claims-keep s e.0 (claimed-keeps s r k (Some job) e.0 e.1) jobs new e.2

pub claimed-lot-over : {E : Type 0} (s : Snapshot) (r : Marked) → IsRoundOver s r → (result : Result (List Job) E) (new : Marked) → IfOk result (λ lot. ClaimsEach r lot new) → OnErr result (new ≡ r) → IsRoundOver s new
claimed-lot-over s r k (Ok lot) new e none = claims-keep s r k lot new e
claimed-lot-over s r k (Err fault) new e same = subst (IsRoundOver s) (sym same) k

pub brought-each : (s : Snapshot) (r : Marked) → IsRoundOver s r → (jobs : List Job) (others : List Brought) (new : Marked) → TakesInEach r jobs others new → (b : CrewBoard) (results : List (DutyWork × Entries)) → IsBoardOf (board_of s (Some r)) b → AreResultsOf jobs results
    → (after : CrewBoard) × BringsEach (board_of s (Some r)) b results others (board_of s (Some new)) after × IsBoardOf (board_of s (Some new)) after
brought-each s r k [] [] new e b [] is all = (b, (ap (λ (z : Marked). board_of s (Some z)) e, refl), subst (λ (z : Marked). IsBoardOf (board_of s (Some z)) b) (sym e) is)
brought-each s r k [] [] new e b (x ∷ results) is all = absurd all
brought-each s r k [] (w ∷ others) new e b results is all = absurd e
brought-each s r k (job ∷ jobs) [] new e b results is all = absurd e
brought-each s r k (job ∷ jobs) (w ∷ others) new e b [] is all = absurd all
brought-each s r k (job ∷ jobs) (w ∷ others) new e b (x ∷ results) is all =
    let t = e.1 in
    let step = brought s r k job t.ground w e.0 t.turn b x.0 x.1 is all.0 all.1 in
    let over = brought-keeps s r k job t.ground t.placed w e.0 t.turn in
    let rest = brought-each s e.0 over jobs others new e.2 step.after results step.shows all.2 in
    (rest.0, (board_of s (Some e.0), step, rest.1), rest.2)

pub takes-keep : (s : Snapshot) (r : Marked) → IsRoundOver s r → (jobs : List Job) (others : List Brought) (new : Marked) → TakesInEach r jobs others new → IsRoundOver s new
takes-keep s r k [] [] new e = subst (IsRoundOver s) (sym e) k
takes-keep s r k [] (w ∷ others) new e = absurd e
takes-keep s r k (job ∷ jobs) [] new e = absurd e
takes-keep s r k (job ∷ jobs) (w ∷ others) new e = let t = e.1 in takes-keep s e.0 (brought-keeps s r k job t.ground t.placed w e.0 t.turn) jobs others new e.2

pub given-back-each : (s : Snapshot) (r : Marked) → IsRoundOver s r → (jobs : List Job) (others : List Bool) (new : Marked) → TakesBackEach r jobs others new → (b : CrewBoard) (works : List DutyWork) → IsBoardOf (board_of s (Some r)) b → AreWorksOf jobs works
    → (after : CrewBoard) × GivesBackEach (board_of s (Some r)) b works others (board_of s (Some new)) after × IsBoardOf (board_of s (Some new)) after
given-back-each s r k [] [] new e b [] is all = (b, (ap (λ (z : Marked). board_of s (Some z)) e, refl), subst (λ (z : Marked). IsBoardOf (board_of s (Some z)) b) (sym e) is)
given-back-each s r k [] [] new e b (x ∷ works) is all = absurd all
given-back-each s r k [] (w ∷ others) new e b works is all = absurd e
given-back-each s r k (job ∷ jobs) [] new e b works is all = absurd e
given-back-each s r k (job ∷ jobs) (w ∷ others) new e b [] is all = absurd all
given-back-each s r k (job ∷ jobs) (w ∷ others) new e b (x ∷ works) is all =
    let t = e.1 in
    let step = given-back s r k job t.ground w e.0 t.turn b x is all.0 in
    let over = given-back-keeps s r k job w e.0 t.turn in
    let rest = given-back-each s e.0 over jobs others new e.2 step.after works step.shows all.1 in
    (rest.0, (board_of s (Some e.0), step, rest.1), rest.2)

pub takes-back-keep : (s : Snapshot) (r : Marked) → IsRoundOver s r → (jobs : List Job) (others : List Bool) (new : Marked) → TakesBackEach r jobs others new → IsRoundOver s new
takes-back-keep s r k [] [] new e = subst (IsRoundOver s) (sym e) k
takes-back-keep s r k [] (w ∷ others) new e = absurd e
takes-back-keep s r k (job ∷ jobs) [] new e = absurd e
takes-back-keep s r k (job ∷ jobs) (w ∷ others) new e = let t = e.1 in takes-back-keep s e.0 (given-back-keeps s r k job w e.0 t.turn) jobs others new e.2

-- ---- with none open

pub none-claimed-lot : (s : Snapshot) (most : ℕ) (b : CrewBoard) → IsBoardOf (board_of s None) b → HasClaimedLot (board_of s None) b most [] (board_of s None)
none-claimed-lot s most b is = record {
  after = b;
  each = (refl, refl);
  shows = is;
  few = omega arith;
  some = λ _ _. (none-claimed s b is).0;
}

none-brought-each : (s : Snapshot) (jobs : List Job) (b : CrewBoard) (results : List (DutyWork × Entries)) → IsBoardOf (board_of s None) b → AreResultsOf jobs results
    → (after : CrewBoard) × BringsEach (board_of s None) b results (map (λ (job : Job). Stale) jobs) (board_of s None) after × IsBoardOf (board_of s None) after
none-brought-each s [] b [] is all = (b, (refl, refl), is)
none-brought-each s [] b (x ∷ results) is all = absurd all
none-brought-each s (job ∷ jobs) b [] is all = absurd all
none-brought-each s (job ∷ jobs) b (x ∷ results) is all =
    let step = none-brought s b x.0 x.1 is in
    let rest = none-brought-each s jobs step.after results step.shows all.2 in
    (rest.0, (board_of s None, step, rest.1), rest.2)

none-given-back-each : (s : Snapshot) (jobs : List Job) (b : CrewBoard) (works : List DutyWork) → IsBoardOf (board_of s None) b → AreWorksOf jobs works
    → (after : CrewBoard) × GivesBackEach (board_of s None) b works (map (λ (job : Job). false) jobs) (board_of s None) after × IsBoardOf (board_of s None) after
none-given-back-each s [] b [] is all = (b, (refl, refl), is)
none-given-back-each s [] b (x ∷ works) is all = absurd all
none-given-back-each s (job ∷ jobs) b [] is all = absurd all
none-given-back-each s (job ∷ jobs) b (x ∷ works) is all =
    let step = none-given-back s b x is in
    let rest = none-given-back-each s jobs step.after works step.shows all.1 in
    (rest.0, (board_of s None, step, rest.1), rest.2)

none-freed : (jobs : List Job) → freed_of (map (λ (job : Job). false) jobs) ≡ 0
none-freed [] = refl
none-freed (job ∷ jobs) = none-freed jobs

pub none-brought-lot : (s : Snapshot) (jobs : List Job) (b : CrewBoard) (results : List (DutyWork × Entries)) → IsBoardOf (board_of s None) b → AreResultsOf jobs results
    → HasBroughtLot (board_of s None) b results (tally_of (map (λ (job : Job). Stale) jobs)) (board_of s None)
none-brought-lot s jobs b results is all =
    let h = none-brought-each s jobs b results is all in
    record {
      after = h.0;
      brought = map (λ (job : Job). Stale) jobs;
      each = h.1;
      shows = h.2;
      counts = refl;
    }

pub none-given-back-lot : (s : Snapshot) (jobs : List Job) (b : CrewBoard) (works : List DutyWork) → IsBoardOf (board_of s None) b → AreWorksOf jobs works → HasGivenBackLot (board_of s None) b works 0 (board_of s None)
none-given-back-lot s jobs b works is all =
    let h = none-given-back-each s jobs b works is all in
    record {
      after = h.0;
      freed = map (λ (job : Job). false) jobs;
      each = h.1;
      shows = h.2;
      counts = sym (none-freed jobs);
    }
