-- What a seal tells a planner.
use Rattle.std.proofs.Common.{◌≡◌, ◌+◌, ◌<◌, ◌∙◌, ◌++◌, ℕ, List, [], ◌∷◌, length, length-append, append-nil, Some, refl, sym, ap, arith}
use Rattle.std.specs.Prelude.{slice_get}
use Rattle.std.specs.Option.{option_map}
use Rattle.crew_board.specs.Boards.{IsBoardOf, ShownBoard, ShownRound, shown_round}
use Rattle.crew_board.specs.Calls.{HasSealed}
use Rattle.crew_flights.specs.declared.entries.Entry.{Entry}
use Rattle.crew_board.specs.crew_machine.Crew.{CrewBoard}
use Rattle.crew_service.specs.Machinery.Sealed.{IsSealedOf}
use Rattle.crew_service.specs.Next.{IsNextOver, IsOwn}
use Rattle.crew_board.proofs.crew_version_lemmas.Places.{prefix-from}
use Rattle.crew_board.specs.crew_version.Versions.{IsRight, Snapshot}

some-same : {A : Type 0} (x y : A) → Some x ≡ Some y → x ≡ y
some-same x y e = cc

-- lists that have the same at each place
pub same-list : {A : Type 0} (xs ys : List A) → length xs ≡ length ys → ((k : ℕ) → k < length xs → slice_get xs k ≡ slice_get ys k) → xs ≡ ys
same-list xs ys e h =
    let p = prefix-from xs ys h in
    let none : length p.0 ≡ 0 = let a = sym (length-append xs p.0) ∙ ap length p.1 in omega (arith, a, e) in
    sym (append-nil xs) ∙ (ap (λ zs. xs ++ zs) (sym (no-length p.0 none)) ∙ p.1)
  where
    no-length : {A : Type 0} (zs : List A) → length zs ≡ 0 → zs ≡ []
    no-length [] e = refl
    no-length (z ∷ zs) e = absurd (omega (arith, e))

-- what a seal gives
pub sealed-of : (old new : ShownBoard) (b : CrewBoard) (v : Snapshot) → IsBoardOf old b → HasSealed old b v new → IsRight v → IsSealedOf old v
sealed-of old new b v is h right =
    let shows = h.version_shows in
    record {
      number = sym (ap (λ (z : Snapshot). z.number) shows) ∙ (h.seals.number ∙ ap (λ (z : ShownBoard). z.sealed.number + 1) is.shows);
      settings = sym (ap (λ (z : Snapshot). z.settings) shows);
      round = shown_round h.seals.round;
      is_open = sym (ap (λ (z : ShownBoard). z.round) is.shows) ∙ ap (option_map shown_round) h.seals.is_open;
      over = sym (ap (λ (z : Snapshot). z.entries) shows) ∙ h.seals.entries;
      right = right;
    }

-- .. where the round is the planner's own
pub next-over : (board : ShownBoard) (version v : Snapshot) (entries : List Entry) → IsOwn board version entries → IsSealedOf board v → IsNextOver version entries v
next-over board version v entries own h =
    let one = some-same h.round own.round (sym h.is_open ∙ own.is_open) in
    record {
      number = h.number ∙ ap (λ n. n + 1) own.number;
      settings = h.settings ∙ own.settings;
      over = h.over ∙ (ap (λ (r : ShownRound). r.entries) one ∙ own.over);
      right = h.right;
    }
