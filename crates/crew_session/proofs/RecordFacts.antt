-- How what was written goes on by a record, whatever each record does.
use Rattle.std.proofs.Common.{◌≡◌, ◌≤◌, ◌<◌, ◌+◌, ◌∙◌, ℕ, suc, List, [], ◌∷◌, ◌++◌, length, take, Option, Some, None, refl, sym, ap, subst, arith, option_map, append_assoc, inl, inr}
use Rattle.std.specs.Prelude.{IfSome}
use Rattle.std.specs.Io.KnownBytes.{Appends, Keeps}
use Rattle.std.proofs.lemmas.List.{append-nil, take_all}
use Rattle.csv.specs.Reading.{default_config, records_from, strip_bom}
use Rattle.csv.specs.declared.parser.State.TheVariants as st
use Rattle.crew_records.specs.Fields.{Fields}
use Rattle.crew_session.specs.Rows.{HasNoRow, TakesRow, records_of}
use Rattle.crew_session.specs.Machinery.Endings.{HasEndedBy}
use Rattle.crew_session.specs.declared.ending.Ending.{Ending}
use Rattle.crew_session.specs.declared.ending.Ending.TheVariants.{AtEnd, TooManyRecords}
use Rattle.crew_session.specs.Stops.{HasTooManyRecords}
use Rattle.crew_session.specs.Texts.{BeginsOne}
use Rattle.crew_session.specs.Writes.{BeginsBy, WritesBy}
use Rattle.crew_session.proofs.BeginFacts.{begins-then, begins-whole}
use Rattle.crew_session.proofs.LineFacts.{appends-both, appends-none}

appends-kept : (a b c : Option (List ℕ)) (text : List ℕ) → Appends a b text → Keeps b c → Appends a c text
appends-kept None b c text w k = tt
appends-kept (Some x) None c text w k = absurd w
appends-kept (Some x) (Some y) None text w k = absurd k
appends-kept (Some x) (Some y) (Some z) text w k = k ∙ w

-- a reader at the start of known bytes has all of their records left
pub rows-at-start : (known source : Option (List ℕ)) (P : List Fields → Type 0) → source ≡ option_map strip_bom known
    → IfSome (option_map (λ xs. records_from default_config (length xs + 1) st.StartRecord xs) source) P → IfSome known (λ bytes. P (records_of bytes))
rows-at-start None source P e h = tt
rows-at-start (Some bytes) source P e h = rw e at h

module _ {A : Type 0} (Obeys : ℕ → Fields → A → A → List ℕ → Type 0) where
  -- the reading has come this far: what it wrote, with what the records that are left write, is what all write
  abbrev pub HasWritten : Option (List Fields) → Option (List Fields) → Option (List ℕ) → Option (List ℕ) → ℕ → A → A → Type 0
  HasWritten None left old new number first now = Unit {0}
  HasWritten (Some all) None old new number first now = ⊥
  HasWritten (Some all) (Some left) old new number first now =
      (done : List ℕ) × Appends old new done × ((rest : List ℕ) → WritesBy Obeys number now left rest → WritesBy Obeys 0 first all (done ++ rest)) × (length left + number ≡ length all)
      × ((k : ℕ) (rest : List ℕ) → WritesBy Obeys number now (take k left) rest → WritesBy Obeys 0 first (take (number + k) all) (done ++ rest))

  -- nothing was written yet
  pub written-start : (all : Option (List Fields)) (w : Option (List ℕ)) (a : A) → HasWritten all all w w 0 a a
  written-start None w a = tt
  written-start (Some rows) w a = ([], appends-none w, λ rest h. h, omega arith, λ k rest h. subst (λ (n : ℕ). WritesBy Obeys 0 a (take n rows) rest) (first-so-many k) h)
    where
      first-so-many : (k : ℕ) → k ≡ 0 + k
      first-so-many k = omega arith

  -- a record was obeyed
  pub written-more : (all before left : Option (List Fields)) (old mid new : Option (List ℕ)) (number : ℕ) (first a b : A) (row : Fields) (line : List ℕ)
      → HasWritten all before old mid number first a → TakesRow before left row → Appends mid new line → Obeys (number + 1) row a b line
      → HasWritten all left old new (number + 1) first b
  written-more None before left old mid new number first a b row line h r w o = tt
  written-more (Some all) None left old mid new number first a b row line h r w o = absurd h
  written-more (Some all) (Some rows) None old mid new number first a b row line h r w o = absurd r
  written-more (Some all) (Some rows) (Some rest) old mid new number first a b row line h r w o =
      let count : length rest + (number + 1) ≡ length all = omega (arith, ap length r, h.3) in (
        h.0 ++ line,
        appends-both old mid new h.0 line h.1 w,
        λ text more. subst (WritesBy Obeys 0 first all) (sym (append_assoc h.0 line text)) (h.2 (line ++ text) (subst (λ (xs : List Fields). WritesBy Obeys number a xs (line ++ text)) (sym r) (b, line, text, o, more, refl))),
        count,
        λ k text more.
            let placed : number + suc k ≡ (number + 1) + k = omega arith in
            let shifted = subst (WritesBy Obeys 0 first (take (number + suc k) all)) (sym (append_assoc h.0 line text))
            (h.4 (suc k) (line ++ text) (subst (λ (xs : List Fields). WritesBy Obeys number a (take (suc k) xs) (line ++ text)) (sym r) (b, line, text, o, more, refl))) in
            subst (λ (n : ℕ). WritesBy Obeys 0 first (take n all) ((h.0 ++ line) ++ text)) placed shifted,
      )

  -- what was written by now is the text of the first records
  text-so-far : (number : ℕ) (first : A) (all : List Fields) (done : List ℕ) → WritesBy Obeys 0 first (take (number + 0) all) (done ++ []) → WritesBy Obeys 0 first (take number all) done
  text-so-far number first all done w =
      let same : number + 0 ≡ number = omega arith in
      subst (λ (n : ℕ). WritesBy Obeys 0 first (take n all) done) same (subst (WritesBy Obeys 0 first (take (number + 0) all)) (append-nil done) w)

  -- it stops between two records
  pub stopped-between : (all left : Option (List Fields)) (old new : Option (List ℕ)) (number : ℕ) (first a : A)
      → HasWritten all left old new number first a → number ≤ 2_000_000 → IfSome all (λ rows. BeginsBy Obeys first rows old new)
  stopped-between None left old new number first a h small = tt
  stopped-between (Some all) None old new number first a h small = absurd h
  stopped-between (Some all) (Some rows) old new number first a h small =
      record { count = number; few = small; text = h.0; first = text-so-far number first all h.0 (h.4 0 [] refl); begun = begins-whole old new h.0 h.1 }

  -- it stops in a record
  stopped-by : (all rows rest : List Fields) (old mid new : Option (List ℕ)) (number : ℕ) (first a : A) (row : Fields)
      → HasWritten (Some all) (Some rows) old mid number first a → rows ≡ row ∷ rest
      → BeginsOne mid new (λ text. (b : A) × Obeys (number + 1) row a b text) → number < 2_000_000 → BeginsBy Obeys first all old new
  stopped-by all rows rest old mid new number first a row h r (inl none) small =
      record {
        count = number;
        few = omega arith;
        text = h.0;
        first = text-so-far number first all h.0 (h.4 0 [] refl);
        begun = begins-whole old new h.0 (subst (Appends old new) (append-nil h.0) (appends-both old mid new h.0 [] h.1 none));
      }
  stopped-by all rows rest old mid new number first a row h r (inr told) small =
      record {
        count = number + 1;
        few = omega arith;
        text = h.0 ++ told.0;
        first = h.4 1 told.0 (subst (λ (xs : List Fields). WritesBy Obeys number a (take 1 xs) told.0) (sym r) (told.1.0, told.0, [], told.1.1, refl, sym (append-nil told.0)));
        begun = begins-then old mid new h.0 told.0 h.1 told.2;
      }

  pub stopped-in : (all before left : Option (List Fields)) (old mid new : Option (List ℕ)) (number : ℕ) (first a : A) (row : Fields)
      → HasWritten all before old mid number first a → TakesRow before left row
      → BeginsOne mid new (λ text. (b : A) × Obeys (number + 1) row a b text) → number < 2_000_000 → IfSome all (λ rows. BeginsBy Obeys first rows old new)
  stopped-in None before left old mid new number first a row h r told small = tt
  stopped-in (Some all) None left old mid new number first a row h r told small = absurd h
  stopped-in (Some all) (Some rows) None old mid new number first a row h r told small = absurd r
  stopped-in (Some all) (Some rows) (Some rest) old mid new number first a row h r told small =
      stopped-by all rows rest old mid new number first a row h r told small

  -- all records were obeyed
  pub begun-by-all : (a : A) (rows : List Fields) (old new : Option (List ℕ)) → HasEndedBy Obeys a rows old new AtEnd → BeginsBy Obeys a rows old new
  begun-by-all a rows old new h =
      record {
        count = length rows;
        few = h.1;
        text = h.0.0;
        first = subst (λ (xs : List Fields). WritesBy Obeys 0 a xs h.0.0) (sym (take_all (length rows) rows (omega arith))) h.0.2;
        begun = begins-whole old new h.0.0 h.0.1;
      }

  -- no record is left
  pub written-ended : (all left : Option (List Fields)) (old new : Option (List ℕ)) (number : ℕ) (first a : A)
      → HasWritten all left old new number first a → HasNoRow left → number ≤ 2_000_000 → IfSome all (λ rows. HasEndedBy Obeys first rows old new AtEnd)
  written-ended None left old new number first a h e small = tt
  written-ended (Some all) None old new number first a h e small = absurd h
  written-ended (Some all) (Some rows) old new number first a h e small =
      let few : length all ≤ 2_000_000 = omega (arith, ap length e, h.3) in
      ((h.0, h.1, subst (WritesBy Obeys 0 first all) (append-nil h.0) (h.2 [] (subst (λ (xs : List Fields). WritesBy Obeys number a xs []) (sym e) refl))), few)

  -- a record is left after 2,000,000
  pub written-over : (all before left : Option (List Fields)) (row : Fields) (old new : Option (List ℕ)) (number : ℕ) (first a : A)
      → HasWritten all before old new number first a → TakesRow before left row → number ≡ 2_000_000 → IfSome all (λ rows. HasEndedBy Obeys first rows old new TooManyRecords)
  written-over None before left row old new number first a h r many = tt
  written-over (Some all) None left row old new number first a h r many = absurd h
  written-over (Some all) (Some rows) None row old new number first a h r many = absurd r
  written-over (Some all) (Some rows) (Some rest) row old new number first a h r many =
      (stopped-between (Some all) (Some rows) old new number first a h (omega arith), omega (arith, ap length r, h.3))

  -- all that was written has gone out
  pub ended-kept : (a : A) (known : Option (List ℕ)) (old mid new : Option (List ℕ)) (ending : Ending) → IfSome known (λ bytes. HasEndedBy Obeys a (records_of bytes) old mid ending) → ending ≡ AtEnd → Keeps mid new
      → IfSome known (λ bytes. HasEndedBy Obeys a (records_of bytes) old new AtEnd)
  ended-kept a None old mid new ending h e k = tt
  ended-kept a (Some bytes) old mid new ending h e k =
      let all = subst (HasEndedBy Obeys a (records_of bytes) old mid) e h in
      ((all.0.0, appends-kept old mid new all.0.0 all.0.1 k, all.0.2), all.1)

  pub ended-begun : (a : A) (known : Option (List ℕ)) (old mid new : Option (List ℕ)) (ending : Ending) → IfSome known (λ bytes. HasEndedBy Obeys a (records_of bytes) old mid ending) → ending ≡ AtEnd → Keeps mid new
      → IfSome known (λ bytes. BeginsBy Obeys a (records_of bytes) old new)
  ended-begun a None old mid new ending h e k = tt
  ended-begun a (Some bytes) old mid new ending h e k = begun-by-all a (records_of bytes) old new (ended-kept a (Some bytes) old mid new ending h e k)

  -- there were too many records
  pub over-begun : (a : A) (known : Option (List ℕ)) (old new : Option (List ℕ)) (ending : Ending) → IfSome known (λ bytes. HasEndedBy Obeys a (records_of bytes) old new ending) → ending ≡ TooManyRecords
      → IfSome known (λ bytes. BeginsBy Obeys a (records_of bytes) old new)
  over-begun a None old new ending h e = tt
  over-begun a (Some bytes) old new ending h e = (subst (HasEndedBy Obeys a (records_of bytes) old new) e h).0

  pub over-many : (a : A) (known : Option (List ℕ)) (old new : Option (List ℕ)) (ending : Ending) → IfSome known (λ bytes. HasEndedBy Obeys a (records_of bytes) old new ending) → ending ≡ TooManyRecords → HasTooManyRecords known
  over-many a None old new ending h e = tt
  over-many a (Some bytes) old new ending h e = (subst (HasEndedBy Obeys a (records_of bytes) old new) e h).1
