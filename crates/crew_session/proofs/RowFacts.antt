-- How a read of a record moves the records that are left.
use Rattle.std.proofs.Common.{◌≡◌, ◌<◌, ◌+◌, ◌⊎◌, ℕ, zero, suc, List, [], ◌∷◌, ◌++◌, length, Bool, true, false, Option, Some, None, refl, sym, ap, subst, ◌∙◌, inl, inr, arith, add-one, if◌then◌else◌, option_map}
use Rattle.csv.specs.Machine.{Read, ends_at_end, field_after, fields_after, is_end, next_record, step}
use Rattle.csv.specs.Reading.{NextIs, ReadRecord, ReadsNext, default_config, pending_of, records_from, records_next, source_of}
use Rattle.csv.specs.declared.parser.Config.{Config}
use Rattle.csv.specs.declared.parser.State.{State}
use Rattle.csv.specs.declared.parser.State.TheVariants as st
use Rattle.csv.specs.declared.reader.Reader.{Reader}
use Rattle.crew_records.specs.Fields.{Fields}
use Rattle.crew_session.specs.Rows.{HasNoRow, TakesRow, rows_left}

-- a record leaves fewer bytes, or it was the last
abbrev Shortens : List ℕ → Read → Type 0
Shortens xs p = (length p.2 < length xs) ⊎ ((p.1 ≡ st.StartRecord) × (p.2 ≡ []))

shortens-more : (c : ℕ) (rest : List ℕ) (p : Read) → Shortens rest p → Shortens (c ∷ rest) p
shortens-more c rest p (inl h) = inl (omega arith)
shortens-more c rest p (inr h) = inr h

last-shortens : (b : Bool) (q p : Read) → (if b then Some q else None) ≡ Some p → q.1 ≡ st.StartRecord → q.2 ≡ [] → Shortens [] p
last-shortens true q p e s n = let same : q ≡ p = cc in subst (Shortens []) same (inr (s, n))
last-shortens false q p e s n = cc

step-shortens : (b : Bool) (q p : Read) (more : Option Read) (c : ℕ) (rest : List ℕ) → (if b then Some q else more) ≡ Some p → q.2 ≡ rest
    → (more ≡ Some p → Shortens rest p) → Shortens (c ∷ rest) p
step-shortens true q p more c rest e s k =
    let same : q ≡ p = cc in
    let shorter : length q.2 < length (c ∷ rest) = rw s (omega arith) in
    subst (Shortens (c ∷ rest)) same (inl shorter)
step-shortens false q p more c rest e s k = shortens-more c rest p (k e)

next-shortens : (cfg : Config) (s : State) (fields : List (List ℕ)) (field xs : List ℕ) (p : Read) → next_record cfg s fields field xs ≡ Some p → Shortens xs p
unfolding next_record
next-shortens cfg s fields field [] p e = last-shortens (ends_at_end s) (fields ++ (field ∷ []), st.StartRecord, []) p e refl refl
next-shortens cfg s fields field (c ∷ rest) p e =
    step-shortens (is_end (step cfg s c).1) (fields_after (step cfg s c).1 fields field, (step cfg s c).0, rest) p
    (next_record cfg (step cfg s c).0 (fields_after (step cfg s c).1 fields field) (field_after (step cfg s c).1 c field) rest) c rest e refl
    (next-shortens cfg (step cfg s c).0 (fields_after (step cfg s c).1 fields field) (field_after (step cfg s c).1 c field) rest p)

-- at the end of a text there is no record
records-nil : (cfg : Config) (n : ℕ) → records_from cfg n st.StartRecord [] ≡ []
unfolding records_from next_record
records-nil cfg zero = refl
records-nil cfg (suc n) = refl

-- one more turn than there are bytes is enough
enough-next : (cfg : Config) (m n : ℕ) (xs : List ℕ) (o : Option Read) → ((p : Read) → o ≡ Some p → Shortens xs p) → length xs < suc m → length xs < suc n
    → ((s : State) (ys : List ℕ) → length ys < m → length ys < n → records_from cfg m s ys ≡ records_from cfg n s ys)
    → records_next (records_from cfg m) o ≡ records_next (records_from cfg n) o
enough-next cfg m n xs None k a b more = refl
enough-next cfg m n xs (Some p) k a b more = ap (λ (t : List Fields). p.0 ∷ t) (by (k p refl))
  where
    by : Shortens xs p → records_from cfg m p.1 p.2 ≡ records_from cfg n p.1 p.2
    by (inl h) = more p.1 p.2 (omega arith) (omega arith)
    by (inr h) = rw (h.0, h.1) (records-nil cfg m ∙ sym (records-nil cfg n))

enough : (cfg : Config) (m n : ℕ) (s : State) (xs : List ℕ) → length xs < m → length xs < n → records_from cfg m s xs ≡ records_from cfg n s xs
unfolding records_from
enough cfg zero n s xs a b = absurd (omega arith)
enough cfg (suc m) zero s xs a b = absurd (omega arith)
enough cfg (suc m) (suc n) s xs a b =
    enough-next cfg m n xs (next_record cfg s [] [] xs) (λ p e. next-shortens cfg s [] [] xs p e) a b (λ s2 ys l r. enough cfg m n s2 ys l r)

-- the records of a text, the first one apart
pub records-taken : (cfg : Config) (s : State) (xs : List ℕ) (p : Read) → next_record cfg s [] [] xs ≡ Some p
    → records_from cfg (length xs + 1) s xs ≡ p.0 ∷ records_from cfg (length p.2 + 1) p.1 p.2
unfolding records_from
records-taken cfg s xs p e = rw (add-one (length xs), e) (ap (λ (t : List Fields). p.0 ∷ t) (by (next-shortens cfg s [] [] xs p e)))
  where
    by : Shortens xs p → records_from cfg (length xs) p.1 p.2 ≡ records_from cfg (length p.2 + 1) p.1 p.2
    by (inl h) = enough cfg (length xs) (length p.2 + 1) p.1 p.2 h (omega arith)
    by (inr h) = rw (h.0, h.1) (records-nil cfg (length xs) ∙ sym (records-nil cfg (0 + 1)))

pub records-ended : (cfg : Config) (s : State) (xs : List ℕ) → next_record cfg s [] [] xs ≡ None → records_from cfg (length xs + 1) s xs ≡ []
unfolding records_from
records-ended cfg s xs e = rw (add-one (length xs), e) refl

-- a read that found a record
abbrev left_of : State → Option (List ℕ) → Option (List Fields)
left_of s known = option_map (λ xs. records_from default_config (length xs + 1) s xs) known

takes-next : (s s2 : State) (xs ys : List ℕ) (f : Fields) (o : Option Read) → next_record default_config s [] [] xs ≡ o → NextIs o true f s2 ys
    → records_from default_config (length xs + 1) s xs ≡ f ∷ records_from default_config (length ys + 1) s2 ys
takes-next s s2 xs ys f None e h = cc h
takes-next s s2 xs ys f (Some p) e h = rw (h.1, h.2, h.3) (records-taken default_config s xs p e)

takes : (s s2 : State) (before after : Option (List ℕ)) (f : Fields) → ReadsNext default_config s before after true f s2 → TakesRow (left_of s before) (left_of s2 after) f
takes s s2 None after f h = tt
takes s s2 (Some xs) None f h = h
takes s s2 (Some xs) (Some ys) f h = takes-next s s2 xs ys f (next_record default_config s [] [] xs) refl h

pub row-taken : {R : Type 0} (rem : R → Option (List ℕ)) (a b : Reader R) (f : Fields) → a.config ≡ default_config → ReadRecord rem a b true f
    → TakesRow (rows_left rem a) (rows_left rem b) f
row-taken rem a b f config r = rw r.1 (takes a.state b.state (source_of rem a) (pending_of (rem b.rdr) b) f (rw config at r.0))

-- a read that found none
ends-next : (s s2 : State) (xs ys : List ℕ) (f : Fields) (o : Option Read) → next_record default_config s [] [] xs ≡ o → NextIs o false f s2 ys
    → records_from default_config (length xs + 1) s xs ≡ []
ends-next s s2 xs ys f None e h = records-ended default_config s xs e
ends-next s s2 xs ys f (Some p) e h = cc h.0

ends : (s s2 : State) (before after : Option (List ℕ)) (f : Fields) → ReadsNext default_config s before after false f s2 → HasNoRow (left_of s before)
ends s s2 None after f h = tt
ends s s2 (Some xs) None f h = absurd h
ends s s2 (Some xs) (Some ys) f h = ends-next s s2 xs ys f (next_record default_config s [] [] xs) refl h

pub row-ended : {R : Type 0} (rem : R → Option (List ℕ)) (a b : Reader R) (f : Fields) → a.config ≡ default_config → ReadRecord rem a b false f → HasNoRow (rows_left rem a)
row-ended rem a b f config r = ends a.state b.state (source_of rem a) (pending_of (rem b.rdr) b) f (rw config at r.0)
