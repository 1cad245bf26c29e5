-- What a desk does with what the service refuses.
use Rattle.std.specs.Prelude.{OnErr, OnOk}
use Rattle.std.proofs.Common.{Result, Ok, Err, ◌≡◌, ◌≢◌, ◌⊎◌, ◌++◌, ◌∙◌, ℕ, List, [], Option, None, Some, refl, ap, subst, inl, inr}
use Rattle.crew_flights.specs.declared.edit.Edit.{Edit}
use Rattle.crew_log.specs.Logs.{Seat}
use Rattle.crew_serve.proofs.ClerkFacts.{sight-self}
use Rattle.crew_serve.specs.Clients.{Client, Declines, HasForgone, IsBlind, IsSight, Settles, Submits}
use Rattle.crew_serve.specs.Faults.{client_number}
use Rattle.crew_serve.specs.Machinery.Clerks.{IsNotEntered, IsNotSettled, IsUnseen}
use Rattle.crew_serve.specs.declared.client_fault.ClientFault.{ClientFault}
use Rattle.crew_serve.specs.declared.client_fault.ClientFault.TheVariants.{TooManyDuties, LastVersion, NoSeat, SeatFull, Unsettled, OtherSettings, NoView, Memory}
use Rattle.crew_session.specs.Lines.{refused_line}
use Rattle.crew_version.specs.Versions.{IsRight, Snapshot}

-- what isn't seen is told so
pub blind : (a : Client) (number : ℕ) (fault : ClientFault) (old new : List ℕ) → IsRight a.version → IsUnseen a.version fault → fault ≢ Memory → old ≡ [] → new ≡ old ++ refused_line number (client_number fault) → IsBlind number a a new
blind a number OtherSettings old new right h not none is = record { sight = sight-self a.version right; after = refl; why = 63; cause = inl (refl, h); written = is ∙ ap (λ (t : List ℕ). t ++ refused_line number 63) none }
blind a number NoView old new right h not none is = record { sight = sight-self a.version right; after = refl; why = 65; cause = inr refl; written = is ∙ ap (λ (t : List ℕ). t ++ refused_line number 65) none }
blind a number Memory old new right h not none is = absurd (not refl)
blind a number SeatFull old new right h not none is = absurd h
blind a number NoSeat old new right h not none is = absurd h
blind a number TooManyDuties old new right h not none is = absurd h
blind a number LastVersion old new right h not none is = absurd h
blind a number Unsettled old new right h not none is = absurd h

-- a settle that is refused
pub unsettled : (a : Client) (v : Snapshot) (number : ℕ) (fault : ClientFault) (old new : List ℕ) → IsSight a.version v → IsNotSettled a.version a.waiting v fault → fault ≢ Memory → old ≡ [] → new ≡ old ++ refused_line number (client_number fault)
    → Settles a (record a { version = v }) new ⊎ Declines number a (record a { version = v }) new ⊎ IsBlind number a (record a { version = v }) new
unsettled a v number TooManyDuties old new sight h not none is = inr (inl (record { sight = sight; after = refl; why = 40; cause = inl (refl, h); written = is ∙ ap (λ (t : List ℕ). t ++ refused_line number 40) none }))
unsettled a v number LastVersion old new sight h not none is = inr (inl (record { sight = sight; after = refl; why = 57; cause = inr (inl (refl, h)); written = is ∙ ap (λ (t : List ℕ). t ++ refused_line number 57) none }))
unsettled a v number Unsettled old new sight h not none is = inr (inl (record { sight = sight; after = refl; why = 62; cause = inr (inr (refl, h)); written = is ∙ ap (λ (t : List ℕ). t ++ refused_line number 62) none }))
unsettled a v number OtherSettings old new sight h not none is = inr (inr (record { sight = sight; after = refl; why = 63; cause = inl (refl, h); written = is ∙ ap (λ (t : List ℕ). t ++ refused_line number 63) none }))
unsettled a v number NoView old new sight h not none is = inr (inr (record { sight = sight; after = refl; why = 65; cause = inr refl; written = is ∙ ap (λ (t : List ℕ). t ++ refused_line number 65) none }))
unsettled a v number Memory old new sight h not none is = absurd (not refl)
unsettled a v number SeatFull old new sight h not none is = absurd h
unsettled a v number NoSeat old new sight h not none is = absurd h

-- an edit that is refused
pub unentered : (a : Client) (seat : Option Seat) (e : Edit) (number : ℕ) (fault : ClientFault) (old new : List ℕ) → IsNotEntered a.seat seat fault → fault ≢ Memory → old ≡ [] → new ≡ old ++ refused_line number (client_number fault) → Submits number e a (record a { seat = seat }) new
unentered a seat e number SeatFull old new h not none is = inr (inl (record { seat = h.0; by = h.1; full = h.2; kept = λ i. record a { seat = h.3 i }; written = is ∙ ap (λ (t : List ℕ). t ++ refused_line number 61) none }))
unentered a seat e number NoSeat old new h not none is = inr (inr (h.0, ((λ i. record a { seat = h.1 i }), is ∙ ap (λ (t : List ℕ). t ++ refused_line number 60) none)))
unentered a seat e number Memory old new h not none is = absurd (not refl)
unentered a seat e number TooManyDuties old new h not none is = absurd h
unentered a seat e number LastVersion old new h not none is = absurd h
unentered a seat e number Unsettled old new h not none is = absurd h
unentered a seat e number OtherSettings old new h not none is = absurd h
unentered a seat e number NoView old new h not none is = absurd h

-- the seat is kept, or taken
pub kept-seat : (before after : Option Seat) (fault : ClientFault) → IsNotEntered before after fault → (after ≡ before) ⊎ (before ≡ None)
kept-seat None after SeatFull h = inr refl
kept-seat (Some own) after SeatFull h = inl (h.3 ∙ ap Some h.1)
kept-seat before after NoSeat h = inl h.1
kept-seat before after Memory h = h
kept-seat before after TooManyDuties h = absurd h
kept-seat before after LastVersion h = absurd h
kept-seat before after Unsettled h = absurd h
kept-seat before after OtherSettings h = absurd h
kept-seat before after NoView h = absurd h

-- .. and all else stays
pub refused-kept : (a b : Client) (fault : ClientFault) → IsRight b.version → b.version ≡ a.version → b.zones ≡ a.zones → b.waiting ≡ a.waiting → IsNotEntered a.seat b.seat fault → HasForgone a b
refused-kept a b fault right version zones waiting h =
    record { sight = subst (λ (v : Snapshot). IsSight v b.version) version (sight-self b.version right); zones = zones; waiting = waiting; seat = kept-seat a.seat b.seat fault h }

-- ---- of results

pub on-both : {T E A B C : Type 0} (r : Result T E) → OnOk r A → OnOk r B → (A → B → C) → OnOk r C
on-both (Ok x) a b f = f a b
on-both (Err e) a b f = tt

pub or-err : {T E B : Type 0} (r : Result T E) → B → OnErr r B
or-err (Ok x) b = tt
or-err (Err e) b = b
