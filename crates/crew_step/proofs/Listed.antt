-- The list of a job's candidates is exactly its candidates.
use Rattle.std.proofs.Common.{◌≡◌, ℕ, Bool, true, false, cond, List, [], ◌∷◌, ◌++◌, map, Option, ℤ, inl, inr, refl, sym, ap, subst, ⊎_elim}
use Rattle.std.specs.declared.cmp.Ordering.TheVariants.{Less}
use Rattle.std.specs.Ordering.{eq_by_cmp}
use Rattle.std.proofs.lemmas.Bool.{cases_Bool}
use Rattle.crew_flights.specs.Codes.{code_cmp}
use Rattle.crew_pairing.specs.Legs.{Leg}
use Rattle.crew_pairing.specs.Local.{IsLocalOf}
use Rattle.crew_pairing.specs.declared.duty.Duty.{Duty}
use Rattle.crew_pairing.specs.declared.vector.PairingVector.{PairingVector}
use Rattle.crew_resource.specs.Entries.{IsApart, PartedFromAll}
use Rattle.crew_resource.specs.Events.{labelled}
use Rattle.crew_resource.specs.Members.{Each, Member}
use Rattle.crew_resource.proofs.Members.{Member-append, Member-append_left, Member-append_right, Member-flat_map_in, Member-flat_map_out}
use Rattle.crew_rules.specs.declared.settings.Settings.{Settings}
use Rattle.crew_vector.specs.Dominance.{is_at_most}
use Rattle.crew_vector.specs.Fronts.{RiseByVector, vector_cmp}
use Rattle.crew_vector.specs.Locals.{Candidate, Feed, IsLocalAt}
use Rattle.crew_vector.proofs.Growth.{start-in, start-out, step-in, step-out}
use Rattle.crew_vector.proofs.Orders.{code-itself, same-code}
use Rattle.crew_vector.proofs.Steps.{extends, opens}
use Rattle.crew_step.specs.Machinery.Candidates.{all_extensions, extension, extensions, openings}
use Rattle.crew_vector.specs.Machinery.VectorResources.{vector_resource}
use Rattle.crew_vector.specs.declared.resource.VectorResource.{VectorResource}
use Rattle.crew_step.proofs.Fed.{by_opening, by_step}
use Rattle.crew_step.proofs.Loops.{labelled-in, labelled-out}

cond-member : {X : Type 0} (b : Bool) (xs : List X) (x : X) → Member (cond b xs []) x → (b ≡ true) × Member xs x
cond-member true xs x m = (refl, m)
cond-member false xs x m = absurd m

member-cond : {X : Type 0} (b : Bool) (xs : List X) (x : X) → b ≡ true → Member xs x → Member (cond b xs []) x
member-cond b xs x e m = subst (λ z. Member (cond z xs []) x) (sym e) m

module _ (s : Settings) (base : List ℕ) (price : ℤ) (d : Duty) (feed : Feed) where
  abbrev pub listed : List (PairingVector × List (List Leg))
  listed = openings (opens s price) base d ++ all_extensions (extends s) d feed

  listed-candidate : (v : PairingVector) (w : List (List Leg)) → Member listed (v, w) → Candidate s base price d feed v w
  listed-candidate v w m =
      ⊎_elim {C = Candidate s base price d feed v w}
      (λ o.
      let k = cond-member (eq_by_cmp code_cmp d.from base) (labelled (opens s price d) (d.key ∷ [])) (v, w) o in
      let l = labelled-out (opens s price d) (d.key ∷ []) v w k.1 in
      let within = start-out s price d v l.0 in
      inl (same-code d.from base k.0, within.0, within.1, l.1))
      (λ x.
      let p = Member-flat_map_out (extensions (extends s) d) feed (v, w) x in
      let e = Member-flat_map_out (extension (extends s) p.0.0 d) p.0.1 (v, w) p.2 in
      let l = labelled-out (extends s e.0.0 p.0.0 d) (e.0.1 ++ d.key ∷ []) v w e.2 in
      let within = step-out s p.0.0 d e.0.0 v l.0 in
      inr (p.0.0, p.0.1, e.0.0, e.0.1, p.1, e.1, within.0, within.1, l.1))
      (Member-append (openings (opens s price) base d) (all_extensions (extends s) d feed) (v, w) m)

  candidate-listed : (v : PairingVector) (w : List (List Leg)) → Candidate s base price d feed v w → Member listed (v, w)
  candidate-listed v w (inl c) =
      Member-append_left (openings (opens s price) base d) (all_extensions (extends s) d feed) (v, w)
      (member-cond (eq_by_cmp code_cmp d.from base) (labelled (opens s price d) (d.key ∷ [])) (v, w) (code-itself d.from base c.0)
      (labelled-in (opens s price d) (d.key ∷ []) v w (start-in s price d v c.1 c.2) c.3))
  candidate-listed v w (inr c) =
      let e = c.0 in
      let es = c.1 in
      let u = c.2 in
      let y = c.3 in
      Member-append_right (openings (opens s price) base d) (all_extensions (extends s) d feed) (v, w)
      (Member-flat_map_in (extensions (extends s) d) feed (e, es) (v, w) c.4
      (Member-flat_map_in (extension (extends s) e d) es (u, y) (v, w) c.5
      (labelled-in (extends s u e d) (y ++ d.key ∷ []) v w (step-in s e d u v c.6 c.7) c.8)))

  pub local-listed : (entries : List (PairingVector × List (List Leg))) → IsLocalOf is_at_most listed entries → IsLocalAt s base price d feed entries
  local-listed entries local = record {
    among = λ v w m. listed-candidate v w (local.among v w m);
    covers = λ x y c. local.covers x y (candidate-listed x y c);
    alone = local.alone;
  }

-- no entries are local of no candidates
pub local-none : {V : Type 0} (below : V → V → Bool) → IsLocalOf below [] []
local-none below = record {
  among = λ v w m. absurd m;
  covers = λ x y c. absurd c;
  alone = λ v w x y m n h. absurd m;
}

each-later : (v : PairingVector) (entries : List (PairingVector × List (List Leg))) → PartedFromAll vector_cmp is_at_most v (map (λ e. e.0) entries) → Each (λ later. vector_cmp v later.0 ≡ Less) entries
each-later v [] h = tt
each-later v (e ∷ entries) h = (h.0.rises, each-later v entries h.1)

pub apart-rises : (entries : List (PairingVector × List (List Leg))) → IsApart vector_cmp is_at_most (map (λ e. e.0) entries) → RiseByVector entries
apart-rises [] h = tt
apart-rises (e ∷ entries) h = (each-later e.0 entries h.0, apart-rises entries h.1)

-- the opening, where the duty leaves the base and where it doesn't
pub opening-there : {V : Type 0} (opens : Duty → Option V) (base : List ℕ) (d : Duty) → d.from ≡ base → openings opens base d ≡ labelled (opens d) (d.key ∷ [])
opening-there opens base d e = ap (λ b. cond b (labelled (opens d) (d.key ∷ [])) []) (code-itself d.from base e)

pub opening-nowhere : {V : Type 0} (opens : Duty → Option V) (base : List ℕ) (d : Duty) → (d.from ≡ base → ⊥) → openings opens base d ≡ []
opening-nowhere opens base d none =
    ⊎_elim {C = openings opens base d ≡ []}
    (λ t. absurd (none (same-code d.from base t)))
    (λ f. ap (λ b. cond b (labelled (opens d) (d.key ∷ [])) []) f)
    (cases_Bool (eq_by_cmp code_cmp d.from base))

pub local-made : (s : Settings) (base : List ℕ) (price : ℤ) (d : Duty) (feed : Feed) (r : VectorResource) → r ≡ vector_resource s price → (entries : List (PairingVector × List (List Leg)))
    → IsLocalOf is_at_most (openings (by_opening r) base d ++ all_extensions (by_step r) d feed) entries → IsLocalAt s base price d feed entries
local-made s base price d feed r made entries local =
    local-listed s base price d feed entries
    (subst (λ (z : VectorResource). IsLocalOf is_at_most (openings (by_opening z) base d ++ all_extensions (by_step z) d feed) entries) made local)
