-- What a rest goes by.
use Rattle.std.proofs.Common.{◌≡◌, ◌∙◌, ℕ, List, [], ◌∷◌, length, map, refl, ap, subst}
use Rattle.crew_label.specs.Boarding.{waited_label}
use Rattle.crew_label.specs.Tables.{Tabled}
use Rattle.crew_label.specs.Walks.{walk_of}
use Rattle.crew_label.specs.declared.label.Label.{Label}
use Rattle.crew_resource.specs.Members.{Member}
use Rattle.crew_resource.proofs.Members.{Member-map_out}
use Rattle.crew_labelling.specs.Held.{AreHeld, IsHeld, trail_of}
use Rattle.crew_labelling.specs.Candidates.{waited_entries}
use Rattle.crew_labelling.specs.Terms.{Terms}

-- rested values are within the bounds of the others
pub rest-held : {V : Type 0} (w : Terms V) (t : Tabled V)
    → ((v : V) → w.count (w.rest v) ≡ w.count v) → ((n : ℕ) (v : V) → w.arrived n v → w.arrived n (w.rest v))
    → (labels pool : List (Label V)) → AreHeld w w.arrived t labels → ((l : Label V) → Member pool l → Member (map (waited_label w.rest) labels) l)
    → AreHeld w w.arrived t pool
rest-held w t same keeps labels pool h from l m =
    let s = Member-map_out (waited_label w.rest) labels l (from l m) in
    let k = h s.0 s.1 in
    subst (IsHeld w w.arrived t) s.2
    (record {
      leading = k.leading;
      entry = record { counts = same s.0.value ∙ k.entry.counts; ranked = k.entry.ranked; few = k.entry.few; bound = keeps (length (walk_of (trail_of t) s.0.before)) s.0.value k.entry.bound };
    })

-- after a rest values are what rested ones are
pub after-rest : {V : Type 0} (rested wait : V → V) → ((v : V) → wait (rested v) ≡ wait v) → (es : List (V × List ℕ)) → waited_entries wait (waited_entries rested es) ≡ waited_entries wait es
after-rest rested wait same [] = refl
after-rest {V} rested wait same (e ∷ es) =
    ap (λ (v : V). (v, e.1) ∷ waited_entries wait (waited_entries rested es)) (same e.0) ∙ ap (λ (r : List (V × List ℕ)). (wait e.0, e.1) ∷ r) (after-rest rested wait same es)
