-- Where its first duty reports at a minute of 32 bits, the anchored value of a list is its vector, anchored at the last release.
use Rattle.std.proofs.Common.{◌≡◌, List, [], ◌∷◌, ◌++◌, Option, Some, None, inl, ℤ, refl, sym, ◌∙◌, ap, subst, append_assoc, arith}
use Rattle.std.specs.Option.{option_and_then, option_map}
use Rattle.std.proofs.lemmas.Int.{ints}
use Rattle.crew_anchor.specs.Anchors.{anchored}
use Rattle.crew_anchor.specs.Machinery.AnchorLaws.{anchored_steps}
use Rattle.crew_anchor.specs.Machinery.Values.{anchored_value, near}
use Rattle.crew_anchor.specs.Stages.{anchored_board, anchored_idle, anchored_resource}
use Rattle.crew_anchor.specs.declared.resource.AnchoredResource.{AnchoredResource}
use Rattle.crew_anchor.proofs.Commuting.{board-is, idle-is}
use Rattle.crew_anchor.proofs.Lists.{step-is}
use Rattle.crew_net.specs.Machinery.Moments.{IsReal}
use Rattle.crew_pairing.specs.Events.{departure_of}
use Rattle.crew_pairing.specs.declared.duty.Duty.{Duty}
use Rattle.crew_pairing.specs.declared.vector.PairingVector.{PairingVector}
use Rattle.crew_resource.specs.Members.{Member}
use Rattle.crew_rules.specs.declared.settings.Settings.{Settings}
use Rattle.crew_vector.specs.Events.{idle_vector}
use Rattle.crew_vector.specs.Machinery.VectorLaws.{vector_staged}
use Rattle.crew_vector.specs.Machinery.VectorResources.{vector_resource}
use Rattle.crew_vector.specs.Values.{value_of}
use Rattle.crew_vector.proofs.Steps.{extends, steps}

near-is : (minute : ℤ) → IsReal minute → near minute ≡ minute
near-is minute h = let a = h.least in let b = h.most in grind (arith, ints)

module _ (s : Settings) (price : ℤ) where
  abbrev r : AnchoredResource
  r = anchored_resource s price

  abbrev pub kept_of : List Duty → Option PairingVector
  kept_of = anchored_value r

  abbrev pub keeps : Duty → PairingVector → PairingVector
  keeps d = anchored s.trip_rig d.release

  -- the value of the list is its vector, anchored at the release of d
  abbrev IsKept : Duty → List Duty → Type 0
  IsKept d duties = kept_of duties ≡ option_map (keeps d) (value_of s price duties)

  first : (d : Duty) → IsReal d.report → IsKept d (d ∷ [])
  first d real =
      (anchored_steps r).opening d
      ∙ (ap (λ z. anchored_board r (anchored_idle r z) d) (near-is d.report real)
      ∙ (ap (λ z. anchored_board r z d) (sym (idle-is s price (departure_of d)))
      ∙ (sym (board-is s price (idle_vector price (departure_of d)) d)
      ∙ ap (option_map (keeps d)) (sym ((vector_staged (vector_resource s price)).opening d) ∙ sym ((steps s price).opening d)))))

  stepped : (last next : Duty) (o : Option PairingVector) → option_and_then (λ v. anchored_board r v next) (option_map (keeps last) o) ≡ option_map (keeps next) (option_and_then (λ v. extends s v last next) o)
  stepped last next None = refl
  stepped last next (Some v) = step-is s price v last next

  more : (before : List Duty) (last next : Duty) → IsKept last (before ++ last ∷ []) → IsKept next (before ++ last ∷ next ∷ [])
  more before last next h =
      (anchored_steps r).extension before last next
      ∙ (ap (option_and_then (λ v. anchored_board r v next)) h
      ∙ (stepped last next (value_of s price (before ++ last ∷ []))
      ∙ ap (option_map (keeps next)) (sym ((steps s price).extension before last next))))

  along : (before : List Duty) (last : Duty) (others : List Duty) (d : Duty) → IsKept last (before ++ last ∷ []) → IsKept d (before ++ last ∷ (others ++ d ∷ []))
  along before last [] d h = more before last d h
  along before last (next ∷ others) d h =
      let here = subst (IsKept next) (sym (append_assoc before (last ∷ []) (next ∷ []))) (more before last next h) in
      subst (IsKept d) (append_assoc before (last ∷ []) (next ∷ (others ++ d ∷ []))) (along (before ++ last ∷ []) next others d here)

  -- the value of a list that ends with d
  pub value-at : (before : List Duty) (d : Duty) → ((x : Duty) → Member (before ++ d ∷ []) x → IsReal x.report) → kept_of (before ++ d ∷ []) ≡ option_map (keeps d) (value_of s price (before ++ d ∷ []))
  value-at [] d real = first d (real d (inl refl))
  value-at (b ∷ before) d real = along [] b before d (first b (real b (inl refl)))
