-- Entries that are looked for among the labels of a departure's pool.
use Rattle.std.proofs.Common.{◌≡◌, ◌∙◌, ◌++◌, ◌+ℤ◌, ◌-ℤ◌, append-nil, ℕ, Bool, true, false, cond, List, [], ◌∷◌, Option, Some, None, inl, inr, refl, sym, ap, subst, ⊎_elim, map}
use Rattle.std.proofs.lemmas.List.{map-append}
use Rattle.crew_anchor.specs.Stages.{anchored_board, flown, is_within_caps_at}
use Rattle.crew_pairing.specs.declared.duty.Duty.{Duty}
use Rattle.crew_pairing.specs.declared.vector.PairingVector.{PairingVector}
use Rattle.crew_pool.specs.Counted.{boarded_label}
use Rattle.crew_pool.specs.declared.label_walk.LabelWalk.{LabelWalk}
use Rattle.crew_resource.proofs.Members.{Member-append, Member-append_left, Member-append_right}
use Rattle.crew_resource.specs.Events.{labelled}
use Rattle.crew_resource.specs.Members.{Member}
use Rattle.crew_solve.proofs.Lent.{Entry}
use Rattle.crew_solve.specs.Machinery.Homes.{resource_of}
use Rattle.crew_solve.specs.Machinery.Lent.{IsLent, MayBeShown, boarding_at, entry_of, shown_at}
use Rattle.crew_sweep.specs.Sweeps.{BaseSweep}

abbrev Label : Type 0
Label = PairingVector × LabelWalk

module _ (b : BaseSweep) (d : Duty) (rank : ℕ) where
  abbrev own : Label → List Label
  own l = boarded_label (λ v. anchored_board (resource_of b) v d) rank l

  -- what is shown of a label, and then of the others
  boarding-first : (l : Label) (ls : List Label) → boarding_at b d rank (l ∷ ls) ≡ boarding_at b d rank (l ∷ []) ++ boarding_at b d rank ls
  boarding-first l ls = ap (λ (os : List Label). os ++ boarding_at b d rank ls) (sym (append-nil (own l)))

  shown-first : (l : Label) (ls : List Label) → shown_at b d rank (l ∷ ls) ≡ shown_at b d rank (l ∷ []) ++ shown_at b d rank ls
  shown-first l ls = ap (map (entry_of b d.release)) (boarding-first l ls) ∙ map-append (entry_of b d.release) (boarding_at b d rank (l ∷ [])) (boarding_at b d rank ls)

  pub in-first : (all ls : List Label) (l : Label) (e : Entry) → all ≡ l ∷ ls → Member (shown_at b d rank (l ∷ [])) e → Member (shown_at b d rank all) e
  in-first all ls l e split m =
      subst (λ (es : List Entry). Member es e) (sym (ap (shown_at b d rank) split ∙ shown-first l ls)) (Member-append_left (shown_at b d rank (l ∷ [])) (shown_at b d rank ls) e m)

  pub in-others : (all ls : List Label) (l : Label) (e : Entry) → all ≡ l ∷ ls → Member (shown_at b d rank ls) e → Member (shown_at b d rank all) e
  in-others all ls l e split m =
      subst (λ (es : List Entry). Member es e) (sym (ap (shown_at b d rank) split ∙ shown-first l ls)) (Member-append_right (shown_at b d rank (l ∷ [])) (shown_at b d rank ls) e m)

  pub not-first : (all ls : List Label) (l : Label) (e : Entry) → all ≡ l ∷ ls → (Member (shown_at b d rank (l ∷ [])) e → ⊥) → Member (shown_at b d rank all) e → Member (shown_at b d rank ls) e
  not-first all ls l e split none m =
      ⊎_elim {C = Member (shown_at b d rank ls) e} (λ i. absurd (none i)) (λ n. n)
      (Member-append (shown_at b d rank (l ∷ [])) (shown_at b d rank ls) e (subst (λ (es : List Entry). Member es e) (ap (shown_at b d rank) split ∙ shown-first l ls) m))

  pub none-shown : (ls : List Label) (e : Entry) → ls ≡ [] → Member (shown_at b d rank ls) e → ⊥
  none-shown ls e none m = subst (λ (zs : List Label). Member (shown_at b d rank zs) e) none m

  -- and each of them may be shown
  pub may-first : (all ls : List Label) (l : Label) → all ≡ l ∷ ls → MayBeShown b d rank all → MayBeShown b d rank (l ∷ [])
  may-first all ls l split h =
      let g : MayBeShown b d rank (l ∷ ls) = subst (MayBeShown b d rank) split h in
      let among : (x : Label) → Member (boarding_at b d rank (l ∷ [])) x → Member (boarding_at b d rank (l ∷ ls)) x = λ x m.
      subst (λ (os : List Label). Member os x) (sym (boarding-first l ls)) (Member-append_left (boarding_at b d rank (l ∷ [])) (boarding_at b d rank ls) x m) in
      record {
        boards = λ x m. g.boards x (⊎_elim {C = Member (l ∷ ls) x} (λ e. inl e) (λ n. absurd n) m);
        room = λ within x m. g.room within x (among x m);
        walks = λ x m. g.walks x (among x m);
      }

  pub may-others : (all ls : List Label) (l : Label) → all ≡ l ∷ ls → MayBeShown b d rank all → MayBeShown b d rank ls
  may-others all ls l split h =
      let g : MayBeShown b d rank (l ∷ ls) = subst (MayBeShown b d rank) split h in
      let among : (x : Label) → Member (boarding_at b d rank ls) x → Member (boarding_at b d rank (l ∷ ls)) x = λ x m.
      Member-append_right (own l) (boarding_at b d rank ls) x m in
      record {
        boards = λ x m. g.boards x (inr m);
        room = λ within x m. g.room within x (among x m);
        walks = λ x m. g.walks x (among x m);
      }

  pub may-be-shown : (labels view : List Label) → IsLent b d rank labels view → MayBeShown b d rank labels
  may-be-shown labels view h =
      record {
        boards = h.boards;
        room = λ within l m. h.lent.room within l (subst (λ (ls : List Label). Member ls l) (sym h.same) m);
        walks = λ l m. h.lent.walks l (subst (λ (ls : List Label). Member ls l) (sym h.same) m);
      }

  -- a label shows one entry where it boards, and none where it doesn't
  module _ (l : Label) where
    abbrev after : LabelWalk
    after = record { walk = l.1.walk; duty = rank }

    abbrev entries : Option PairingVector → List Entry
    entries o = map (entry_of b d.release) (labelled o after ++ [])

    pub none-boards : (e : Entry) → anchored_board (resource_of b) l.0 d ≡ None → Member (shown_at b d rank (l ∷ [])) e → ⊥
    none-boards e is m = subst (λ o. Member (entries o) e) is m

    -- what it shows has the pay of its duties and of the duty, less the prices of all
    paid-if : (t : Bool) (e : Entry) → Member (entries (cond t (Some (flown (resource_of b) l.0 d)) None)) e → e.0.duty_pay ≡ l.0.duty_pay +ℤ (d.pay -ℤ d.price)
    paid-if true e m = ⊎_elim {C = e.0.duty_pay ≡ l.0.duty_pay +ℤ (d.pay -ℤ d.price)} (λ q. sym (ap (λ (x : Entry). x.0.duty_pay) q)) (λ n. absurd n) m
    paid-if false e m = absurd m

    pub same-pay : (e : Entry) → Member (shown_at b d rank (l ∷ [])) e → e.0.duty_pay ≡ l.0.duty_pay +ℤ (d.pay -ℤ d.price)
    same-pay e m = paid-if (is_within_caps_at (resource_of b) d.release (flown (resource_of b) l.0 d)) e m

    pub boards-to : (v : PairingVector) → anchored_board (resource_of b) l.0 d ≡ Some v → Member (boarding_at b d rank (l ∷ [])) (v, after)
    boards-to v is = subst (λ o. Member (labelled o after ++ []) (v, after)) (sym is) (inl refl)

    pub shows-one : (v : PairingVector) (e : Entry) → anchored_board (resource_of b) l.0 d ≡ Some v → entry_of b d.release (v, after) ≡ e → Member (shown_at b d rank (l ∷ [])) e
    shows-one v e is q = subst (λ o. Member (entries o) e) (sym is) (inl q)

    pub one-shown : (v : PairingVector) (e : Entry) → anchored_board (resource_of b) l.0 d ≡ Some v → Member (shown_at b d rank (l ∷ [])) e → entry_of b d.release (v, after) ≡ e
    one-shown v e is m = ⊎_elim {C = entry_of b d.release (v, after) ≡ e} (λ q. q) (λ n. absurd n) (subst (λ o. Member (entries o) e) is m)
