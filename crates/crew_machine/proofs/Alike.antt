-- Versions of the same entries have the same fronts and the same best.
use Rattle.std.proofs.Common.{◌≡◌, List, [], ◌∷◌, map, inl, inr, refl, sym, ◌∙◌, ap, subst}
use Rattle.std.specs.Cmp.{IsTotalOrder, on_total, then_total}
use Rattle.crew_flights.specs.Codes.{code_cmp_total}
use Rattle.crew_flights.specs.Timetable.{Timetable}
use Rattle.crew_machine.proofs.CrewLaws.{one-front, timetable-sound}
use Rattle.crew_machine.specs.Crew.{CrewVersion, DutyNode, Entries, IsFrontOf, RiseByNode, crew, node_cmp, timetable_of}
use Rattle.crew_machine.specs.Machinery.Sound.{IsVersion}
use Rattle.crew_machine.specs.Worlds.{AreNodes}
use Rattle.crew_pairing.specs.Keys.{key_total}
use Rattle.crew_resource.proofs.Rising.{Rising, same-rising}
use Rattle.crew_resource.specs.Members.{Member}
use Rattle.crew_rules.specs.Settings.{IsChecked}
use Rattle.crew_rules.specs.declared.settings.Settings.{Settings}
use Rattle.crew_answers.proofs.OneBest.{one-best}

pub node-total : IsTotalOrder node_cmp
node-total = then_total (on_total (λ (n : DutyNode). n.base) code_cmp_total) (on_total (λ (n : DutyNode). n.duty.key) key_total)

pub rising : (ns : List DutyNode) → RiseByNode ns → Rising node_cmp ns
rising [] h = tt
rising (n ∷ ns) h = (h.0, rising ns h.1)

module _ (s : Settings) (checked : IsChecked s) where
  pub same-nodes : (t : Timetable) (ns ms : List DutyNode) → AreNodes (crew s) t ns → AreNodes (crew s) t ms → ns ≡ ms
  same-nodes t ns ms h k =
      same-rising node_cmp node-total ns ms (rising ns h.rise) (rising ms k.rise) (λ n m. (k.exact n).1 ((h.exact n).0 m)) (λ n m. (h.exact n).1 ((k.exact n).0 m))

  pub same-front-of : (t : Timetable) (n : DutyNode) (f g : Entries) → IsFrontOf s t n f → IsFrontOf s t n g → f ≡ g
  same-front-of t n f g h k = one-front s checked t n f g h k

  pub same-fronts : (t : Timetable) (fs gs : List (DutyNode × Entries)) → map (λ e. e.0) fs ≡ map (λ e. e.0) gs → ((n : DutyNode) (f : Entries) → Member fs (n, f) → IsFrontOf s t n f) → ((n : DutyNode) (f : Entries) → Member gs (n, f) → IsFrontOf s t n f) → fs ≡ gs
  same-fronts t [] [] e h k = refl
  same-fronts t [] (y ∷ ys) e h k = absurd (let q : ⊥ = (cc) in q)
  same-fronts t (x ∷ xs) [] e h k = absurd (let q : ⊥ = (cc) in q)
  same-fronts t (x ∷ xs) (y ∷ ys) e h k =
      let node : x.0 ≡ y.0 = (cc) in
      let rest : map (λ e. e.0) xs ≡ map (λ e. e.0) ys = (cc) in
      let here : IsFrontOf s t y.0 x.1 = subst (λ (n : DutyNode). IsFrontOf s t n x.1) node (h x.0 x.1 (inl refl)) in
      let front : x.1 ≡ y.1 = same-front-of t y.0 x.1 y.1 here (k y.0 y.1 (inl refl)) in
      let head : x ≡ y = ap (λ (n : DutyNode). let z : DutyNode × Entries = (n, x.1) in z) node ∙ ap (λ (f : Entries). let z : DutyNode × Entries = (y.0, f) in z) front in
      ap (λ z. z ∷ xs) head ∙ ap (λ z. y ∷ z) (same-fronts t xs ys rest (λ n f m. h n f (inr m)) (λ n f m. k n f (inr m)))

  pub versions-alike : (u v : CrewVersion) → IsVersion (crew s) u → IsVersion (crew s) v → u.entries ≡ v.entries → (u.fronts ≡ v.fronts) × (u.best ≡ v.best)
  versions-alike u v h k e =
      let t = timetable_of u.entries in
      let same : timetable_of v.entries ≡ t = ap timetable_of (sym e) in
      let nodes = subst (λ (z : Timetable). AreNodes (crew s) z (map (λ e. e.0) v.fronts)) same k.nodes in
      let right : (n : DutyNode) (f : Entries) → Member v.fronts (n, f) → IsFrontOf s t n f = λ n f m. subst (λ (z : Timetable). IsFrontOf s z n f) same (k.right n f m) in
      let listed = same-nodes t (map (λ e. e.0) u.fronts) (map (λ e. e.0) v.fronts) h.nodes nodes in (
        same-fronts t u.fronts v.fronts listed h.right right,
        one-best s t u.best v.best (timetable-sound u.entries) h.best_is (subst (λ (z : Timetable). (crew s).IsBest z v.best) same k.best_is),
      )
