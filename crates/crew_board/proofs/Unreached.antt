-- Which nodes a change reaches, by the arcs of a network and by the machine's.
use Rattle.std.proofs.Common.{◌≡◌, ◌∙◌, ◌∷◌, [], ℕ, List, map, refl, sym, ap, subst}
use Rattle.std.specs.Prelude.{◌↔◌}
use Rattle.std.specs.FinMap as fin
use Rattle.crew_board.proofs.Untouched.{duty-in, duty-out, untouched-world}
use Rattle.crew_job.proofs.crew_dirty_lemmas.Paths.{path-none}
use Rattle.crew_job.specs.crew_dirty.Dirty.{IsNetOver, IsUnreached, IsUntouched}
use Rattle.crew_flights.specs.Timetable.{Timetable}
use Rattle.crew_machine.proofs.NodeList.{node-of}
use Rattle.crew_machine.specs.Crew.{DutyNode, IsNodeOf, MayPrecede, crew}
use Rattle.crew_machine.specs.Worlds as Worlds
use Rattle.crew_machine.specs.Worlds.{IsBefore, Leads}
use Rattle.crew_net.specs.Layers.{IsPath}
use Rattle.crew_net.specs.Nets.{Net}
use Rattle.crew_pairing.specs.Pairings.{may_stand_after}
use Rattle.crew_pairing.specs.declared.duty.Duty.{Duty}
use Rattle.crew_resource.specs.Members.{Member}
use Rattle.crew_rules.specs.declared.settings.Settings.{Settings}

module _ (s : Settings) (t u : Timetable) (old new : Net) (olds : old.settings ≡ s) (news : new.settings ≡ s) (before : IsNetOver t old) (now : IsNetOver u new) (n : DutyNode) (is : IsNodeOf s u n) where
  -- a list of arcs of nodes is one of their duties
  record Path (m : DutyNode) : Type 0 where
    pub others : List Duty
    pub path : IsPath new m.duty others n.duty
    pub base : m.base ≡ n.base

  -- each node on a way to the node is one
  on-way : (x : DutyNode) (way : List DutyNode) → Leads (crew s) u x way n → IsNodeOf s u x
  on-way x [] e = subst (IsNodeOf s u) (sym e) is
  on-way x (y ∷ way) h = h.0.0

  path-of : (m : DutyNode) (way : List DutyNode) → IsNodeOf s u m → Leads (crew s) u m way n → Path m
  path-of m [] node e =
      let duty : m.duty ≡ n.duty = ap (λ (z : DutyNode). z.duty) e in
      record {
        others = [];
        path = subst (IsPath new m.duty []) duty (path-none new m.duty (duty-in s u new news now m.duty node.legal));
        base = ap (λ (z : DutyNode). z.base) e;
      }
  path-of m (x ∷ way) node h =
      let arc = h.0.1 in
      let there = on-way x way h.1 in
      let rest = path-of x way there h.1 in
      record {
        others = x.duty ∷ rest.others;
        path = record {
          duties = (duty-in s u new news now m.duty node.legal, rest.path.duties);
          rested = (ap (λ (z : Settings). may_stand_after z m.duty x.duty) news ∙ arc.rested, rest.path.rested);
          ends = rest.path.ends;
        };
        base = arc.base ∙ rest.base;
      }

  net-in : IsUnreached old new (fin.get t.bases n.base) (fin.get u.bases n.base) n.base n.duty → Worlds.IsUnreached (crew s) t u n
  net-in k m way node leads =
      let p = path-of m way node leads in
      let here = k m.duty p.others p.path in
      let own : IsUntouched old new (fin.get t.bases m.base) (fin.get u.bases m.base) m.base m.duty = subst (λ (b : List ℕ). IsUntouched old new (fin.get t.bases b) (fin.get u.bases b) b m.duty) (sym p.base) here in
      (untouched-world s t u old new olds news before now m node).0 own

  -- .. and the other way round
  node-here : (d : Duty) → Member new.duties d → IsNodeOf s u (node-of n.base d)
  node-here d m = record { price = is.price; based = is.based; legal = duty-out s u new news now d m }

  way-of : (first : Duty) (others : List Duty) → IsPath new first others n.duty → Leads (crew s) u (node-of n.base first) (map (node-of n.base) others) n
  way-of first [] p = ap (node-of n.base) p.ends
  way-of first (x ∷ others) p =
      let rest : IsPath new x others n.duty = record { duties = p.duties.1; rested = p.rested.1; ends = p.ends } in
      let arc : MayPrecede s (node-of n.base first) (node-of n.base x) = record { base = refl; rested = sym (ap (λ (z : Settings). may_stand_after z first x) news) ∙ p.rested.0 } in
      ((node-here first p.duties.0, arc), way-of x others rest)

  net-out : Worlds.IsUnreached (crew s) t u n → IsUnreached old new (fin.get t.bases n.base) (fin.get u.bases n.base) n.base n.duty
  net-out k first others p =
      let m = node-of n.base first in
      let node = node-here first p.duties.0 in
      let own = k m (map (node-of n.base) others) node (way-of first others p) in
      (untouched-world s t u old new olds news before now m node).1 own

  pub unreached-world : IsUnreached old new (fin.get t.bases n.base) (fin.get u.bases n.base) n.base n.duty ↔ Worlds.IsUnreached (crew s) t u n
  unreached-world = (net-in, net-out)
