-- A node has one own job, so whether a job is its node's own now can be told, and whether its front can be reused.
use Rattle.std.proofs.Common.{◌≡◌, ℕ, suc, ◌<◌, List, [], ◌∷◌, length, map, Some, ◌⊎◌, inl, inr, refl, sym, ◌∙◌, ap, subst, ⊎_elim}
use Rattle.std.specs.List.{slice_get}
use Rattle.std.specs.declared.cmp.Ordering.TheVariants.{Less, Equal}
use Rattle.std.proofs.lemmas.Cmp.{tied_itself}
use Rattle.std.proofs.lemmas.Option.{slice_get_within}
use Rattle.crew_flights.specs.Timetable.{Timetable}
use Rattle.crew_machine.proofs.Alike.{node-total, rising, same-fronts}
use Rattle.crew_machine.proofs.Boards.{IsWorkOf-weaker}
use Rattle.crew_machine.proofs.Cells.{Some-same}
use Rattle.crew_machine.proofs.Decided.{Decided, least-or-none, same-work, told-node, told-work}
use Rattle.crew_machine.proofs.NodeList.{each-member}
use Rattle.crew_machine.proofs.Progress.{Undone, befores-done, look, node-in, own-job}
use Rattle.crew_machine.specs.Crew.{DutyNode, DutyWork, Entries, IsFrontOf, RiseByNode, crew, node_cmp}
use Rattle.crew_machine.specs.Rounds.{IsDone, IsReady, IsUndone}
use Rattle.crew_machine.specs.Worlds.{AreNodes, IsBefore, IsWorkOf}
use Rattle.crew_machine.specs.declared.rounds.Cell.{Cell}
use Rattle.crew_machine.specs.declared.rounds.Cell.TheVariants.{Waiting, Out, Done}
use Rattle.crew_resource.proofs.Members.{Member-map_in, Member-map_out}
use Rattle.crew_resource.proofs.Rising.{same-rising}
use Rattle.crew_resource.specs.Members.{Each, Member}
use Rattle.crew_rules.specs.Settings.{IsChecked}
use Rattle.crew_rules.specs.declared.settings.Settings.{Settings}
use Rattle.crew_answers.proofs.crew_vector_lemmas.Paths.{some-or-none}

abbrev Cells : Type 0
Cells = List (DutyNode × Cell Entries)

abbrev names : Cells → List DutyNode
names cells = map (λ c. c.0) cells

-- ---- a node has one cell

not-later : (x n : DutyNode) (ns : List DutyNode) → Each (λ m. node_cmp x m ≡ Less) ns → Member ns n → x ≡ n → ⊥
not-later x n ns h m e =
    let less : node_cmp x n ≡ Less = each-member (λ k. node_cmp x k ≡ Less) ns n h m in
    let tied : node_cmp n n ≡ Equal = tied_itself node-total n in
    let clash : Less ≡ Equal = sym less ∙ (ap (λ (z : DutyNode). node_cmp z n) e ∙ tied) in
    let q : ⊥ = (cc) in q

pub one-cell : (cells : Cells) → RiseByNode (names cells) → (n : DutyNode) (c d : Cell Entries) → Member cells (n, c) → Member cells (n, d) → c ≡ d
one-cell [] r n c d m k = absurd m
one-cell (x ∷ cells) r n c d m k =
    ⊎_elim {C = c ≡ d}
    (λ e.
    ⊎_elim {C = c ≡ d}
    (λ f. sym (ap (λ (z : DutyNode × Cell Entries). z.1) e) ∙ ap (λ (z : DutyNode × Cell Entries). z.1) f)
    (λ f. absurd (not-later x.0 n (names cells) r.0 (Member-map_in (λ (z : DutyNode × Cell Entries). z.0) cells (n, d) f) (ap (λ (z : DutyNode × Cell Entries). z.0) e)))
    k)
    (λ e.
    ⊎_elim {C = c ≡ d}
    (λ f. absurd (not-later x.0 n (names cells) r.0 (Member-map_in (λ (z : DutyNode × Cell Entries). z.0) cells (n, c) e) (ap (λ (z : DutyNode × Cell Entries). z.0) f)))
    (λ f. one-cell cells r.1 n c d e f)
    k)
    m

-- the cell of a node, where it has one
pub cell-of : (cells : Cells) (n : DutyNode) → ((place : ℕ) × (c : Cell Entries) × (slice_get cells place ≡ Some (n, c))) ⊎ ((c : Cell Entries) → Member cells (n, c) → ⊥)
cell-of [] n = inr (λ c m. m)
cell-of (x ∷ cells) n =
    ⊎_elim {C = ((place : ℕ) × (c : Cell Entries) × (slice_get (x ∷ cells) place ≡ Some (n, c))) ⊎ ((c : Cell Entries) → Member (x ∷ cells) (n, c) → ⊥)}
    (λ e. inl (0, x.1, ap (λ (z : DutyNode). let y : DutyNode × Cell Entries = (z, x.1) in Some y) e))
    (λ f.
    ⊎_elim {C = ((place : ℕ) × (c : Cell Entries) × (slice_get (x ∷ cells) place ≡ Some (n, c))) ⊎ ((c : Cell Entries) → Member (x ∷ cells) (n, c) → ⊥)}
    (λ r. inl (suc r.0, r.1, r.2))
    (λ none. inr (λ c m. ⊎_elim (λ e. f (ap (λ (z : DutyNode × Cell Entries). z.0) e)) (none c) m))
    (cell-of cells n))
    (told-node x.0 n)

is-undone : (c : Cell Entries) → IsUndone c → (f : Entries) → c ≡ Done f → ⊥
is-undone Waiting u f e = (let q : ⊥ = (cc) in q)
is-undone Out u f e = (let q : ⊥ = (cc) in q)
is-undone (Done g) u f e = u

module _ (s : Settings) (checked : IsChecked s) where
  -- of a node there is one job over right fronts
  pub one-job : (t : Timetable) (j k : DutyWork) → j.node ≡ k.node → IsWorkOf (crew s) t (IsFrontOf s t) j → IsWorkOf (crew s) t (IsFrontOf s t) k → j ≡ k
  one-job t j k n h g =
      let input : j.input ≡ k.input = h.input ∙ (ap (λ (z : DutyNode). (crew s).input t z) n ∙ sym g.input) in
      let to : (p : DutyNode) → Member (map (λ b. b.0) j.before) p → Member (map (λ b. b.0) k.before) p = λ p m.
      (g.before.exact p).1 (subst (IsBefore (crew s) t p) n ((h.before.exact p).0 m)) in
      let from : (p : DutyNode) → Member (map (λ b. b.0) k.before) p → Member (map (λ b. b.0) j.before) p = λ p m.
      (h.before.exact p).1 (subst (IsBefore (crew s) t p) (sym n) ((g.before.exact p).0 m)) in
      let listed = same-rising node_cmp node-total (map (λ b. b.0) j.before) (map (λ b. b.0) k.before) (rising (map (λ b. b.0) j.before) h.before.rise) (rising (map (λ b. b.0) k.before) g.before.rise) to from in
      same-work j k n input (same-fronts s checked t j.before k.before listed h.fronts g.fronts)

  module _ (t : Timetable) (cells : Cells) (nodes : AreNodes (crew s) t (names cells)) (right : (n : DutyNode) (f : Entries) → Member cells (n, Done f) → IsFrontOf s t n f) where
    abbrev pub IsWork : DutyWork → Type 0
    IsWork = IsWorkOf (crew s) t (IsDone (crew s) cells)

    pub right-work : (job : DutyWork) → IsWork job → IsWorkOf (crew s) t (IsFrontOf s t) job
    right-work job work = IsWorkOf-weaker (crew s) t (IsDone (crew s) cells) (IsFrontOf s t) job right work

    -- where something before a node is undone, not all before it is done
    pub not-all : (n : DutyNode) → Undone s n cells → ((p : DutyNode) → IsBefore (crew s) t p n → (f : Entries) × IsDone (crew s) cells p f) → ⊥
    not-all n u all =
        let d = all u.before (node-in s t cells nodes u.before u.cell u.there, u.arc) in
        is-undone u.cell u.undone d.0 (one-cell cells nodes.rise u.before u.cell (Done d.0) u.there d.1)

    no-work : (n : DutyNode) → Undone s n cells → (job : DutyWork) → job.node ≡ n → IsWork job → ⊥
    no-work n u job is work =
        not-all n u
        (λ p b.
        (
        let m = (work.before.exact p).1 (subst (IsBefore (crew s) t p) (sym is) b) in
        let from = Member-map_out (λ (e : DutyNode × Entries). e.0) job.before p m in
        let there : Member job.before (p, from.0.1) = subst (λ (z : DutyNode). Member job.before (z, from.0.1)) from.2 from.1 in
        (from.0.1, work.fronts p from.0.1 there)))

    -- whether a job is over these cells
    pub work-or-not : (job : DutyWork) → job.input.settings ≡ s → Decided (IsWork job)
    work-or-not job settings =
        ⊎_elim {C = Decided (IsWork job)}
        (λ all.
        let own = own-job s t cells nodes job.node all in
        ⊎_elim {C = Decided (IsWork job)}
        (λ e. inl (subst IsWork (sym e) own.2))
        (λ f. inr (λ work. f (one-job t job own.0 (sym own.1) (right-work job work) (right-work own.0 own.2))))
        (told-work job own.0 (settings ∙ sym (ap (λ i. i.settings) own.2.input))))
        (λ u. inr (λ work. no-work job.node u job refl work))
        (look s job.node cells)

    -- the own job of a node, or that it has none
    pub some-work : (n : DutyNode) → ((job : DutyWork) × (job.node ≡ n) × IsWork job) ⊎ ((job : DutyWork) → job.node ≡ n → IsWork job → ⊥)
    some-work n = ⊎_elim {C = ((job : DutyWork) × (job.node ≡ n) × IsWork job) ⊎ ((job : DutyWork) → job.node ≡ n → IsWork job → ⊥)} (λ all. inl (own-job s t cells nodes n all)) (λ u. inr (no-work n u)) (look s n cells)

    abbrev ReadyAt : ℕ → Type 0
    ReadyAt place = (n : DutyNode) × IsReady (crew s) t cells place n

    ready-cell : (place : ℕ) (n : DutyNode) (c : Cell Entries) → slice_get cells place ≡ Some (n, c) → Decided (ReadyAt place)
    ready-cell place n Waiting at =
        ⊎_elim {C = Decided (ReadyAt place)}
        (λ all. inl (n, (at, λ p b. befores-done s t cells nodes n p all b)))
        (λ u. inr (λ r.
        (
        let same : n ≡ r.0 = ap (λ (z : DutyNode × Cell Entries). z.0) (Some-same _ _ (sym at ∙ r.1.0)) in
        not-all n u (λ p b. r.1.1 p (subst (IsBefore (crew s) t p) same b)))))
        (look s n cells)
    ready-cell place n Out at = inr (λ r. (let e : Out ≡ Waiting = ap (λ (z : DutyNode × Cell Entries). z.1) (Some-same _ _ (sym at ∙ r.1.0)) in let q : ⊥ = (cc) in q))
    ready-cell place n (Done f) at = inr (λ r. (let e : Done f ≡ Waiting = ap (λ (z : DutyNode × Cell Entries). z.1) (Some-same _ _ (sym at ∙ r.1.0)) in let q : ⊥ = (cc) in q))

    ready-or-not : (place : ℕ) → Decided (ReadyAt place)
    ready-or-not place =
        ⊎_elim {C = Decided (ReadyAt place)}
        (λ x. ready-cell place x.0.0 x.0.1 x.1)
        (λ none. inr (λ r. (let e = sym none ∙ r.1.0 in let q : ⊥ = (cc) in q)))
        (some-or-none (slice_get cells place))

    -- the least ready node, or that none is
    pub least-ready : ((place : ℕ) × ReadyAt place × ((k : ℕ) → k < place → ReadyAt k → ⊥)) ⊎ ((place : ℕ) → ReadyAt place → ⊥)
    least-ready =
        ⊎_elim {C = ((place : ℕ) × ReadyAt place × ((k : ℕ) → k < place → ReadyAt k → ⊥)) ⊎ ((place : ℕ) → ReadyAt place → ⊥)}
        (λ f. inl f)
        (λ none. inr (λ place r. none place (slice_get_within cells place _ r.1.0) r))
        (least-or-none ReadyAt ready-or-not (length cells))

    -- a ready node has its own job
    pub ready-work : (place : ℕ) (n : DutyNode) → IsReady (crew s) t cells place n → (job : DutyWork) × (job.node ≡ n) × IsWork job
    ready-work place n r = ⊎_elim {C = (job : DutyWork) × (job.node ≡ n) × IsWork job} (λ all. own-job s t cells nodes n all) (λ u. absurd (not-all n u r.1)) (look s n cells)

    abbrev UndoneAt : ℕ → Type 0
    UndoneAt place = (n : DutyNode) × (c : Cell Entries) × (slice_get cells place ≡ Some (n, c)) × IsUndone c

    undone-cell : (place : ℕ) (n : DutyNode) (c : Cell Entries) → slice_get cells place ≡ Some (n, c) → Decided (UndoneAt place)
    undone-cell place n Waiting at = inl (n, Waiting, at, tt)
    undone-cell place n Out at = inl (n, Out, at, tt)
    undone-cell place n (Done f) at = inr (λ u. is-undone u.1 u.3 f (ap (λ (z : DutyNode × Cell Entries). z.1) (Some-same _ _ (sym u.2 ∙ at))))

    undone-or-not : (place : ℕ) → Decided (UndoneAt place)
    undone-or-not place =
        ⊎_elim {C = Decided (UndoneAt place)}
        (λ x. undone-cell place x.0.0 x.0.1 x.1)
        (λ none. inr (λ r. (let e = sym none ∙ r.2 in let q : ⊥ = (cc) in q)))
        (some-or-none (slice_get cells place))

    pub least-undone : ((place : ℕ) × UndoneAt place × ((k : ℕ) → k < place → UndoneAt k → ⊥)) ⊎ ((place : ℕ) → UndoneAt place → ⊥)
    least-undone =
        ⊎_elim {C = ((place : ℕ) × UndoneAt place × ((k : ℕ) → k < place → UndoneAt k → ⊥)) ⊎ ((place : ℕ) → UndoneAt place → ⊥)}
        (λ f. inl f)
        (λ none. inr (λ place r. none place (slice_get_within cells place _ r.2) r))
        (least-or-none UndoneAt undone-or-not (length cells))
