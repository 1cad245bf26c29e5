-- What holds over the basis of a pass.
use Rattle.std.proofs.Common.{ℕ, List, sym, subst}
use Rattle.crew_label.specs.Tables.{Leaving}
use Rattle.crew_net.specs.Nets.{Net}
use Rattle.crew_pass.specs.Machinery.Terms.{IsBasisOf, basis_leaving, leaving_of}
use Rattle.crew_pass.specs.declared.ground.Basis.{Basis}
use Rattle.crew_pass.specs.declared.ground.Ground.{Ground}

module _ {R : Type 0} (g : Ground R) (b : Basis R) (is : IsBasisOf g b) (P : R → Net → List ℕ → List ℕ → Leaving → Type 0) where
  abbrev Over : R → Net → List ℕ → List ℕ → List ℕ → List ℕ → Type 0
  Over r n s ns rs ps = P r n s ns (record { ranks = rs; positions = ps })

  pub from-basis : P b.resource.value b.net.value b.base b.places.value.numbers.value.items (basis_leaving b) → P g.resource.now g.net.now g.base g.numbers.now (leaving_of g)
  from-basis h =
      let p = b.places.value in
      subst (λ (r : R). Over r g.net.now g.base g.numbers.now g.ranks.now g.positions.now) is.resource
      (subst (λ (n : Net). Over b.resource.value n g.base g.numbers.now g.ranks.now g.positions.now) is.net
      (subst (λ (s : List ℕ). Over b.resource.value b.net.value s g.numbers.now g.ranks.now g.positions.now) is.base
      (subst (λ (ns : List ℕ). Over b.resource.value b.net.value b.base ns g.ranks.now g.positions.now) is.places.numbers
      (subst (λ (rs : List ℕ). Over b.resource.value b.net.value b.base p.numbers.value.items rs g.positions.now) is.places.ranks
      (subst (λ (ps : List ℕ). Over b.resource.value b.net.value b.base p.numbers.value.items p.ranks.value.items ps) is.places.positions h)))))

  pub to-basis : P g.resource.now g.net.now g.base g.numbers.now (leaving_of g) → P b.resource.value b.net.value b.base b.places.value.numbers.value.items (basis_leaving b)
  to-basis h =
      let p = b.places.value in
      subst (λ (r : R). Over r b.net.value b.base p.numbers.value.items p.ranks.value.items p.positions.value.items) (sym is.resource)
      (subst (λ (n : Net). Over g.resource.now n b.base p.numbers.value.items p.ranks.value.items p.positions.value.items) (sym is.net)
      (subst (λ (s : List ℕ). Over g.resource.now g.net.now s p.numbers.value.items p.ranks.value.items p.positions.value.items) (sym is.base)
      (subst (λ (ns : List ℕ). Over g.resource.now g.net.now g.base ns p.ranks.value.items p.positions.value.items) (sym is.places.numbers)
      (subst (λ (rs : List ℕ). Over g.resource.now g.net.now g.base g.numbers.now rs p.positions.value.items) (sym is.places.ranks)
      (subst (λ (ps : List ℕ). Over g.resource.now g.net.now g.base g.numbers.now g.ranks.now ps) (sym is.places.positions) h)))))
