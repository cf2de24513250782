-- Where the links of the graph with the new node lead.
use Rattle.std.proofs.Common.{◌≡◌, ◌≢◌, ◌⊎◌, ◌<◌, ◌+◌, ◌++◌, ◌∙◌, ℕ, zero, suc, List, [], ◌∷◌, Option, Some, None, slice_get, length, inl, inr, refl, sym, ap, subst, arith}
use Rattle.std.proofs.lemmas.Bool.{eq-eqb}
use Rattle.std.proofs.lemmas.Option.{same_Some}
use Rattle.std.specs.Option.{option_and_then}
use Rattle.mrt_graph.specs.declared.link.Link.{Link}
use Rattle.mrt_graph.specs.Leads.{far_node, leads}
use Rattle.mrt_graph.specs.Topology.{Topology}
use Rattle.mrt_graph.proofs.Hops.{far_ends}
use Rattle.mrt_graph.proofs.ListPlaces.{at_left}
use Rattle.proxy_rows.specs.declared.attachment.Attachment.{Attachment}
use Rattle.proxy_rows.specs.GraphWith.{links_with, new_node}

-- after a list stand two more elements
first_more : {X : Type 0} (xs : List X) (y z : X) → slice_get (xs ++ y ∷ z ∷ []) (length xs) ≡ Some y
first_more [] y z = refl
first_more (x ∷ xs) y z = first_more xs y z

second_next : {X : Type 0} (xs : List X) (y z : X) → slice_get (xs ++ y ∷ z ∷ []) (suc (length xs)) ≡ Some z
second_next [] y z = refl
second_next (x ∷ xs) y z = second_next xs y z

second_more : {X : Type 0} (xs : List X) (y z : X) → slice_get (xs ++ y ∷ z ∷ []) (length xs + 1) ≡ Some z
second_more xs y z =
    let next : suc (length xs) ≡ length xs + 1 = omega arith in
    subst (λ (k : ℕ). slice_get (xs ++ y ∷ z ∷ []) k ≡ Some z) next (second_next xs y z)

two_more : {X : Type 0} (xs : List X) (y z x : X) (k : ℕ) → slice_get (xs ++ y ∷ z ∷ []) k ≡ Some x
    → (slice_get xs k ≡ Some x) ⊎ ((x ≡ y) ⊎ (x ≡ z))
two_more [] y z x zero at = inr (inl (sym (same_Some y x at)))
two_more [] y z x (suc zero) at = inr (inr (sym (same_Some z x at)))
two_more [] y z x (suc (suc k)) at = cc
two_more (w ∷ ws) y z x zero at = inl at
two_more (w ∷ ws) y z x (suc k) at = two_more ws y z x k at

-- a link that leads somewhere
record Leading (links : List Link) (e u v : ℕ) : Type 0 where
  link : Link
  is : slice_get links e ≡ Some link
  far : far_node u link ≡ Some v

leading : (links : List Link) (e u v : ℕ) → leads links e u ≡ Some v → Leading links e u v
leading links e u v onward = go (slice_get links e) refl onward
  where
    go : (o : Option Link) → slice_get links e ≡ o → option_and_then (far_node u) o ≡ Some v → Leading links e u v
    go None is onward' = cc
    go (Some link) is onward' = record { link = link; is = is; far = onward' }

leads_by : (links : List Link) (e u v : ℕ) (link : Link) → slice_get links e ≡ Some link → far_node u link ≡ Some v → leads links e u ≡ Some v
leads_by links e u v link is far = ap (option_and_then (far_node u)) is ∙ far

module _ (g : Topology) (at : Attachment) where
  -- a link of the graph leads where it did
  pub old_leads : (e u v : ℕ) → leads g.links e u ≡ Some v → leads (links_with g at) e u ≡ Some v
  old_leads e u v onward =
      let l = leading g.links e u v onward in
      leads_by (links_with g at) e u v l.link (at_left g.links _ e l.link l.is) l.far

  -- the new links lead to the new node
  pub lower_leads : leads (links_with g at) (length g.links) at.lower ≡ Some (new_node g)
  lower_leads = leads_by (links_with g at) (length g.links) at.lower (new_node g) _ (first_more g.links _ _) (rw (eq-eqb at.lower at.lower refl) refl)

  pub upper_leads : leads (links_with g at) (length g.links + 1) at.upper ≡ Some (new_node g)
  upper_leads = leads_by (links_with g at) (length g.links + 1) at.upper (new_node g) _ (second_more g.links _ _) (rw (eq-eqb at.upper at.upper refl) refl)

  -- where a link leads from a node other than the new one: it is a link of the graph, or leads from one of the two routers to
  -- the new node
  pub leads_old : (e u v : ℕ) → u ≢ new_node g → leads (links_with g at) e u ≡ Some v
      → (leads g.links e u ≡ Some v) ⊎ ((v ≡ new_node g) × ((u ≡ at.lower) ⊎ (u ≡ at.upper)))
  leads_old e u v other onward =
      let l = leading (links_with g at) e u v onward in
      elim (two_more g.links _ _ l.link e l.is) [
        | inl old ↦ inl (leads_by g.links e u v l.link old l.far)
        | inr new ↦ elim new [
          | inl one ↦ inr (go at.lower (far_ends _ u v (subst (λ (k : Link). far_node u k ≡ Some v) one l.far)) (λ u_is v_is. (v_is, inl u_is)))
          | inr two ↦ inr (go at.upper (far_ends _ u v (subst (λ (k : Link). far_node u k ≡ Some v) two l.far)) (λ u_is v_is. (v_is, inr u_is)))
        ]
      ]
    where
      go : {R : Type 0} (x : ℕ) → ((x ≡ u) × (new_node g ≡ v)) ⊎ ((new_node g ≡ u) × (x ≡ v)) → (u ≡ x → v ≡ new_node g → R) → R
      go x (inl up) then = then (sym up.0) (sym up.1)
      go x (inr down) then = absurd (other (sym down.0))

  -- each link leads to a node of the graph, or to the new one
  pub leads_within : ((e u v : ℕ) → leads g.links e u ≡ Some v → v < length g.ids) → at.lower < length g.ids → at.upper < length g.ids
      → (e u v : ℕ) → leads (links_with g at) e u ≡ Some v → v < length g.ids + 1
  leads_within within lower upper e u v onward =
      let l = leading (links_with g at) e u v onward in
      elim (two_more g.links _ _ l.link e l.is) [
        | inl old ↦ let below = within e u v (leads_by g.links e u v l.link old l.far) in omega (arith, below)
        | inr new ↦ elim new [
          | inl one ↦ go at.lower lower (far_ends _ u v (subst (λ (k : Link). far_node u k ≡ Some v) one l.far))
          | inr two ↦ go at.upper upper (far_ends _ u v (subst (λ (k : Link). far_node u k ≡ Some v) two l.far))
        ]
      ]
    where
      go : (x : ℕ) → x < length g.ids → ((x ≡ u) × (new_node g ≡ v)) ⊎ ((new_node g ≡ u) × (x ≡ v)) → v < length g.ids + 1
      go x below (inl up) = omega (arith, up.1)
      go x below (inr down) = omega (arith, down.1, below)
