-- The waypoint of two nodes that are not related: where the way from the one to the other leaves its block.
use Rattle.std.proofs.Common.{◌≡◌, ◌≢◌, ◌⊎◌, ◌∙◌, ◌<◌, ◌≤◌, ℕ, zero, suc, inl, inr, refl, sym, ap, subst, arith}
use Rattle.std.proofs.lemmas.Bool.{cases_eq}
use Rattle.mrt_graph.specs.declared.link.Element.TheVariants as elements
use Rattle.mrt_graph.proofs.Blocks.{Words, Blocks, Related, InOne, Under, Over, Member, At, Inner, Top, Below, Here, Up}
use Rattle.mrt_graph.proofs.InBlock.{at_related, at_within}
use Rattle.mrt_graph.proofs.RowFacts.{Rows, SameHops}
use Rattle.mrt_graph.proofs.Separate.{below_above, enters, head_order, head_not_below, leaves}
use Rattle.mrt_graph.proofs.Members.{Has}
use Rattle.mrt_graph.proofs.Trails.{Parts, nodes_on}

-- the first node of t's chain that is related to s; where the chain ends at the root with none, the head of s
pub data Toward (w : Words) (s : ℕ) : ℕ → ℕ → Type 0 where
  Straight : (t : ℕ) → Related w s t → Toward w s t t
  Home : (Related w s w.root → ⊥) → Toward w s w.root (w.head s)
  Climb : (t v : ℕ) → (Related w s t → ⊥) → t ≢ w.root → Toward w s (w.head t) v → Toward w s t v

-- v is in the chain of y
pub data Chain (w : Words) (v : ℕ) : ℕ → Type 0 where
  Stay : (y : ℕ) → y ≡ v → Chain w v y
  Step : (y : ℕ) → Chain w v (w.head y) → Chain w v y

-- where v lies
data Place (w : Words) (s t v : ℕ) : Type 0 where
  There : v ≡ t → Place w s t v
  Out : Member w s → v ≡ w.head s → (Below w s t → ⊥) → Place w s t v
  In : (c : ℕ) → Member w c → w.head c ≡ v → Below w c t → (Related w s c → ⊥) → Place w s t v

module _ (w : Words) (b : Blocks w) where
  pub related_or_not : (s t : ℕ) → Related w s t ⊎ (Related w s t → ⊥)
  related_or_not s t = elim (cases_eq (w.block s) (w.block t)) [
    | inl peers ↦ inl (InOne peers)
    | inr not_peers ↦ elim (cases_eq (w.head s) t) [
      | inl under ↦ inl (Under under)
      | inr not_under ↦ elim (cases_eq (w.head t) s) [
        | inl over ↦ inl (Over over)
        | inr not_over ↦ inr (none not_peers not_under not_over)
      ]
    ]
  ]
    where
      none : (w.block s ≢ w.block t) → (w.head s ≢ t) → (w.head t ≢ s) → Related w s t → ⊥
      none a c d (InOne e) = a e
      none a c d (Under e) = c e
      none a c d (Over e) = d e

  -- there is a waypoint
  pub toward : (s bound t : ℕ) → t < w.count → w.order t < bound → (v : ℕ) × Toward w s t v
  toward s zero t within below = absurd (omega (arith, below))
  toward s (suc bound) t within below = elim (related_or_not s t) [
    | inl near ↦ (t, Straight t near)
    | inr far ↦ elim (cases_eq t w.root) [
      | inl root ↦ (w.head s, subst (λ (x : ℕ). Toward w s x (w.head s)) (sym root) (Home (λ r. far (subst (Related w s) (sym root) r))))
      | inr other ↦
          let rest = toward s bound (w.head t) (b.head_within t within) (omega (arith, below, b.head_lower t (record { within = within; not_root = other })))
          in (rest.0, Climb t rest.0 far other rest.1)
    ]
  ]

  far_member : (s : ℕ) → s < w.count → (Related w s w.root → ⊥) → Member w s
  far_member s within far = record { within = within; not_root = λ root. far (InOne (ap w.block root)) }

  -- s and its waypoint are related, and differ
  pub toward_near : (s t v : ℕ) → s < w.count → s ≢ t → Toward w s t v → Related w s v × (s ≢ v)
  toward_near s t v within other (Straight _ near) = (near, other)
  toward_near s t v within other (Home far) = (
    Under refl,
    λ same.
        omega (arith, b.head_lower s (far_member s within far), ap w.order same),
  )
  toward_near s t v within other (Climb _ _ far not_root rest) = toward_near s (w.head t) v within (λ same. far (Over (sym same))) rest

  -- the waypoint of related nodes is the second of them
  pub toward_related : (s t v : ℕ) → Toward w s t v → Related w s t → v ≡ t
  toward_related s t v (Straight _ near) related = refl
  toward_related s t v (Home far) related = absurd (far related)
  toward_related s t v (Climb _ _ far not_root rest) related = absurd (far related)

  -- the waypoint is the head of s, or in the chain of t
  pub toward_where : (s t v : ℕ) → Toward w s t v → (v ≡ w.head s) ⊎ Chain w v t
  toward_where s t v (Straight _ near) = inr (Stay t refl)
  toward_where s t v (Home far) = inl refl
  toward_where s t v (Climb _ _ far not_root rest) = elim (toward_where s (w.head t) v rest) [
    | inl head ↦ inl head
    | inr chain ↦ inr (Step t chain)
  ]

  pub chain_order : (v t : ℕ) → t < w.count → Chain w v t → (v < w.count) × (w.order v ≤ w.order t)
  chain_order v t within (Stay _ same) = (subst (λ (x : ℕ). x < w.count) same within, subst (λ (x : ℕ). w.order x ≤ w.order t) same (omega arith))
  chain_order v t within (Step _ chain) =
      let up = chain_order v (w.head t) (b.head_within t within) chain in
      (up.0, omega (arith, up.1, head_order w b t within))

  pub toward_within : (s t v : ℕ) → s < w.count → t < w.count → Toward w s t v → v < w.count
  toward_within s t v s_within t_within to = elim (toward_where s t v to) [
    | inl head ↦ subst (λ (x : ℕ). x < w.count) (sym head) (b.head_within s s_within)
    | inr chain ↦ (chain_order v t t_within chain).0
  ]

  -- s has for t the hops that it has for its waypoint
  pub toward_hops : Rows w → (s t v : ℕ) → s < w.count → t < w.count → s ≢ t → Toward w s t v → SameHops w s t v
  toward_hops rows s t v s_within t_within other (Straight _ near) = record { blue = refl; red = refl }
  toward_hops rows s t v s_within t_within other (Home far) = rows.far_root s s_within other far
  toward_hops rows s t v s_within t_within other (Climb _ _ far not_root rest) =
      let up = rows.far s t s_within t_within other not_root far in
      let more = toward_hops rows s (w.head t) v s_within (b.head_within t t_within) (λ same. far (Over (sym same))) rest in
      record { blue = up.blue ∙ more.blue; red = up.red ∙ more.red }

  root_outside : (m y : ℕ) → Member w m → y ≡ w.root → Below w m y → ⊥
  root_outside m y member root (Here _ same) = b.not_roots m member (sym same ∙ ap w.block root ∙ b.root_block)
  root_outside m y member root (Up _ up) = root_outside m (w.head y) member (ap w.head root ∙ b.root_head) up

  not_below : (s t : ℕ) → (Related w s t → ⊥) → (Below w s (w.head t) → ⊥) → Below w s t → ⊥
  not_below s t far out (Here _ same) = far (InOne (sym same))
  not_below s t far out (Up _ up) = out up

  place : (s t v : ℕ) → s < w.count → t < w.count → Toward w s t v → Place w s t v
  place s t v s_within t_within (Straight _ near) = There refl
  place s t v s_within t_within (Home far) =
      let member = far_member s s_within far in
      Out member refl (root_outside s w.root member refl)
  place s t v s_within t_within (Climb _ _ far not_root rest) = go (place s (w.head t) v s_within (b.head_within t t_within) rest)
    where
      go : Place w s (w.head t) v → Place w s t v
      go (There same) = In t (record { within = t_within; not_root = not_root }) (sym same) (Here t refl) far
      go (Out member head out) = Out member head (not_below s t far out)
      go (In c member head below far_c) = In c member head (Up t below) far_c

  -- s is not below a block to which it is not related, if it is related to its head
  outside : (s c : ℕ) → s < w.count → Member w c → (Related w s c → ⊥) → Related w s (w.head c) → Below w c s → ⊥
  outside s c within member far near (Here _ same) = far (InOne same)
  outside s c within member far (InOne peers) (Up _ up) =
      let one : w.head s ≡ w.head (w.head c) = b.one_head s (w.head c) within (b.head_within c member.within) peers in
      omega (arith, below_above w b c (w.head s) member (b.head_within s within) up, head_order w b (w.head c) (b.head_within c member.within), ap w.order one)
  outside s c within member far (Under under) (Up _ up) = head_not_below w b c member (subst (Below w c) under up)
  outside s c within member far (Over over) (Up _ up) =
      omega (arith, below_above w b c s member within (Up s up), head_order w b (w.head c) (b.head_within c member.within), ap w.order over)

  -- the waypoint parts s and t
  pub waypoint_parts : (s t v : ℕ) → s < w.count → t < w.count → s ≢ t → v ≢ t → Toward w s t v → Parts w.links (elements.Node v) s t
  waypoint_parts s t v s_within t_within other not_t to hops trail = go (place s t v s_within t_within to)
    where
      go : Place w s t v → Has (nodes_on s hops) v
      go (There same) = absurd (not_t same)
      go (Out member head out) = elim (leaves w b s s t hops member trail (Here s refl)) [
        | inl c ↦ subst (Has (nodes_on s hops)) (sym head) c.head_met
        | inr below ↦ absurd (out below)
      ]
      go (In c member head below far) = elim (enters w b c s t hops member trail below) [
        | inl crosses ↦ subst (Has (nodes_on s hops)) head crosses.head_met
        | inr within ↦ absurd (outside s c s_within member far (subst (Related w s) (sym head) (toward_near s t v s_within other to).0) within)
      ]

  -- a node of m's block has a greater order than the head
  inner_above : (m x : ℕ) → Member w m → x < w.count → w.block x ≡ w.block m → w.order (w.head m) < w.order x
  inner_above m x member within same = below_above w b m x member within (Here x same)

  -- the head is no nearer to t than s, where v lies within
  head_far : (m s x t v : ℕ) → Member w m → t < w.count → s ≢ x → x ≢ v → At w m s → At w m v → x ≡ w.head m
      → Toward w s t v → w.order t ≤ w.order x → ⊥
  head_far m s x t v member within other not_v (Top s_head) v_at x_head to low = other (s_head ∙ sym x_head)
  head_far m s x t v member within other not_v (Inner s_within s_same) (Top v_head) x_head to low = not_v (x_head ∙ sym v_head)
  head_far m s x t v member within other not_v (Inner s_within s_same) (Inner v_within v_same) x_head to low = elim (toward_where s t v to) [
    | inl head ↦ not_v (x_head ∙ sym (b.one_head s m s_within member.within s_same) ∙ sym head)
    | inr chain ↦ omega (arith, inner_above m v member v_within v_same, (chain_order v t within chain).1, low, ap w.order x_head)
  ]

  -- each node on the way to the waypoint is as little related to t as s is
  still_far : (m s x t v : ℕ) → Member w m → t < w.count → x ≢ v → At w m s → At w m x → At w m v
      → (Related w s t → ⊥) → Toward w s (w.head t) v → Related w x t → ⊥
  still_far m s x t v member within not_v s_at x_at v_at far to related = elim (cases_eq s x) [
    | inl same ↦ far (subst (λ (y : ℕ). Related w y t) (sym same) related)
    | inr other ↦ go other x_at s_at related
  ]
    where
      go : s ≢ x → At w m x → At w m s → Related w x t → ⊥
      go other xs ss (Over over) =
          let v_is : v ≡ w.head t = toward_related s (w.head t) v to (subst (Related w s) (sym over) (at_related w b m s x member ss xs other)) in
          not_v (sym over ∙ sym v_is)
      go other (Inner x_within x_same) (Inner s_within s_same) (InOne peers) = far (InOne (s_same ∙ sym x_same ∙ peers))
      go other (Inner x_within x_same) (Top s_head) (InOne peers) =
          far (Over (b.one_head t m within member.within (sym peers ∙ x_same) ∙ sym s_head))
      go other (Inner x_within x_same) (Inner s_within s_same) (Under under) =
          far (Under (b.one_head s x s_within x_within (s_same ∙ sym x_same) ∙ under))
      go other (Inner x_within x_same) (Top s_head) (Under under) =
          far (InOne (ap w.block (s_head ∙ sym (b.one_head x m x_within member.within x_same) ∙ under)))
      go other (Top x_head) ss (InOne peers) =
          let x_within = at_within w b m x member x_at in
          let one : w.head x ≡ w.head t = b.one_head x t x_within within peers in
          head_far m s x (w.head t) v member (b.head_within t within) other not_v ss v_at x_head to
          (omega (arith, head_order w b x x_within, ap w.order one))
      go other (Top x_head) ss (Under under) =
          let x_within = at_within w b m x member x_at in
          head_far m s x (w.head t) v member (b.head_within t within) other not_v ss v_at x_head to
          (omega (arith, head_order w b x x_within, head_order w b t within, ap w.order under))

  -- where the waypoint is the head of s, each other node on the way is in the block of s
  home_same : (m s x : ℕ) → Member w m → Member w s → x ≢ w.head s → At w m s → At w m x → At w m (w.head s)
      → (x < w.count) × ((w.block x ≡ w.block m) × (w.head x ≡ w.head s))
  home_same m s x member s_member other (Inner s_within s_same) (Inner x_within x_same) v_at =
      (x_within, (x_same, b.one_head x s x_within s_within (x_same ∙ sym s_same)))
  home_same m s x member s_member other (Inner s_within s_same) (Top x_head) v_at =
      absurd (other (x_head ∙ sym (b.one_head s m s_within member.within s_same)))
  home_same m s x member s_member other (Top s_head) x_at (Top v_head) =
      absurd (omega (arith, b.head_lower s s_member, ap w.order (v_head ∙ sym s_head)))
  home_same m s x member s_member other (Top s_head) x_at (Inner v_within v_same) =
      absurd (omega (
        arith,
        b.head_lower s s_member,
        head_order w b (w.head s) v_within,
        ap w.order (b.one_head (w.head s) m v_within member.within v_same ∙ sym s_head),
      ))

  root_far : (m s x : ℕ) → Member w m → (Related w s w.root → ⊥) → w.block x ≡ w.block m → w.head x ≡ w.head s → Related w x w.root → ⊥
  root_far m s x member far same heads (InOne peers) = b.not_roots m member (sym same ∙ peers ∙ b.root_block)
  root_far m s x member far same heads (Under under) = far (Under (sym heads ∙ under))
  root_far m s x member far same heads (Over over) =
      b.not_roots m member (sym same ∙ ap w.block (sym over ∙ b.root_head) ∙ b.root_block)

  -- each node on the way to the waypoint has the same waypoint
  pub same_waypoint : (m s x t v : ℕ) → Member w m → s < w.count → t < w.count → x ≢ v → At w m s → At w m x → At w m v
      → Toward w s t v → Toward w x t v
  same_waypoint m s x t v member s_within t_within not_v s_at x_at v_at (Straight _ near) = Straight t (at_related w b m x t member x_at v_at not_v)
  same_waypoint m s x t v member s_within t_within not_v s_at x_at v_at (Home far) =
      let home = home_same m s x member (far_member s s_within far) not_v s_at x_at v_at in
      subst (λ (y : ℕ). Toward w x w.root y) home.1.1 (Home (root_far m s x member far home.1.0 home.1.1))
  same_waypoint m s x t v member s_within t_within not_v s_at x_at v_at (Climb _ _ far not_root rest) =
      Climb t v (still_far m s x t v member t_within not_v s_at x_at v_at far rest) not_root
      (same_waypoint m s x (w.head t) v member s_within (b.head_within t t_within) not_v s_at x_at v_at rest)
