-- Where the way from a node enters the block, and what is on it.
use Rattle.std.proofs.Common.{◌≡◌, ◌≢◌, ◌⊎◌, ◌<◌, ◌∙◌, ℕ, zero, suc, List, [], ◌∷◌, Option, Some, inl, inr, refl, sym, ap, subst, arith}
use Rattle.std.proofs.lemmas.Bool.{cases_eq}
use Rattle.mrt_graph.specs.declared.link.Element.TheVariants as elements
use Rattle.mrt_graph.specs.declared.link.Link.{Link}
use Rattle.mrt_graph.specs.Hop.{Hop}
use Rattle.mrt_graph.specs.Leads.{leads}
use Rattle.mrt_graph.proofs.Blocks.{Words, Blocks, Member, At, Inner, Top, Below, Here, Up, Related, InOne, Under, Over}
use Rattle.mrt_graph.proofs.Hops.{front_round}
use Rattle.mrt_graph.proofs.Members.{Has}
use Rattle.mrt_graph.proofs.RowFacts.{Rows, SameHops}
use Rattle.mrt_graph.proofs.Separate.{below_above, enters, head_not_below, head_order, leaves}
use Rattle.mrt_graph.proofs.Trails.{Follows, IsOnLinks, Parts, Trail, nodes_on}
use Rattle.mrt_graph.proofs.Waypoint.{related_or_not}

-- the nodes on a walk are nodes
pub nodes_within : (links : List Link) (n : ℕ) → ((e u v : ℕ) → leads links e u ≡ Some v → v < n) → (s t : ℕ) → s < n → (hops : List Hop)
    → Trail links s hops t → (x : ℕ) → Has (nodes_on s hops) x → x < n
nodes_within links n ends s t within [] trail x h = elim h [ inl same ↦ subst (λ (y : ℕ). y < n) same within | inr none ↦ absurd none ]
nodes_within links n ends s t within (hop ∷ hops) trail x h = elim h [
  | inl same ↦ subst (λ (y : ℕ). y < n) same within
  | inr later ↦ nodes_within links n ends hop.to t (ends hop.link s hop.to trail.0) hops trail.1 x later
]

-- the last node of a walk is on it
pub last_on : (links : List Link) (s t : ℕ) (hops : List Hop) → Trail links s hops t → Has (nodes_on s hops) t
last_on links s t [] trail = inl trail
last_on links s t (hop ∷ hops) trail = inr (last_on links hop.to t hops trail.1)

-- m is a member of the block
module _ (w : Words) (b : Blocks w) (m : ℕ) (member : Member w m) where
  -- where the way from s enters: s is of the block, or its head; else y is outside it, below a member e of it, and the chain
  -- of s meets the block of y; or the chain of s meets no member
  pub data Entry (s : ℕ) : Type 0 where
    Inside : At w m s → Entry s
    ByMember : (e y : ℕ) → e < w.count → w.block e ≡ w.block m → Member w y → w.head y ≡ e → Below w y s → Entry s
    ByHead : (Below w m s → ⊥) → Entry s

  -- a node is of the block or its head, or neither
  pub at_or_not : (s : ℕ) → s < w.count → At w m s ⊎ ((w.block s ≢ w.block m) × (s ≢ w.head m))
  at_or_not s within = elim (cases_eq (w.block s) (w.block m)) [
    | inl same ↦ inl (Inner within same)
    | inr other ↦ elim (cases_eq s (w.head m)) [
      | inl top ↦ inl (Top top)
      | inr not_top ↦ inr (other, not_top)
    ]
  ]

  -- one step up the chain
  above : (s : ℕ) → s < w.count → s ≢ w.root → w.block s ≢ w.block m → Entry (w.head s) → Entry s
  above s within not_root other (Inside (Inner up_within same)) =
      ByMember (w.head s) s up_within same (record { within = within; not_root = not_root }) refl (Here s refl)
  above s within not_root other (Inside (Top top)) = ByHead (λ below. go below)
    where
      go : Below w m s → ⊥
      go (Here _ same) = other same
      go (Up _ up) = head_not_below w b m member (subst (Below w m) top up)
  above s within not_root other (ByMember e y e_within same y_member head below) = ByMember e y e_within same y_member head (Up s below)
  above s within not_root other (ByHead none) = ByHead (λ below. go below)
    where
      go : Below w m s → ⊥
      go (Here _ same) = other same
      go (Up _ up) = none up

  root_not_below : (s : ℕ) → s ≡ w.root → Below w m s → ⊥
  root_not_below s root (Here _ same) = b.not_roots m member (sym same ∙ ap w.block root ∙ b.root_block)
  root_not_below s root (Up _ up) = root_not_below (w.head s) (ap w.head root ∙ b.root_head) up

  entry_of : (bound s : ℕ) → s < w.count → w.order s < bound → Entry s
  entry_of zero s within less = absurd (omega (arith, less))
  entry_of (suc bound) s within less = elim (at_or_not s within) [
    | inl at ↦ Inside at
    | inr out ↦ elim (cases_eq s w.root) [
      | inl root ↦ ByHead (root_not_below s root)
      | inr not_root ↦
          above s within not_root out.0
          (entry_of bound (w.head s) (b.head_within s within) (omega (arith, less, b.head_lower s (record { within = within; not_root = not_root }))))
    ]
  ]

  -- each node has one
  pub entry : (s : ℕ) → s < w.count → Entry s
  entry s within = entry_of (suc (w.order s)) s within (omega arith)

  -- the head of the block comes before a member
  head_before : (e : ℕ) → e < w.count → w.block e ≡ w.block m → w.order (w.head m) < w.order e
  head_before e within same =
      let not_root : e ≢ w.root = λ root. b.not_roots m member (sym same ∙ ap w.block root ∙ b.root_block) in
      omega (arith, b.head_lower e (record { within = within; not_root = not_root }), ap w.order (b.one_head e m within member.within same))

  -- what is below a block that hangs on a member is not of the member's block, nor its head
  pub below_not_at : (e y x : ℕ) → e < w.count → w.block e ≡ w.block m → Member w y → w.head y ≡ e → Below w y x → At w m x → ⊥
  below_not_at e y x e_within e_same y_member head below (Top top) =
      let up = below_above w b y x y_member (subst (λ (v : ℕ). v < w.count) (sym top) (b.head_within m member.within)) below in
      omega (arith, up, ap w.order head, ap w.order top, head_before e e_within e_same)
  below_not_at e y x e_within e_same y_member head (Here _ same) (Inner within x_same) =
      let heads : w.head y ≡ w.head m = b.one_head y m y_member.within member.within (sym same ∙ x_same) in
      omega (arith, ap w.order (sym head ∙ heads), head_before e e_within e_same)
  below_not_at e y x e_within e_same y_member head (Up _ up) (Inner within x_same) =
      let top : w.head x ≡ w.head m = b.one_head x m within member.within x_same in
      let more = below_above w b y (w.head x) y_member (b.head_within x within) up in
      omega (arith, more, ap w.order head, ap w.order top, head_before e e_within e_same)

  -- from below such a block each walk to the block or its head meets the member
  pub member_parts : (s x e y : ℕ) → e < w.count → w.block e ≡ w.block m → Member w y → w.head y ≡ e → Below w y s → At w m x
      → Parts w.links (elements.Node e) s x
  member_parts s x e y e_within e_same y_member head below at_x hops trail = elim (leaves w b y s x hops y_member trail below) [
    | inl crosses ↦ subst (Has (nodes_on s hops)) head crosses.head_met
    | inr still ↦ absurd (below_not_at e y x e_within e_same y_member head still at_x)
  ]

  -- and from elsewhere each one meets the head
  pub head_parts : (s x : ℕ) → (Below w m s → ⊥) → At w m x → Parts w.links (elements.Node (w.head m)) s x
  head_parts s x out (Top top) hops trail = subst (Has (nodes_on s hops)) top (last_on w.links s x hops trail)
  head_parts s x out (Inner within same) hops trail = elim (enters w b m s x hops member trail (Here x same)) [
    | inl crosses ↦ crosses.head_met
    | inr below ↦ absurd (out below)
  ]

  -- on hops to the member, each node but it is not of the block, nor its head
  pub before_member : (next : ℕ → Option Hop) → IsOnLinks w.links next → (s x e y : ℕ) (hops : List Hop) → e < w.count → w.block e ≡ w.block m → Member w y → w.head y ≡ e
      → Below w y s → Follows next e s hops → Has (nodes_on s hops) x → x ≢ e → At w m x → ⊥
  before_member next on s x e y hops e_within e_same y_member head below follows has other at_x =
      let round = front_round w.links next on e s x hops follows has other in
      elim (leaves w b y s x round.hops y_member round.trail below) [
        | inl crosses ↦ round.without (subst (Has (nodes_on s round.hops)) head crosses.head_met)
        | inr still ↦ below_not_at e y x e_within e_same y_member head still at_x
      ]

  -- and on hops to the head
  pub before_head : (next : ℕ → Option Hop) → IsOnLinks w.links next → (s x : ℕ) (hops : List Hop) → (Below w m s → ⊥)
      → Follows next (w.head m) s hops → Has (nodes_on s hops) x → x ≢ w.head m → At w m x → ⊥
  before_head next on s x hops out follows has other (Top top) = other top
  before_head next on s x hops out follows has other (Inner within same) =
      let round = front_round w.links next on (w.head m) s x hops follows has other in
      elim (enters w b m s x round.hops member round.trail (Here x same)) [
        | inl crosses ↦ round.without crosses.head_met
        | inr below ↦ out below
      ]

  -- for what comes before its head a node has the hops that it has for its head
  module _ (rows : Rows w) (x : ℕ) (x_within : x < w.count) where
    climb : (bound y : ℕ) → y < w.count → w.order y < w.order (w.head x) → w.order y < bound → SameHops w x y (w.head x)
    climb zero y within before less = absurd (omega (arith, less))
    climb (suc bound) y within before less =
        let up = head_order w b x x_within in
        let differ : x ≢ y = λ same. omega (arith, before, up, ap w.order same) in
        let far : Related w x y → ⊥ = λ related. go related in
        elim (cases_eq y w.root) [
          | inl root ↦ subst (λ (v : ℕ). SameHops w x v (w.head x)) (sym root)
              (rows.far_root x x_within (λ same. differ (same ∙ sym root)) (λ r. far (subst (Related w x) (sym root) r)))
          | inr not_root ↦
              let lower = b.head_lower y (record { within = within; not_root = not_root }) in
              let one = rows.far x y x_within within differ not_root far in
              let more = climb bound (w.head y) (b.head_within y within) (omega (arith, lower, before)) (omega (arith, lower, less)) in
              record { blue = one.blue ∙ more.blue; red = one.red ∙ more.red }
        ]
      where
        go : Related w x y → ⊥
        go (InOne same) = omega (arith, before, head_order w b y within, ap w.order (b.one_head x y x_within within same))
        go (Under under) = omega (arith, before, ap w.order under)
        go (Over over) = omega (arith, before, head_order w b y within, head_order w b x x_within, ap w.order over)

    -- outside the block, the row for each member is the row for the head
    pub outside_hops : (At w m x → ⊥) → (e : ℕ) → e < w.count → w.block e ≡ w.block m → SameHops w x e (w.head m)
    outside_hops out e e_within e_same = elim (related_or_not w b x e) [
      | inr far ↦
          let differ : x ≢ e = λ same. out (Inner x_within (ap w.block same ∙ e_same)) in
          let not_root : e ≢ w.root = λ root. b.not_roots m member (sym e_same ∙ ap w.block root ∙ b.root_block) in
          subst (SameHops w x e) (b.one_head e m e_within member.within e_same) (rows.far x e x_within e_within differ not_root far)
      | inl near ↦ go near
    ]
      where
        go : Related w x e → SameHops w x e (w.head m)
        go (InOne same) = absurd (out (Inner x_within (same ∙ e_same)))
        go (Over over) = absurd (out (Top (sym over ∙ b.one_head e m e_within member.within e_same)))
        go (Under under) =
            let back = climb (suc (w.order (w.head m))) (w.head m) (b.head_within m member.within)
            (omega (arith, head_before e e_within e_same, ap w.order under)) (omega arith) in
            record {
              blue = sym (subst (λ (v : ℕ). w.blue (w.head m) x ≡ w.blue v x) under back.blue);
              red = sym (subst (λ (v : ℕ). w.red (w.head m) x ≡ w.red v x) under back.red);
            }
