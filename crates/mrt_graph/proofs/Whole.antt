-- If the claim holds for each two related nodes, each two different nodes are good.
use Rattle.std.proofs.Common.{◌≡◌, ◌≢◌, ◌∙◌, ◌<◌, ◌+◌, ℕ, zero, suc, inl, inr, refl, sym, ap, subst, arith}
use Rattle.std.proofs.lemmas.Bool.{cases_eq}
use Rattle.mrt_graph.proofs.Blocks.{Words, Blocks, Related, InOne, Over, Member, At}
use Rattle.mrt_graph.proofs.Claims.{Good, Near, NearClaim}
use Rattle.mrt_graph.proofs.Compose.{composed}
use Rattle.mrt_graph.proofs.Hops.{last_is_met}
use Rattle.mrt_graph.proofs.InBlock.{at_within}
use Rattle.mrt_graph.proofs.RowFacts.{Rows, SameHops}
use Rattle.mrt_graph.proofs.Waypoint.{Toward, Straight, Home, Climb, Chain, Stay, Step, chain_order, related_or_not, same_waypoint, toward, toward_hops, toward_near, toward_related, toward_where, toward_within, waypoint_parts}

module _ (w : Words) (b : Blocks w) (rows : Rows w) (claim : NearClaim w) where
  -- on the way to the waypoint each node goes for t where it goes for the waypoint
  goes_alike : (m s x t v : ℕ) → Member w m → s < w.count → t < w.count → v ≢ t → x ≢ v → At w m s → At w m x → At w m v
      → Toward w s t v → (x ≢ t) × SameHops w x t v
  goes_alike m s x t v member s_within t_within not_t not_v s_at x_at v_at to =
      let to_x = same_waypoint w b m s x t v member s_within t_within not_v s_at x_at v_at to in
      let x_not_t : x ≢ t = λ same. not_t (toward_related w b x t v to_x (InOne (ap w.block same))) in
      (x_not_t, toward_hops w b rows x t v (at_within w b m x member x_at) t_within x_not_t to_x)

  -- one part of the way, and what follows
  by_waypoint : (s t v : ℕ) → s < w.count → t < w.count → s ≢ t → v ≢ t → Toward w s t v → Near w s v → Good w v t → Good w s t
  by_waypoint s t v s_within t_within other not_t to near good = composed w rows s v t (record {
    parts = waypoint_parts w b s t v s_within t_within other not_t to;
    first = near.good;
    second = good;
    blue_same = λ x h not_v.
        let alike = goes_alike near.m s x t v near.member s_within t_within not_t not_v (near.blue_at s (inl refl)) (near.blue_at x h)
        (near.blue_at v (last_is_met (w.blue v) v s near.good.blue.hops near.good.blue.follows)) to in
        (alike.0, alike.1.blue);
    red_same = λ x h not_v.
        let alike = goes_alike near.m s x t v near.member s_within t_within not_t not_v (near.red_at s (inl refl)) (near.red_at x h)
        (near.red_at v (last_is_met (w.red v) v s near.good.red.hops near.good.red.follows)) to in
        (alike.0, alike.1.red);
  })

  -- what is left of the way from s to t
  data Rest (s t : ℕ) : Type 0 where
    None : Good w s t → Rest s t
    From : (v : ℕ) → v < w.count → s ≢ v → v ≢ t → Toward w s t v → (Good w v t → Good w s t) → Rest s t

  rest : (s t : ℕ) → s < w.count → t < w.count → s ≢ t → Rest s t
  rest s t s_within t_within other = elim (related_or_not w b s t) [
    | inl related ↦ None (claim s t s_within t_within other related).good
    | inr far ↦
        let way = toward w b s (suc (w.order t)) t t_within (omega arith) in
        let near = toward_near w b s t way.0 s_within other way.1 in
        let within = toward_within w b s t way.0 s_within t_within way.1 in
        let not_t : way.0 ≢ t = λ same. far (subst (Related w s) same near.0) in
        From way.0 within near.1 not_t way.1
        (λ good. by_waypoint s t way.0 s_within t_within other not_t way.1 (claim s way.0 s_within within near.1 near.0) good)
  ]

  root_chain : (s y : ℕ) → y ≡ w.root → Chain w s y → s ≡ w.root
  root_chain s y root (Stay _ same) = sym same ∙ root
  root_chain s y root (Step _ chain) = root_chain s (w.head y) (ap w.head root ∙ b.root_head) chain

  chain_higher : (s t : ℕ) → t < w.count → s ≢ t → Chain w s t → w.order s < w.order t
  chain_higher s t within other chain = elim (cases_eq (w.order s) (w.order t)) [
    | inl same ↦ absurd (other (b.one_order s t (chain_order w b s t within chain).0 within same))
    | inr apart ↦ omega (arith, (chain_order w b s t within chain).1, apart)
  ]

  -- from a node in the chain of t the waypoint is further down that chain
  further : (s t v : ℕ) → t < w.count → s ≢ t → Chain w s t → Toward w s t v → Chain w v t × (w.order s < w.order v)
  further s t v within other chain (Straight _ near) = (Stay t refl, chain_higher s t within other chain)
  further s t v within other chain (Home far) = absurd (other (root_chain s w.root refl chain))
  further s t v within other (Stay _ same) (Climb _ _ far not_root to) = absurd (other (sym same))
  further s t v within other (Step _ chain) (Climb _ _ far not_root to) =
      let more = further s (w.head t) v (b.head_within t within) (λ same. far (Over (sym same))) chain to in
      (Step t more.0, more.1)

  down : (bound s t : ℕ) → s < w.count → t < w.count → s ≢ t → Chain w s t → w.order t < w.order s + bound → Good w s t
  down zero s t s_within t_within other chain below = absurd (omega (arith, below, chain_higher s t t_within other chain))
  down (suc bound) s t s_within t_within other chain below = go (down bound) (rest s t s_within t_within other)
    where
      go : ((v t : ℕ) → v < w.count → t < w.count → v ≢ t → Chain w v t → w.order t < w.order v + bound → Good w v t) → Rest s t → Good w s t
      go on (None good) = good
      go on (From v v_within not_s not_t to then) =
          let more = further s t v t_within other chain to in
          then (on v t v_within t_within not_t more.0 (omega (arith, below, more.1)))

  all_good : (bound s t : ℕ) → s < w.count → t < w.count → s ≢ t → w.order s < bound → Good w s t
  all_good zero s t s_within t_within other below = absurd (omega (arith, below))
  all_good (suc bound) s t s_within t_within other below = go (all_good bound) (rest s t s_within t_within other)
    where
      go : ((v t : ℕ) → v < w.count → t < w.count → v ≢ t → w.order v < bound → Good w v t) → Rest s t → Good w s t
      go on (None good) = good
      go on (From v v_within not_s not_t to then) = elim (toward_where w b s t v to) [
        | inl head ↦
            let member : Member w s = record { within = s_within; not_root = λ root. not_s (root ∙ sym b.root_head ∙ ap w.head (sym root) ∙ sym head) } in
            then (on v t v_within t_within not_t (omega (arith, below, b.head_lower s member, ap w.order head)))
        | inr chain ↦ then (down (suc (w.order t)) v t v_within t_within not_t chain (omega arith))
      ]

  -- each two different nodes are good
  pub good_everywhere : (s t : ℕ) → s < w.count → t < w.count → s ≢ t → Good w s t
  good_everywhere s t s_within t_within other = all_good (suc (w.order s)) s t s_within t_within other (omega arith)
