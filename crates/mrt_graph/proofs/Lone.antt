-- The claim on two nodes that the one link of a block joins.
use Rattle.std.proofs.Common.{◌≡◌, ◌≢◌, ◌⊎◌, ◌∙◌, ◌<◌, ℕ, List, [], ◌∷◌, Option, Some, inl, inr, refl, sym, ap, subst}
use Rattle.mrt_graph.specs.declared.cert.Role.TheVariants as roles
use Rattle.mrt_graph.specs.declared.link.Element.{Element}
use Rattle.mrt_graph.specs.declared.link.Element.TheVariants as elements
use Rattle.mrt_graph.specs.Hop.{Hop}
use Rattle.mrt_graph.specs.Leads.{leads}
use Rattle.mrt_graph.specs.Separates.{IsNeitherEnd}
use Rattle.mrt_graph.proofs.Blocks.{Words, Blocks, Common, Peers, ToHead, FromHead, Member, At, Inner, Top, Below, Here}
use Rattle.mrt_graph.proofs.Claims.{Near, Way}
use Rattle.mrt_graph.proofs.RowFacts.{NearRow, Rows, SoleRow}
use Rattle.mrt_graph.proofs.Separate.{Crosses, enters, head_not_below, leaves}
use Rattle.mrt_graph.proofs.Members.{Has}
use Rattle.mrt_graph.proofs.Trails.{On, Parts, links_on, nodes_on}

module _ (w : Words) (b : Blocks w) (rows : Rows w) (s t : ℕ) (other : s ≢ t) (s_within : s < w.count) (t_within : t < w.count) where
  -- the member among the two, and what parts them
  record Side (e : ℕ) : Type 0 where
    m : ℕ
    member : Member w m
    s_at : At w m s
    t_at : At w m t
    parts : Parts w.links (elements.Link e) s t

  this_link : (e m : ℕ) (hops : List Hop) → leads w.links e s ≡ Some t → w.role e ≡ roles.Sole → w.part e ≡ w.block m → Crosses w m s hops → Has (links_on hops) e
  this_link e m hops there sole of_block c =
      let one = b.lone e s t c.link c.from c.to there other sole c.leads_on (of_block ∙ sym c.of_block) in
      subst (Has (links_on hops)) (sym one) c.on_walk

  side : (e : ℕ) → leads w.links e s ≡ Some t → w.role e ≡ roles.Sole → Common w s t (w.part e) → Side e
  side e there sole (Peers same is) = absurd (other (b.lone_member e s t s t there other sole s_within t_within (sym is) (sym same ∙ sym is)))
  side e there sole (ToHead head is) =
      let member : Member w s = record { within = s_within; not_root = λ root. other (root ∙ sym b.root_head ∙ ap w.head (sym root) ∙ head) } in
      record {
        m = s;
        member = member;
        s_at = Inner s_within refl;
        t_at = Top (sym head);
        parts = λ hops trail. elim (leaves w b s s t hops member trail (Here s refl)) [
          | inl c ↦ this_link e s hops there sole is c
          | inr below ↦ absurd (head_not_below w b s member (subst (Below w s) (sym head) below))
        ];
      }
  side e there sole (FromHead head is) =
      let member : Member w t = record { within = t_within; not_root = λ root. other (sym head ∙ ap w.head root ∙ b.root_head ∙ sym root) } in
      record {
        m = t;
        member = member;
        s_at = Top (sym head);
        t_at = Inner t_within refl;
        parts = λ hops trail. elim (enters w b t s t hops member trail (Here t refl)) [
          | inl c ↦ this_link e t hops there sole is c
          | inr below ↦ absurd (head_not_below w b t member (subst (Below w t) (sym head) below))
        ];
      }

  one_hop_met : (hop : Hop) (x : ℕ) → hop.to ≡ t → Has (nodes_on s (hop ∷ [])) x → (x ≡ s) ⊎ (x ≡ t)
  one_hop_met hop x there h = elim h [
    | inl start ↦ inl (sym start)
    | inr later ↦ elim later [ inl end ↦ inr (sym end ∙ there) | inr none ↦ absurd none ]
  ]

  abbrev one_hop : (next : ℕ → Option Hop) (hop : Hop) → next s ≡ Some hop → hop.to ≡ t → Way next t s
  one_hop next hop takes there = record {
    hops = hop ∷ [];
    follows = (other, (takes, there));
    differ = (λ h. elim h [ inl same ↦ other (sym same ∙ there) | inr none ↦ none ], (λ h. h, tt));
  }

  met_at : (e : ℕ) (d : Side e) (x : ℕ) → (x ≡ s) ⊎ (x ≡ t) → At w d.m x
  met_at e d x met = elim met [
    | inl start ↦ subst (At w d.m) (sym start) d.s_at
    | inr end ↦ subst (At w d.m) (sym end) d.t_at
  ]

  shared : (hop : Hop) → hop.to ≡ t → Side hop.link → (x : Element) → IsNeitherEnd x s t → On s (hop ∷ []) x → Parts w.links x s t
  shared hop there d (elements.Link e) between on = elim on [
    | inl same ↦ subst (λ (k : ℕ). Parts w.links (elements.Link k) s t) same d.parts
    | inr none ↦ absurd none
  ]
  shared hop there d (elements.Node x) between on = elim (one_hop_met hop x there on) [
    | inl start ↦ absurd (between.0 start)
    | inr end ↦ absurd (between.1 end)
  ]

  -- the claim on s and t, where the row of s for t goes over the one link of its block
  pub lone_near : (r : NearRow w s t) → SoleRow w s t r.blue r.red → Near w s t
  lone_near r sole =
      let there : r.red.to ≡ t =
      (let e : leads w.links r.red.link s ≡ Some r.blue.to = subst (λ (k : ℕ). leads w.links k s ≡ Some r.blue.to) sole.one_link (rows.blue_leads t s r.blue r.blue_is) in
      let f : leads w.links r.red.link s ≡ Some r.red.to = rows.red_leads t s r.red r.red_is in
      let g : r.blue.to ≡ t = sole.there in
      cc) in
      let to : leads w.links r.blue.link s ≡ Some t =
      subst (λ (v : ℕ). leads w.links r.blue.link s ≡ Some v) sole.there (rows.blue_leads t s r.blue r.blue_is) in
      let d = side r.blue.link to sole.sole r.blue_block in
      record {
        m = d.m;
        member = d.member;
        good = record {
          blue = one_hop (w.blue t) r.blue r.blue_is sole.there;
          red = one_hop (w.red t) r.red r.red_is there;
          apart = λ x between blue red. shared r.blue sole.there d x between blue;
        };
        blue_at = λ x h. met_at r.blue.link d x (one_hop_met r.blue x sole.there h);
        red_at = λ x h. met_at r.blue.link d x (one_hop_met r.red x there h);
      }
