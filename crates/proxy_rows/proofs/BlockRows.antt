-- The rows of the block: those of its members for its head, and those of its head for the two routers.
use Rattle.std.proofs.Common.{◌≡◌, ◌≢◌, ◌⊎◌, ◌<◌, ◌≤◌, ◌∙◌, ◌+◌, ℕ, zero, suc, List, Option, Some, None, inl, inr, refl, sym, ap, subst, arith}
use Rattle.std.proofs.lemmas.Option.{same_Some}
use Rattle.std.specs.Option.{option_and_then, option_map}
use Rattle.mrt_graph.specs.declared.cert.Color.{Color}
use Rattle.mrt_graph.specs.declared.cert.Role.TheVariants as roles
use Rattle.mrt_graph.specs.declared.cert.Row.{Row}
use Rattle.mrt_graph.specs.declared.cert.Tag.{Tag}
use Rattle.mrt_graph.specs.declared.cert.Tag.TheVariants as tags
use Rattle.mrt_graph.specs.declared.link.Link.{Link}
use Rattle.mrt_graph.specs.Certificate.{Certificate}
use Rattle.mrt_graph.specs.Hop.{Hop, color_hop, hop_over}
use Rattle.mrt_graph.specs.Leads.{leads}
use Rattle.mrt_graph.specs.Rows.{Rows as RowsOfAll, link_of_color}
use Rattle.mrt_graph.specs.Topology.{Topology}
use Rattle.mrt_graph.proofs.Blocks.{Words, Blocks, Common, Member, At, Inner, Top, Under, Over}
use Rattle.mrt_graph.proofs.InBlock.{at_common, at_related, at_stays, at_within, head_outside, no_cycle}
use Rattle.mrt_graph.proofs.RowFacts.{NearRow, Says, BelowRow, AboveRow}
use Rattle.proxy_rows.specs.declared.attachment.Attachment.{Attachment}
use Rattle.proxy_rows.specs.declared.side.Side.{Side}
use Rattle.proxy_rows.specs.declared.side.Side.TheVariants.{Low, High}
use Rattle.proxy_rows.specs.steps.LabelledGraph.{IsGround}
use Rattle.proxy_rows.specs.Sides.{IsIn, Router, Onward, IsMember, IsOfBlock}
use Rattle.proxy_rows.proofs.Attaching.{words}
use Rattle.proxy_rows.proofs.Grounds.{apart, ascending, b, head_is, head_no_member, head_within, is_higher, is_lower, is_member, less_is, lower_member, lower_within, member_at, member_block, member_head, member_within, of_block, part_of, rows, upper_member, upper_within}

-- the link of a hop is that of the row
pub link_is : (links : List Link) (all : RowsOfAll) (color : Color) (t s : ℕ) (row : Row) (hop : Hop) → all s t ≡ Some row
    → color_hop links all color t s ≡ Some hop → link_of_color color row ≡ hop.link
link_is links all color t s row hop there takes =
    let over : hop_over links s (link_of_color color row) ≡ Some hop =
    sym (ap (option_and_then (λ row. hop_over links s (link_of_color color row))) there) ∙ takes in
    go (leads links (link_of_color color row) s) over
  where
    go : (o : Option ℕ) → option_map (λ (v : ℕ). record { link = link_of_color color row; to = v }) o ≡ Some hop → link_of_color color row ≡ hop.link
    go None is = cc
    go (Some v) is = let same : ◌≡◌ {A = Hop} (record { link = link_of_color color row; to = v }) hop = same_Some _ _ is in ap (λ (h : Hop). h.link) same

module _ (g : Topology) (c : Certificate) (at : Attachment) (ground : IsGround g c at) where
  abbrev w : Words
  w = words g c ground.accepted

  blocks : Blocks w
  blocks = b g c at ground

  m_member : Member w at.upper
  m_member = upper_member g c at ground

  top : At w at.upper at.head
  top = Top (head_is g c at ground)

  -- the hops of a member for the head: blue to a member of greater order or to the head, red to a member of smaller order or
  -- to the head
  pub record HeadHops (s : ℕ) : Type 0 where
    pub blue : Hop
    pub red : Hop
    pub blue_is : w.blue at.head s ≡ Some blue
    pub red_is : w.red at.head s ≡ Some red
    pub blue_leads : leads g.links blue.link s ≡ Some blue.to
    pub red_leads : leads g.links red.link s ≡ Some red.to
    pub blue_of : IsOfBlock c at blue.link
    pub red_of : IsOfBlock c at red.link
    pub blue_goes : (IsMember c at blue.to × (w.order s < w.order blue.to))
        ⊎ ((blue.to ≡ at.head) × ((w.role blue.link ≡ roles.Closing) ⊎ (w.role blue.link ≡ roles.Sole)))
    pub red_goes : (IsMember c at red.to × (w.order red.to < w.order s)) ⊎ (red.to ≡ at.head)

  pub head_hops : (s : ℕ) → IsMember c at s → HeadHops s
  head_hops s is =
      let s_within = member_within g c at ground s is in
      let h_within = head_within g c at ground in
      let differ : s ≢ at.head = λ same. head_no_member g c at ground (subst (IsMember c at) same is) in
      let under : w.head s ≡ at.head = member_head g c at ground s is in
      let near = (rows g c at ground).near s at.head s_within h_within differ (Under under) in
      let source = member_at g c at ground s is in
      let blue_on = (rows g c at ground).blue_leads at.head s near.blue near.blue_is in
      let red_on = (rows g c at ground).red_leads at.head s near.red near.red_is in
      let blue_part = at_common w blocks at.upper s at.head (w.part near.blue.link) m_member source top differ near.blue_block in
      let red_part = at_common w blocks at.upper s at.head (w.part near.red.link) m_member source top differ near.red_block in
      let both = go s_within h_within differ under near blue_on red_on (w.tag s at.head) near.says in
      record {
        blue = near.blue;
        red = near.red;
        blue_is = near.blue_is;
        red_is = near.red_is;
        blue_leads = blue_on;
        red_leads = red_on;
        blue_of = of_block g c at ground near.blue.link s near.blue.to blue_on blue_part;
        red_of = of_block g c at ground near.red.link s near.red.to red_on red_part;
        blue_goes = both.0;
        red_goes = both.1;
      }
    where
      go : s < w.count → at.head < w.count → s ≢ at.head → w.head s ≡ at.head → (near : NearRow w s at.head)
          → leads g.links near.blue.link s ≡ Some near.blue.to → leads g.links near.red.link s ≡ Some near.red.to
          → (T : Tag) → Says w T s at.head near.blue near.red
          → ((IsMember c at near.blue.to × (w.order s < w.order near.blue.to))
          ⊎ ((near.blue.to ≡ at.head) × ((w.role near.blue.link ≡ roles.Closing) ⊎ (w.role near.blue.link ≡ roles.Sole))))
          × ((IsMember c at near.red.to × (w.order near.red.to < w.order s)) ⊎ (near.red.to ≡ at.head))
      go s_within h_within differ under near blue_on red_on tags.Sole says =
          let over : leads g.links near.red.link s ≡ Some near.blue.to = subst (λ (k : ℕ). leads g.links k s ≡ Some near.blue.to) says.one_link blue_on in
          let there : near.red.to ≡ near.blue.to = cc in
          (inr (says.there, inr says.sole), inr (there ∙ says.there))
      go s_within h_within differ under near blue_on red_on tags.Head says = (
        elim says.blue_goes [
          | inl higher ↦ inl (is_member g c at ground near.blue.to (blocks.to_within near.blue.link s near.blue.to blue_on) (higher.block ∙ member_block g c at ground s is), higher.order)
          | inr closing ↦ inr (closing.there, inl closing.closing)
        ],
        elim says.red_goes [
          | inl lower ↦ inl (is_member g c at ground near.red.to (blocks.to_within near.red.link s near.red.to red_on) (lower.block ∙ member_block g c at ground s is), lower.order)
          | inr plain ↦ inr plain.there
        ],
      )
      go s_within h_within differ under near blue_on red_on tags.Top says = absurd (no_cycle w blocks s at.head s_within h_within differ under says.head)
      go s_within h_within differ under near blue_on red_on tags.Below says = absurd (head_outside w blocks s at.head s_within h_within differ says.block under)
      go s_within h_within differ under near blue_on red_on tags.Above says = absurd (head_outside w blocks s at.head s_within h_within differ says.block under)
      go s_within h_within differ under near blue_on red_on tags.Unordered says = absurd (head_outside w blocks s at.head s_within h_within differ says.block under)
      go s_within h_within differ under near blue_on red_on tags.Carried says = absurd says

  -- a link of the block stays in the block and its head
  pub stays : (s e v : ℕ) → At w at.upper s → IsOfBlock c at e → leads g.links e s ≡ Some v → At w at.upper v
  stays s e v at_s of onward =
      at_stays w blocks at.upper s v m_member (at_within w blocks at.upper s m_member at_s) (blocks.to_within e s v onward)
      (subst (λ k. Common w s v k) (part_of g c at ground e of) (blocks.tied e s v onward))

  -- the head is not of a member's block
  same_block : (s : ℕ) → IsMember c at s → w.block at.head ≡ w.block s → ⊥
  same_block s is same =
      head_no_member g c at ground (is_member g c at ground at.head (head_within g c at ground) (same ∙ member_block g c at ground s is))

  -- Low and High have orders up to that of the one router and from that of the other one on
  pub low_order : (s : ℕ) → IsIn g.links c at Low s → w.order s ≤ w.order at.lower
  low_order s (Router _ same is) = omega (arith, ap w.order same)
  low_order s (Onward _ e v is of onward on rest) = omega (arith, is_lower g c at ground s v on, low_order v rest)

  pub high_order : (s : ℕ) → IsIn g.links c at High s → w.order at.upper ≤ w.order s
  high_order s (Router _ same is) = omega (arith, ap w.order same)
  high_order s (Onward _ e v is of onward on rest) = omega (arith, is_higher g c at ground s v on, high_order v rest)

  pub low_not_high : (s : ℕ) → IsIn g.links c at Low s → IsIn g.links c at High s → ⊥
  low_not_high s low high = omega (arith, low_order s low, high_order s high, ascending g c at ground)

  -- what is on a side is a member
  pub side_member : (side : Side) (s : ℕ) → IsIn g.links c at side s → IsMember c at s
  side_member side s (Router _ same is) = is
  side_member side s (Onward _ e v is of onward on rest) = is

  -- a member with a link of the block to a node of a side is on that side
  pub low_more : (s e v : ℕ) → IsMember c at s → IsOfBlock c at e → leads g.links e s ≡ Some v → w.order s < w.order v
      → IsIn g.links c at Low v → IsIn g.links c at Low s
  low_more s e v is of onward less low =
      Onward s e v is of onward
      (less_is g c at ground s v (member_within g c at ground s is) (member_within g c at ground v (side_member Low v low)) less) low

  pub high_more : (s e v : ℕ) → IsMember c at s → IsOfBlock c at e → leads g.links e s ≡ Some v → w.order v < w.order s
      → IsIn g.links c at High v → IsIn g.links c at High s
  high_more s e v is of onward less high =
      Onward s e v is of onward
      (less_is g c at ground v s (member_within g c at ground v (side_member High v high)) (member_within g c at ground s is) less) high

  -- a node whose row for the one router is Below is on Low
  low_of_below : IsMember c at at.lower → (bound v : ℕ) → At w at.upper v → v ≢ at.lower → w.tag v at.lower ≡ tags.Below
      → blocks.most < w.order v + bound → IsIn g.links c at Low v
  low_of_below low zero v at_v differ below more = absurd (omega (arith, more, blocks.order_within v (at_within w blocks at.upper v m_member at_v)))
  low_of_below low (suc bound) v at_v differ below more =
      let v_within = at_within w blocks at.upper v m_member at_v in
      let low_at = member_at g c at ground at.lower low in
      let near = (rows g c at ground).near v at.lower v_within (lower_within g c at ground) differ (at_related w blocks at.upper v at.lower m_member at_v low_at differ) in
      let says : BelowRow w v at.lower near.blue near.red = subst (λ T. Says w T v at.lower near.blue near.red) below near.says in
      let on = (rows g c at ground).blue_leads at.lower v near.blue near.blue_is in
      let part = at_common w blocks at.upper v at.lower (w.part near.blue.link) m_member at_v low_at differ near.blue_block in
      let of = of_block g c at ground near.blue.link v near.blue.to on part in
      let is = is_member g c at ground v v_within (says.block ∙ member_block g c at ground at.lower low) in
      go (low_of_below low bound) near.blue on of is says
    where
      go : ((u : ℕ) → At w at.upper u → u ≢ at.lower → w.tag u at.lower ≡ tags.Below → blocks.most < w.order u + bound → IsIn g.links c at Low u)
          → (blue : Hop) → leads g.links blue.link v ≡ Some blue.to → IsOfBlock c at blue.link → IsMember c at v
          → {red : Hop} → BelowRow w v at.lower blue red → IsIn g.links c at Low v
      go ih blue on of is says = elim says.blue_goes [
        | inl there ↦ low_more v blue.link blue.to is of on (omega (arith, says.order, ap w.order there)) (Router blue.to there (subst (IsMember c at) (sym there) low))
        | inr up ↦
            low_more v blue.link blue.to is of on up.order (ih blue.to (stays v blue.link blue.to (member_at g c at ground v is) of on) up.tagged.not_there up.tagged.is (omega (arith, more, up.order)))
      ]

  -- a node whose row for the other router is Above is on High
  high_of_above : (bound v : ℕ) → At w at.upper v → v ≢ at.upper → w.tag v at.upper ≡ tags.Above
      → w.order v < bound → IsIn g.links c at High v
  high_of_above zero v at_v differ above more = absurd (omega (arith, more))
  high_of_above (suc bound) v at_v differ above more =
      let v_within = at_within w blocks at.upper v m_member at_v in
      let up_at : At w at.upper at.upper = Inner (upper_within g c at ground) refl in
      let near = (rows g c at ground).near v at.upper v_within (upper_within g c at ground) differ (at_related w blocks at.upper v at.upper m_member at_v up_at differ) in
      let says : AboveRow w v at.upper near.blue near.red = subst (λ T. Says w T v at.upper near.blue near.red) above near.says in
      let on = (rows g c at ground).red_leads at.upper v near.red near.red_is in
      let part = at_common w blocks at.upper v at.upper (w.part near.red.link) m_member at_v up_at differ near.red_block in
      let of = of_block g c at ground near.red.link v near.red.to on part in
      let is = is_member g c at ground v v_within says.block in
      go (high_of_above bound) near.red on of is says
    where
      go : ((u : ℕ) → At w at.upper u → u ≢ at.upper → w.tag u at.upper ≡ tags.Above → w.order u < bound → IsIn g.links c at High u)
          → (red : Hop) → leads g.links red.link v ≡ Some red.to → IsOfBlock c at red.link → IsMember c at v
          → {blue : Hop} → AboveRow w v at.upper blue red → IsIn g.links c at High v
      go ih red on of is says = elim says.red_goes [
        | inl there ↦ high_more v red.link red.to is of on (omega (arith, says.order, ap w.order there))
            (Router red.to there (subst (IsMember c at) (sym there) (is_member g c at ground at.upper (upper_within g c at ground) refl)))
        | inr down ↦
            high_more v red.link red.to is of on down.order (ih red.to (stays v red.link red.to (member_at g c at ground v is) of on) down.tagged.not_there down.tagged.is (omega (arith, more, down.order)))
      ]

  -- blue of the head for the one router, if that is a member: over a plain link to Low
  pub record ToLow : Type 0 where
    pub hop : Hop
    pub leads_on : leads g.links hop.link at.head ≡ Some hop.to
    pub of : IsOfBlock c at hop.link
    pub plain : w.role hop.link ≡ roles.Plain
    pub low : IsIn g.links c at Low hop.to

  pub to_low : at.head ≢ at.lower → ToLow
  to_low other =
      let low = lower_member g c at ground other in
      let low_at = member_at g c at ground at.lower low in
      let down : w.head at.lower ≡ at.head = member_head g c at ground at.lower low in
      let near = (rows g c at ground).near at.head at.lower (head_within g c at ground) (lower_within g c at ground) other (Over down) in
      let on = (rows g c at ground).blue_leads at.lower at.head near.blue near.blue_is in
      let part = at_common w blocks at.upper at.head at.lower (w.part near.blue.link) m_member top low_at other near.blue_block in
      let of = of_block g c at ground near.blue.link at.head near.blue.to on part in
      go low down near.blue near.red on part of (w.tag at.head at.lower) near.says
    where
      go : IsMember c at at.lower → w.head at.lower ≡ at.head → (blue red : Hop) → leads g.links blue.link at.head ≡ Some blue.to
          → w.part blue.link ≡ w.block at.upper → IsOfBlock c at blue.link → (T : Tag) → Says w T at.head at.lower blue red → ToLow
      go low down blue red on part of tags.Sole says =
          let differ : at.head ≢ blue.to = λ same. other (same ∙ says.there) in
          absurd (apart g c at ground
          (blocks.lone_member blue.link at.head blue.to at.lower at.upper on differ says.sole (lower_within g c at ground) (upper_within g c at ground)
          (member_block g c at ground at.lower low ∙ sym part) (sym part)))
      go low down blue red on part of tags.Head says =
          absurd (no_cycle w blocks at.head at.lower (head_within g c at ground) (lower_within g c at ground) other says.head down)
      go low down blue red on part of tags.Top says = record {
        hop = blue;
        leads_on = on;
        of = of;
        plain = says.blue_plain;
        low = elim says.blue_goes [
          | inl there ↦ Router blue.to there (subst (IsMember c at) (sym there) low)
          | inr below ↦ low_of_below low (suc blocks.most) blue.to (stays at.head blue.link blue.to top of on) below.not_there below.is (omega arith)
        ];
      }
      go low down blue red on part of tags.Below says = absurd (same_block at.lower low says.block)
      go low down blue red on part of tags.Above says = absurd (same_block at.lower low says.block)
      go low down blue red on part of tags.Unordered says = absurd (same_block at.lower low says.block)
      go low down blue red on part of tags.Carried says = absurd says

  -- red of the head for the other router: over the closing link, or the one link of the block, to High
  pub record ToHigh : Type 0 where
    pub hop : Hop
    pub is : w.red at.upper at.head ≡ Some hop
    pub leads_on : leads g.links hop.link at.head ≡ Some hop.to
    pub of : IsOfBlock c at hop.link
    pub role : (w.role hop.link ≡ roles.Closing) ⊎ (w.role hop.link ≡ roles.Sole)
    pub high : IsIn g.links c at High hop.to

  pub upper_is_member : IsMember c at at.upper
  upper_is_member = is_member g c at ground at.upper (upper_within g c at ground) refl

  pub head_not_upper : at.head ≢ at.upper
  head_not_upper = λ same. head_no_member g c at ground (subst (IsMember c at) (sym same) upper_is_member)

  pub to_high : ToHigh
  to_high =
      let up_at : At w at.upper at.upper = Inner (upper_within g c at ground) refl in
      let down : w.head at.upper ≡ at.head = sym (head_is g c at ground) in
      let near = (rows g c at ground).near at.head at.upper (head_within g c at ground) (upper_within g c at ground) head_not_upper (Over down) in
      let on = (rows g c at ground).red_leads at.upper at.head near.red near.red_is in
      let part = at_common w blocks at.upper at.head at.upper (w.part near.red.link) m_member top up_at head_not_upper near.red_block in
      let of = of_block g c at ground near.red.link at.head near.red.to on part in
      let both = go down near.blue near.red ((rows g c at ground).blue_leads at.upper at.head near.blue near.blue_is) on of (w.tag at.head at.upper) near.says in
      record { hop = near.red; is = near.red_is; leads_on = on; of = of; role = both.0; high = both.1 }
    where
      go : w.head at.upper ≡ at.head → (blue red : Hop) → leads g.links blue.link at.head ≡ Some blue.to → leads g.links red.link at.head ≡ Some red.to
          → IsOfBlock c at red.link → (T : Tag) → Says w T at.head at.upper blue red
          → ((w.role red.link ≡ roles.Closing) ⊎ (w.role red.link ≡ roles.Sole)) × IsIn g.links c at High red.to
      go down blue red blue_on on of tags.Sole says =
          let over : leads g.links red.link at.head ≡ Some blue.to = subst (λ (k : ℕ). leads g.links k at.head ≡ Some blue.to) says.one_link blue_on in
          let same : red.to ≡ blue.to = cc in
          let there : red.to ≡ at.upper = same ∙ says.there in
          (inr (subst (λ (k : ℕ). w.role k ≡ roles.Sole) says.one_link says.sole), Router red.to there (subst (IsMember c at) (sym there) upper_is_member))
      go down blue red blue_on on of tags.Head says =
          absurd (no_cycle w blocks at.head at.upper (head_within g c at ground) (upper_within g c at ground) head_not_upper says.head down)
      go down blue red blue_on on of tags.Top says = (
        inl says.red_closing,
        elim says.red_goes [
          | inl there ↦ Router red.to there (subst (IsMember c at) (sym there) upper_is_member)
          | inr above ↦ high_of_above (suc (w.order red.to)) red.to (stays at.head red.link red.to top of on) above.not_there above.is (omega arith)
        ],
      )
      go down blue red blue_on on of tags.Below says = absurd (same_block at.upper upper_is_member says.block)
      go down blue red blue_on on of tags.Above says = absurd (same_block at.upper upper_is_member says.block)
      go down blue red blue_on on of tags.Unordered says = absurd (same_block at.upper upper_is_member says.block)
      go down blue red blue_on on of tags.Carried says = absurd says
