-- By the proxy rows, from each node of the block and from its head both colors lead on by moves to the new node.
use Rattle.std.proofs.Common.{◌≡◌, ◌≢◌, ◌<◌, ◌+◌, ◌∙◌, ℕ, List, Option, Some, None, slice_get, length, inl, inr, refl, sym, ap, subst, arith}
use Rattle.std.proofs.lemmas.Bool.{eq-eqb, ne_eqb}
use Rattle.std.specs.Option.{option_and_then, option_map}
use Rattle.mrt_graph.specs.declared.cert.Color.{Color}
use Rattle.mrt_graph.specs.declared.cert.Color.TheVariants.{Blue, Red}
use Rattle.mrt_graph.specs.declared.cert.Role.TheVariants as roles
use Rattle.mrt_graph.specs.declared.cert.Row.{Row}
use Rattle.mrt_graph.specs.declared.cert.Tag.{Tag}
use Rattle.mrt_graph.specs.declared.cert.Tag.TheVariants as tags
use Rattle.mrt_graph.specs.declared.link.End.{End}
use Rattle.mrt_graph.specs.declared.link.Link.{Link}
use Rattle.mrt_graph.specs.Certificate.{Certificate}
use Rattle.mrt_graph.specs.FirstEnd.{IsFirstEnd}
use Rattle.mrt_graph.specs.Hop.{Hop, color_hop, hop_over}
use Rattle.mrt_graph.specs.Leads.{leads}
use Rattle.mrt_graph.specs.Rows.{Rows, link_of_color}
use Rattle.mrt_graph.specs.Topology.{Topology}
use Rattle.mrt_graph.proofs.Blocks.{Words, Blocks, At, Top}
use Rattle.mrt_graph.proofs.Bridge.{color_leads}
use Rattle.mrt_graph.proofs.ColorMoves.{Moving, There, Onward, Passage, Step, passage}
use Rattle.mrt_graph.proofs.EndsAt.{end_leads}
use Rattle.mrt_graph.proofs.Hops.{lead_back}
use Rattle.mrt_graph.proofs.InBlock.{at_within}
use Rattle.mrt_graph.proofs.ListTests.{there}
use Rattle.mrt_graph.proofs.Moves.{Ends, Move, BlueTop, BlueBelow, BlueAbove, BlueAboveHome, BlueUnordered, BlueUnorderedIn, BlueUnorderedHome, RedTop, RedBelow, RedBelowHome, RedAbove, RedUnordered, RedUnorderedIn}
use Rattle.mrt_graph.proofs.Steps.{next_of}
use Rattle.proxy_rows.specs.declared.attachment.Attachment.{Attachment}
use Rattle.proxy_rows.specs.declared.proxy_row.Out.{Out}
use Rattle.proxy_rows.specs.declared.proxy_row.Out.TheVariants as outs
use Rattle.proxy_rows.specs.declared.proxy_row.ProxyRow.{ProxyRow}
use Rattle.proxy_rows.specs.declared.side.Side.TheVariants.{Low, High}
use Rattle.proxy_rows.specs.GraphWith.{AreRowsWith, link_out, links_with, new_node}
use Rattle.proxy_rows.specs.steps.LabelledGraph.{IsGround}
use Rattle.proxy_rows.specs.declared.standing.Standing.{Standing}
use Rattle.proxy_rows.specs.declared.standing.Standing.TheVariants as places
use Rattle.proxy_rows.specs.ProxyRows.{IsBlue, IsHeadBlue, IsHeadRed, IsLinkFor, IsOnward, IsPlainToLow, IsProxyRow, IsRed, IsSideOut, Here, Over}
use Rattle.proxy_rows.specs.Sides.{IsIn, IsMember, IsOfBlock}
use Rattle.proxy_rows.proofs.Attaching.{words}
use Rattle.proxy_rows.proofs.BlockRows.{head_hops, high_more, low_more, side_member, stays, to_high}
use Rattle.proxy_rows.proofs.Grounds.{apart, b, counts, head_is, head_no_member, is_higher, is_lower, member_at, upper_member}
use Rattle.proxy_rows.proofs.HeadLinks.{red_link, same_as_red}
use Rattle.proxy_rows.proofs.NewLinks.{lower_leads, old_leads, upper_leads}
use Rattle.proxy_rows.proofs.OutsideRows.{link_over, not_at}
use Rattle.proxy_rows.proofs.Stands.{Tells, head_stands, high_stands, low_stands, tells}

-- a color takes a link that leads on
pub takes : (links : List Link) (all : Rows) (color : Color) (t s e v : ℕ) (row : Row) → all s t ≡ Some row → link_of_color color row ≡ e
    → leads links e s ≡ Some v → color_hop links all color t s ≡ Some (record { link = e; to = v })
takes links all color t s e v row at is onward =
    ap (option_and_then (λ row. hop_over links s (link_of_color color row))) at
    ∙ ap (hop_over links s) is
    ∙ ap (option_map (λ v. record { link = e; to = v })) onward

-- the tag that a node has among the moves
abbrev pub kind_of : Standing → Tag
kind_of places.Head = tags.Top
kind_of places.OnLow = tags.Below
kind_of places.OnHigh = tags.Above
kind_of places.Other = tags.Unordered
kind_of places.Outside = tags.Carried

-- a node with its proxy row, and its tag
pub record Known (g : Topology) (c : Certificate) (at : Attachment) (entries : List ProxyRow) (s : ℕ) (T : Tag) : Type 0 where
  pub entry : ProxyRow
  pub there : slice_get entries s ≡ Some entry
  pub row : IsProxyRow g c at s entry
  pub tag : T ≡ kind_of row.standing

module _ (g : Topology) (c : Certificate) (at : Attachment) (ground : IsGround g c at) (entries : List ProxyRow)
    (one_each : length entries ≡ length g.ids) (each : (s : ℕ) (row : ProxyRow) → slice_get entries s ≡ Some row → IsProxyRow g c at s row)
    (all : Rows) (are : AreRowsWith g at entries all) where
  abbrev w : Words
  w = words g c ground.accepted

  blocks : Blocks w
  blocks = b g c at ground

  abbrev links : List Link
  links = links_with g at

  abbrev next : Color → ℕ → Option Hop
  next color s = color_hop links all color (new_node g) s

  abbrev N : ℕ → Type 0
  N s = At w at.upper s

  -- each node's tag
  tag_by : (s : ℕ) (o : Option ProxyRow) → slice_get entries s ≡ o → Tag
  tag_by s None is = tags.Carried
  tag_by s (Some entry) is = kind_of (each s entry is).standing

  abbrev tag : ℕ → Tag
  tag s = tag_by s (slice_get entries s) refl

  known_by : (s : ℕ) → s < length entries → (o : Option ProxyRow) (is : slice_get entries s ≡ o) → Known g c at entries s (tag_by s o is)
  unfolding tag_by
  known_by s within None is = let entry = there entries s within in absurd (cc (entry.1, is))
  known_by s within (Some entry) is = record { entry = entry; there = is; row = each s entry is; tag = refl }

  known : (s : ℕ) → N s → Known g c at entries s (tag s)
  known s at_s =
      known_by s (omega (arith, at_within w blocks at.upper s (upper_member g c at ground) at_s, (counts g c at ground).nodes, one_each)) (slice_get entries s) refl

  -- what is on Low, on High, the head, or another member, by its tag
  low_is : (s : ℕ) → IsIn g.links c at Low s → tag s ≡ tags.Below
  low_is s low =
      let k = known s (member_at g c at ground s (side_member g c at ground Low s low)) in
      k.tag ∙ ap kind_of (low_stands g c at ground s k.row.standing k.row.stands low)

  high_is : (s : ℕ) → IsIn g.links c at High s → tag s ≡ tags.Above
  high_is s high =
      let k = known s (member_at g c at ground s (side_member g c at ground High s high)) in
      k.tag ∙ ap kind_of (high_stands g c at ground s k.row.standing k.row.stands high)

  head_at : N at.head
  head_at = Top (head_is g c at ground)

  top_is : (s : ℕ) → s ≡ at.head → tag s ≡ tags.Top
  top_is s same =
      let k = known s (subst N (sym same) head_at) in
      k.tag ∙ ap kind_of (head_stands g.links c at s k.row.standing k.row.stands same)

  -- a member is on Low, on High, or on neither
  data Place (s : ℕ) : Type 0 where
    IsLow : IsIn g.links c at Low s → Place s
    IsHigh : IsIn g.links c at High s → Place s
    IsNeither : tag s ≡ tags.Unordered → Place s

  place : (s : ℕ) → IsMember c at s → Place s
  place s is =
      let k = known s (member_at g c at ground s is) in
      go k.row.standing (tells g.links c at s k.row.standing k.row.stands) k.tag
    where
      go : (p : Standing) → Tells g.links c at s p → tag s ≡ kind_of p → Place s
      go places.Head same known_as = absurd (head_no_member g c at ground (subst (IsMember c at) same is))
      go places.OnLow low known_as = IsLow low
      go places.OnHigh high known_as = IsHigh high
      go places.Other other known_as = IsNeither known_as
      go places.Outside outside known_as = absurd (outside (inl is))

  -- a color goes over a link of the graph, by a move
  over : (color : Color) (s e v : ℕ) (T U : Tag) → N s → next color s ≡ Some (record { link = e; to = v }) → IsOfBlock c at e → leads g.links e s ≡ Some v
      → tag s ≡ T → tag v ≡ U → Move color T (w.order s) U (w.order v) → Step next N tag w.order (λ _. roles.Plain) (new_node g) s color
  over color s e v T U at_s on of onward tag_s tag_v move =
      let at_v = stays g c at ground s e v at_s of onward in
      let within = at_within w blocks at.upper v (upper_member g c at ground) at_v in
      record {
        hop = record { link = e; to = v };
        takes = on;
        stays = inr at_v;
        goes = Onward (λ same. omega (arith, within, (counts g c at ground).nodes, same))
            (subst (λ X. Move color X (w.order s) (tag v) (w.order v)) (sym tag_s) (subst (λ X. Move color T (w.order s) X (w.order v)) (sym tag_v) move));
      }

  -- a color goes over a new link to the new node
  home : (color : Color) (s e : ℕ) (T : Tag) → next color s ≡ Some (record { link = e; to = new_node g }) → tag s ≡ T → Ends color T roles.Plain
      → Step next N tag w.order (λ _. roles.Plain) (new_node g) s color
  home color s e T on tag_s may = record {
    hop = record { link = e; to = new_node g };
    takes = on;
    stays = inl refl;
    goes = There refl (subst (λ X. Ends color X roles.Plain) (sym tag_s) may);
  }

  -- the links that a node's row gives for the new node
  blue_over : (s e v : ℕ) (entry : ProxyRow) → slice_get entries s ≡ Some entry → entry.blue ≡ outs.Link e → leads g.links e s ≡ Some v
      → next Blue s ≡ Some (record { link = e; to = v })
  blue_over s e v entry at_s is onward =
      let r = are s entry at_s in
      takes links all Blue (new_node g) s e v r.row r.there (r.blue ∙ ap (link_out g at s) is) (old_leads g at e s v onward)

  red_over : (s e v : ℕ) (entry : ProxyRow) → slice_get entries s ≡ Some entry → entry.red ≡ outs.Link e → leads g.links e s ≡ Some v
      → next Red s ≡ Some (record { link = e; to = v })
  red_over s e v entry at_s is onward =
      let r = are s entry at_s in
      takes links all Red (new_node g) s e v r.row r.there (r.red ∙ ap (link_out g at s) is) (old_leads g at e s v onward)

  lower_out : (s : ℕ) → s ≡ at.lower → (link_out g at s outs.Attached ≡ length g.links) × (leads links (length g.links) s ≡ Some (new_node g))
  lower_out s same = (rw (eq-eqb s at.lower same) refl, subst (λ (x : ℕ). leads links (length g.links) x ≡ Some (new_node g)) (sym same) (lower_leads g at))

  upper_out : (s : ℕ) → s ≡ at.upper → (link_out g at s outs.Attached ≡ length g.links + 1) × (leads links (length g.links + 1) s ≡ Some (new_node g))
  upper_out s same = (
    rw (ne_eqb s at.lower (λ low. apart g c at ground (sym low ∙ same))) refl,
    subst (λ (x : ℕ). leads links (length g.links + 1) x ≡ Some (new_node g)) (sym same) (upper_leads g at),
  )

  -- where an end leads
  end_on : (Asked : End → Type 0) (v : ℕ) (end : End) → IsFirstEnd g Asked v end → leads g.links end.link v ≡ Some end.to
  end_on Asked v end first = end_leads g v first.place first.ends end ground.kept first.list first.there

  abbrev StepOf : Color → ℕ → Type 0
  StepOf color s = Step next N tag w.order (λ _. roles.Plain) (new_node g) s color

  -- blue from the router with the lower order
  lower_home : (s : ℕ) (T : Tag) (entry : ProxyRow) → slice_get entries s ≡ Some entry → entry.blue ≡ outs.Attached → s ≡ at.lower → tag s ≡ T → Ends Blue T roles.Plain
      → StepOf Blue s
  lower_home s T entry at_s blue low tag_s may =
      let r = are s entry at_s in
      let out = lower_out s low in
      home Blue s (length g.links) T
      (takes links all Blue (new_node g) s (length g.links) (new_node g) r.row r.there (r.blue ∙ ap (link_out g at s) blue ∙ out.0) out.1) tag_s may

  -- at the head
  head_blue : (s : ℕ) (entry : ProxyRow) (out : Out) → s ≡ at.head → slice_get entries s ≡ Some entry → entry.blue ≡ out → IsHeadBlue g c at out → StepOf Blue s
  head_blue s entry _ same at_s blue (Here low) = lower_home s tags.Top entry at_s blue (same ∙ low) (top_is s same) tt
  head_blue s entry _ same at_s blue (Over end other first) =
      let on : leads g.links end.link s ≡ Some end.to = subst (λ (x : ℕ). leads g.links end.link x ≡ Some end.to) (sym same) (end_on (IsPlainToLow g c at) at.head end first) in
      over Blue s end.link end.to tags.Top tags.Below (subst N (sym same) head_at) (blue_over s end.link end.to entry at_s blue on) first.asked.of_block on
      (top_is s same) (low_is end.to first.asked.low) (BlueTop _ _)

  head_red : (s : ℕ) (entry : ProxyRow) → s ≡ at.head → slice_get entries s ≡ Some entry → IsHeadRed c at entry.red → StepOf Red s
  head_red s entry same at_s is =
      let t = to_high g c at ground in
      let on : leads g.links t.hop.link s ≡ Some t.hop.to = subst (λ (x : ℕ). leads g.links t.hop.link x ≡ Some t.hop.to) (sym same) t.leads_on in
      over Red s t.hop.link t.hop.to tags.Top tags.Above (subst N (sym same) head_at) (red_over s t.hop.link t.hop.to entry at_s (red_link g c at ground entry.red is) on) t.of on
      (top_is s same) (high_is t.hop.to t.high) (RedTop _ _)

  -- on the two sides, away from the head
  low_blue : (s : ℕ) (entry : ProxyRow) (out : Out) → IsIn g.links c at Low s → slice_get entries s ≡ Some entry → entry.blue ≡ out → IsSideOut g c at Low s out → StepOf Blue s
  low_blue s entry _ low at_s blue (Here same) = lower_home s tags.Below entry at_s blue same (low_is s low) tt
  low_blue s entry _ low at_s blue (Over end other first) =
      let on = end_on (IsOnward g c at Low s) s end first in
      over Blue s end.link end.to tags.Below tags.Below (member_at g c at ground s (side_member g c at ground Low s low)) (blue_over s end.link end.to entry at_s blue on)
      first.asked.of_block on (low_is s low) (low_is end.to first.asked.within) (BlueBelow _ _ (is_lower g c at ground s end.to first.asked.onward))

  high_red : (s : ℕ) (entry : ProxyRow) (out : Out) → IsIn g.links c at High s → slice_get entries s ≡ Some entry → entry.red ≡ out → IsSideOut g c at High s out → StepOf Red s
  high_red s entry _ high at_s red (Here same) =
      let r = are s entry at_s in
      let out = upper_out s same in
      home Red s (length g.links + 1) tags.Above
      (takes links all Red (new_node g) s (length g.links + 1) (new_node g) r.row r.there (r.red ∙ ap (link_out g at s) red ∙ out.0) out.1) (high_is s high) tt
  high_red s entry _ high at_s red (Over end other first) =
      let on = end_on (IsOnward g c at High s) s end first in
      over Red s end.link end.to tags.Above tags.Above (member_at g c at ground s (side_member g c at ground High s high)) (red_over s end.link end.to entry at_s red on)
      first.asked.of_block on (high_is s high) (high_is end.to first.asked.within) (RedAbove _ _ (is_higher g c at ground s end.to first.asked.onward))

  -- the link of a color of a member's row for the head
  link_for : (color : Color) (s : ℕ) (out : Out) (hop : Hop) → next_of w color at.head s ≡ Some hop → IsLinkFor c color s at.head out → out ≡ outs.Link hop.link
  link_for color s out hop takes_it is = is.out_is ∙ ap (λ (k : ℕ). outs.Link k) (link_over g c at ground color at.head s is.row hop is.row_is takes_it)

  -- on the two sides, towards the head
  low_red : (s : ℕ) (entry : ProxyRow) → IsIn g.links c at Low s → slice_get entries s ≡ Some entry → IsLinkFor c Red s at.head entry.red → StepOf Red s
  low_red s entry low at_s is =
      let member = side_member g c at ground Low s low in
      let h = head_hops g c at ground s member in
      let at_n = member_at g c at ground s member in
      let on = red_over s h.red.link h.red.to entry at_s (link_for Red s entry.red h.red h.red_is is) h.red_leads in
      elim h.red_goes [
        | inl lower ↦ over Red s h.red.link h.red.to tags.Below tags.Below at_n on h.red_of h.red_leads (low_is s low)
            (low_is h.red.to (low_more g c at ground h.red.to h.red.link s lower.0 h.red_of (lead_back g.links h.red.link s h.red.to h.red_leads) lower.1 low))
            (RedBelow _ _ lower.1)
        | inr top ↦ over Red s h.red.link h.red.to tags.Below tags.Top at_n on h.red_of h.red_leads (low_is s low) (top_is h.red.to top) (RedBelowHome _ _)
      ]

  high_blue : (s : ℕ) (entry : ProxyRow) → IsIn g.links c at High s → slice_get entries s ≡ Some entry → IsLinkFor c Blue s at.head entry.blue → StepOf Blue s
  high_blue s entry high at_s is =
      let member = side_member g c at ground High s high in
      let h = head_hops g c at ground s member in
      let at_n = member_at g c at ground s member in
      let on = blue_over s h.blue.link h.blue.to entry at_s (link_for Blue s entry.blue h.blue h.blue_is is) h.blue_leads in
      elim h.blue_goes [
        | inl higher ↦ over Blue s h.blue.link h.blue.to tags.Above tags.Above at_n on h.blue_of h.blue_leads (high_is s high)
            (high_is h.blue.to (high_more g c at ground h.blue.to h.blue.link s higher.0 h.blue_of (lead_back g.links h.blue.link s h.blue.to h.blue_leads) higher.1 high))
            (BlueAbove _ _ higher.1)
        | inr top ↦ over Blue s h.blue.link h.blue.to tags.Above tags.Top at_n on h.blue_of h.blue_leads (high_is s high) (top_is h.blue.to top.0) (BlueAboveHome _ _)
      ]

  -- at the other members
  other_blue : (s : ℕ) (entry : ProxyRow) → IsMember c at s → ¬ IsIn g.links c at High s → tag s ≡ tags.Unordered → slice_get entries s ≡ Some entry
      → IsLinkFor c Red s at.head entry.blue → StepOf Blue s
  other_blue s entry member not_high known_as at_s is =
      let h = head_hops g c at ground s member in
      let at_n = member_at g c at ground s member in
      let on = blue_over s h.red.link h.red.to entry at_s (link_for Red s entry.blue h.red h.red_is is) h.red_leads in
      elim h.red_goes [
        | inl lower ↦ elim (place h.red.to lower.0) [
          | IsLow low ↦ over Blue s h.red.link h.red.to tags.Unordered tags.Below at_n on h.red_of h.red_leads known_as (low_is h.red.to low) (BlueUnorderedIn _ _)
          | IsHigh high ↦ absurd (not_high (high_more g c at ground s h.red.link h.red.to member h.red_of h.red_leads lower.1 high))
          | IsNeither also ↦ over Blue s h.red.link h.red.to tags.Unordered tags.Unordered at_n on h.red_of h.red_leads known_as also (BlueUnordered _ _ lower.1)
        ]
        | inr top ↦ over Blue s h.red.link h.red.to tags.Unordered tags.Top at_n on h.red_of h.red_leads known_as (top_is h.red.to top) (BlueUnorderedHome _ _)
      ]

  other_red : (s : ℕ) (entry : ProxyRow) → IsMember c at s → ¬ IsIn g.links c at Low s → ¬ IsIn g.links c at High s → tag s ≡ tags.Unordered
      → slice_get entries s ≡ Some entry → IsLinkFor c Blue s at.head entry.red → StepOf Red s
  other_red s entry member not_low not_high known_as at_s is =
      let h = head_hops g c at ground s member in
      let at_n = member_at g c at ground s member in
      let on = red_over s h.blue.link h.blue.to entry at_s (link_for Blue s entry.red h.blue h.blue_is is) h.blue_leads in
      elim h.blue_goes [
        | inl higher ↦ elim (place h.blue.to higher.0) [
          | IsLow low ↦ absurd (not_low (low_more g c at ground s h.blue.link h.blue.to member h.blue_of h.blue_leads higher.1 low))
          | IsHigh high ↦ over Red s h.blue.link h.blue.to tags.Unordered tags.Above at_n on h.blue_of h.blue_leads known_as (high_is h.blue.to high) (RedUnorderedIn _ _)
          | IsNeither also ↦ over Red s h.blue.link h.blue.to tags.Unordered tags.Unordered at_n on h.blue_of h.blue_leads known_as also (RedUnordered _ _ higher.1)
        ]
        | inr top ↦
            let t = to_high g c at ground in
            let same = same_as_red g c at ground h.blue.link h.blue_of top.1 in
            let down : leads g.links h.blue.link at.head ≡ Some s =
            subst (λ (x : ℕ). leads g.links h.blue.link x ≡ Some s) top.0 (lead_back g.links h.blue.link s h.blue.to h.blue_leads) in
            let also : leads g.links h.blue.link at.head ≡ Some t.hop.to = subst (λ (k : ℕ). leads g.links k at.head ≡ Some t.hop.to) (sym same) t.leads_on in
            let there : t.hop.to ≡ s = cc in
            absurd (not_high (subst (IsIn g.links c at High) there t.high))
      ]

  -- the step of each color
  step : (color : Color) (s : ℕ) → N s → StepOf color s
  step color s at_n =
      let k = known s at_n in
      go color k.row.standing k.entry (tells g.links c at s k.row.standing k.row.stands) k.there k.tag k.row.blue k.row.red
    where
      go : (color : Color) (p : Standing) (entry : ProxyRow) → Tells g.links c at s p → slice_get entries s ≡ Some entry → tag s ≡ kind_of p
          → IsBlue p g c at s entry.blue → IsRed p g c at s entry.red → StepOf color s
      go Blue places.Head entry same at_s known_as blue red = head_blue s entry entry.blue same at_s refl blue
      go Blue places.OnLow entry low at_s known_as blue red = low_blue s entry entry.blue low at_s refl blue
      go Blue places.OnHigh entry high at_s known_as blue red = high_blue s entry high at_s blue
      go Blue places.Other entry other at_s known_as blue red = other_blue s entry other.0 other.2 known_as at_s blue
      go Red places.Head entry same at_s known_as blue red = head_red s entry same at_s red
      go Red places.OnLow entry low at_s known_as blue red = low_red s entry low at_s red
      go Red places.OnHigh entry high at_s known_as blue red = high_red s entry entry.red high at_s refl red
      go Red places.Other entry other at_s known_as blue red = other_red s entry other.0 other.1 other.2 known_as at_s red
      go color places.Outside entry outside at_s known_as blue red = absurd (not_at g c at ground s outside at_n)

  -- the node whose row is Top is the head; no row is Sole, and none is Carried
  tag_facts : (s : ℕ) → N s → (tag s ≢ tags.Sole) × (tag s ≢ tags.Carried) × (tag s ≡ tags.Top → s ≡ at.head)
  tag_facts s at_n = let k = known s at_n in go k.row.standing (tells g.links c at s k.row.standing k.row.stands) k.tag
    where
      go : (p : Standing) → Tells g.links c at s p → tag s ≡ kind_of p → (tag s ≢ tags.Sole) × (tag s ≢ tags.Carried) × (tag s ≡ tags.Top → s ≡ at.head)
      go places.Head same known_as = (λ x. cc, λ x. cc, λ x. same)
      go places.OnLow low known_as = (λ x. cc, λ x. cc, λ x. absurd cc)
      go places.OnHigh high known_as = (λ x. cc, λ x. cc, λ x. absurd cc)
      go places.Other other known_as = (λ x. cc, λ x. cc, λ x. absurd cc)
      go places.Outside outside known_as = absurd (not_at g c at ground s outside at_n)

  moving : Moving links next N tag w.order (λ _. roles.Plain) (new_node g)
  moving = record {
    on_links = λ color. color_leads links all color (new_node g);
    most = blocks.most;
    order_within = λ x at_x. blocks.order_within x (at_within w blocks at.upper x (upper_member g c at ground) at_x);
    one_order = λ x y at_x at_y. blocks.one_order x y (at_within w blocks at.upper x (upper_member g c at ground) at_x) (at_within w blocks at.upper y (upper_member g c at ground) at_y);
    one_top = λ x y at_x at_y x_other y_other x_top y_top. (tag_facts x at_x).2 x_top ∙ sym ((tag_facts y at_y).2 y_top);
    not_carried = λ x at_x other. (tag_facts x at_x).1;
    step = λ color x at_x other not_sole. step color x at_x;
  }

  -- from each node of the block and from its head both colors arrive at the new node
  pub from_block : (s : ℕ) → At w at.upper s → Passage next N (new_node g) s
  from_block s at_n =
      let within = at_within w blocks at.upper s (upper_member g c at ground) at_n in
      passage links next N tag w.order (λ _. roles.Plain) (new_node g) moving s at_n (λ same. omega (arith, within, (counts g c at ground).nodes, same)) (tag_facts s at_n).0
