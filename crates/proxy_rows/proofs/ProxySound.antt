-- With the proxy rows both colors reach the new node from each node of the graph, and share only what separates the two.
use Rattle.std.proofs.Common.{◌≡◌, ◌≢◌, ◌<◌, ◌==◌, ◌+◌, ◌∙◌, ℕ, List, [], ◌∷◌, Option, Some, slice_get, length, inl, inr, refl, sym, ap, subst, arith, if◌then◌else◌}
use Rattle.std.proofs.lemmas.Bool.{cases_eq, eq-eqb, ne_eqb}
use Rattle.mrt_graph.specs.declared.cert.Color.{Color}
use Rattle.mrt_graph.specs.declared.cert.Color.TheVariants.{Blue, Red}
use Rattle.mrt_graph.specs.declared.link.Element.{Element}
use Rattle.mrt_graph.specs.declared.link.Element.TheVariants as elements
use Rattle.mrt_graph.specs.declared.link.Link.{Link}
use Rattle.mrt_graph.specs.Certificate.{Certificate}
use Rattle.mrt_graph.specs.Hop.{Hop, color_hop}
use Rattle.mrt_graph.specs.Leads.{leads}
use Rattle.mrt_graph.specs.Rows.{Rows, link_of_color}
use Rattle.mrt_graph.specs.Sound.{SoundFor}
use Rattle.mrt_graph.specs.Topology.{Topology}
use Rattle.mrt_graph.proofs.Blocks.{Words, Blocks, Member, At, Inner, Top, Below}
use Rattle.mrt_graph.proofs.Bridge.{color_leads, sound_for}
use Rattle.mrt_graph.proofs.Claims.{Good, Way}
use Rattle.mrt_graph.proofs.Compose.{composed}
use Rattle.mrt_graph.proofs.Hops.{follows_trail}
use Rattle.mrt_graph.proofs.ListTests.{there}
use Rattle.mrt_graph.proofs.Members.{Has}
use Rattle.mrt_graph.proofs.RowFacts as facts
use Rattle.mrt_graph.proofs.Steps.{next_of}
use Rattle.mrt_graph.proofs.Trails.{Follows, IsOnLinks, Parts, nodes_on}
use Rattle.proxy_rows.specs.declared.attachment.Attachment.{Attachment}
use Rattle.proxy_rows.specs.declared.proxy_row.Out.{Out}
use Rattle.proxy_rows.specs.declared.proxy_row.ProxyRow.{ProxyRow}
use Rattle.proxy_rows.specs.GraphWith.{AreRowsWith, IsRowWith, link_out, links_with, new_node}
use Rattle.proxy_rows.specs.steps.LabelledGraph.{IsGround}
use Rattle.proxy_rows.specs.declared.side.Side.TheVariants.{Low, High}
use Rattle.proxy_rows.specs.declared.standing.Standing.{Standing}
use Rattle.proxy_rows.specs.declared.standing.Standing.TheVariants as places
use Rattle.proxy_rows.specs.ProxyRows.{BelongsTo, IsBlue, IsEntry, First, None as none_of_it, IsLinkFor, IsLinkIn, IsProxyRow, IsRed}
use Rattle.proxy_rows.specs.Sides.{IsMember}
use Rattle.proxy_rows.proofs.Attaching.{words}
use Rattle.proxy_rows.proofs.BlockRows.{side_member}
use Rattle.proxy_rows.proofs.BlockSteps.{from_block, takes}
use Rattle.proxy_rows.proofs.Entries.{Entry, Inside, ByMember, ByHead, at_or_not, before_head, before_member, entry, head_parts, last_on, member_parts, nodes_within, outside_hops}
use Rattle.proxy_rows.proofs.FirstVisit.{PartsBoth, on_front_too, parts_on, visit}
use Rattle.proxy_rows.proofs.Grounds.{b, counts, head_is, head_within, lower_at, lower_within, member_at, member_block, member_within, rows, upper_member, upper_within}
use Rattle.proxy_rows.proofs.OutsideRows.{begins, good, hop_leads, link_over, same_hops, way_of}
use Rattle.proxy_rows.proofs.NewLinks.{leads_within, old_leads}
use Rattle.proxy_rows.proofs.Stands.{Tells, tells}

abbrev out_of : Color → ProxyRow → Out
out_of Blue entry = entry.blue
out_of Red entry = entry.red

-- hops are followed alike where each node gives the same
follows_alike : (next other : ℕ → Option Hop) → (t s : ℕ) (hops : List Hop) → ((x : ℕ) → next x ≡ other x) → Follows next t s hops → Follows other t s hops
follows_alike next other t s [] same f = f
follows_alike next other t s (hop ∷ hops) same f = (f.0, (sym (same s) ∙ f.1.0, follows_alike next other t hop.to hops same f.1.1))

abbrev way_alike : (next other : ℕ → Option Hop) (t s : ℕ) → ((x : ℕ) → next x ≡ other x) → Way next t s → Way other t s
way_alike next other t s same way = record { hops = way.hops; follows = follows_alike next other t s way.hops same way.follows; differ = way.differ }

module _ (g : Topology) (c : Certificate) (at : Attachment) (ground : IsGround g c at) (entries : List ProxyRow)
    (one_each : length entries ≡ length g.ids) (each : (s : ℕ) (row : ProxyRow) → slice_get entries s ≡ Some row → IsProxyRow g c at s row)
    (all : Rows) (are : AreRowsWith g at entries all) where
  abbrev w : Words
  w = words g c ground.accepted

  blocks : Blocks w
  blocks = b g c at ground

  m_member : Member w at.upper
  m_member = upper_member g c at ground

  abbrev links : List Link
  links = links_with g at

  abbrev next : Color → ℕ → Option Hop
  next color s = color_hop links all color (new_node g) s

  count_is : w.count ≡ length g.ids
  count_is = (counts g c at ground).nodes

  ends : (e u v : ℕ) → leads g.links e u ≡ Some v → v < length g.ids
  ends e u v on = subst (λ (n : ℕ). v < n) count_is (blocks.to_within e u v on)

  -- at the entry of the block
  belongs : (s e : ℕ) → IsEntry c at s e → BelongsTo c at e
  belongs s e (First steps _ chain is before) = is
  belongs s e (none_of_it _ same none) = inr same

  -- a node outside the block goes for the new node where it goes for the head
  goes_for : (color : Color) (x e : ℕ) → x < w.count → e < w.count → x ≢ e → (entry : ProxyRow) → slice_get entries x ≡ Some entry
      → IsLinkFor c color x e (out_of color entry) → next color x ≡ next_of w color e x
  goes_for color x e x_within e_within differ entry at_x is =
      let hop = begins (next_of w color e) e x differ (way_of w color e x (good g c at ground x e x_within e_within differ)) in
      let r = are x entry at_x in
      takes links all color (new_node g) x hop.0.link hop.0.to r.row r.there
      (row_link color x entry r ∙ ap (link_out g at x) is.out_is ∙ link_over g c at ground color e x is.row hop.0 is.row_is hop.1)
      (old_leads g at hop.0.link x hop.0.to (hop_leads g c at ground color e x hop.0 hop.1)) ∙ sym hop.1
    where
      row_link : (color : Color) (x : ℕ) (entry : ProxyRow) (r : IsRowWith g at all x entry) → link_of_color color r.row ≡ link_out g at x (out_of color entry)
      row_link Blue x entry r = r.blue
      row_link Red x entry r = r.red

  outside_next : (color : Color) (x : ℕ) → x < w.count → (At w at.upper x → ⊥) → next color x ≡ next_of w color (w.head at.upper) x
  outside_next color x within out =
      let known = there entries x (omega (arith, within, count_is, one_each)) in
      let is = each x known.0 known.1 in
      let sent = outs_in color known.0 is.standing (tells g.links c at x is.standing is.stands) is.blue is.red in
      from known.0 known.1 sent.entry sent.link (belongs x sent.entry sent.enters)
    where
      no_member : IsMember c at x → ⊥
      no_member is = out (member_at g c at ground x is)

      outs_in : (color : Color) (entry : ProxyRow) (p : Standing) → Tells g.links c at x p → IsBlue p g c at x entry.blue → IsRed p g c at x entry.red
          → IsLinkIn c at color x (out_of color entry)
      outs_in color entry places.Head same blue red = absurd (out (Top (same ∙ head_is g c at ground)))
      outs_in color entry places.OnLow low blue red = absurd (no_member (side_member g c at ground Low x low))
      outs_in color entry places.OnHigh high blue red = absurd (no_member (side_member g c at ground High x high))
      outs_in color entry places.Other other blue red = absurd (no_member other.0)
      outs_in Blue entry places.Outside outside blue red = blue
      outs_in Red entry places.Outside outside blue red = red

      from : (entry : ProxyRow) → slice_get entries x ≡ Some entry → (e : ℕ) → IsLinkFor c color x e (out_of color entry) → BelongsTo c at e
          → next color x ≡ next_of w color (w.head at.upper) x
      from entry at_x e link (inr top) =
          let is_head : e ≡ w.head at.upper = top ∙ head_is g c at ground in
          subst (λ (v : ℕ). next color x ≡ next_of w color v x) is_head
          (goes_for color x e within (subst (λ (v : ℕ). v < w.count) (sym top) (head_within g c at ground)) (λ same. out (Top (same ∙ is_head))) entry at_x link)
      from entry at_x e link (inl member) =
          let e_within = member_within g c at ground e member in
          let e_same = member_block g c at ground e member in
          goes_for color x e within e_within (λ same. no_member (subst (IsMember c at) (sym same) member)) entry at_x link
          ∙ same_hops w color x e (w.head at.upper) (outside_hops w blocks at.upper m_member (rows g c at ground) x within out e e_within e_same)

  -- the words of the graph with the new node, as far as the composition of two parts of a way reads them
  abbrev with : Words
  with = record {
    links = links;
    root = w.root;
    count = 0;
    order = w.order;
    head = w.head;
    block = w.block;
    part = w.part;
    role = w.role;
    tag = w.tag;
    blue = λ t s. if t == new_node g then next Blue s else w.blue t s;
    red = λ t s. if t == new_node g then next Red s else w.red t s;
  }

  new_is : (color : Color) (x : ℕ) → next color x ≡ next_of with color (new_node g) x
  new_is Blue x = rw (eq-eqb (new_node g) (new_node g) refl) refl
  new_is Red x = rw (eq-eqb (new_node g) (new_node g) refl) refl

  old_is : (color : Color) (t : ℕ) → t ≢ new_node g → (x : ℕ) → next_of w color t x ≡ next_of with color t x
  old_is Blue t other x = rw (ne_eqb t (new_node g) other) refl
  old_is Red t other x = rw (ne_eqb t (new_node g) other) refl

  on_links : (color : Color) (t : ℕ) → IsOnLinks links (next_of with color t)
  on_links color t s hop is = elim (cases_eq t (new_node g)) [
    | inl new ↦ color_leads links all color (new_node g) s hop (new_is color s ∙ subst (λ (v : ℕ). next_of with color v s ≡ Some hop) new is)
    | inr old ↦ old_leads g at hop.link s hop.to (hop_leads g c at ground color t s hop (old_is color t old s ∙ is))
  ]

  rows_with : facts.Rows with
  rows_with = record {
    blue_leads = on_links Blue;
    red_leads = on_links Red;
    near = λ s t s_within t_within differ related. absurd (omega (arith, s_within));
    far = λ s t s_within t_within differ not_root far. absurd (omega (arith, s_within));
    far_root = λ s s_within differ far. absurd (omega (arith, s_within));
  }

  -- what is on all walks to the two routers is on all walks to the new node
  parts_new : (x : Element) (s : ℕ) → s < w.count → PartsBoth g at x s → Parts links x s (new_node g)
  parts_new x s within both hops trail = elim (visit g at ends s (new_node g) (subst (λ (n : ℕ). s < n) count_is within) hops trail) [
    | inl old ↦
        let below = nodes_within g.links (length g.ids) ends s (new_node g) (subst (λ (n : ℕ). s < n) count_is within) hops old (new_node g)
        (last_on g.links s (new_node g) hops old) in
        absurd (omega (arith, below))
    | inr front ↦ on_front_too g at x s hops both front
  ]

  -- what parts s and its way into the block does so with the new node too
  parts_kept : (x : Element) (s e : ℕ) → s < w.count → PartsBoth g at (elements.Node e) s → Parts g.links x s e → Parts links x s e
  parts_kept x s e within both parts hops trail = elim (visit g at ends s e (subst (λ (n : ℕ). s < n) count_is within) hops trail) [
    | inl old ↦ parts hops old
    | inr front ↦ on_front_too g at x s hops (record { lower = parts_on g x s e at.lower both.lower parts; upper = parts_on g x s e at.upper both.upper parts }) front
  ]

  -- a node of the block
  inside : (s : ℕ) → At w at.upper s → Good with s (new_node g)
  inside s at_s =
      let p = from_block g c at ground entries one_each each all are s at_s in
      record {
        blue = way_alike (next Blue) (with.blue (new_node g)) (new_node g) s (new_is Blue) p.blue;
        red = way_alike (next Red) (with.red (new_node g)) (new_node g) s (new_is Red) p.red;
        apart = λ x between on_blue on_red. absurd (p.apart x between on_blue on_red);
      }

  -- from a node outside, by its way into the block
  by_entry : (s e : ℕ) → s < w.count → e < w.count → s ≢ e → At w at.upper e → PartsBoth g at (elements.Node e) s
      → ((color : Color) (x : ℕ) (hops : List Hop) → Follows (next_of w color e) e s hops → Has (nodes_on s hops) x → x ≢ e
      → (x < w.count) × (next color x ≡ next_of w color e x)) → Good with s (new_node g)
  by_entry s e s_within e_within differ e_at both alike =
      let first = good g c at ground s e s_within e_within differ in
      let old : e ≢ new_node g = λ same. omega (arith, e_within, count_is, same) in
      composed with rows_with s e (new_node g) (record {
        parts = parts_new (elements.Node e) s s_within both;
        first = record {
          blue = way_alike (w.blue e) (with.blue e) e s (old_is Blue e old) first.blue;
          red = way_alike (w.red e) (with.red e) e s (old_is Red e old) first.red;
          apart = λ x between on_blue on_red. parts_kept x s e s_within both (first.apart x between on_blue on_red);
        };
        second = inside e e_at;
        blue_same = λ x has other.
            let a = alike Blue x first.blue.hops first.blue.follows has other in
            (λ same. omega (arith, a.0, count_is, same), sym (new_is Blue x) ∙ a.1 ∙ old_is Blue e old x);
        red_same = λ x has other.
            let a = alike Red x first.red.hops first.red.follows has other in
            (λ same. omega (arith, a.0, count_is, same), sym (new_is Red x) ∙ a.1 ∙ old_is Red e old x);
      })

  -- each node on the way to the member where a node's way enters goes for the new node where it goes for that member
  by_member : (s e y : ℕ) → s < w.count → e < w.count → w.block e ≡ w.block at.upper → Member w y → w.head y ≡ e → Below w y s
      → (At w at.upper s → ⊥) → Good with s (new_node g)
  by_member s e y s_within e_within e_same y_member head below out =
      let e_at : At w at.upper e = Inner e_within e_same in
      let differ : s ≢ e = λ same. out (subst (At w at.upper) (sym same) e_at) in
      let lower = member_parts w blocks at.upper m_member s at.lower e y e_within e_same y_member head below (lower_at g c at ground) in
      let upper = member_parts w blocks at.upper m_member s at.upper e y e_within e_same y_member head below (Inner (upper_within g c at ground) refl) in
      by_entry s e s_within e_within differ e_at (record { lower = lower; upper = upper })
      (λ color x hops follows has other.
      let x_within = on_within color e s hops s_within follows x has in
      let x_out : At w at.upper x → ⊥ =
      before_member w blocks at.upper m_member (next_of w color e) (hop_leads g c at ground color e) s x e y hops e_within e_same y_member head below follows has other in (
        x_within,
        outside_next color x x_within x_out
            ∙ sym (same_hops w color x e (w.head at.upper) (outside_hops w blocks at.upper m_member (rows g c at ground) x x_within x_out e e_within e_same)),
      ))
    where
      on_within : (color : Color) (t s : ℕ) (hops : List Hop) → s < w.count → Follows (next_of w color t) t s hops → (x : ℕ) → Has (nodes_on s hops) x → x < w.count
      on_within color t s hops within follows x has =
          nodes_within g.links w.count blocks.to_within s t within hops (follows_trail g.links (next_of w color t) (hop_leads g c at ground color t) t s hops follows) x has

  by_head : (s : ℕ) → s < w.count → (Below w at.upper s → ⊥) → (At w at.upper s → ⊥) → Good with s (new_node g)
  by_head s s_within none out =
      let h = w.head at.upper in
      let h_at : At w at.upper h = Top refl in
      let h_within = blocks.head_within at.upper (upper_within g c at ground) in
      let differ : s ≢ h = λ same. out (Top same) in
      let lower = head_parts w blocks at.upper m_member s at.lower none (lower_at g c at ground) in
      let upper = head_parts w blocks at.upper m_member s at.upper none (Inner (upper_within g c at ground) refl) in
      by_entry s h s_within h_within differ h_at (record { lower = lower; upper = upper })
      (λ color x hops follows has other.
      let x_within =
      nodes_within g.links w.count blocks.to_within s h s_within hops (follows_trail g.links (next_of w color h) (hop_leads g c at ground color h) h s hops follows) x has in (
        x_within,
        outside_next color x x_within
            (before_head w blocks at.upper m_member (next_of w color h) (hop_leads g c at ground color h) s x hops none follows has other),
      ))

  not_at : (s : ℕ) → ((w.block s ≢ w.block at.upper) × (s ≢ w.head at.upper)) → At w at.upper s → ⊥
  not_at s out (Inner _ same) = out.0 same
  not_at s out (Top same) = out.1 same

  outside : (s : ℕ) → s < w.count → (At w at.upper s → ⊥) → Entry w blocks at.upper m_member s → Good with s (new_node g)
  outside s within out (Inside at_s) = absurd (out at_s)
  outside s within out (ByMember e y e_within e_same y_member head below) = by_member s e y within e_within e_same y_member head below out
  outside s within out (ByHead none) = by_head s within none out

  good_with : (s : ℕ) → s < w.count → Good with s (new_node g)
  good_with s within = elim (at_or_not w blocks at.upper m_member s within) [
    | inl at_s ↦ inside s at_s
    | inr out ↦ outside s within (not_at s out) (entry w blocks at.upper m_member s within)
  ]

  -- the rows are sound for the new node
  pub sound : (s : ℕ) → s < length g.ids → SoundFor links (length g.ids + 1) all s (new_node g)
  sound s within =
      let s_within = subst (λ (n : ℕ). s < n) (sym count_is) within in
      let all_good = good_with s s_within in
      let below = λ (x : ℕ) (l : x < w.count). subst (λ (n : ℕ). x < n) count_is l in
      sound_for links (length g.ids + 1) all
      (leads_within g at ends (below at.lower (lower_within g c at ground)) (below at.upper (upper_within g c at ground)))
      s (new_node g) (omega (arith, within))
      (way_alike (with.blue (new_node g)) (next Blue) (new_node g) s (λ x. sym (new_is Blue x)) all_good.blue)
      (way_alike (with.red (new_node g)) (next Red) (new_node g) s (λ x. sym (new_is Red x)) all_good.red)
      (λ x between on_blue on_red. all_good.apart x between on_blue on_red)
