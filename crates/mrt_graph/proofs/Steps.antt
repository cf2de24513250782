-- Where the rows of related nodes lead: to the destination, or on by a move.
use Rattle.std.proofs.Common.{◌≡◌, ◌≢◌, ◌∙◌, ◌<◌, ℕ, Option, Some, refl, sym, ap, subst, inl, inr}
use Rattle.mrt_graph.specs.declared.cert.Color.{Color}
use Rattle.mrt_graph.specs.declared.cert.Color.TheVariants.{Blue, Red}
use Rattle.mrt_graph.specs.declared.cert.Role.{Role}
use Rattle.mrt_graph.specs.declared.cert.Role.TheVariants as roles
use Rattle.mrt_graph.specs.declared.cert.Tag.{Tag}
use Rattle.mrt_graph.specs.declared.cert.Tag.TheVariants as tags
use Rattle.mrt_graph.specs.Hop.{Hop}
use Rattle.mrt_graph.specs.Leads.{leads}
use Rattle.mrt_graph.proofs.Blocks.{Words, Common, Member, At, Blocks}
use Rattle.mrt_graph.proofs.InBlock.{no_cycle, head_outside, at_within, at_related, at_common, at_stays}
use Rattle.mrt_graph.proofs.Moves.{Move, BlueHead, BlueTop, BlueBelow, BlueAbove, BlueAboveHome, BlueUnordered, BlueUnorderedIn, BlueUnorderedHome, RedHead, RedTop, RedBelow, RedBelowHome, RedAbove, RedUnordered, RedUnorderedIn, Ends}
use Rattle.mrt_graph.proofs.RowFacts.{Says, SoleRow, NearRow, Rows}
use Rattle.mrt_graph.proofs.Hops.{lead_back}

-- the next hops of a color
abbrev pub next_of : Words → Color → ℕ → ℕ → Option Hop
next_of w Blue t = w.blue t
next_of w Red t = w.red t

-- from s, for t, the hop leads to t, or by a move to another node
pub data Goes (w : Words) (t s : ℕ) (color : Color) (hop : Hop) : Type 0 where
  There : hop.to ≡ t → Ends color (w.tag s t) (w.role hop.link) → Goes w t s color hop
  On : hop.to ≢ t → Move color (w.tag s t) (w.order s) (w.tag hop.to t) (w.order hop.to) → Goes w t s color hop

-- from s, for t, a color leads so, and stays in m's block and its head
pub record Step (w : Words) (m t s : ℕ) (color : Color) : Type 0 where
  pub hop : Hop
  pub takes : next_of w color t s ≡ Some hop
  pub at : At w m hop.to
  pub goes : Goes w t s color hop

module _ (w : Words) (b : Blocks w) (r : Rows w) (m t : ℕ) (member : Member w m) (target : At w m t) where
  -- the row of a node of the block, or of its head
  pub row_at : (s : ℕ) → At w m s → s ≢ t → NearRow w s t
  row_at s source differ =
      r.near s t (at_within w b m s member source) (at_within w b m t member target) differ (at_related w b m s t member source target differ)

  -- the tag of a node whose head is t
  tag_to_head : (s : ℕ) → At w m s → s ≢ t → w.head s ≡ t → w.tag s t ≢ tags.Sole → w.tag s t ≡ tags.Head
  tag_to_head s source differ up not_sole =
      let row = row_at s source differ in
      go (w.tag s t) not_sole row.blue row.red row.says
    where
      s_within : s < w.count
      s_within = at_within w b m s member source

      t_within : t < w.count
      t_within = at_within w b m t member target

      go : (T : Tag) → T ≢ tags.Sole → (blue red : Hop) → Says w T s t blue red → T ≡ tags.Head
      go tags.Sole other blue red says = absurd (other refl)
      go tags.Head other blue red says = refl
      go tags.Top other blue red says = absurd (no_cycle w b s t s_within t_within differ up says.head)
      go tags.Below other blue red says = absurd (head_outside w b s t s_within t_within differ says.block up)
      go tags.Above other blue red says = absurd (head_outside w b s t s_within t_within differ says.block up)
      go tags.Unordered other blue red says = absurd (head_outside w b s t s_within t_within differ says.block up)
      go tags.Carried other blue red says = absurd says

  -- the tag of the head of t
  tag_from_head : (s : ℕ) → At w m s → s ≢ t → w.head t ≡ s → w.tag s t ≢ tags.Sole → w.tag s t ≡ tags.Top
  tag_from_head s source differ down not_sole =
      let row = row_at s source differ in
      go (w.tag s t) not_sole row.blue row.red row.says
    where
      outside : w.block s ≡ w.block t → ⊥
      outside one = head_outside w b t s (at_within w b m t member target) (at_within w b m s member source) (λ same. differ (sym same)) (sym one) down

      go : (T : Tag) → T ≢ tags.Sole → (blue red : Hop) → Says w T s t blue red → T ≡ tags.Top
      go tags.Sole other blue red says = absurd (other refl)
      go tags.Head other blue red says =
          absurd (no_cycle w b s t (at_within w b m s member source) (at_within w b m t member target) differ says.head down)
      go tags.Top other blue red says = refl
      go tags.Below other blue red says = absurd (outside says.block)
      go tags.Above other blue red says = absurd (outside says.block)
      go tags.Unordered other blue red says = absurd (outside says.block)
      go tags.Carried other blue red says = absurd says

  -- a link of the block does not lead on to a node whose row is Sole
  leads_not_sole : (e s v : ℕ) → leads w.links e s ≡ Some v → w.part e ≡ w.block m → At w m v → v ≢ t → s ≢ t → w.tag v t ≢ tags.Sole
  leads_not_sole e s v there in_block at v_differs s_differs = λ is_sole.
      let row = row_at v at v_differs in
      let says : SoleRow w v t row.blue row.red = subst (λ T. Says w T v t row.blue row.red) is_sole row.says in
      let part : w.part row.blue.link ≡ w.block m = at_common w b m v t (w.part row.blue.link) member at target v_differs row.blue_block in
      let over = r.blue_leads t v row.blue row.blue_is in
      let not_back : v ≢ row.blue.to = λ back. v_differs (back ∙ says.there) in
      let one : row.blue.link ≡ e =
      b.lone row.blue.link v row.blue.to e s v over not_back says.sole there (part ∙ sym in_block) in
      let on : leads w.links e v ≡ Some row.blue.to = subst (λ (k : ℕ). leads w.links k v ≡ Some row.blue.to) one (r.blue_leads t v row.blue row.blue_is) in
      let back : leads w.links e v ≡ Some s = lead_back w.links e s v there in
      let same : s ≡ row.blue.to = cc (on, back) in
      s_differs (same ∙ says.there)

  -- a hop of the block from s, for t
  module _ (s : ℕ) (source : At w m s) (differ : s ≢ t) (hop : Hop) (leads_on : leads w.links hop.link s ≡ Some hop.to)
      (in_block : w.part hop.link ≡ w.block m) (at : At w m hop.to) where
    -- it leads straight to t
    ends : (color : Color) (T : Tag) (role : Role) → w.tag s t ≡ T → w.role hop.link ≡ role → hop.to ≡ t → Ends color T role → Goes w t s color hop
    ends color T role tag_is role_is there may =
        There there (subst (λ role. Ends color (w.tag s t) role) (sym role_is) (subst (λ T. Ends color T role) (sym tag_is) may))

    -- it moves to another node
    moves : (color : Color) (T U : Tag) → w.tag s t ≡ T → hop.to ≢ t → w.tag hop.to t ≡ U → Move color T (w.order s) U (w.order hop.to) → Goes w t s color hop
    moves color T U from other to move =
        On other (subst (λ T. Move color T (w.order s) (w.tag hop.to t) (w.order hop.to)) (sym from) (subst (λ U. Move color T (w.order s) U (w.order hop.to)) (sym to) move))

    -- where s is a node under t, it moves to another such node
    beside : (color : Color) → w.tag s t ≡ tags.Head → w.head s ≡ t → w.block hop.to ≡ w.block s
        → Move color tags.Head (w.order s) tags.Head (w.order hop.to) → Goes w t s color hop
    beside color tag_is up one move =
        let s_within = at_within w b m s member source in
        let to_within = at_within w b m hop.to member at in
        let other : hop.to ≢ t = λ same. head_outside w b s t s_within (at_within w b m t member target) differ (sym one ∙ ap w.block same) up in
        let above : w.head hop.to ≡ t = b.one_head hop.to s to_within s_within one ∙ up in
        moves color tags.Head tags.Head tag_is other
        (tag_to_head hop.to at other above (leads_not_sole hop.link s hop.to leads_on in_block at other differ)) move

    -- where s and t are of one block, it moves to their head
    home : (color : Color) (T : Tag) → w.tag s t ≡ T → w.block s ≡ w.block t → hop.to ≡ w.head s
        → Move color T (w.order s) tags.Top (w.order hop.to) → Goes w t s color hop
    home color T tag_is one there move =
        let s_within = at_within w b m s member source in
        let t_within = at_within w b m t member target in
        let other : hop.to ≢ t = λ same. head_outside w b s t s_within t_within differ one (sym there ∙ same) in
        let above : w.head t ≡ hop.to = b.one_head t s t_within s_within (sym one) ∙ sym there in
        moves color T tags.Top tag_is other
        (tag_from_head hop.to at other above (leads_not_sole hop.link s hop.to leads_on in_block at other differ)) move

    blue_goes : (T : Tag) (red : Hop) → w.tag s t ≡ T → T ≢ tags.Sole → Says w T s t hop red → Goes w t s Blue hop
    blue_goes tags.Sole red is other says = absurd (other refl)
    blue_goes tags.Carried red is other says = absurd says
    blue_goes tags.Head red is other says = elim says.blue_goes [
      | inl higher ↦ beside Blue is says.head higher.block (BlueHead _ _ higher.order)
      | inr closing ↦ ends Blue tags.Head roles.Closing is closing.closing closing.there tt
    ]
    blue_goes tags.Top red is other says = elim says.blue_goes [
      | inl there ↦ ends Blue tags.Top roles.Plain is says.blue_plain there tt
      | inr below ↦ moves Blue tags.Top tags.Below is below.not_there below.is (BlueTop _ _)
    ]
    blue_goes tags.Below red is other says = elim says.blue_goes [
      | inl there ↦ ends Blue tags.Below (w.role hop.link) is refl there tt
      | inr up ↦ moves Blue tags.Below tags.Below is up.tagged.not_there up.tagged.is (BlueBelow _ _ up.order)
    ]
    blue_goes tags.Above red is other says = elim says.blue_goes [
      | inl up ↦ moves Blue tags.Above tags.Above is up.tagged.not_there up.tagged.is (BlueAbove _ _ up.order)
      | inr closing ↦ home Blue tags.Above is says.block closing.there (BlueAboveHome _ _)
    ]
    blue_goes tags.Unordered red is other says = elim says.blue_goes [
      | inl down ↦ elim down [
        | inl on ↦ moves Blue tags.Unordered tags.Unordered is on.tagged.not_there on.tagged.is (BlueUnordered _ _ on.order)
        | inr off ↦ moves Blue tags.Unordered tags.Below is off.tagged.not_there off.tagged.is (BlueUnorderedIn _ _)
      ]
      | inr plain ↦ home Blue tags.Unordered is says.block plain.there (BlueUnorderedHome _ _)
    ]

    red_goes : (T : Tag) (blue : Hop) → w.tag s t ≡ T → T ≢ tags.Sole → Says w T s t blue hop → Goes w t s Red hop
    red_goes tags.Sole blue is other says = absurd (other refl)
    red_goes tags.Carried blue is other says = absurd says
    red_goes tags.Head blue is other says = elim says.red_goes [
      | inl lower ↦ beside Red is says.head lower.block (RedHead _ _ lower.order)
      | inr plain ↦ ends Red tags.Head roles.Plain is plain.plain plain.there tt
    ]
    red_goes tags.Top blue is other says = elim says.red_goes [
      | inl there ↦ ends Red tags.Top roles.Closing is says.red_closing there tt
      | inr above ↦ moves Red tags.Top tags.Above is above.not_there above.is (RedTop _ _)
    ]
    red_goes tags.Below blue is other says = elim says.red_goes [
      | inl down ↦ moves Red tags.Below tags.Below is down.tagged.not_there down.tagged.is (RedBelow _ _ down.order)
      | inr plain ↦ home Red tags.Below is says.block plain.there (RedBelowHome _ _)
    ]
    red_goes tags.Above blue is other says = elim says.red_goes [
      | inl there ↦ ends Red tags.Above (w.role hop.link) is refl there tt
      | inr down ↦ moves Red tags.Above tags.Above is down.tagged.not_there down.tagged.is (RedAbove _ _ down.order)
    ]
    red_goes tags.Unordered blue is other says = elim says.red_goes [
      | inl on ↦ moves Red tags.Unordered tags.Unordered is on.tagged.not_there on.tagged.is (RedUnordered _ _ on.order)
      | inr off ↦ moves Red tags.Unordered tags.Above is off.tagged.not_there off.tagged.is (RedUnorderedIn _ _)
    ]

  -- each color's step from a node whose row is not Sole
  pub step : (color : Color) (s : ℕ) → At w m s → s ≢ t → w.tag s t ≢ tags.Sole → Step w m t s color
  step Blue s source differ not_sole =
      let row = row_at s source differ in
      let on = r.blue_leads t s row.blue row.blue_is in
      let part = at_common w b m s t (w.part row.blue.link) member source target differ row.blue_block in
      let at = at_stays w b m s row.blue.to member (at_within w b m s member source) (b.to_within row.blue.link s row.blue.to on)
      (subst (λ k. Common w s row.blue.to k) part (b.tied row.blue.link s row.blue.to on)) in
      record {
        hop = row.blue;
        takes = row.blue_is;
        at = at;
        goes = blue_goes s source differ row.blue on part at (w.tag s t) row.red refl not_sole row.says;
      }
  step Red s source differ not_sole =
      let row = row_at s source differ in
      let on = r.red_leads t s row.red row.red_is in
      let part = at_common w b m s t (w.part row.red.link) member source target differ row.red_block in
      let at = at_stays w b m s row.red.to member (at_within w b m s member source) (b.to_within row.red.link s row.red.to on)
      (subst (λ k. Common w s row.red.to k) part (b.tied row.red.link s row.red.to on)) in
      record {
        hop = row.red;
        takes = row.red_is;
        at = at;
        goes = red_goes s source differ row.red on part at (w.tag s t) row.blue refl not_sole row.says;
      }
