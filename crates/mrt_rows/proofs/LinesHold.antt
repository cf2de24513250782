-- Rows as their lines say keep what the rules ask of their tags: where both links lead.
use Rattle.std.proofs.Common.{◌≡◌, ◌≢◌, ◌∙◌, ◌==◌, ◌&&◌, ◌||◌, ◌<◌, ℕ, Bool, true, List, [], ◌∷◌, Some, length, refl, sym, ap, subst, inl, inr}
use Rattle.std.proofs.lemmas.Bool.{and_from, cases_eq, eq-eqb, or_left, or_right}
use Rattle.mrt_graph.specs.declared.cert.CertFile.{CertFile}
use Rattle.mrt_graph.specs.declared.cert.Role.{Role}
use Rattle.mrt_graph.specs.declared.cert.Row.{Row}
use Rattle.mrt_graph.specs.declared.cert.Tag.{Tag}
use Rattle.mrt_graph.specs.declared.cert.Tag.TheVariants as tags
use Rattle.mrt_graph.specs.declared.link.End.{End}
use Rattle.mrt_graph.specs.BothThere.{are_equal, is_less}
use Rattle.mrt_graph.specs.Certificate.{Certificate, row_of}
use Rattle.mrt_graph.specs.CertFields.{block_of, has_role, head_of, order_of, tagged}
use Rattle.mrt_graph.specs.Leads.{leads}
use Rattle.mrt_graph.specs.Roles.{is_closing, is_plain}
use Rattle.mrt_graph.specs.steps.RowRules.{near_row}
use Rattle.mrt_graph.proofs.Hops.{lead_back}
use Rattle.link_direction.specs.CommonBlock.{FromHead, HaveCommonBlock, Peers, ToHead}
use Rattle.block_spf.specs.declared.reach.Dir.{Dir}
use Rattle.block_spf.specs.declared.reach.Dir.TheVariants.{Down, Up}
use Rattle.block_spf.specs.LeastPath.{HasMoreLinks}
use Rattle.block_spf.specs.Against.{against}
use Rattle.block_spf.specs.Path.{IsStep, LeadsOn, Path}
use Rattle.mrt_rows.specs.CertOf.{Tells}
use Rattle.mrt_rows.specs.RowLines.{AboveLine, AreMembers, BeginsOver, BelowLine, HeadLine, TopLine, UnorderedLine}
use Rattle.mrt_rows.specs.RowsOf.{HasRow}
use Rattle.mrt_rows.proofs.CertSays.{block_is, closing_test, equal_test, head_is, less_test, order_is, plain_test, tagged_test}
pub use Rattle.mrt_rows.proofs.OrderedGraphs.{has_head}
use Rattle.mrt_rows.proofs.OrderedGraphs.{OrderedGraph, TailAt, peers_not_head, step_leads, step_over, within}
use Rattle.mrt_rows.proofs.RowTags.{PeerTag, peer_tag, way_here, way_of, way_tag, without}
use Rattle.mrt_rows.proofs.Ways.{Further, GoesOn, Inside, Ring, Way, begun, from, from_head, goes_further, home_role, inside_head, inside_itself, not_head, opposite, put_before, top_down, up_from_top}
use Rattle.mrt_rows.proofs.WaysBegun.{Sharing, WayOver, members, no_way, over_leads, peers, ring_of, share, way_over}

-- both links of a row of s for t lead on, to where its tag asks
pub record Passes (og : OrderedGraph) (file : CertFile) (tag : Tag) (s t : ℕ) (row : Row) : Type 0 where
  pub blue_to : ℕ
  pub red_to : ℕ
  pub blue_leads : leads og.g.links row.blue s ≡ Some blue_to
  pub red_leads : leads og.g.links row.red s ≡ Some red_to
  pub holds : near_row tag file.cert s t row blue_to red_to ≡ true

-- where t is the head of the common block, it is the head of s; and the other way round
pub head_of_source : (og : OrderedGraph) (s t k h : ℕ) → s < length og.g.ids → t < length og.g.ids → s ≢ t
    → HaveCommonBlock og.w s t k h → t ≡ h → (og.w.head s ≡ t) × (k ≡ og.w.block s)
head_of_source og s t k h s_within t_within two (Peers a b c) at_head =
    absurd (peers_not_head og s t s_within t_within two (a ∙ sym b) (c ∙ sym at_head))
head_of_source og s t k h s_within t_within two (ToHead a b c) at_head = (b, sym a)
head_of_source og s t k h s_within t_within two (FromHead a b c) at_head = absurd (two (c ∙ sym at_head))

pub head_of_target : (og : OrderedGraph) (s t k h : ℕ) → s < length og.g.ids → t < length og.g.ids → s ≢ t
    → HaveCommonBlock og.w s t k h → s ≡ h → (og.w.head t ≡ s) × (k ≡ og.w.block t)
head_of_target og s t k h s_within t_within two (Peers a b c) at_head =
    let one = og.ordered.heads.one_head s t s_within t_within (a ∙ sym b) in
    absurd (peers_not_head og t s t_within s_within (λ same. two (sym same)) (b ∙ sym a) (sym one ∙ c ∙ sym at_head))
head_of_target og s t k h s_within t_within two (ToHead a b c) at_head = absurd (two (at_head ∙ sym c))
head_of_target og s t k h s_within t_within two (FromHead a b c) at_head = (b, sym a)

-- the head of a node of a block of more than one link shares that block with it
pub with_head : (og : OrderedGraph) (m s : ℕ) → Ring og m → Inside og m s → Sharing og m s (og.w.head m)
with_head og m s ring inside = record {
  source = inside.within;
  target = og.ordered.heads.head_within m ring.inside;
  two = not_head og m ring s inside;
  common = ToHead inside.block (inside_head og m ring s inside) refl;
}

-- where a member begins a least path to the head of the common block, that is its own head
pub begins_home : (og : OrderedGraph) (dir : Dir) (s t k h link : ℕ) → s < length og.g.ids → t < length og.g.ids → AreMembers og.g og.w s t k h
    → BeginsOver og.g og.w dir s h link → BeginsOver og.g og.w dir s (og.w.head s) link
begins_home og dir s t k h link s_within t_within are =
    subst (λ (x : ℕ). BeginsOver og.g og.w dir s x link) (members og s t k h s_within t_within are).head

-- a step, back
tail_back : (og : OrderedGraph) (dir : Dir) (s : ℕ) (end : End) → LeadsOn og.w dir s end → TailAt og (against dir) end.link end.to s
tail_back og Up s end on = on
tail_back og Down s end on = on

-- what the rules ask of a step in a direction
abbrev further_less : Dir → Certificate → ℕ → ℕ → Bool
further_less Up c s v = is_less (order_of c s) (order_of c v)
further_less Down c s v = is_less (order_of c v) (order_of c s)

abbrev further_tagged : Dir → Certificate → ℕ → ℕ → Tag → ℕ → Bool
further_tagged dir c s t tag v = further_less dir c s v && tagged c v t tag

abbrev is_home : Dir → Role → Bool
is_home Up = is_closing
is_home Down = is_plain

module _ (og : OrderedGraph) (file : CertFile) (tells : Tells og.g og.root og.w file) where
  abbrev n : ℕ
  n = length og.g.ids

  abbrev c : Certificate
  c = file.cert

  less_is : (dir : Dir) (s v : ℕ) → s < n → v < n → Further og dir s v → further_less dir c s v ≡ true
  less_is Up s v s_within v_within = less_test (order_is og file tells s s_within) (order_is og file tells v v_within)
  less_is Down s v s_within v_within = less_test (order_is og file tells v v_within) (order_is og file tells s s_within)

  -- over a link that leads home in a direction
  role_home : (dir : Dir) (link : ℕ) → link < length og.g.links → og.w.role link ≡ home_role dir → has_role (is_home dir) c link ≡ true
  role_home Up link within is = closing_test og file tells link within is
  role_home Down link within is = plain_test og file tells link within is

  over_home : (m : ℕ) (dir by : Dir) (s t link : ℕ) (way : WayOver og m dir s t link) → og.w.role way.end.link ≡ home_role by
      → has_role (is_home by) c link ≡ true
  over_home m dir by s t link way is =
      role_home by link (within og.g link s way.end.to og.kept (over_leads og m dir s t link way)).link (ap og.w.role way.over ∙ is)

  module _ (m : ℕ) (ring : Ring og m) (t : ℕ) (target : Inside og m t) where
    the_tag : (v : ℕ) → Inside og m v → v ≢ t → (it : HasRow og.g og.root og.w v (row_of c v) t) × PeerTag og m v t it.row.tag
    the_tag v inside two =
        let it = tells.rows v t inside.within target.within two in
        (it, peer_tag og m ring v t inside target two it.row.tag (row_of c v) it.row it.line)

    tagged_way : (dir : Dir) (v : ℕ) → Inside og m v → v ≢ t → Way og m dir v t → tagged c v t (way_tag dir) ≡ true
    tagged_way dir v inside two way =
        let it = the_tag v inside two in
        tagged_test og file tells v t (way_tag dir) it.0 (way_here og m ring v t inside target two dir it.0.row.tag it.1 way)

    -- where a path goes, it is at t, or its way on is left
    left : (dir : Dir) (end : End) (others : List End) → Inside og m end.to → GoesOn og m dir end others t
        → ((end.to == t) || tagged c end.to t (way_tag dir)) ≡ true
    left dir end others inside goes = elim (cases_eq end.to t) [
      | inl there ↦ or_left _ _ (eq-eqb end.to t there)
      | inr other ↦ elim goes [
        | inl there ↦ absurd (other there)
        | inr on ↦ or_right _ _ (tagged_way dir end.to inside other (record { path = others; is = on.1 }))
      ]
    ]

    module _ (s : ℕ) (source : Inside og m s) where
      further_is : (dir : Dir) (v : ℕ) (tag : Tag) → Inside og m v → Further og dir s v → tagged c v t tag ≡ true → further_tagged dir c s t tag v ≡ true
      further_is dir v tag inside on is = and_from _ _ (less_is dir s v source.within inside.within on) is

      -- the link of a way, within the block
      way_on : (dir : Dir) (link : ℕ) (way : WayOver og m dir s t link) → ((way.end.to == t) || further_tagged dir c s t (way_tag dir) way.end.to) ≡ true
      way_on dir link way =
          let first = begun og m dir s way.end way.others t way.is in
          elim (cases_eq way.end.to t) [
            | inl there ↦ or_left _ _ (eq-eqb way.end.to t there)
            | inr other ↦ elim first.goes [
              | inl there ↦ absurd (other there)
              | inr more ↦ elim (from og m ring dir s way.end source first.step) [
                | inl on ↦
                    or_right _ _ (further_is dir way.end.to (way_tag dir) on.0 on.1
                    (tagged_way dir way.end.to on.0 other (record { path = way.others; is = more.1 })))
                | inr home ↦ absurd (more.0 home.0)
              ]
            ]
          ]

      -- a step, back, and a way from where it came
      back : (dir : Dir) (end : End) → IsStep og.g og.w dir (og.w.block m) s end → Way og m (against dir) s t → Way og m (against dir) end.to t
      back dir end step way =
          let onward = lead_back og.g.links end.link s end.to (step_leads og dir (og.w.block m) s end step) in
          let turned = step_over og (against dir) (og.w.block m) end.link end.to s onward step.in_block (tail_back og dir s end step.leads_on) in
          record {
            path = turned.end ∷ way.path;
            is = put_before og m (against dir) end.to turned.end way.path t turned.step
                (λ home. not_head og m ring s source (sym turned.to ∙ home))
                (subst (λ (x : ℕ). Path og.g og.w (against dir) (og.w.block m) (og.w.head m) x way.path t) (sym turned.to) way.is);
          }

      -- home, over the link of a way to the head
      to_head : (dir : Dir) (link : ℕ) (way : WayOver og m dir s (og.w.head m) link) → way.end.to ≡ og.w.head m → og.w.role way.end.link ≡ home_role dir
          → (has_role (is_home dir) c link && are_equal (head_of c s) (Some way.end.to)) ≡ true
      to_head dir link way home is =
          and_from _ _ (over_home m dir dir s (og.w.head m) link way is)
          (equal_test (head_is og file tells s source.within) refl (inside_head og m ring s source ∙ sym home))

      -- on to the head, where a way back leads to t
      home_on : (dir : Dir) (link : ℕ) → Way og m (against dir) s t → (way : WayOver og m dir s (og.w.head m) link)
          → (further_tagged dir c s t (way_tag (against dir)) way.end.to
          || (has_role (is_home dir) c link && are_equal (head_of c s) (Some way.end.to))) ≡ true
      home_on dir link back_way way =
          let step = (begun og m dir s way.end way.others (og.w.head m) way.is).step in
          elim (from og m ring dir s way.end source step) [
            | inl on ↦
                let other : way.end.to ≢ t = λ there.
                opposite og dir s t (subst (λ (x : ℕ). Further og dir s x) there on.1)
                (goes_further og m ring (against dir) s back_way.path t source target back_way.is) in
                or_left _ _ (further_is dir way.end.to (way_tag (against dir)) on.0 on.1
                (tagged_way (against dir) way.end.to on.0 other (back dir way.end step back_way)))
            | inr home ↦ or_right _ _ (to_head dir link way home.0 home.1)
          ]

      -- further on, where no way leads to t
      past : (dir : Dir) (end : End) → (Way og m dir s t → ⊥) → IsStep og.g og.w dir (og.w.block m) s end → Inside og m end.to → Further og dir s end.to
          → (further_tagged dir c s t tags.Unordered end.to || further_tagged dir c s t (way_tag (against dir)) end.to) ≡ true
      past dir end never step inside on =
          let other : end.to ≢ t = λ there. never (record { path = end ∷ []; is = (step, there) }) in
          let it = the_tag end.to inside other in
          elim (without og m ring end.to t inside target other dir it.0.row.tag it.1
          (λ way. never (record { path = end ∷ way.path; is = put_before og m dir s end way.path t step (not_head og m ring end.to inside) way.is }))) [
            | inl is ↦ or_left _ _ (further_is dir end.to tags.Unordered inside on (tagged_test og file tells end.to t tags.Unordered it.0 is))
            | inr is ↦
                or_right _ _ (further_is dir end.to (way_tag (against dir)) inside on
                (tagged_test og file tells end.to t (way_tag (against dir)) it.0 is))
          ]

  module _ (s t : ℕ) (s_within : s < n) (t_within : t < n) (two : s ≢ t) (row : Row) where
    -- the links of a row begin two ways of a block
    passes : {m x y : ℕ} {dir dir' : Dir} (tag : Tag) (blue : WayOver og m dir s x row.blue) (red : WayOver og m dir' s y row.red)
        → near_row tag c s t row blue.end.to red.end.to ≡ true → Passes og file tag s t row
    passes {m = m} {x = x} {y = y} {dir = dir} {dir' = dir'} tag blue red holds = record {
      blue_to = blue.end.to;
      red_to = red.end.to;
      blue_leads = over_leads og m dir s x row.blue blue;
      red_leads = over_leads og m dir' s y row.red red;
      holds = holds;
    }

    -- the link of a way to the head
    head_on : (dir : Dir) (ring : Ring og s) → og.w.head s ≡ t → (link : ℕ) (way : WayOver og s dir s t link)
        → ((are_equal (block_of c way.end.to) (block_of c s) && further_less dir c s way.end.to)
        || (has_role (is_home dir) c link && (way.end.to == t))) ≡ true
    head_on dir ring head link way =
        elim (from og s ring dir s way.end (inside_itself og s ring) (begun og s dir s way.end way.others t way.is).step) [
          | inl on ↦
              or_left _ _ (and_from _ _
              (equal_test (block_is og file tells way.end.to on.0.within) (block_is og file tells s s_within) on.0.block)
              (less_is dir s way.end.to s_within on.0.within on.1))
          | inr home ↦ or_right _ _ (and_from _ _ (over_home s dir dir s t link way home.1) (eq-eqb way.end.to t (home.0 ∙ head)))
        ]

    pub head_passes : HeadLine og.g og.w s t row → Passes og file tags.Head s t row
    head_passes line =
        let head = head_of_source og s t line.block line.head s_within t_within two line.share.common line.at_head in
        let ring =
        ring_of og s s_within (has_head og s t two head.0) (subst (λ (k : ℕ). HasMoreLinks og.g og.w k) head.1 line.share.more) in
        let sharing : Sharing og s s t = record { source = s_within; target = t_within; two = two; common = ToHead refl head.0 (sym head.0) } in
        let blue = way_over og s Up s t row.blue sharing line.blue in
        let red = way_over og s Down s t row.red sharing line.red in
        passes tags.Head blue red (and_from _ _ (equal_test (head_is og file tells s s_within) refl head.0)
        (and_from _ _ (head_on Up ring head.0 row.blue blue) (head_on Down ring head.0 row.red red)))

    -- the link of a way from the head
    top_on : (dir : Dir) (ring : Ring og t) → og.w.head t ≡ s → (link : ℕ) (way : WayOver og t dir s t link)
        → (has_role (is_home (against dir)) c link && ((way.end.to == t) || tagged c way.end.to t (way_tag dir))) ≡ true
    top_on dir ring head link way =
        let first = begun og t dir s way.end way.others t way.is in
        let on = from_head og t ring dir way.end (subst (λ (x : ℕ). IsStep og.g og.w dir (og.w.block t) x way.end) (sym head) first.step) in
        and_from _ _ (over_home t dir (against dir) s t link way on.1) (left t ring t (inside_itself og t ring) dir way.end way.others on.0 first.goes)

    pub top_passes : TopLine og.g og.w s t row → Passes og file tags.Top s t row
    top_passes line =
        let head = head_of_target og s t line.block line.head s_within t_within two line.share.common line.at_head in
        let ring =
        ring_of og t t_within (has_head og t s (λ same. two (sym same)) head.0) (subst (λ (k : ℕ). HasMoreLinks og.g og.w k) head.1 line.share.more) in
        let sharing : Sharing og t s t = record { source = s_within; target = t_within; two = two; common = FromHead refl head.0 (sym head.0) } in
        let blue = way_over og t Up s t row.blue sharing line.blue in
        let red = way_over og t Down s t row.red sharing line.red in
        passes tags.Top blue red (and_from _ _ (equal_test (head_is og file tells t t_within) refl head.0)
        (and_from _ _ (top_on Up ring head.0 row.blue blue) (top_on Down ring head.0 row.red red)))

    -- two nodes of one block
    module _ (ring : Ring og s) (target : Inside og s t) where
      source : Inside og s s
      source = inside_itself og s ring

      sharing : Sharing og s s t
      sharing = peers og s s t ring source target two

      same_blocks : are_equal (block_of c s) (block_of c t) ≡ true
      same_blocks = equal_test (block_is og file tells s s_within) (block_is og file tells t t_within) (sym target.block)

      less : (dir : Dir) → Way og s dir s t → further_less dir c s t ≡ true
      less dir way = less_is dir s t s_within t_within (goes_further og s ring dir s way.path t source target way.is)

      to_own_head : (dir : Dir) (k h link : ℕ) → AreMembers og.g og.w s t k h → BeginsOver og.g og.w dir s h link → WayOver og s dir s (og.w.head s) link
      to_own_head dir k h link are begins =
          way_over og s dir s (og.w.head s) link (with_head og s s ring source) (begins_home og dir s t k h link s_within t_within are begins)

      below : BelowLine og.g og.w s t row → Passes og file tags.Below s t row
      below line =
          let blue = way_over og s Up s t row.blue sharing line.blue in
          let red = to_own_head Down line.block line.head row.red line.members line.red in
          let up = way_of og s Up s t row.blue blue in
          passes tags.Below blue red (and_from _ _ same_blocks (and_from _ _ (less Up up)
          (and_from _ _ (way_on s ring t target s source Up row.blue blue) (home_on s ring t target s source Down row.red up red))))

      above : AboveLine og.g og.w s t row → Passes og file tags.Above s t row
      above line =
          let blue = to_own_head Up line.block line.head row.blue line.members line.blue in
          let red = way_over og s Down s t row.red sharing line.red in
          let down = way_of og s Down s t row.red red in
          passes tags.Above blue red (and_from _ _ same_blocks (and_from _ _ (less Down down)
          (and_from _ _ (home_on s ring t target s source Up row.blue down blue) (way_on s ring t target s source Down row.red red))))

      -- where no way leads up or down to t, s is not the greatest node, from which one leads down
      unordered : UnorderedLine og.g og.w s t row → Passes og file tags.Unordered s t row
      unordered line =
          let shares = share og s s t ring sharing in
          let none_up = no_way og s Up s t shares line.none_up in
          let none_down = no_way og s Down s t shares line.none_down in
          let blue = to_own_head Down line.block line.head row.blue line.members line.blue in
          let red = to_own_head Up line.block line.head row.red line.members line.red in
          let down = (begun og s Down s blue.end blue.others (og.w.head s) blue.is).step in
          let up = (begun og s Up s red.end red.others (og.w.head s) red.is).step in
          passes tags.Unordered blue red (and_from _ _ same_blocks (and_from _ _
          (elim (from og s ring Down s blue.end source down) [
            | inl on ↦ or_left _ _ (past s ring t target s source Down blue.end none_down down on.0 on.1)
            | inr home ↦ or_right _ _ (to_head s ring t target s source Down row.blue blue home.0 home.1)
          ])
          (elim (from og s ring Up s red.end source up) [
            | inl on ↦ past s ring t target s source Up red.end none_up up on.0 on.1
            | inr home ↦
                let top = up_from_top og s ring s red.end up home.1 in
                let way = top_down og s ring t target (λ at_top. two (top ∙ sym at_top)) in
                absurd (none_down (subst (λ (x : ℕ). Way og s Down x t) (sym top) way))
          ])))

    pub below_passes : BelowLine og.g og.w s t row → Passes og file tags.Below s t row
    below_passes line = let it = members og s t line.block line.head s_within t_within line.members in below it.ring it.target line

    pub above_passes : AboveLine og.g og.w s t row → Passes og file tags.Above s t row
    above_passes line = let it = members og s t line.block line.head s_within t_within line.members in above it.ring it.target line

    pub unordered_passes : UnorderedLine og.g og.w s t row → Passes og file tags.Unordered s t row
    unordered_passes line = let it = members og s t line.block line.head s_within t_within line.members in unordered it.ring it.target line
