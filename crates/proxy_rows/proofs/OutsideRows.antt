-- Where the way from a node outside the block enters it, and the node's row for that.
use Rattle.std.proofs.Common.{◌≡◌, ◌≢◌, ◌⊎◌, ◌<◌, ◌≤◌, ◌+◌, ◌∙◌, ℕ, zero, suc, List, [], ◌∷◌, Option, Some, None, inl, inr, refl, sym, ap, subst, arith}
use Rattle.std.proofs.lemmas.Bool.{cases_eq, cases_lt}
use Rattle.std.proofs.lemmas.Option.{same_Some}
use Rattle.std.specs.Option.{option_and_then}
use Rattle.mrt_graph.specs.declared.cert.Color.{Color}
use Rattle.mrt_graph.specs.declared.cert.Color.TheVariants.{Blue, Red}
use Rattle.mrt_graph.specs.declared.cert.Row.{Row}
use Rattle.mrt_graph.specs.Certificate.{Certificate, row_of}
use Rattle.mrt_graph.specs.CertFields.{head_of}
use Rattle.mrt_graph.specs.Foldable.{in_chain}
use Rattle.mrt_graph.specs.Hop.{Hop}
use Rattle.mrt_graph.specs.Leads.{leads}
use Rattle.mrt_graph.specs.Rows.{link_of_color}
use Rattle.mrt_graph.specs.Topology.{Topology}
use Rattle.mrt_graph.proofs.Blocks.{Words, Blocks, At, Inner, Top}
use Rattle.mrt_graph.proofs.Claims.{Good, Way}
use Rattle.mrt_graph.proofs.NearPairs.{near_claim}
use Rattle.mrt_graph.proofs.RowFacts.{SameHops}
use Rattle.mrt_graph.proofs.RowsHold.{in_block_there}
use Rattle.mrt_graph.proofs.Steps.{next_of}
use Rattle.mrt_graph.proofs.Trails.{Follows}
use Rattle.mrt_graph.proofs.Whole.{good_everywhere}
use Rattle.proxy_rows.specs.declared.attachment.Attachment.{Attachment}
use Rattle.proxy_rows.specs.declared.proxy_row.Out.{Out}
use Rattle.proxy_rows.specs.declared.proxy_row.Out.TheVariants as outs
use Rattle.proxy_rows.specs.steps.LabelledGraph.{IsGround}
use Rattle.proxy_rows.specs.ProxyRows.{BelongsTo, IsEntry, First, None as none_of_it, IsLinkFor, IsLinkIn}
use Rattle.proxy_rows.specs.Sides.{IsMember}
use Rattle.proxy_rows.proofs.Attaching.{words}
use Rattle.proxy_rows.proofs.BlockRows.{link_is}
use Rattle.proxy_rows.proofs.Entries.{outside_hops}
use Rattle.proxy_rows.proofs.Grounds.{b, head_is, is_member, known, member_block, member_within, rows, upper_member}

-- a way to another node begins with a hop
pub begins : (next : ℕ → Option Hop) (t s : ℕ) → s ≢ t → Way next t s → (hop : Hop) × (next s ≡ Some hop)
begins next t s differ way = go way.hops way.follows
  where
    go : (hops : List Hop) → Follows next t s hops → (hop : Hop) × (next s ≡ Some hop)
    go [] f = absurd (differ f)
    go (hop ∷ hops) f = (hop, f.1.0)

-- what is known of both colors, of one
pub way_of : (w : Words) (color : Color) (t s : ℕ) → Good w s t → Way (next_of w color t) t s
way_of w Blue t s ways = ways.blue
way_of w Red t s ways = ways.red

pub same_hops : (w : Words) (color : Color) (x s t : ℕ) → SameHops w x s t → next_of w color s x ≡ next_of w color t x
same_hops w Blue x s t same = same.blue
same_hops w Red x s t same = same.red

module _ (g : Topology) (c : Certificate) (at : Attachment) (ground : IsGround g c at) where
  pub hop_leads : (color : Color) (t s : ℕ) (hop : Hop) → next_of (words g c ground.accepted) color t s ≡ Some hop → leads g.links hop.link s ≡ Some hop.to
  hop_leads Blue t s hop is = (rows g c at ground).blue_leads t s hop is
  hop_leads Red t s hop is = (rows g c at ground).red_leads t s hop is

  pub link_over : (color : Color) (t s : ℕ) (row : Row) (hop : Hop) → row_of c s t ≡ Some row → next_of (words g c ground.accepted) color t s ≡ Some hop
      → link_of_color color row ≡ hop.link
  link_over Blue t s row hop row_is is = link_is g.links (row_of c) Blue t s row hop row_is is
  link_over Red t s row hop row_is is = link_is g.links (row_of c) Red t s row hop row_is is

module _ (g : Topology) (c : Certificate) (at : Attachment) (ground : IsGround g c at) where
  abbrev w : Words
  w = words g c ground.accepted

  blocks : Blocks w
  blocks = b g c at ground

  -- a node belongs to the block, or it does not
  belongs_or_not : (s : ℕ) → s < w.count → BelongsTo c at s ⊎ (BelongsTo c at s → ⊥)
  belongs_or_not s within = elim (cases_eq (w.block s) (w.block at.upper)) [
    | inl same ↦ inl (inl (is_member g c at ground s within same))
    | inr other ↦ elim (cases_eq s at.head) [
      | inl top ↦ inl (inr top)
      | inr not_top ↦ inr (λ belongs. elim belongs [ inl is ↦ other (member_block g c at ground s is) | inr top ↦ not_top top ])
    ]
  ]

  -- a node of a chain, which stands there after few steps
  record Early (s y : ℕ) : Type 0 where
    within : y < w.count
    steps : ℕ
    is : in_chain c steps s ≡ Some y
    few : w.order y + steps ≤ w.order s

  onward : (s steps x y : ℕ) → head_of c x ≡ Some y → Early s x → Early s y
  onward s steps x y head before =
      let known_head : head_of c x ≡ Some (w.head x) = known (λ node. node.head) c x before.within in
      let y_is : w.head x ≡ y = same_Some _ _ (sym known_head ∙ head) in
      elim (cases_eq x w.root) [
        | inl root ↦
            let same : x ≡ y = root ∙ sym blocks.root_head ∙ ap w.head (sym root) ∙ y_is in
            subst (Early s) same before
        | inr not_root ↦
            let lower = blocks.head_lower x (record { within = before.within; not_root = not_root }) in
            record {
              within = subst (λ (v : ℕ). v < w.count) y_is (blocks.head_within x before.within);
              steps = suc before.steps;
              is = ap (option_and_then (head_of c)) before.is ∙ head;
              few = omega (arith, before.few, lower, ap w.order y_is);
            }
      ]

  early : (s : ℕ) → s < w.count → (steps y : ℕ) → in_chain c steps s ≡ Some y → Early s y
  early s within zero y is =
      let same : s ≡ y = same_Some s y is in
      record { within = subst (λ (x : ℕ). x < w.count) same within; steps = 0; is = is; few = omega (arith, ap w.order same) }
  early s within (suc steps) y is = go (λ x. early s within steps x) (in_chain c steps s) refl is
    where
      go : ((x : ℕ) → in_chain c steps s ≡ Some x → Early s x) → (o : Option ℕ) → in_chain c steps s ≡ o → option_and_then (head_of c) o ≡ Some y → Early s y
      go ih None before head = cc
      go ih (Some x) before head = onward s steps x y head (ih x before)

  -- no node after fewer steps belongs
  abbrev NoneWithin : ℕ → ℕ → Type 0
  NoneWithin s bound = (fewer y : ℕ) → fewer < bound → in_chain c fewer s ≡ Some y → BelongsTo c at y → ⊥

  one_more : (s n : ℕ) → NoneWithin s n → ((y : ℕ) → in_chain c n s ≡ Some y → BelongsTo c at y → ⊥) → NoneWithin s (suc n)
  one_more s n before here fewer y less is = elim (cases_lt fewer n) [
    | inl early ↦ before fewer y early is
    | inr late ↦
        let last : fewer ≡ n = omega (arith, late, less) in
        here y (subst (λ (k : ℕ). in_chain c k s ≡ Some y) last is)
  ]

  scan : (s : ℕ) → s < w.count → (bound : ℕ) → ((e : ℕ) × IsEntry c at s e × BelongsTo c at e) ⊎ NoneWithin s bound
  scan s within zero = inr (λ fewer y less is. absurd (omega (arith, less)))
  scan s within (suc n) = elim (scan s within n) [
    | inl found ↦ inl found
    | inr before ↦ go before (in_chain c n s) refl
  ]
    where
      go : NoneWithin s n → (o : Option ℕ) → in_chain c n s ≡ o → ((e : ℕ) × IsEntry c at s e × BelongsTo c at e) ⊎ NoneWithin s (suc n)
      go before None is = inr (one_more s n before (λ y at_n. let clash : ◌≡◌ {A = Option ℕ} None (Some y) = sym is ∙ at_n in absurd (cc)))
      go before (Some x) is = elim (belongs_or_not x (early s within n x is).within) [
        | inl belongs ↦ inl (x, First n x is belongs before, belongs)
        | inr not_it ↦ inr (one_more s n before (λ y at_n. subst (λ (v : ℕ). BelongsTo c at v → ⊥) (same_Some x y (sym is ∙ at_n)) not_it))
      ]

  -- each node's way enters somewhere
  pub entry_there : (s : ℕ) → s < w.count → (e : ℕ) × IsEntry c at s e × BelongsTo c at e
  entry_there s within = elim (scan s within (suc (w.order s))) [
    | inl found ↦ found
    | inr none ↦ (
      at.head,
      none_of_it at.head refl (λ steps y is. let e = early s within steps y is in none e.steps y (omega (arith, e.few)) e.is),
      inr refl,
    )
  ]

  -- each two different nodes are good
  pub good : (s t : ℕ) → s < w.count → t < w.count → s ≢ t → Good w s t
  good = good_everywhere w blocks (rows g c at ground) (near_claim w blocks (rows g c at ground))

  -- what is not of the block nor its head does not belong
  pub not_at : (s : ℕ) → (BelongsTo c at s → ⊥) → At w at.upper s → ⊥
  not_at s out (Inner within same) = out (inl (is_member g c at ground s within same))
  not_at s out (Top same) = out (inr (same ∙ sym (head_is g c at ground)))

  -- a node outside has the links of its row for the head
  pub outside_link : (color : Color) (s : ℕ) → s < w.count → (BelongsTo c at s → ⊥) → (out : Out) → IsLinkFor c color s at.head out → IsLinkIn c at color s out
  outside_link color s within out sent is = let e = entry_there s within in go e.0 e.1 e.2
    where
      go : (e : ℕ) → IsEntry c at s e → BelongsTo c at e → IsLinkIn c at color s sent
      go e enters (inr top) = record { entry = e; enters = enters; link = subst (λ (v : ℕ). IsLinkFor c color s v sent) (sym top) is }
      go e enters (inl member) =
          let e_within = member_within g c at ground e member in
          let differ : s ≢ e = λ same. out (inl (subst (IsMember c at) (sym same) member)) in
          let other = in_block_there g ground.accepted.root _ ground.accepted.accepted s e within e_within differ in
          let hop = begins (next_of w color e) e s differ (way_of w color e s (good s e within e_within differ)) in
          let same = same_hops w color s e (w.head at.upper) (outside_hops w blocks at.upper (upper_member g c at ground) (rows g c at ground) s within (not_at s out) e e_within (member_block g c at ground e member)) in
          let at_head : next_of w color at.head s ≡ Some hop.0 =
          subst (λ (h : ℕ). next_of w color h s ≡ Some hop.0) (sym (head_is g c at ground)) (sym same ∙ hop.1) in
          record {
            entry = e;
            enters = enters;
            link = record {
              row = other.value;
              row_is = other.is;
              out_is = is.out_is ∙ ap (λ (k : ℕ). outs.Link k) (link_over g c at ground color at.head s is.row hop.0 is.row_is at_head ∙ sym (link_over g c at ground color e s other.value hop.0 other.is hop.1));
            };
          }
