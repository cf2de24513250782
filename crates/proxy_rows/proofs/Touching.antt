-- Each link of a proxy row touches the row's node.
use Rattle.std.proofs.Common.{◌≡◌, ◌∙◌, ◌<◌, ℕ, List, Option, Some, None, length, inl, inr, refl, sym, ap, subst}
use Rattle.std.specs.Prelude.{IsSome}
use Rattle.std.proofs.lemmas.Bool.{and_parts, cases_Bool, ltb-true}
use Rattle.std.specs.Prelude.{nat_lt}
use Rattle.mrt_graph.specs.declared.cert.Color.{Color}
use Rattle.mrt_graph.specs.declared.cert.Color.TheVariants.{Blue, Red}
use Rattle.mrt_graph.specs.declared.cert.Row.{Row}
use Rattle.mrt_graph.specs.declared.link.End.{End}
use Rattle.mrt_graph.specs.declared.link.Link.{Link}
use Rattle.mrt_graph.specs.AcceptedFor.{IsAcceptedFor}
use Rattle.mrt_graph.specs.GraphInvariant.{IsTopology}
use Rattle.mrt_graph.specs.Certificate.{Certificate, are_two, row_of}
use Rattle.mrt_graph.specs.Leads.{leads}
use Rattle.mrt_graph.specs.Topology.{Topology}
use Rattle.mrt_graph.proofs.EndsAt.{end_leads}
use Rattle.mrt_graph.proofs.Steps.{next_of}
use Rattle.mrt_graph.proofs.TestFacts.{row_of_two}
use Rattle.proxy_rows.specs.declared.attachment.Attachment.{Attachment}
use Rattle.proxy_rows.specs.declared.proxy_row.Out.{Out}
use Rattle.proxy_rows.specs.declared.proxy_row.Out.TheVariants as outs
use Rattle.proxy_rows.specs.declared.proxy_row.ProxyRow.{ProxyRow}
use Rattle.proxy_rows.specs.declared.side.Side.TheVariants.{Low, High}
use Rattle.proxy_rows.specs.steps.LabelledGraph.{IsGround}
use Rattle.proxy_rows.specs.declared.standing.Standing.{Standing}
use Rattle.proxy_rows.specs.declared.standing.Standing.TheVariants as places
use Rattle.proxy_rows.specs.ProxyRows.{AreProxyRows, IsBlue, IsFirstOut, IsHeadRed, IsLinkFor, IsOnward, IsPlainToLow, IsRed, Here, Over}
use Rattle.proxy_rows.specs.steps.Touches.{AllTouch, Touches}
use Rattle.proxy_rows.proofs.Attaching.{words}
use Rattle.proxy_rows.proofs.BlockRows.{to_high}
use Rattle.proxy_rows.proofs.HeadLinks.{red_link}
use Rattle.proxy_rows.proofs.OutsideRows.{begins, good, hop_leads, link_over, way_of}
use Rattle.proxy_rows.proofs.Stands.{Tells, tells}

-- a row is of two nodes
within : (c : Certificate) (s t : ℕ) (row : Row) → row_of c s t ≡ Some row → (s < length c.nodes) × (t < length c.nodes)
within c s t row is = elim (cases_Bool (are_two (length c.nodes) s t)) [
  | inl two ↦
      let later = and_parts (nat_lt s (length c.nodes)) _ two in
      (ltb-true s (length c.nodes) later.0, ltb-true t (length c.nodes) (and_parts (nat_lt t (length c.nodes)) _ later.1).0)
  | inr fails ↦ let none : ◌≡◌ {A = Option Row} None (Some row) = rw fails at is in absurd (cc)
]

touching : (links : List Link) (e s v : ℕ) → leads links e s ≡ Some v → IsSome (leads links e s)
touching links e s v onward = subst (λ (o : Option ℕ). IsSome o) (sym onward) refl

module _ (g : Topology) (c : Certificate) (at : Attachment) (ground : IsGround g c at) where
  link_touches : (color : Color) (s t : ℕ) (out : Out) → IsLinkFor c color s t out → Touches g s out
  link_touches color s t out is =
      let two = within c s t is.row is.row_is in
      let differ = row_of_two c s t is.row is.row_is in
      let w = words g c ground.accepted in
      let hop = begins (next_of w color t) t s differ (way_of w color t s (good g c at ground s t two.0 two.1 differ)) in
      subst (Touches g s) (sym (is.out_is ∙ ap (λ (e : ℕ). outs.Link e) (link_over g c at ground color t s is.row hop.0 is.row_is hop.1)))
      (touching g.links hop.0.link s hop.0.to (hop_leads g c at ground color t s hop.0 hop.1))

  out_touches : (Itself : Type 0) (Asked : End → Type 0) (v : ℕ) (out : Out) → IsFirstOut g Itself Asked v out → Touches g v out
  out_touches Itself Asked v _ (Here is) = tt
  out_touches Itself Asked v _ (Over end other first) =
      touching g.links end.link v end.to (end_leads g v first.place first.ends end ground.kept first.list first.there)

  head_red_touches : (s : ℕ) (out : Out) → s ≡ at.head → IsHeadRed c at out → Touches g s out
  head_red_touches s out same is =
      let to = to_high g c at ground in
      subst (Touches g s) (sym (red_link g c at ground out is))
      (subst (λ (x : ℕ). IsSome (leads g.links to.hop.link x)) (sym same) (touching g.links to.hop.link at.head to.hop.to to.leads_on))

  -- both of a proxy row
  blue_touches : (s : ℕ) (p : Standing) (out : Out) → Tells g.links c at s p → IsBlue p g c at s out → Touches g s out
  blue_touches s places.Head out same is = subst (λ (x : ℕ). Touches g x out) (sym same) (out_touches _ (IsPlainToLow g c at) at.head out is)
  blue_touches s places.OnLow out low is = out_touches _ (IsOnward g c at Low s) s out is
  blue_touches s places.OnHigh out high is = link_touches Blue s at.head out is
  blue_touches s places.Other out other is = link_touches Red s at.head out is
  blue_touches s places.Outside out outside is = link_touches Blue s is.entry out is.link

  red_touches : (s : ℕ) (p : Standing) (out : Out) → Tells g.links c at s p → IsRed p g c at s out → Touches g s out
  red_touches s places.Head out same is = head_red_touches s out same is
  red_touches s places.OnLow out low is = link_touches Red s at.head out is
  red_touches s places.OnHigh out high is = out_touches _ (IsOnward g c at High s) s out is
  red_touches s places.Other out other is = link_touches Blue s at.head out is
  red_touches s places.Outside out outside is = link_touches Red s is.entry out is.link

-- both of each
pub all_touch : (g : Topology) (c : Certificate) (a b : ℕ) (entries : List ProxyRow) → IsTopology g → IsAcceptedFor g c → AreProxyRows g c a b entries → AllTouch g entries
all_touch g c a b entries kept accepted are =
    let ground : IsGround g c are.at = record { kept = kept; accepted = accepted; a = a; b = b; attached = are.attached } in
    record {
      one_each = are.rows.one_each;
      blue = λ s row at.
          let is = are.rows.each s row at in
          blue_touches g c are.at ground s is.standing row.blue (tells g.links c are.at s is.standing is.stands) is.blue;
      red = λ s row at.
          let is = are.rows.each s row at in
          red_touches g c are.at ground s is.standing row.red (tells g.links c are.at s is.standing is.stands) is.red;
    }
