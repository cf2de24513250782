-- Color walks, hop by hop.
use Rattle.std.proofs.Common.{◌≡◌, ◌≢◌, ◌<◌, ◌≤◌, ℕ, List, [], ◌∷◌, Option, Some, length, slice_get, inl, inr, sym, subst, arith}
use Rattle.std.proofs.lemmas.List.{length-map}
use Rattle.std.proofs.lemmas.Option.{option_and_then_some}
use Rattle.fabric.specs.FabricParts.{ArePartsKept, FabricParts, AreRowsAccepted}
use Rattle.mrt_graph.specs.declared.cert.CertFile.{CertFile}
use Rattle.mrt_graph.specs.declared.cert.Color.{Color}
use Rattle.mrt_graph.specs.declared.cert.Color.TheVariants.{Blue, Red}
use Rattle.mrt_graph.specs.declared.link.Element.{Element}
use Rattle.mrt_graph.specs.Alternate.{UsesOn}
use Rattle.mrt_graph.specs.Certificate.{row_of}
use Rattle.mrt_graph.specs.ColorWalk.{links_followed}
use Rattle.mrt_graph.specs.GraphInvariant.{IsLink}
use Rattle.mrt_graph.specs.Hop.{Hop, color_hop}
use Rattle.mrt_graph.specs.Leads.{far_node, leads}
use Rattle.mrt_graph.specs.Rules.{GraphRule}
use Rattle.mrt_graph.specs.Uses.{Uses}
use Rattle.mrt_graph.proofs.AcceptedBlocks.{blocks}
use Rattle.mrt_graph.proofs.Arrival.{at_most}
use Rattle.mrt_graph.proofs.Bridge.{color_leads, followed, uses}
use Rattle.mrt_graph.proofs.Claims.{Good, Way}
use Rattle.mrt_graph.proofs.Hops.{far_ends, follows_trail}
use Rattle.mrt_graph.proofs.ListTests.{all_at}
use Rattle.mrt_graph.proofs.Members.{Has}
use Rattle.mrt_graph.proofs.NearPairs.{near_claim}
use Rattle.mrt_graph.proofs.RowsHold.{rows_hold}
use Rattle.mrt_graph.proofs.Trails.{Differ, Follows, On, Trail, links_on, nodes_on}
use Rattle.mrt_graph.proofs.Whole.{good_everywhere}
use Rattle.mrt_graph.proofs.WordsOf.{words_of}
use Rattle.primary_alt.proofs.AgreeingRows.{same_hops}

-- the next hop on a color, for island node d
abbrev pub next_on : FabricParts → Color → ℕ → ℕ → Option Hop
next_on parts color d n = color_hop parts.island.links parts.rows color d n

module _ (parts : FabricParts) (are : ArePartsKept parts) where
  -- from each node to each other one for which the rows are accepted a color has its way
  pub way : (color : Color) (n d : ℕ) → AreRowsAccepted parts d → n < length parts.island.ids → d < length parts.island.ids → n ≢ d → Way (next_on parts color d) d n
  way color n d are_accepted from to other =
      let cert = are_accepted.cert in
      let file : CertFile = record { version = are_accepted.accepted.version; root = are_accepted.accepted.number; cert = cert } in
      let b = blocks parts.island are_accepted.accepted.root file are_accepted.accepted.accepted in
      let rows = rows_hold parts.island are_accepted.accepted.root file are_accepted.accepted.accepted b.root_within in
      let counts : length cert.nodes ≡ length parts.island.ids = (are_accepted.accepted.accepted GraphRule).counts.nodes in
      let w = words_of parts.island.links are_accepted.accepted.root cert in
      subst (λ (next : ℕ → Option Hop). Way next d n) (same_hops parts.island.links d (row_of cert) parts.rows (λ s. sym (are_accepted.same s)) color)
      (go color (good_everywhere w b rows (near_claim w b rows) n d (omega (arith, from, counts)) (omega (arith, to, counts)) other))
    where
      go : (color : Color) → Good (words_of parts.island.links are_accepted.accepted.root are_accepted.cert) n d → Way (color_hop parts.island.links (row_of are_accepted.cert) color d) d n
      go Blue good = good.blue
      go Red good = good.red

  -- where a hop leads to is a node
  pub leads_within : (e u v : ℕ) → leads parts.island.links e u ≡ Some v → v < length parts.island.ids
  leads_within e u v on = option_and_then_some (far_node u) (slice_get parts.island.links e) v on (λ link there is.
      let kept = all_at (IsLink parts.island.ids) parts.island.links e link are.island_kept.links_kept there in
      elim (far_ends link u v is) [
        | inl up ↦ subst (λ (y : ℕ). y < length parts.island.ids) up.1 kept.upper
        | inr down ↦ subst (λ (y : ℕ). y < length parts.island.ids) down.1 (let less = kept.ascending in let upper = kept.upper in omega (arith, less, upper))
      ])

  pub trail : (color : Color) (d n : ℕ) (hops : List Hop) → Follows (next_on parts color d) d n hops → Trail parts.island.links n hops d
  trail color d n hops follows = follows_trail parts.island.links (next_on parts color d) (color_leads parts.island.links parts.rows color d) d n hops follows

  met_within : (d n : ℕ) (hops : List Hop) → n < length parts.island.ids → Trail parts.island.links n hops d → (x : ℕ) → Has (nodes_on n hops) x → x < length parts.island.ids
  met_within d n [] within trail x has = elim has [ inl same ↦ subst (λ (y : ℕ). y < length parts.island.ids) same within | inr none ↦ absurd none ]
  met_within d n (hop ∷ hops) within trail x has = elim has [
    | inl same ↦ subst (λ (y : ℕ). y < length parts.island.ids) same within
    | inr later ↦ met_within d hop.to hops (leads_within hop.link n hop.to trail.0) trail.1 x later
  ]

  -- a way has fewer hops than there are nodes
  pub way_short : (color : Color) (d n : ℕ) (hops : List Hop) → n < length parts.island.ids → Follows (next_on parts color d) d n hops → Differ (nodes_on n hops)
      → length hops < length parts.island.ids
  way_short color d n hops within follows differ =
      let most : length (nodes_on n hops) ≤ length parts.island.ids = at_most (length parts.island.ids) (nodes_on n hops) differ (met_within d n hops within (trail color d n hops follows)) in
      omega (arith, most, simp length-map at most)

  -- the color walk uses what is on the way
  pub on_walk : (color : Color) (d n : ℕ) (hops : List Hop) → n < length parts.island.ids → Follows (next_on parts color d) d n hops → Differ (nodes_on n hops)
      → (x : Element) → On n hops x → UsesOn parts.island.links (length parts.island.ids) parts.rows n d x color
  on_walk color d n hops within follows differ x on =
      let short = way_short color d n hops within follows differ in
      let same : links_followed (next_on parts color d) d (length parts.island.ids) n ≡ links_on hops =
      followed (next_on parts color d) d (length parts.island.ids) n hops follows (omega (arith, short)) in
      subst (λ (es : List ℕ). Uses parts.island.links n es x) (sym same) (uses parts.island.links n d hops x (trail color d n hops follows) on)
