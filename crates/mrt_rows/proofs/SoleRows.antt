-- The sole links of nodes.
use Rattle.std.proofs.Common.{◌≡◌, ◌≢◌, ◌∙◌, ◌<◌, ℕ, List, Option, Some, get_or, length, slice_get, refl, sym, ap, subst, inl, inr, arith}
use Rattle.std.proofs.lemmas.Bool.{cases_eq}
use Rattle.std.proofs.lemmas.Option.{same_Some, slice_get-get_or}
use Rattle.std.specs.Option.{option_map}
use Rattle.mrt_graph.specs.declared.cert.Role.TheVariants.{Sole}
use Rattle.mrt_graph.specs.declared.gadag.Mark.{Mark}
use Rattle.mrt_graph.specs.declared.link.End.{End}
use Rattle.mrt_graph.specs.DirectedLists.{DirectedLists}
use Rattle.mrt_graph.specs.Topology.{Topology}
use Rattle.mrt_graph.proofs.EndsAt.{leads_end}
use Rattle.link_direction.specs.CommonBlock.{ToHead}
use Rattle.link_direction.specs.Directions.{Directions, Says}
use Rattle.link_direction.proofs.ClosedBlocks.{inside_of_link}
use Rattle.block_spf.specs.FirstLink.{no_link}
use Rattle.block_spf.specs.LeastPath.{HasMoreLinks}
use Rattle.mrt_rows.specs.NearOf.{AreSoles, IsSoleOf}
use Rattle.mrt_rows.specs.RowLines.{HasOneLink}
use Rattle.mrt_rows.proofs.OrderedGraphs.{OrderedGraph, is_ordered}
use Rattle.mrt_rows.proofs.OtherLines.{one_link_between}

-- what the list of marks says of a link's role, and of its block
pub mark_says : (g : Topology) (d : DirectedLists) (w : Directions) (e : ℕ) (mark : Mark) → Says g d w
    → e < length g.links
    → slice_get d.marks e ≡ Some mark → mark.role ≡ w.role e
mark_says g d w e mark says inside is =
    same_Some mark.role (w.role e)
    (sym (ap (λ (o : Option Mark). option_map (λ m. m.role) o) is) ∙ says.roles e inside)

pub block_says : (g : Topology) (d : DirectedLists) (w : Directions) (e : ℕ) (mark : Mark) → Says g d w → e < length g.links
    → slice_get d.marks e ≡ Some mark → mark.block ≡ w.lies_in e
block_says g d w e mark says inside is =
    same_Some mark.block (w.lies_in e) (sym (ap (λ (o : Option Mark). option_map (λ m. m.block) o) is) ∙ says.link_blocks e inside)

-- a block of more than one link has no sole one
pub not_sole : (g : Topology) (w : Directions) (k link : ℕ) → HasMoreLinks g w k → HasOneLink g w k link → ⊥
not_sole g w k link more one =
    more.differ (one.no_other more.one more.one_within more.one_in_block ∙ sym (one.no_other more.other more.other_within more.other_in_block))

pub none_of_more : (g : Topology) (w : Directions) (v sole : ℕ) → IsSoleOf g w v sole → HasMoreLinks g w (w.block v) → sole ≡ no_link
none_of_more g w v sole is more = elim (cases_eq sole no_link) [
  | inl none ↦ none
  | inr some ↦ absurd (not_sole g w (w.block v) sole more (is.sole some))
]

-- the one that was read at the place of v
pub sole_at : (g : Topology) (w : Directions) (soles : List ℕ) (i v link : ℕ) → AreSoles g w soles → i ≡ v → v < length g.ids → link ≡ get_or soles i link
    → IsSoleOf g w v link
sole_at g w soles i v link are named within is =
    are.each v link (subst (λ (x : ℕ). slice_get soles x ≡ Some link) named
    (slice_get-get_or soles i link (omega (arith, named, within, are.one_each)) ∙ ap (λ (x : ℕ). Some x) (sym is)))

module _ (og : OrderedGraph) (v : ℕ) (v_within : v < length og.g.ids) where
  -- no link lies in the root's block
  not_root : (e : ℕ) → e < length og.g.links → og.w.lies_in e ≡ og.w.block v → v ≢ og.root
  not_root e e_within in_block v_root =
      let to = og.ordered.links.directed e e_within in
      let inside = inside_of_link og.g og.root og.w e (og.w.tail e) to.0 (is_ordered og) to.1 in
      og.ordered.heads.alone inside.m inside.within inside.not_root (inside.in_block ∙ in_block ∙ ap og.w.block v_root ∙ og.ordered.heads.root_block)

  -- a sole link of the block is its one link
  pub sole_is : (e : ℕ) → e < length og.g.links → og.w.role e ≡ Sole → og.w.lies_in e ≡ og.w.block v → IsSoleOf og.g og.w v e
  sole_is e e_within sole in_block = record {
    sole = λ some. elim (og.ordered.blocks v v_within (not_root e e_within in_block)) [
      | inl it ↦ record {
        within = e_within;
        in_block = in_block;
        no_other = λ f f_within f_block. it.no_other_link f f_within f_block ∙ sym (it.no_other_link e e_within in_block);
      }
      | inr closed ↦ absurd (closed.none_sole e e_within in_block sole)
    ];
    none = λ same. absurd (omega (arith, same, e_within, og.kept.few_links));
  }

  -- where none of the ends of v is over one, there is none
  pub none_is : (ends : List End) → slice_get og.g.ends v ≡ Some ends
      → ((j : ℕ) (end : End) → slice_get ends j ≡ Some end → og.w.role end.link ≡ Sole → og.w.lies_in end.link ≡ og.w.block v → ⊥)
      → IsSoleOf og.g og.w v no_link
  none_is ends list none_over = record {
    sole = λ other. absurd (other refl);
    none = λ same e one.
        let lower = og.ordered.heads.lower v v_within (not_root e one.within one.in_block) in
        let between = one_link_between og v (og.w.head v) (og.w.block v) (og.w.head v) e v_within (og.ordered.heads.head_within v v_within)
        (λ alike. omega (arith, lower, ap og.w.order alike)) (ToHead refl refl refl) one in
        let over = leads_end og.g v e (og.w.head v) ends og.kept list between.leads_on in
        none_over over.place over.end over.at (ap og.w.role over.over ∙ between.sole) (ap og.w.lies_in over.over ∙ one.in_block);
  }
