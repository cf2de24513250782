-- The link of a least way is the first link of the least path.
use Rattle.std.proofs.Common.{◌≡◌, ◌≢◌, ◌∙◌, ◌<◌, ◌+◌, ◌*◌, ℕ, Bool, true, false, List, Some, nat_lt, length, slice_get, slice_index, inl, inr, refl, sym, ap, subst, arith}
use Rattle.std.proofs.lemmas.Bool.{cases_Bool, ltb-false, ltb-true}
use Rattle.std.proofs.lemmas.Option.{get_or_from_slice_get, slice_get-get_or, slice_get_within}
use Rattle.mrt_graph.specs.declared.link.End.{End}
use Rattle.mrt_graph.specs.Topology.{Topology}
use Rattle.mrt_graph.proofs.EndsAt.{end_leads}
use Rattle.link_direction.specs.CommonBlock.{HaveCommonBlock}
use Rattle.link_direction.specs.Directions.{Directions}
use Rattle.block_spf.specs.declared.aiming.Aiming.{Aiming}
use Rattle.block_spf.specs.declared.reach.Dir.{Dir}
use Rattle.block_spf.specs.BlockAims.{IsAimOf, aim_at}
use Rattle.block_spf.specs.FirstLink.{Begins, BeginsNone, HasLinksAt, IsFirstLink}
use Rattle.block_spf.specs.LeastPath.{IsHop, HaveCommonBlockOfMoreLinks}
use Rattle.block_spf.specs.Rest.{far}
use Rattle.block_spf.specs.steps.Side.{IsLeastOverEnds, IsRowPut}
use Rattle.block_spf.specs.Side.{hop_by}
use Rattle.block_spf.specs.steps.PathsOverEnds.{AreLeast, BeginsAt, Sought, sought}
use Rattle.link_direction.proofs.ClosedBlocks.{IsOrdered}
use Rattle.link_direction.proofs.LinkNodes.{link_within}
use Rattle.link_direction.proofs.OneBlock.{one_block}
use Rattle.block_spf.proofs.SideBySide.{places_apart}
use Rattle.block_spf.proofs.WaysArePaths.{least_hop}

pub first_link : (it : Sought) (root : ℕ) → IsOrdered it.g root it.w → (own : Bool) (s t k h : ℕ) (aim : ℕ → ℕ) (cost link : ℕ) (ends : List End) → s < length it.g.ids
    → t < length it.g.ids → slice_get it.g.ends s ≡ Some ends → HaveCommonBlockOfMoreLinks it.g it.w s t k h → (own ≡ true → k ≡ it.w.block s)
    → slice_get it.wanted k ≡ Some true → IsAimOf it.g it.w aim s t
    → IsLeastOverEnds (BeginsAt it own s aim) ends (length ends) cost link → IsFirstLink it.g it.w it.dir s t link
first_link it root is own s t k h aim cost link ends within t_within list share kept_to marked it_aims least = elim (cases_Bool (nat_lt cost far)) [
  | inl is_less ↦
      let way = least.reached (ltb-true cost far is_less) in
      let few = link_within it.g way.end.link s way.end.to is.kept (end_leads it.g s way.place ends way.end is.kept list way.there) in
      Begins (record { cost = cost; link = link }) (rw is_less at hop) refl (λ same. omega (arith, few, same, way.over, is.kept.few_links))
  | inr is_not ↦ BeginsNone (rw is_not at hop) (least.unreached (ltb-false cost far is_not))
]
  where
    same_block : (k' h' : ℕ) → HaveCommonBlockOfMoreLinks it.g it.w s t k' h' → k' ≡ k
    same_block k' h' other = (one_block it.g root it.w s t k' h' k h is within t_within share.two other.common share.common).0

    alone : (u k' h' : ℕ) → u < length it.g.ids → s ≢ u → HaveCommonBlock it.w s u k' h' → (own ≡ true → k' ≡ it.w.block s) → (own ≡ false → aim k' ≢ s) → aim k' ≡ t
    alone u k' h' u_within apart common own_only onward = elim (cases_Bool own) [
      | inl is_own ↦ ap aim (own_only is_own ∙ sym (kept_to is_own)) ∙ it_aims.aimed k h share.common
      | inr all ↦ it_aims.alone u k' h' u_within apart common (onward all)
    ]

    hop : IsHop it.g it.w it.dir s t (hop_by cost link)
    hop =
        least_hop it root is own s t aim cost link ends list (λ own_only. share.two) (λ k' h' other. (
          (λ own_only. same_block k' h' other ∙ kept_to own_only),
          subst (λ (b : ℕ). slice_get it.wanted b ≡ Some true) (sym (same_block k' h' other)) marked,
          it_aims.aimed k' h' other.common,
        )) alone least

-- the links of a node, kept at its places
pub links_kept : (aiming : Aiming) (root : ℕ) (w : Directions) → IsOrdered aiming.graph.now root w → (own : Bool) (s width : ℕ) (ends : List End) (costs links all all' : List ℕ)
    → s < length aiming.graph.now.ids → slice_get aiming.graph.now.ends s ≡ Some ends
    → ((t k h : ℕ) → t < length aiming.graph.now.ids → HaveCommonBlockOfMoreLinks aiming.graph.now w s t k h → own ≡ true → k ≡ w.block s)
    → AreLeast aiming w own width s ends (length ends) costs links → IsRowPut s width (λ j. slice_index links j) all all'
    → HasLinksAt aiming.graph.now w aiming.wanted.now aiming.dir aiming.aims.now width all' s
links_kept aiming root w is own s width ends costs links all all' within list kept_to least put = record {
  each = λ j t k h link below inside share marked it_aims at.
      subst (λ (l : ℕ). IsFirstLink aiming.graph.now w aiming.dir s t l) (sym (put.there j below) ∙ get_or_from_slice_get all' (s * width + j) link 0 at)
      (first_link (sought aiming w) root is own s t k h (aim_at aiming.aims.now width j) (slice_index costs j) (slice_index links j) ends within inside list share
      (kept_to t k h inside share) marked it_aims (least.each j below));
}

-- the links of the other nodes stay
pub links_stay : (g : Topology) (w : Directions) (wanted : List Bool) (dir : Dir) (aims : List ℕ) (width y x : ℕ) (row : ℕ → ℕ) (all all' : List ℕ) → y ≢ x
    → IsRowPut x width row all all' → HasLinksAt g w wanted dir aims width all y → HasLinksAt g w wanted dir aims width all' y
links_stay g w wanted dir aims width y x row all all' other put has = record {
  each = λ j t k h link below inside share marked it_aims at.
      let p = y * width + j in
      let same = put.elsewhere p (places_apart y x width j other below) in
      has.each j t k h link below inside share marked it_aims
      (slice_get-get_or all p 0 (omega (arith, slice_get_within all' p link at, put.one_each))
      ∙ ap (λ (l : ℕ). Some l) (sym same ∙ get_or_from_slice_get all' p link 0 at));
}
