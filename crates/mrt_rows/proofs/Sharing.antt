-- What nodes with a block in common share.
use Rattle.std.proofs.Common.{◌≡◌, ◌≢◌, ◌∙◌, ◌<◌, ℕ, Bool, false, true, List, Some, length, slice_get, sym, ap, subst}
use Rattle.std.proofs.lemmas.Option.{same_Some}
use Rattle.link_direction.specs.CommonBlock.{FromHead, HaveCommonBlock, Peers, ToHead}
use Rattle.block_spf.specs.FirstLink.{AreOthersInOneBlock}
use Rattle.block_spf.specs.LeastPath.{HasMoreLinks, HaveCommonBlockOfMoreLinks}
use Rattle.mrt_rows.specs.Put.{AreHeadsMarked}
use Rattle.mrt_rows.specs.steps.Put.{NoneOfOneLink}
use Rattle.mrt_rows.proofs.OrderedGraphs.{OrderedGraph, one_common}
use Rattle.mrt_rows.proofs.WaysBegun.{peers_are}

module _ (og : OrderedGraph) (s t : ℕ) (s_within : s < length og.g.ids) (t_within : t < length og.g.ids) (two : s ≢ t) where
  -- a block of more than one link is the only one
  pub none_of_share : (k h : ℕ) → HaveCommonBlockOfMoreLinks og.g og.w s t k h → NoneOfOneLink og.g og.w s t
  none_of_share k h share j i link common one =
      let same = (one_common og s t k h j i s_within t_within two share.common common).0 in
      let more = share.more in
      more.differ (one.no_other more.one more.one_within (more.one_in_block ∙ same)
      ∙ sym (one.no_other more.other more.other_within (more.other_in_block ∙ same)))

  -- a block with another node has more than one link
  pub none_of_peers : og.w.block s ≡ og.w.block t → NoneOfOneLink og.g og.w s t
  none_of_peers same = none_of_share (og.w.block s) (og.w.head s) (peers_are og s t s_within t_within two same).share

-- a node that heads no block of more than one link lies in one block
pub others_in_one_block : (og : OrderedGraph) (marks : List Bool) → AreHeadsMarked og.g og.w marks → AreOthersInOneBlock og.g og.w marks
others_in_one_block og marks heads = record {
  each = λ v within unmarked. record { only = λ t k h t_within share. go v t k h t_within unmarked share.more share.common };
}
  where
    go : (v t k h : ℕ) → t < length og.g.ids → slice_get marks v ≡ Some false → HasMoreLinks og.g og.w k → HaveCommonBlock og.w v t k h
        → k ≡ og.w.block v
    go v t k h t_within unmarked more (Peers a b c) = sym a
    go v t k h t_within unmarked more (ToHead a b c) = sym a
    go v t k h t_within unmarked more (FromHead a b c) =
        let marked = heads.each t t_within (subst (λ (x : ℕ). HasMoreLinks og.g og.w x) (sym a) more) in
        let no : false ≡ true =
        same_Some false true (sym unmarked ∙ ap (λ (x : ℕ). slice_get marks x) (sym b) ∙ marked) in
        absurd (cc)
