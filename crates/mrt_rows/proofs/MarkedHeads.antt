-- The heads of blocks of more than one link.
use Rattle.std.proofs.Common.{◌≡◌, ◌≢◌, ◌∙◌, ◌<◌, ℕ, Bool, false, true, List, Some, length, slice_get, sym, ap, subst}
use Rattle.std.proofs.lemmas.Option.{same_Some}
use Rattle.mrt_graph.specs.Topology.{Topology}
use Rattle.link_direction.specs.CommonBlock.{FromHead, HaveCommonBlock, Peers, ToHead}
use Rattle.link_direction.specs.Directions.{Directions}
use Rattle.block_spf.specs.FirstLink.{no_link}
use Rattle.block_spf.specs.LeastPath.{HasMoreLinks}
use Rattle.mrt_rows.specs.NearOf.{IsSoleOf}
use Rattle.mrt_rows.specs.Put.{AreHeadsMarked, AreInCommonBlockOfMoreLinks}
use Rattle.mrt_rows.specs.RowLines.{HasOneLink}
use Rattle.mrt_rows.proofs.SoleRows.{not_sole}

-- a node whose block has a sole link, and that is not marked as a head, lies in no block of more than one link
pub none_among_more : (g : Topology) (w : Directions) (marks : List Bool) (s t sole : ℕ) → AreHeadsMarked g w marks → slice_get marks s ≡ Some false
    → IsSoleOf g w s sole → sole ≢ no_link → t < length g.ids → AreInCommonBlockOfMoreLinks g w s t → ⊥
none_among_more g w marks s t sole heads bare is some t_within shares = go shares.share.common
  where
    own : w.block s ≡ shares.block → ⊥
    own same = not_sole g w shares.block sole shares.share.more (subst (λ (k : ℕ). HasOneLink g w k sole) same (is.sole some))

    go : HaveCommonBlock w s t shares.block shares.head → ⊥
    go (Peers a b c) = own a
    go (ToHead a b c) = own a
    go (FromHead a b c) =
        let marked = heads.each t t_within (subst (λ (k : ℕ). HasMoreLinks g w k) (sym a) shares.share.more) in
        let no : false ≡ true = same_Some false true (sym bare ∙ ap (λ (v : ℕ). slice_get marks v) (sym b) ∙ marked) in
        absurd (cc)
