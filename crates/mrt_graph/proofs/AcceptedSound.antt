-- An accepted certificate is sound.
use Rattle.std.proofs.Common.{ℕ, length, subst}
use Rattle.mrt_graph.specs.declared.cert.CertFile.{CertFile}
use Rattle.mrt_graph.specs.Accepted.{Accepted}
use Rattle.mrt_graph.specs.Certificate.{row_of}
use Rattle.mrt_graph.specs.Rules.{GraphRule}
use Rattle.mrt_graph.specs.Sound.{Sound}
use Rattle.mrt_graph.specs.Topology.{Topology}
use Rattle.mrt_graph.proofs.AcceptedBlocks.{blocks}
use Rattle.mrt_graph.proofs.Bridge.{sound_for}
use Rattle.mrt_graph.proofs.NearPairs.{near_claim}
use Rattle.mrt_graph.proofs.RowsHold.{rows_hold}
use Rattle.mrt_graph.proofs.Whole.{good_everywhere}
use Rattle.mrt_graph.proofs.WordsOf.{words_of}

pub accepted_sound : (g : Topology) (root : ℕ) (file : CertFile) → Accepted g root file
    → Sound g.links (length g.ids) (row_of file.cert)
accepted_sound g root file accepted =
    let b = blocks g root file accepted in
    let rows = rows_hold g root file accepted b.root_within in
    subst (λ (n : ℕ). Sound g.links n (row_of file.cert)) (accepted GraphRule).counts.nodes
    (λ s t s_within t_within other.
    let good =
    good_everywhere (words_of g.links root file.cert) b rows (near_claim (words_of g.links root file.cert) b rows) s t
    s_within t_within other in
    sound_for g.links (length file.cert.nodes) (row_of file.cert) b.to_within s t s_within good.blue good.red
    good.apart)
