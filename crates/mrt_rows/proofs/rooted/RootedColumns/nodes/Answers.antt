use Rattle.std.proofs.Common.{sym, subst}
use Rattle.mrt_rows.specs.CertOf.{IsCertOf}
use Rattle.mrt_rows.specs.Rooted.{MakeColumns}
use Rattle.mrt_rows.specs.RootedParts.{RootedParts}
use Rattle.mrt_rows.specs.ListedDirections.{directions_of}
use Rattle.mrt_rows.proofs.OneCert.{one_node_words}
use Rattle.mrt_rows.proofs.SourceCert.{told_by}
use Rattle.mrt_rows.proofs.rooted.RootedColumns.nodes.Goals as goal

pub all_nodes-requires : goal.all_nodes-requires
all_nodes-requires c = (subst (λ (rooted : RootedParts). MakeColumns c.args.g.now rooted) (sym c.self.view_is) c.requires).rooted.says

pub returns : goal.returns
returns c = λ file is_of.
    let g = c.args.g.now in
    let made = subst (λ (rooted : RootedParts). MakeColumns g rooted) (sym c.self.view_is) c.requires in
    let is = subst (λ (rooted : RootedParts). IsCertOf g rooted.root file) (sym c.self.view_is) is_of in
    one_node_words g (directions_of g c.self.inside.directed) c.in_ok-nodes.nodes.items file.cert.nodes c.in_ok-nodes.ensures
    (told_by made.rooted made.directed file is).nodes
