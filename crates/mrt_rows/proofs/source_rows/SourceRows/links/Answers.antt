use Rattle.std.proofs.Common.{sym, subst}
use Rattle.mrt_rows.specs.CertOf.{IsCertOf}
use Rattle.mrt_rows.specs.RowMaker.{MakeRows}
use Rattle.mrt_rows.specs.RowsFound.{RowsFound}
use Rattle.mrt_rows.specs.ListedDirections.{directions_of}
use Rattle.mrt_rows.proofs.OneCert.{one_link_words}
use Rattle.mrt_rows.proofs.SourceCert.{told_by}
use Rattle.mrt_rows.proofs.source_rows.SourceRows.links.Goals as goal

pub all_links-requires : goal.all_links-requires
all_links-requires c = (subst (λ (rows : RowsFound). MakeRows c.args.g.now rows) (sym c.self.view_is) c.requires).rooted.says

pub returns : goal.returns
returns c = λ file is_of.
    let g = c.args.g.now in
    let made = subst (λ (rows : RowsFound). MakeRows g rows) (sym c.self.view_is) c.requires in
    let is = subst (λ (rows : RowsFound). IsCertOf g rows.root file) (sym c.self.view_is) is_of in
    one_link_words g (directions_of g c.self.inside.directed) c.in_ok-links.links.items file.cert.links c.in_ok-links.ensures
    (told_by made.rooted made.directed file is).links
