use Rattle.std.proofs.Common.{◌∙◌, ◌++◌, refl}
use Rattle.std.proofs.lemmas.Result.{err_from_is_err_and}
use Rattle.std.specs.List.{flat_map}
use Rattle.cert_format.specs.CertText.{link_text, node_text}
use Rattle.cert_format.proofs.Puttings.{all_parts, first_fits, puts_failed, rest_fits, turn_failed}
use Rattle.cert_stream.proofs.Nears.{rows_text}
use Rattle.cert_stream.proofs.parts.put_parts.Goals as goal

pub put_nodes-requires : goal.put_nodes-requires
put_nodes-requires g c =
    first_fits c.args.writer.now.gone c.args.writer.now.held (flat_map node_text c.args.nodes.now) (flat_map link_text c.args.links.now ++ rows_text c.requires.cert.0.cert) c.requires.cert.2

pub returns-in_err-put_nodes : goal.returns-in_err-put_nodes
returns-in_err-put_nodes g c = λ file is.
    let q = err_from_is_err_and c.from_residual.result c.from_residual.ensures.1 in
    rw (q.1, q.2) (puts_failed _ _ _ _ _ _ (flat_map node_text c.args.nodes.now) (flat_map link_text c.args.links.now ++ rows_text file.cert) c.args.writer.now c.put_nodes.new.self c.in_err-put_nodes.field-0.0 c.in_err-put_nodes.ensures)

pub put_links-requires : goal.put_links-requires
put_links-requires g c =
    let rows = rows_text c.requires.cert.0.cert in
    let links = flat_map link_text c.args.links.now in
    first_fits c.put_nodes.new.self.gone c.put_nodes.new.self.held links rows
    (rest_fits c.args.writer.now c.put_nodes.new.self (flat_map node_text c.args.nodes.now) (links ++ rows) c.in_ok-put_nodes.ensures.size c.requires.cert.2)

pub returns-in_err-put_links : goal.returns-in_err-put_links
returns-in_err-put_links g c = λ file is.
    let q = err_from_is_err_and c.from_residual-in_err-put_links.result c.from_residual-in_err-put_links.ensures.1 in
    rw (q.1, q.2) (turn_failed _ _ _ _ _ _ _ _ _ (flat_map node_text c.args.nodes.now) (flat_map link_text c.args.links.now) (rows_text file.cert) _ c.args.writer.now c.put_nodes.new.self c.put_links.new.self refl c.in_ok-put_nodes.ensures c.in_err-put_links.field-0.0 c.in_err-put_links.ensures)

pub put_rows-requires-clause-version : goal.put_rows-requires-clause-version
put_rows-requires-clause-version g c = c.in_ok-put_links.ensures.same ∙ c.in_ok-put_nodes.ensures.same ∙ c.requires.version

pub put_rows-requires-clause-cert : goal.put_rows-requires-clause-cert
put_rows-requires-clause-cert g c =
    let rows = rows_text c.requires.cert.0.cert in
    let links = flat_map link_text c.args.links.now in
    let left = rest_fits c.args.writer.now c.put_nodes.new.self (flat_map node_text c.args.nodes.now) (links ++ rows) c.in_ok-put_nodes.ensures.size c.requires.cert.2 in
    (c.requires.cert.0, c.requires.cert.1, rest_fits c.put_nodes.new.self c.put_links.new.self links rows c.in_ok-put_links.ensures.size left)

pub returns : goal.returns
returns g c = λ file is.
    all_parts _ _ _ _ _ _ _ _ _ _ _ _ (flat_map node_text c.args.nodes.now) (flat_map link_text c.args.links.now) (rows_text file.cert) c.args.writer.now c.put_nodes.new.self c.put_links.new.self c.put_rows.new.writer
    c.in_ok-put_nodes.ensures c.in_ok-put_links.ensures c.put_rows.result (c.put_rows.ensures file is)
