use Rattle.std.proofs.Common.{◌≡◌, ◌∙◌, ◌<◌, ◌+◌, ◌^◌, ◌++◌, ℕ, length, refl, sym, subst}
use Rattle.std.proofs.lemmas.Result.{err_from_is_err_and}
use Rattle.std.specs.List.{flat_map}
use Rattle.cert_format.specs.CertText.{link_text, node_text, row_text}
use Rattle.cert_format.specs.Putting.{Puts}
use Rattle.cert_format.specs.Versions.{rows_in}
use Rattle.cert_format.proofs.Puttings.{all_parts, first_fits, puts_failed, rest_fits, turn_failed}
use Rattle.cert_format.proofs.cert_writer.CertWriter.put_parts.Goals as goal

pub returns-in_err-put_links : goal.returns-in_err-put_links
returns-in_err-put_links g c =
    let q = err_from_is_err_and c.from_residual-in_err-put_links.result c.from_residual-in_err-put_links.ensures.1 in
    rw (q.1, q.2) (turn_failed _ _ _ _ _ _ _ _ _ (flat_map node_text c.args.nodes.now) (flat_map link_text c.args.links.now) (flat_map row_text (rows_in c.args.self.now.version c.args.cert.now.rows)) _ c.args.self.now c.put_nodes.new.self c.put_links.new.self refl c.in_ok-put_nodes.ensures c.in_err-put_links.field-0.0 c.in_err-put_links.ensures)

pub returns : goal.returns
returns g c =
    let version : c.put_links.new.self.version ≡ c.args.self.now.version = c.in_ok-put_links.ensures.same ∙ c.in_ok-put_nodes.ensures.same in
    let rows = subst (λ (k : ℕ). Puts (g.K.Sink.written c.put_links.new.sink) (g.K.Sink.written c.put_rows_of.new.sink) (g.K.Sink.faults c.put_links.new.sink) (g.K.Sink.faults c.put_rows_of.new.sink)
    (g.K.Sink.healthy_for c.put_links.new.sink) (g.K.Sink.healthy_for c.put_rows_of.new.sink) (flat_map row_text (rows_in k c.args.cert.now.rows)) c.put_links.new.self c.put_rows_of.new.self c.put_rows_of.result) version c.put_rows_of.ensures in
    all_parts _ _ _ _ _ _ _ _ _ _ _ _ (flat_map node_text c.args.nodes.now) (flat_map link_text c.args.links.now) (flat_map row_text (rows_in c.args.self.now.version c.args.cert.now.rows)) c.args.self.now c.put_nodes.new.self c.put_links.new.self c.put_rows_of.new.self
    c.in_ok-put_nodes.ensures c.in_ok-put_links.ensures c.put_rows_of.result rows

pub put_nodes-requires : goal.put_nodes-requires
put_nodes-requires g c =
    first_fits c.args.self.now.gone c.args.self.now.held (flat_map node_text c.args.nodes.now) (flat_map link_text c.args.links.now ++ flat_map row_text (rows_in c.args.self.now.version c.args.cert.now.rows)) c.requires

pub put_links-requires : goal.put_links-requires
put_links-requires g c =
    let rows = flat_map row_text (rows_in c.args.self.now.version c.args.cert.now.rows) in
    first_fits c.put_nodes.new.self.gone c.put_nodes.new.self.held (flat_map link_text c.args.links.now) rows
    (rest_fits c.args.self.now c.put_nodes.new.self (flat_map node_text c.args.nodes.now) (flat_map link_text c.args.links.now ++ rows) c.in_ok-put_nodes.ensures.size c.requires)

pub put_rows_of-requires : goal.put_rows_of-requires
put_rows_of-requires g c =
    let version : c.put_links.new.self.version ≡ c.args.self.now.version = c.in_ok-put_links.ensures.same ∙ c.in_ok-put_nodes.ensures.same in
    let rows = flat_map row_text (rows_in c.args.self.now.version c.args.cert.now.rows) in
    let left = rest_fits c.args.self.now c.put_nodes.new.self (flat_map node_text c.args.nodes.now) (flat_map link_text c.args.links.now ++ rows) c.in_ok-put_nodes.ensures.size c.requires in
    subst (λ (k : ℕ). c.put_links.new.self.gone + length (c.put_links.new.self.held ++ flat_map row_text (rows_in k c.args.cert.now.rows)) < 2 ^ 64) (sym version)
    (rest_fits c.put_nodes.new.self c.put_links.new.self (flat_map link_text c.args.links.now) rows c.in_ok-put_links.ensures.size left)

pub returns-in_err-put_nodes : goal.returns-in_err-put_nodes
returns-in_err-put_nodes g c =
    let q = err_from_is_err_and c.from_residual.result c.from_residual.ensures.1 in
    rw (q.1, q.2) (puts_failed _ _ _ _ _ _ (flat_map node_text c.args.nodes.now) (flat_map link_text c.args.links.now ++ flat_map row_text (rows_in c.args.self.now.version c.args.cert.now.rows)) c.args.self.now c.put_nodes.new.self c.in_err-put_nodes.field-0.0 c.in_err-put_nodes.ensures)
