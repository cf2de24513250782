use Rattle.mrt_rows.proofs.OneCert.{one_cert_of}
use Rattle.mrt_rows.proofs.rows_law.one_certificate.Goals as goal

pub returns-clause-some : goal.returns-clause-some
returns-clause-some c = λ g root kept within.
    let tree = c.one_search.ensures.some g root kept within in
    let gadag = c.one_gadag.ensures.some g root tree.0 kept within tree.1 in
    let d = c.one_order.ensures.some g root tree.0 gadag.0 kept within tree.1 gadag.1 in
    let ordered = c.directions_are_ordered.ensures g root tree.0 gadag.0 kept within tree.1 gadag.1 d.0 d.1 in
    let found = c.columns_are_of_one_certificate.ensures g root tree.0 gadag.0 d.0 ordered.directions kept within tree.1 gadag.1 d.1 ordered.says in
    (found.0, found.1)

pub returns-clause-one : goal.returns-clause-one
returns-clause-one c = one_cert_of
