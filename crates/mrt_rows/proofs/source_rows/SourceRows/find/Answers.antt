use Rattle.std.proofs.Common.{◌∙◌, ◌<◌, ◌≤◌, List, length, take, sym, ap, subst, arith}
use Rattle.std.proofs.lemmas.List.{with_items_is}
use Rattle.mrt_graph.specs.declared.cert.Row.{Row}
use Rattle.mrt_graph.specs.Certificate.{row_of}
use Rattle.mrt_rows.specs.CertOf.{IsCertOf}
use Rattle.mrt_rows.specs.RowMaker.{MakeRows}
use Rattle.mrt_rows.specs.steps.NearOf.{near_first}
use Rattle.mrt_rows.specs.RowsFound.{RowsFound}
use Rattle.mrt_rows.proofs.NearSection.{all_near, none_for_itself}
use Rattle.mrt_rows.proofs.SourceCert.{told_by}
use Rattle.mrt_rows.proofs.source_rows.SourceRows.find.Goals as goal

pub open_for-requires-clause-rooted : goal.open_for-requires-clause-rooted
open_for-requires-clause-rooted c = (subst (λ (rows : RowsFound). MakeRows c.args.g.now rows) (sym c.self.view_is) c.requires.made).rooted

pub open_for-requires-clause-made : goal.open_for-requires-clause-made
open_for-requires-clause-made c = (subst (λ (rows : RowsFound). MakeRows c.args.g.now rows) (sym c.self.view_is) c.requires.made).maker

pub put_near_rows-self-inside-requires-clause-rooted : goal.put_near_rows-self-inside-requires-clause-rooted
put_near_rows-self-inside-requires-clause-rooted c = (subst (λ (rows : RowsFound). MakeRows c.args.g.now rows) (sym c.self.view_is) c.requires.made).rooted

pub put_near_rows-self-inside-requires-clause-room : goal.put_near_rows-self-inside-requires-clause-room
put_near_rows-self-inside-requires-clause-room c =
    let made = subst (λ (rows : RowsFound). MakeRows c.args.g.now rows) (sym c.self.view_is) c.requires.made in
    ap (λ (xs : List Row). length xs) c.deref_mut.ensures.value ∙ made.room

pub invariant_of-self : goal.invariant_of-self
invariant_of-self c =
    let same = with_items_is c.self.inside.room c.put_near_rows-self-inside.new.room (c.put_near_rows-self-inside.auto.room ∙ c.deref_mut.ensures.len) in
    subst (λ (xs : List Row). c.put_near_rows-self-inside.result ≤ length xs) (sym same) c.put_near_rows-self-inside.ensures.within

pub returns-clause-root : goal.returns-clause-root
returns-clause-root c = ap (λ (rows : RowsFound). rows.root) c.self.view_is

pub returns-clause-made : goal.returns-clause-made
returns-clause-made c =
    let made = subst (λ (rows : RowsFound). MakeRows c.args.g.now rows) (sym c.self.view_is) c.requires.made in
    let same = with_items_is c.self.inside.room c.put_near_rows-self-inside.new.room (c.put_near_rows-self-inside.auto.room ∙ c.deref_mut.ensures.len) in
    record {
      rooted = made.rooted;
      directed = made.directed;
      maker = c.open_for.ensures.made;
      width = c.open_for.ensures.width ∙ made.width;
      room = ap (λ (xs : List Row). length xs) same ∙ c.put_near_rows-self-inside.auto.room ∙ ap (λ (xs : List Row). length xs) c.deref_mut.ensures.value ∙ made.room;
    }

pub returns-clause-rows : goal.returns-clause-rows
returns-clause-rows c = λ file is.
    let g = c.args.g.now in
    let s = c.args.s in
    let made = subst (λ (rows : RowsFound). MakeRows g rows) (sym c.self.view_is) c.requires.made in
    let cert = subst (λ (rows : RowsFound). IsCertOf g rows.root file) (sym c.self.view_is) is in
    let tells = told_by made.rooted made.directed file cert in
    let same = with_items_is c.self.inside.room c.put_near_rows-self-inside.new.room (c.put_near_rows-self-inside.auto.room ∙ c.deref_mut.ensures.len) in
    let found = c.put_near_rows-self-inside.ensures.rows (row_of file.cert s) (λ t t_within two. tells.rows s t c.requires.s t_within two)
    (none_for_itself file.cert s) in
    let s_within : s < length file.cert.nodes = omega (arith, c.requires.s, tells.nodes.one_each) in
    ap (λ (xs : List Row). take c.put_near_rows-self-inside.result xs) same ∙ found ∙ ap (near_first (row_of file.cert s)) (sym tells.nodes.one_each)
    ∙ all_near file.cert s s_within
