use Rattle.std.proofs.Common.{◌≡◌, ◌<◌, ◌∙◌, ℕ, Bool, List, [], Option, None, Some, get_or, length, slice_get, refl, sym, ap, subst, arith}
use Rattle.std.specs.Prelude.{unwrap_or}
use Rattle.std.specs.Option.{option_and_then}
use Rattle.std.proofs.lemmas.Option.{get_or_from_slice_get, slice_get_read}
use Rattle.primary_alt.specs.declared.shortest.Primary.{Primary}
use Rattle.primary_alt.specs.steps.FirstArcs.{IsFirstColumn, IsTable, columns_of, primary_by}
use Rattle.primary_alt.specs.RouteLists.{RouteLists, primary_at}
use Rattle.primary_alt.proofs.ColumnsRead.{many_columns, primary_seen}
use Rattle.primary_alt.proofs.RoutesGiven.{none_exactly}
use Rattle.primary_alt.proofs.routes.Routes.primary.Goals as goal

-- what was read at the place of t
column_read : (columns : List (Option (List (Option ℕ)))) (t at : ℕ) (read o : Option (List (Option ℕ))) → at ≡ t → t < length columns → read ≡ get_or columns at read → read ≡ o
    → slice_get columns t ≡ Some o
column_read columns t at read o same low is told =
    slice_get_read columns (length columns) t read refl low (subst (λ (k : ℕ). read ≡ get_or columns k read) same is) ∙ ap (λ (x : Option (List (Option ℕ))). Some x) told

-- a column that stands there
kept_by : (networks read : List Bool) (leads read' : List ℕ) (columns : List (Option (List (Option ℕ)))) (t : ℕ) (column : List (Option ℕ)) → IsTable networks leads columns
    → slice_get columns t ≡ Some (Some column) → read ≡ networks → read' ≡ leads → IsFirstColumn read read' column
kept_by networks read leads read' columns t column kept at same same' =
    subst (λ (xs : List Bool). IsFirstColumn xs read' column) (sym same) (subst (λ (xs : List ℕ). IsFirstColumn networks xs column) (sym same') (kept.each t column at))

-- the primary that is seen
seen_by : (networks : List Bool) (leads : List ℕ) (columns : List (Option (List (Option ℕ)))) (routes : RouteLists) (x t : ℕ) (o : Option (List (Option ℕ)))
    → columns_of networks leads columns ≡ routes.primaries → x < length networks → t < length networks → slice_get columns t ≡ Some o
    → option_and_then (λ column. primary_by networks leads column x t) o ≡ primary_at routes x t
seen_by networks leads columns routes x t o told from to at =
    ap (λ (p : Option (List (Option ℕ))). option_and_then (λ column. primary_by networks leads column x t) p) (sym (get_or_from_slice_get columns t o None at))
    ∙ sym (primary_seen networks leads columns x t from to)
    ∙ ap (λ (cs : List (Option (List (Option Primary)))). get_or (unwrap_or (get_or cs t None) []) x None) told

-- the places that are asked for
within : (networks : List Bool) (leads : List ℕ) (columns : List (Option (List (Option ℕ)))) (routes : RouteLists) (k : ℕ) → columns_of networks leads columns ≡ routes.primaries
    → k < length routes.primaries → k < length networks
within networks leads columns routes k told low = omega (arith, low, ap length told, many_columns networks leads columns)

pub index-requires : goal.index-requires
index-requires c =
    let inside = c.self.inside in
    let told = ap (λ (r : RouteLists). r.primaries) c.self.view_is in
    omega (
      arith,
      within inside.networks.items inside.leads.items inside.columns.items c.args.self.now c.args.t told c.requires.to,
      c.self.invariant.a_place_each,
      c.get.ensures.value,
      inside.columns.ok.0,
    )

pub primary_by-requires-clause-kept : goal.primary_by-requires-clause-kept
primary_by-requires-clause-kept c =
    let inside = c.self.inside in
    let networks = inside.networks.items in
    let leads = inside.leads.items in
    let columns = inside.columns.items in
    let told = ap (λ (r : RouteLists). r.primaries) c.self.view_is in
    let low : c.args.t < length columns = omega (arith, within networks leads columns c.args.self.now c.args.t told c.requires.to, c.self.invariant.a_place_each) in
    kept_by networks c.deref.result.now leads c.deref-in-Some.result.now columns c.args.t c.in-Some.column c.self.invariant
    (column_read columns c.args.t c.get.result c.index.result.now (Some c.in-Some.column) c.get.ensures.value low c.index.ensures c.in-Some.is) c.deref.ensures.value
    c.deref-in-Some.ensures.value

pub primary_by-requires-clause-from : goal.primary_by-requires-clause-from
primary_by-requires-clause-from c =
    let inside = c.self.inside in
    let told = ap (λ (r : RouteLists). r.primaries) c.self.view_is in
    omega (arith, within inside.networks.items inside.leads.items inside.columns.items c.args.self.now c.args.x told c.requires.from, ap length c.deref.ensures.value)

pub primary_by-requires-clause-to : goal.primary_by-requires-clause-to
primary_by-requires-clause-to c =
    let inside = c.self.inside in
    let told = ap (λ (r : RouteLists). r.primaries) c.self.view_is in
    omega (arith, within inside.networks.items inside.leads.items inside.columns.items c.args.self.now c.args.t told c.requires.to, ap length c.deref.ensures.value)

pub returns-in-Some : goal.returns-in-Some
returns-in-Some c =
    let inside = c.self.inside in
    let networks = inside.networks.items in
    let leads = inside.leads.items in
    let columns = inside.columns.items in
    let column = c.in-Some.column in
    let told = ap (λ (r : RouteLists). r.primaries) c.self.view_is in
    let from = within networks leads columns c.args.self.now c.args.x told c.requires.from in
    let to = within networks leads columns c.args.self.now c.args.t told c.requires.to in
    let at = column_read columns c.args.t c.get.result c.index.result.now (Some column) c.get.ensures.value (omega (arith, to, c.self.invariant.a_place_each)) c.index.ensures c.in-Some.is in
    let is : c.primary_by.result ≡ primary_at c.args.self.now c.args.x c.args.t =
    c.primary_by.ensures
    ∙ ap (λ (xs : List Bool). primary_by xs c.deref-in-Some.result.now column c.args.x c.args.t) c.deref.ensures.value
    ∙ ap (λ (xs : List ℕ). primary_by networks xs column c.args.x c.args.t) c.deref-in-Some.ensures.value
    ∙ seen_by networks leads columns c.args.self.now c.args.x c.args.t (Some column) told from to at in
    record { primary = is; none = λ area graph made. none_exactly area c.args.self.now made.primaries c.args.x c.args.t c.primary_by.result is c.requires.from }

pub returns-in-None : goal.returns-in-None
returns-in-None c =
    let inside = c.self.inside in
    let networks = inside.networks.items in
    let leads = inside.leads.items in
    let columns = inside.columns.items in
    let told = ap (λ (r : RouteLists). r.primaries) c.self.view_is in
    let from = within networks leads columns c.args.self.now c.args.x told c.requires.from in
    let to = within networks leads columns c.args.self.now c.args.t told c.requires.to in
    let at = column_read columns c.args.t c.get.result c.index.result.now None c.get.ensures.value (omega (arith, to, c.self.invariant.a_place_each)) c.index.ensures c.in-None.is in
    let is : None ≡ primary_at c.args.self.now c.args.x c.args.t = seen_by networks leads columns c.args.self.now c.args.x c.args.t None told from to at in
    record { primary = is; none = λ area graph made. none_exactly area c.args.self.now made.primaries c.args.x c.args.t None is c.requires.from }
