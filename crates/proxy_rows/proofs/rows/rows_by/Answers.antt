use Rattle.std.proofs.Common.{rules, ◌≡◌, ◌∙◌, ℕ, Bool, List, Some, length, slice_get, inl, inr, sym, ap, subst, arith}
use Rattle.std.proofs.lemmas.Option.{slice_get_within}
use Rattle.mrt_graph.proofs.ListPlaces.{pushed_at}
use Rattle.proxy_rows.specs.declared.proxy_row.ProxyRow.{ProxyRow}
use Rattle.proxy_rows.specs.declared.side.Side.TheVariants.{Low, High}
use Rattle.proxy_rows.specs.ProxyRows.{IsProxyRow}
use Rattle.proxy_rows.specs.steps.LabelledGraph.{AreMarks, with_rows}
use Rattle.proxy_rows.proofs.AnyRows.{accepted_of}
use Rattle.proxy_rows.proofs.rows.rows_by.Goals as goal

pub side_marks-requires : goal.side_marks-requires
side_marks-requires g c = record { ground = accepted_of c.args.words.now c.args.at.now (g.R.RowsOf.rows c.args.rows.now) c.requires.read }

pub side_marks-requires-2 : goal.side_marks-requires-2
side_marks-requires-2 g c = record { ground = accepted_of c.args.words.now c.args.at.now (g.R.RowsOf.rows c.args.rows.now) c.requires.read }

pub loop-s-init : goal.loop-s-init
loop-s-init g c =
    let none : length c.in_ok-proxies.proxies.items ≡ 0 = ap (λ (rows : List ProxyRow). length rows) c.in_ok-proxies.ensures.items in
    record {
      many = c.in_ok-proxies.ensures.len;
      told = none;
      room = c.in_ok-proxies.ensures.capacity;
      each = λ rest read s row at. absurd (omega (arith, none, slice_get_within _ s row at));
    }

pub row-blue-requires : goal.row-blue-requires
row-blue-requires g c =
    let words = c.args.words.now in
    let low = sym c.deref.ensures.value in
    let high = sym c.deref-in-loop-s.ensures.value in
    record {
      read = c.requires.read;
      low_count = subst (λ (marks : List Bool). length marks ≡ length words.graph.now.ids) low c.in_ok-low.ensures.count;
      low = subst (λ (marks : List Bool). AreMarks words c.args.at.now Low marks) low c.in_ok-low.ensures.marked;
      high_count = subst (λ (marks : List Bool). length marks ≡ length words.graph.now.ids) high c.in_ok-high.ensures.count;
      high = subst (λ (marks : List Bool). AreMarks words c.args.at.now High marks) high c.in_ok-high.ensures.marked;
      within = omega (arith, c.new.ensures, c.loop-s-test.true, c.requires.count);
    }

pub loop-s-preserved : goal.loop-s-preserved
loop-s-preserved g c = record {
  many = omega (arith, c.push_reserved.ensures.len, c.loop-s.invariant.many);
  told = search rules;
  room = omega (arith, c.push_reserved.ensures.capacity, c.loop-s.invariant.room);
  each = λ rest read s row at.
      elim (pushed_at c.loop-s.proxies.items c.row-blue.result row s (subst (λ (xs : List ProxyRow). slice_get xs s ≡ Some row) c.push_reserved.ensures.items at)) [
        | inl early ↦ c.loop-s.invariant.each rest read s row early
        | inr last ↦
            let words = c.args.words.now in
            let here : s ≡ c.loop-s.s = last.0 ∙ c.loop-s.invariant.told in
            subst (IsProxyRow words.graph.now (with_rows words rest) c.args.at.now s) last.1
            (subst (λ (i : ℕ). IsProxyRow words.graph.now (with_rows words rest) c.args.at.now i c.row-blue.result) (c.new.ensures ∙ sym here)
            (c.row-blue.ensures rest read))
      ];
}

pub returns : goal.returns
returns g c rest read = record {
  one_each = omega (arith, c.loop-s.invariant.told, c.loop-s-test.false, c.loop-s.auto.s-end, c.requires.count);
  each = c.loop-s.invariant.each rest read;
}
