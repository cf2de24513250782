use Rattle.std.proofs.Common.{◌≡◌, ◌<◌, ℕ, List, Some, get_or, length, slice_get, refl, subst, arith}
use Rattle.std.proofs.lemmas.Option.{slice_get_read}
use Rattle.text_parts.proofs.Adding.{joined}
use Rattle.proxy_rows.specs.declared.proxy_row.ProxyRow.{ProxyRow}
use Rattle.proxy_rows.proofs.text.push_line.Goals as goal

row_at : (rows : List ProxyRow) (s i : ℕ) (row : ProxyRow) → s < length rows → i ≡ s → row ≡ get_or rows i row → slice_get rows s ≡ Some row
row_at rows s i row within same is =
    slice_get_read rows (length rows) s row refl within (subst (λ (i : ℕ). row ≡ get_or rows i row) same is)

pub push_out-requires : goal.push_out-requires
push_out-requires c = record {
  kept = c.requires.kept;
  within = c.requires.within;
  touches = c.requires.blue c.index-rows-get.result
      (row_at c.args.rows.now c.args.s _ c.index-rows-get.result (omega (arith, c.requires.within, c.requires.one_each)) c.get.ensures.value c.index-rows-get.is);
}

pub push_out-requires-2 : goal.push_out-requires-2
push_out-requires-2 c = record {
  kept = c.requires.kept;
  within = c.requires.within;
  touches = c.requires.red c.index-rows-get.result
      (row_at c.args.rows.now c.args.s _ c.index-rows-get.result (omega (arith, c.requires.within, c.requires.one_each)) c.get.ensures.value c.index-rows-get.is);
}

pub returns : goal.returns
returns c =
    let blue = c.in_ok-push_out.ensures in
    let red = c.in_ok-push_out-2.ensures in
    record {
      part = _;
      is = record {
        id = c.id.result;
        id_is = c.id.ensures;
        row = c.index-rows-get.result;
        row_is = row_at c.args.rows.now c.args.s _ c.index-rows-get.result (omega (arith, c.requires.within, c.requires.one_each)) c.get.ensures.value c.index-rows-get.is;
        blue = blue.part;
        blue_is = blue.is;
        red = red.part;
        red_is = red.is;
        spelled = refl;
      };
      added =
          joined _ _ _ _ _ (joined _ _ _ _ _ (joined _ _ _ _ _ (joined _ _ _ _ _ (joined _ _ _ _ _
          c.in_ok-push_node.ensures.added c.in_ok-push.ensures.added) blue.added) c.in_ok-push-2.ensures.added) red.added) c.in_ok-push-3.ensures.added;
    }
