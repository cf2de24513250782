-- Two routers with a block in common have a text.
use Rattle.std.proofs.Common.{◌≡◌, ◌≢◌, ◌==◌, ◌<◌, ◌++◌, ◌∙◌, ℕ, zero, suc, false, List, [], ◌∷◌, Option, Some, None, length, slice_get, codes, inl, inr, refl, ap, arith}
use Rattle.std.specs.Prelude.{◌↔◌, IsSome}
use Rattle.std.proofs.lemmas.Bool.{cases_Bool, cases_eq, eq-eqb, ne_eqb}
use Rattle.std.proofs.lemmas.Option.{same_Some}
use Rattle.std.specs.List.{find}
use Rattle.mrt_graph.specs.declared.link.End.{End}
use Rattle.mrt_graph.specs.AcceptedFor.{IsAcceptedFor}
use Rattle.mrt_graph.specs.Certificate.{Certificate}
use Rattle.mrt_graph.specs.GraphInvariant.{IsEnd, IsTopology}
use Rattle.mrt_graph.specs.Leads.{leads}
use Rattle.mrt_graph.specs.Related.{are_unrelated}
use Rattle.text_parts.specs.Spelling.{node_text}
use Rattle.mrt_graph.specs.Topology.{Topology}
use Rattle.mrt_graph.proofs.EndsAt.{leads_end, list_of_ends}
use Rattle.mrt_graph.proofs.ListTests.{there}
use Rattle.mrt_graph.proofs.Members.{all_has, find_has}
use Rattle.text_parts.specs.Hops.{hop_text}
use Rattle.text_parts.proofs.Adding.{some_headed_text}
use Rattle.proxy_rows.specs.declared.proxy_row.Out.{Out}
use Rattle.proxy_rows.specs.declared.proxy_row.Out.TheVariants as outs
use Rattle.proxy_rows.specs.declared.proxy_row.ProxyRow.{ProxyRow}
use Rattle.proxy_rows.specs.ProxyText.{IsEndOn, IsHead, IsHop, IsLine, IsOutText, IsProxyText}
use Rattle.proxy_rows.specs.steps.Touches.{AllTouch, Touches}
use Rattle.proxy_rows.proofs.OneAnswer.{never_both}
use Rattle.proxy_rows.proofs.RowsExist.{rows_or_none}
use Rattle.proxy_rows.proofs.Touching.{all_touch}

-- the end on a link that touches is found
pub end_found : (ends : List End) (e k : ℕ) (x : End) → slice_get ends k ≡ Some x → x.link ≡ e → (end : End) × (find (λ end. end.link == e) ends ≡ Some end)
end_found [] e k x at over = absurd (cc)
end_found (y ∷ ys) e zero x at over = (y, rw (eq-eqb y.link e (ap (λ (end : End). end.link) (same_Some y x at) ∙ over)) refl)
end_found (y ∷ ys) e (suc k) x at over = elim (cases_eq y.link e) [
  | inl same ↦ (y, rw (eq-eqb y.link e same) refl)
  | inr differs ↦ let later = end_found ys e k x at over in (later.0, rw (ne_eqb y.link e differs) later.1)
]

-- where a link that touches leads
pub led : (o : Option ℕ) → IsSome o → (v : ℕ) × (o ≡ Some v)
led None is = absurd (cc)
led (Some v) is = (v, refl)

some_head : (g : Topology) (a b root : ℕ) → a < length g.ids → b < length g.ids → root < length g.ids → (text : List ℕ) × IsHead g a b root text
some_head g a b root first second top =
    let one = there g.ids a first in
    let other = there g.ids b second in
    let highest = there g.ids root top in (
      codes "proxy " ++ node_text one.0 ++ codes " " ++ node_text other.0 ++ codes " root " ++ node_text highest.0 ++ codes "\n",
      record { one = one.0; one_is = one.1; other = other.0; other_is = other.1; top = highest.0; top_is = highest.1; spelled = refl },
    )

module _ (g : Topology) (kept : IsTopology g) where
  hop_at : (s e : ℕ) (end : End) → IsEndOn g s e end → end.to < length g.ids → (text : List ℕ) × IsHop g s e text
  hop_at s e end is within =
      let far = there g.ids end.to within in
      (hop_text far.0 end.link_data, record { end = end; end_is = is; far = far.0; far_is = far.1; spelled = refl })

  some_hop : (s e : ℕ) → s < length g.ids → IsSome (leads g.links e s) → (text : List ℕ) × IsHop g s e text
  some_hop s e within touches =
      let to = led (leads g.links e s) touches in
      let list = list_of_ends g s kept within in
      let on = leads_end g s e to.0 list.0 kept list.1 to.1 in
      let found = end_found list.0 e on.place on.end on.at on.over in
      hop_at s e found.0 (record { ends = list.0; list = list.1; is = found.1 })
      (all_has (IsEnd (length g.ids) g.links s) list.0 found.0 (kept.ends_kept s list.0 list.1).kept (find_has _ list.0 found.0 found.1).0).to

  some_out : (s : ℕ) (out : Out) → s < length g.ids → Touches g s out → (text : List ℕ) × IsOutText g s out text
  some_out s (outs.Link e) within touches = some_hop s e within touches
  some_out s outs.Attached within touches = (codes "attached", refl)

  some_line : (entries : List ProxyRow) → AllTouch g entries → (s : ℕ) → s < length g.ids → (text : List ℕ) × IsLine g entries s text
  some_line entries touch s within =
      let id = there g.ids s within in
      let row = there entries s (omega (arith, within, touch.one_each)) in
      let blue = some_out s row.0.blue within (touch.blue s row.0 row.1) in
      let red = some_out s row.0.red within (touch.red s row.0 row.1) in (
        node_text id.0 ++ codes " blue " ++ blue.0 ++ codes " red " ++ red.0 ++ codes "\n",
        record { id = id.0; id_is = id.1; row = row.0; row_is = row.1; blue = blue.0; blue_is = blue.1; red = red.0; red_is = red.1; spelled = refl },
      )

  pub text_or_none : (root : ℕ) (c : Certificate) (a b : ℕ) → IsAcceptedFor g c → root < length g.ids → a < length g.ids → b < length g.ids → a ≢ b
      → (are_unrelated c a b ≡ false) ↔ ((text : List ℕ) × IsProxyText g root c a b text)
  text_or_none root c a b accepted top first second differ = (
    (λ related. elim (rows_or_none g c a b kept accepted first second differ) [
      | inl rows ↦
          let headed =
          some_headed_text (IsHead g a b root) (IsLine g rows.0) (length g.ids) (some_head g a b root first second top)
          (some_line rows.0 (all_touch g c a b rows.0 kept accepted rows.1)) in
          (headed.0, record { entries = rows.0; entries_are = rows.1; headed = headed.1 })
      | inr unrelated ↦ absurd (cc)
    ]),
    (λ text. elim (cases_Bool (are_unrelated c a b)) [
      | inl unrelated ↦ absurd (never_both g c a b text.1.entries_are.at kept accepted text.1.entries_are.attached unrelated)
      | inr related ↦ related
    ]),
  )
