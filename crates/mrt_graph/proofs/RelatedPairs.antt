-- The claim on two related nodes whose row is not Sole.
use Rattle.std.proofs.Common.{◌≡◌, ◌≢◌, ◌∙◌, ℕ, sym, subst, inl, inr}
use Rattle.std.proofs.lemmas.Bool.{cases_eq}
use Rattle.mrt_graph.specs.declared.cert.Color.{Color}
use Rattle.mrt_graph.specs.declared.cert.Color.TheVariants.{Blue, Red}
use Rattle.mrt_graph.specs.declared.cert.Tag.{Tag}
use Rattle.mrt_graph.specs.declared.cert.Tag.TheVariants as tags
use Rattle.mrt_graph.specs.Hop.{Hop}
use Rattle.mrt_graph.proofs.Blocks.{Words, Member, At, Blocks}
use Rattle.mrt_graph.proofs.Claims.{Near}
use Rattle.mrt_graph.proofs.ColorMoves.{Goes, Moving, Onward, Passage, There, passage}
use Rattle.mrt_graph.proofs.InBlock.{at_within}
use Rattle.mrt_graph.proofs.RowFacts.{Says, TopRow, Rows}
use Rattle.mrt_graph.proofs.Steps.{Goes as GoesOn, There as Arrives, On as Moves, next_of, step, row_at}
use Rattle.mrt_graph.proofs.Trails.{IsOnLinks}

module _ (w : Words) (b : Blocks w) (r : Rows w) (m t : ℕ) (member : Member w m) (target : At w m t) where
  on_links : (color : Color) → IsOnLinks w.links (next_of w color t)
  on_links Blue = r.blue_leads t
  on_links Red = r.red_leads t

  -- a row is not Carried
  not_carried : (s : ℕ) → At w m s → s ≢ t → w.tag s t ≢ tags.Carried
  not_carried s source differ = λ carried.
      let row = row_at w b r m t member target s source differ in
      let says : ⊥ = subst (λ T. Says w T s t row.blue row.red) carried row.says in
      says

  -- a node whose row is Top is the head of t
  top_is_head : (s : ℕ) → At w m s → s ≢ t → w.tag s t ≡ tags.Top → w.head t ≡ s
  top_is_head s source differ top =
      let row = row_at w b r m t member target s source differ in
      let says : TopRow w s t row.blue row.red = subst (λ T. Says w T s t row.blue row.red) top row.says in
      says.head

  -- each node's tag
  abbrev tag : ℕ → Tag
  tag x = w.tag x t

  goes : (color : Color) (x : ℕ) (hop : Hop) → GoesOn w t x color hop → Goes tag w.order w.role t x color hop
  goes color x hop (Arrives there may) = There there may
  goes color x hop (Moves other move) = Onward other move

  moving : Moving w.links (λ color. next_of w color t) (At w m) tag w.order w.role t
  moving = record {
    on_links = on_links;
    most = b.most;
    order_within = λ x at_x. b.order_within x (at_within w b m x member at_x);
    one_order = λ x y at_x at_y. b.one_order x y (at_within w b m x member at_x) (at_within w b m y member at_y);
    one_top = λ x y at_x at_y x_other y_other x_top y_top. sym (top_is_head x at_x x_other x_top) ∙ top_is_head y at_y y_other y_top;
    not_carried = not_carried;
    step = λ color x at_x other not_sole.
        let on = step w b r m t member target color x at_x other not_sole in
        record { hop = on.hop; takes = on.takes; stays = inr on.at; goes = goes color x on.hop on.goes };
  }

  -- both colors arrive, and share nothing
  pub mixed_passage : (s : ℕ) → At w m s → s ≢ t → w.tag s t ≢ tags.Sole → Passage (λ color. next_of w color t) (At w m) t s
  mixed_passage = passage w.links (λ color. next_of w color t) (At w m) tag w.order w.role t moving

  -- the claim
  pub mixed_near : (s : ℕ) → At w m s → s ≢ t → w.tag s t ≢ tags.Sole → Near w s t
  mixed_near s source differ not_sole =
      let both = mixed_passage s source differ not_sole in
      record {
        m = m;
        member = member;
        good = record { blue = both.blue; red = both.red; apart = λ x between blue red. absurd (both.apart x between blue red) };
        blue_at = λ x on. at_end x (both.blue_in x on);
        red_at = λ x on. at_end x (both.red_in x on);
      }
    where
      at_end : (x : ℕ) → (x ≢ t → At w m x) → At w m x
      at_end x other = elim (cases_eq x t) [ inl end ↦ subst (At w m) (sym end) target | inr differ ↦ other differ ]
