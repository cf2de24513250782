-- Two routers have one list of proxy rows.
use Rattle.std.proofs.Common.{◌≡◌, ◌<◌, ◌∙◌, ℕ, true, List, Some, get_or, slice_get, inl, inr, refl, sym, ap, subst, arith}
use Rattle.std.proofs.lemmas.Bool.{cases_lt}
use Rattle.std.proofs.lemmas.List.{same_lists}
use Rattle.std.proofs.lemmas.Option.{same_Some, slice_get-get_or}
use Rattle.std.specs.Option.{unwrap_or}
use Rattle.mrt_graph.specs.declared.cert.Color.{Color}
use Rattle.mrt_graph.specs.declared.cert.Color.TheVariants.{Blue, Red}
use Rattle.mrt_graph.specs.declared.cert.Row.{Row}
use Rattle.mrt_graph.specs.declared.link.End.{End}
use Rattle.mrt_graph.specs.Certificate.{Certificate}
use Rattle.mrt_graph.specs.CertFields.{order_of}
use Rattle.mrt_graph.specs.FirstEnd.{IsFirstEnd}
use Rattle.mrt_graph.specs.Foldable.{in_chain}
use Rattle.mrt_graph.specs.GraphInvariant.{IsTopology}
use Rattle.mrt_graph.specs.Related.{are_unrelated}
use Rattle.mrt_graph.specs.Rows.{link_of_color}
use Rattle.mrt_graph.specs.Topology.{Topology}
use Rattle.mrt_graph.proofs.Blocks.{Words, Common, Peers, ToHead, FromHead, Related, InOne, Under, Over}
use Rattle.mrt_graph.proofs.TestFacts.{common_block, less_numbers, unrelated_apart}
use Rattle.proxy_rows.specs.declared.attachment.Attachment.{Attachment}
use Rattle.proxy_rows.specs.declared.proxy_row.Out.{Out}
use Rattle.proxy_rows.specs.declared.proxy_row.Out.TheVariants as outs
use Rattle.proxy_rows.specs.declared.proxy_row.ProxyRow.{ProxyRow}
use Rattle.proxy_rows.specs.declared.side.Side.TheVariants.{Low, High}
use Rattle.mrt_graph.specs.AcceptedFor.{IsAcceptedFor}
use Rattle.proxy_rows.specs.Attachment.{IsAttachment}
use Rattle.proxy_rows.specs.steps.LabelledGraph.{IsGround}
use Rattle.proxy_rows.specs.declared.standing.Standing.{Standing}
use Rattle.proxy_rows.specs.declared.standing.Standing.TheVariants as places
use Rattle.proxy_rows.specs.ProxyRows.{AreProxyRows, AreRowsOf, IsBlue, IsEntry, First, None as none_of_it, IsFirstOut, Here, Over, IsLinkFor, IsLinkIn, IsOnward, IsPlainToLow, IsProxyRow, IsRed}
use Rattle.proxy_rows.proofs.Attaching.{words}
use Rattle.proxy_rows.proofs.Grounds.{block_is, head_is}
use Rattle.proxy_rows.proofs.HeadLinks.{red_link}
use Rattle.proxy_rows.proofs.Stands.{one_standing}

-- of two numbers neither of which is less
one_place : (n m : ℕ) → ¬ (n < m) → ¬ (m < n) → n ≡ m
one_place n m not_less not_more = elim (cases_lt n m) [
  | inl less ↦ absurd (not_less less)
  | inr late ↦ elim (cases_lt m n) [ inl more ↦ absurd (not_more more) | inr now ↦ omega (arith, late, now) ]
]

-- a node's first end that has what is asked for is one
one_first : (g : Topology) (Asked : End → Type 0) (v : ℕ) (one other : End) → IsFirstEnd g Asked v one → IsFirstEnd g Asked v other → one ≡ other
one_first g Asked v one other a b =
    let ends : a.ends ≡ b.ends = same_Some a.ends b.ends (sym a.list ∙ b.list) in
    let a_there : slice_get b.ends a.place ≡ Some one = subst (λ (xs : List End). slice_get xs a.place ≡ Some one) ends a.there in
    let b_there : slice_get a.ends b.place ≡ Some other = subst (λ (xs : List End). slice_get xs b.place ≡ Some other) (sym ends) b.there in
    let same : a.place ≡ b.place =
    one_place a.place b.place (λ early. b.none_before a.place one early a_there a.asked) (λ early. a.none_before b.place other early b_there b.asked) in
    same_Some one other (sym a_there ∙ subst (λ (k : ℕ). slice_get b.ends k ≡ Some other) (sym same) b.there)

-- a way enters at one node
one_entry : (c : Certificate) (at : Attachment) (s x y : ℕ) → IsEntry c at s x → IsEntry c at s y → x ≡ y
one_entry c at s x y (First n _ is belongs before) (First m _ is' belongs' before') =
    let same : n ≡ m = one_place n m (λ early. before' n x early is belongs) (λ early. before m y early is' belongs') in
    same_Some x y (sym is ∙ subst (λ (k : ℕ). in_chain c k s ≡ Some y) (sym same) is')
one_entry c at s x y (First n _ is belongs before) (none_of_it _ same none) = absurd (none n x is belongs)
one_entry c at s x y (none_of_it _ same none) (First n _ is belongs before) = absurd (none n y is belongs)
one_entry c at s x y (none_of_it _ same none) (none_of_it _ same' none') = same ∙ sym same'

one_out : (g : Topology) (Itself : Type 0) (Asked : End → Type 0) (v : ℕ) (x y : Out) → IsFirstOut g Itself Asked v x → IsFirstOut g Itself Asked v y → x ≡ y
one_out g Itself Asked v _ _ (Here same) (Here same') = refl
one_out g Itself Asked v _ _ (Here same) (Over end other first) = absurd (other same)
one_out g Itself Asked v _ _ (Over end other first) (Here same) = absurd (other same)
one_out g Itself Asked v _ _ (Over end other first) (Over end' other' first') = ap (λ (e : End). outs.Link e.link) (one_first g Asked v end end' first first')

one_link : (c : Certificate) (color : Color) (s t : ℕ) (x y : Out) → IsLinkFor c color s t x → IsLinkFor c color s t y → x ≡ y
one_link c color s t x y one other =
    one.out_is ∙ ap (λ (r : Row). outs.Link (link_of_color color r)) (same_Some one.row other.row (sym one.row_is ∙ other.row_is)) ∙ sym other.out_is

one_way_in : (c : Certificate) (at : Attachment) (color : Color) (s : ℕ) (x y : Out) → IsLinkIn c at color s x → IsLinkIn c at color s y → x ≡ y
one_way_in c at color s x y one other =
    one_link c color s other.entry x y
    (subst (λ (e : ℕ). IsLinkFor c color s e x) (one_entry c at s one.entry other.entry one.enters other.enters) one.link) other.link

module _ (g : Topology) (c : Certificate) (at : Attachment) (ground : IsGround g c at) (s : ℕ) where
  one_blue : (p : Standing) (x y : Out) → IsBlue p g c at s x → IsBlue p g c at s y → x ≡ y
  one_blue places.Head x y one other = one_out g _ (IsPlainToLow g c at) at.head x y one other
  one_blue places.OnLow x y one other = one_out g _ (IsOnward g c at Low s) s x y one other
  one_blue places.OnHigh x y one other = one_link c Blue s at.head x y one other
  one_blue places.Other x y one other = one_link c Red s at.head x y one other
  one_blue places.Outside x y one other = one_way_in c at Blue s x y one other

  one_red : (p : Standing) (x y : Out) → IsRed p g c at s x → IsRed p g c at s y → x ≡ y
  one_red places.Head x y one other = red_link g c at ground x one ∙ sym (red_link g c at ground y other)
  one_red places.OnLow x y one other = one_link c Red s at.head x y one other
  one_red places.OnHigh x y one other = one_out g _ (IsOnward g c at High s) s x y one other
  one_red places.Other x y one other = one_link c Blue s at.head x y one other
  one_red places.Outside x y one other = one_way_in c at Red s x y one other

  -- a node has one row
  pub one_proxy_row : (x y : ProxyRow) → IsProxyRow g c at s x → IsProxyRow g c at s y → x ≡ y
  one_proxy_row x y one other =
      let same = one_standing g.links c at s one.standing other.standing one.stands other.stands in
      let blue = subst (λ (p : Standing). IsBlue p g c at s x.blue) same one.blue in
      let red = subst (λ (p : Standing). IsRed p g c at s x.red) same one.red in
      λ i. record { blue = one_blue other.standing x.blue y.blue blue other.blue i; red = one_red other.standing x.red y.red red other.red i }

-- the two routers have one attachment
same_attachment : (x y : Attachment) → x.lower ≡ y.lower → x.upper ≡ y.upper → x.block ≡ y.block → x.head ≡ y.head → x ≡ y
same_attachment x y lower upper block head = λ i. record { lower = lower i; upper = upper i; block = block i; head = head i }

abbrev order_at : Certificate → ℕ → ℕ
order_at c s = unwrap_or (order_of c s) 0

one_pair : (c : Certificate) (a b : ℕ) (x y : Attachment) → IsAttachment c a b x → IsAttachment c a b y → (x.lower ≡ y.lower) × (x.upper ≡ y.upper)
one_pair c a b x y one other =
    let up = less_numbers (order_of c x.lower) (order_of c x.upper) one.ascending in
    let up' = less_numbers (order_of c y.lower) (order_of c y.upper) other.ascending in
    elim one.both [
      | inl straight ↦ elim other.both [
        | inl straight' ↦ (straight.0 ∙ sym straight'.0, straight.1 ∙ sym straight'.1)
        | inr crossed' ↦ absurd (omega (arith, up, up', ap (order_at c) straight.0, ap (order_at c) straight.1, ap (order_at c) crossed'.0, ap (order_at c) crossed'.1))
      ]
      | inr crossed ↦ elim other.both [
        | inl straight' ↦ absurd (omega (arith, up, up', ap (order_at c) crossed.0, ap (order_at c) crossed.1, ap (order_at c) straight'.0, ap (order_at c) straight'.1))
        | inr crossed' ↦ (crossed.0 ∙ sym crossed'.0, crossed.1 ∙ sym crossed'.1)
      ]
    ]

pub one_attachment : (g : Topology) (c : Certificate) (a b : ℕ) (x y : Attachment) → IsTopology g → IsAcceptedFor g c → IsAttachment c a b x → IsAttachment c a b y → x ≡ y
one_attachment g c a b x y kept accepted one other =
    let pair = one_pair c a b x y one other in
    let first : IsGround g c x = record { kept = kept; accepted = accepted; a = a; b = b; attached = one } in
    let second : IsGround g c y = record { kept = kept; accepted = accepted; a = a; b = b; attached = other } in
    let w = words g c accepted in
    same_attachment x y pair.0 pair.1
    (block_is g c x first ∙ ap w.block pair.1 ∙ sym (block_is g c y second))
    (head_is g c x first ∙ ap w.head pair.1 ∙ sym (head_is g c y second))

same_rows : (g : Topology) (c : Certificate) (at : Attachment) → IsGround g c at → (xs ys : List ProxyRow) → AreRowsOf g c at xs → AreRowsOf g c at ys → xs ≡ ys
same_rows g c at ground xs ys first second =
    same_lists xs ys (first.one_each ∙ sym second.one_each)
    (λ n d within.
    one_proxy_row g c at ground n (get_or xs n d) (get_or ys n d) (first.each n (get_or xs n d) (slice_get-get_or xs n d within))
    (second.each n (get_or ys n d) (slice_get-get_or ys n d (omega (arith, within, first.one_each, second.one_each)))))

-- and one list of rows
pub one_answer : (g : Topology) (c : Certificate) (a b : ℕ) (xs ys : List ProxyRow) → IsTopology g → IsAcceptedFor g c → AreProxyRows g c a b xs → AreProxyRows g c a b ys → xs ≡ ys
one_answer g c a b xs ys kept accepted first second =
    let same = one_attachment g c a b first.at second.at kept accepted first.attached second.attached in
    same_rows g c second.at (record { kept = kept; accepted = accepted; a = a; b = b; attached = second.attached }) xs ys
    (subst (λ (at : Attachment). AreRowsOf g c at xs) same first.rows) second.rows

-- two routers with an attachment are related
related_too : (w : Words) (u v k : ℕ) → Common w u v k → Related w u v
related_too w u v k (Peers same is) = InOne same
related_too w u v k (ToHead head is) = Under head
related_too w u v k (FromHead head is) = Over head

related_turned : (w : Words) (u v : ℕ) → Related w u v → Related w v u
related_turned w u v (InOne same) = InOne (sym same)
related_turned w u v (Under head) = Over head
related_turned w u v (Over head) = Under head

pub never_both : (g : Topology) (c : Certificate) (a b : ℕ) (at : Attachment) → IsTopology g → IsAcceptedFor g c → IsAttachment c a b at → are_unrelated c a b ≡ true → ⊥
never_both g c a b at kept accepted is unrelated =
    let w = words g c accepted in
    let related = related_too w at.lower at.upper at.block (common_block g.links accepted.root c at.lower at.upper (Some at.block) is.common) in
    let here : Related w a b = elim is.both [
      | inl straight ↦ subst (λ (x : ℕ). Related w x b) straight.0 (subst (Related w at.lower) straight.1 related)
      | inr crossed ↦ related_turned w b a (subst (λ (x : ℕ). Related w x a) crossed.0 (subst (Related w at.lower) crossed.1 related))
    ] in
    unrelated_apart g.links accepted.root c a b unrelated here
