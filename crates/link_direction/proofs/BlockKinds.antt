-- A block has one link, or is left at its greatest node alone.
use Rattle.std.proofs.Common.{◌≡◌, ◌≢◌, ◌<◌, ◌≤◌, ◌+◌, ◌∙◌, ℕ, zero, suc, Some, length, inl, inr, sym, ap, subst, arith}
use Rattle.std.proofs.lemmas.Bool.{cases_eq}
use Rattle.std.proofs.lemmas.Option.{same_Some}
use Rattle.mrt_graph.specs.declared.cert.Role.{Role}
use Rattle.mrt_graph.specs.declared.cert.Role.TheVariants.{Closing, Plain, Sole}
use Rattle.mrt_graph.specs.DirectedLists.{DirectedLists}
use Rattle.mrt_graph.specs.GadagLists.{GadagLists}
use Rattle.mrt_graph.specs.GadagFields.{link_block_at, role_at}
use Rattle.mrt_graph.specs.Tails.{tail_at}
use Rattle.mrt_graph.specs.Topology.{Topology}
use Rattle.lowpoint_dfs.proofs.WholeTree.{leads_within}
use Rattle.gadag_ears.specs.BlockLinks.{IsOfClosingLink, IsOfSoleLink}
use Rattle.gadag_ears.specs.Members.{Alone, GoesOnFrom, ToHead, ToMember}
use Rattle.gadag_ears.proofs.BlockLinks.{block_there}
use Rattle.link_direction.specs.Directions.{Directions}
use Rattle.link_direction.specs.OrderedGadag.{HasClosingLink, HasSoleLink, IsLeft}
use Rattle.link_direction.proofs.Answered.{IsAnswered, block_said, counted_rises, head_said, lies_said, lies_with, member_not_root, order_few, role_said, same_head, tail_said}
use Rattle.link_direction.proofs.EnteredBy.{link_within}

in_block_within : (g : Topology) (root : ℕ) (gadag : GadagLists) (d : DirectedLists) (w : Directions) (e k : ℕ) → IsAnswered g root gadag d w
    → link_block_at gadag.marks e ≡ Some k → e < length g.links
in_block_within g root gadag d w e k a is = omega (arith, block_there gadag.marks e k is, a.facts.one_mark_each)

block_is : (g : Topology) (root : ℕ) (gadag : GadagLists) (d : DirectedLists) (w : Directions) (e k : ℕ) → IsAnswered g root gadag d w
    → link_block_at gadag.marks e ≡ Some k → w.lies_in e ≡ k
block_is g root gadag d w e k a is =
    same_Some (w.lies_in e) k (sym (lies_said g root gadag d w e a (in_block_within g root gadag d w e k a is)) ∙ is)

is_block : (g : Topology) (root : ℕ) (gadag : GadagLists) (d : DirectedLists) (w : Directions) (e k : ℕ) → IsAnswered g root gadag d w
    → e < length g.links → w.lies_in e ≡ k → link_block_at gadag.marks e ≡ Some k
is_block g root gadag d w e k a within is = lies_said g root gadag d w e a within ∙ ap (λ (n : ℕ). Some n) is

-- the block of a sole link
pub sole_link : (g : Topology) (root : ℕ) (gadag : GadagLists) (d : DirectedLists) (w : Directions) (m : ℕ) → IsAnswered g root gadag d w
    → m < length g.ids → IsOfSoleLink gadag.places gadag.marks (w.block m) → HasSoleLink g w m
sole_link g root gadag d w m a within it =
    let e_within = in_block_within g root gadag d w it.link (w.block m) a it.in_block in
    record {
      link = it.link;
      within = e_within;
      in_block = block_is g root gadag d w it.link (w.block m) a it.in_block;
      no_other_link = λ e e_in is. it.no_other_link e (is_block g root gadag d w e (w.block m) a e_in is);
      sole = same_Some (w.role it.link) Sole (sym (role_said g root gadag d w it.link a e_within) ∙ it.sole);
      no_other_node = λ v v_in is.
          it.no_other_node v (block_said g root gadag d w v a v_in ∙ ap (λ (n : ℕ). Some n) is)
          ∙ sym (it.no_other_node m (block_said g root gadag d w m a within));
    }

-- a block does not have one link and more
not_both : (g : Topology) (root : ℕ) (gadag : GadagLists) (k : ℕ) → IsOfSoleLink gadag.places gadag.marks k → IsOfClosingLink gadag.marks k → ⊥
not_both g root gadag k one more =
    more.another_link (one.no_other_link more.another more.another_in_block ∙ sym (one.no_other_link more.link more.in_block))

-- how a member of a block with a closing link goes on
data Leaves (g : Topology) (w : Directions) (closing v : ℕ) : Type 0 where
  Last : w.tail closing ≡ v → Leaves g w closing v
  Onward : (to : ℕ) → to < length g.ids → w.block to ≡ w.block v → w.order v < w.order to → IsLeft g w v → Leaves g w closing v

leaves : (g : Topology) (root : ℕ) (gadag : GadagLists) (d : DirectedLists) (w : Directions) (k v : ℕ) → IsAnswered g root gadag d w
    → v < length g.ids → w.block v ≡ k → (more : IsOfClosingLink gadag.marks k) → GoesOnFrom g gadag v → Leaves g w more.link v
leaves g root gadag d w k v a within of_block more (ToMember link to counted link_in to_in) =
    let e_within = link_within g link v to counted.to in
    let to_within = (leads_within g link v to a.facts.kept counted.to).1 in
    let rises = counted_rises g root gadag d w link v to a counted in
    let lies = lies_with g root gadag d w link v a e_within within link_in in
    Onward to to_within (sym (lies_with g root gadag d w link to a e_within to_within to_in) ∙ lies) rises
    (record {
      to = to;
      link = link;
      over = record { leads_on = counted.to; in_block = lies };
      away = tail_said g root gadag d w link v a e_within counted.away;
      greater = rises;
    })
leaves g root gadag d w k v a within of_block more (ToHead link closes) =
    let in_k : link_block_at gadag.marks link ≡ Some k =
    closes.in_block.of_link ∙ sym closes.in_block.of_node ∙ block_said g root gadag d w v a within ∙ ap (λ (n : ℕ). Some n) of_block in
    elim (cases_eq link more.link) [
      | inl same ↦ Last (tail_said g root gadag d w more.link v a (in_block_within g root gadag d w more.link k a more.in_block)
          (ap (λ (e : ℕ). tail_at g.links gadag.marks e) (sym same) ∙ closes.away))
      | inr other ↦ absurd (plain_or_closing (sym (more.others_plain link in_k other) ∙ closes.closing))
    ]
  where
    plain_or_closing : Some Plain ≡ Some Closing → ⊥
    plain_or_closing same = cc
leaves g root gadag d w k v a within of_block more (Alone block one) =
    let named : v ≡ k = same_Some v k (sym block ∙ block_said g root gadag d w v a within ∙ ap (λ (n : ℕ). Some n) of_block) in
    absurd (not_both g root gadag k (subst (λ (n : ℕ). IsOfSoleLink gadag.places gadag.marks n) named one) more)

-- the tail of the closing link has the greatest order
greatest_by : (left : ℕ) (g : Topology) (root : ℕ) (gadag : GadagLists) (d : DirectedLists) (w : Directions) (m v : ℕ) → IsAnswered g root gadag d w
    → m < length g.ids → m ≢ root → v < length g.ids → w.block v ≡ w.block m → (more : IsOfClosingLink gadag.marks (w.block m))
    → length g.ids + 1 ≤ w.order v + left → w.order v ≤ w.order (w.tail more.link)
greatest_by zero g root gadag d w m v a m_within other within of_block more few =
    absurd (omega (arith, few, order_few g root gadag d w v a within))
greatest_by (suc left) g root gadag d w m v a m_within other within of_block more few =
    elim (leaves g root gadag d w (w.block m) v a within of_block more (a.facts.goes_on v within (member_not_root g root gadag d w m v a m_within other of_block))) [
      | Last is ↦ omega (arith, ap (λ (u : ℕ). w.order u) is)
      | Onward to to_within same rises left_to ↦
          omega (arith, rises, greatest_by left g root gadag d w m to a m_within other to_within (same ∙ of_block) more (omega (arith, rises, few)))
    ]

-- the block of a closing link
pub closing_link : (g : Topology) (root : ℕ) (gadag : GadagLists) (d : DirectedLists) (w : Directions) (m : ℕ) → IsAnswered g root gadag d w
    → m < length g.ids → m ≢ root → IsOfClosingLink gadag.marks (w.block m) → HasClosingLink g w m
closing_link g root gadag d w m a within other more =
    let e_within = in_block_within g root gadag d w more.link (w.block m) a more.in_block in
    let closes = a.facts.closing more.link more.closing in
    let top_within = (leads_within g more.link closes.0 closes.1.head a.facts.kept closes.1.to).0 in
    let top_in : w.block closes.0 ≡ w.block m =
    sym (lies_with g root gadag d w more.link closes.0 a e_within top_within closes.1.in_block) ∙ block_is g root gadag d w more.link (w.block m) a more.in_block in
    let tail : w.tail more.link ≡ closes.0 = tail_said g root gadag d w more.link closes.0 a e_within closes.1.away in
    let head : closes.1.head ≡ w.head m =
    same_Some closes.1.head (w.head closes.0) (sym closes.1.is_head ∙ head_said g root gadag d w closes.0 a top_within) ∙ same_head g root gadag d w closes.0 m a top_within within top_in in
    let another_within = in_block_within g root gadag d w more.another (w.block m) a more.another_in_block in
    record {
      link = more.link;
      greatest = closes.0;
      over = record {
        leads_on = closes.1.to ∙ ap (λ (n : ℕ). Some n) head;
        in_block = block_is g root gadag d w more.link (w.block m) a more.in_block;
      };
      away = tail;
      closing = same_Some (w.role more.link) Closing (sym (role_said g root gadag d w more.link a e_within) ∙ more.closing);
      no_other = λ e e_in is closing. elim (cases_eq e more.link) [
        | inl same ↦ same
        | inr differs ↦ absurd (plain_not Closing (plain e e_in is differs) closing (λ same. (cc)))
      ];
      none_sole = λ e e_in is sole. elim (cases_eq e more.link) [
        | inl same ↦ absurd (closing_not (same_Some (w.role e) Closing (sym (role_said g root gadag d w e a e_in) ∙ ap (λ (n : ℕ). role_at gadag.marks n) same ∙ more.closing)) sole)
        | inr differs ↦ plain_not Sole (plain e e_in is differs) sole (λ same. (cc))
      ];
      another = more.another;
      another_within = another_within;
      another_in_block = block_is g root gadag d w more.another (w.block m) a more.another_in_block;
      another_link = more.another_link;
      greatest_in_block = top_in;
      none_greater = λ v v_in is.
          omega (arith, greatest_by (length g.ids + 1) g root gadag d w m v a within other v_in is more (omega arith), ap (λ (u : ℕ). w.order u) tail);
      entered = λ v v_in is.
          let into = a.facts.into v v_in (member_not_root g root gadag d w m v a within other is) in
          record {
            from = into.from;
            link = into.link;
            over = record {
              leads_on = into.counted.to;
              in_block = lies_with g root gadag d w into.link v a (link_within g into.link into.from v into.counted.to) v_in into.in_block;
            };
            away = tail_said g root gadag d w into.link into.from a (link_within g into.link into.from v into.counted.to) into.counted.away;
            lower = counted_rises g root gadag d w into.link into.from v a into.counted;
          };
      left = λ v v_in is not_top.
          elim (leaves g root gadag d w (w.block m) v a v_in is more (a.facts.goes_on v v_in (member_not_root g root gadag d w m v a within other is))) [
            | Last last ↦ absurd (not_top (sym last ∙ tail))
            | Onward to to_in same rises it ↦ it
          ];
    }
  where
    plain : (e : ℕ) → e < length g.links → w.lies_in e ≡ w.block m → e ≢ more.link → w.role e ≡ Plain
    plain e e_in is differs =
        same_Some (w.role e) Plain (sym (role_said g root gadag d w e a e_in) ∙ more.others_plain e (is_block g root gadag d w e (w.block m) a e_in is) differs)

    plain_not : {r : Role} (s : Role) → r ≡ Plain → r ≡ s → (Plain ≡ s → ⊥) → ⊥
    plain_not s plain is differs = differs (sym plain ∙ is)

    closing_not : {r : Role} → r ≡ Closing → r ≡ Sole → ⊥
    closing_not closing sole = cc
