-- Where a certificate is accepted, the nodes that separate two others are the heads of blocks.
use Rattle.std.proofs.Common.{◌≡◌, ◌≢◌, ◌∙◌, ◌<◌, ◌↔◌, ℕ, List, Option, Some, None, length, slice_get, inl, inr, refl, sym, ap, subst, arith}
use Rattle.std.proofs.lemmas.Bool.{cases_eq}
use Rattle.std.proofs.lemmas.Option.{slice_get_within}
use Rattle.std.specs.Option.{option_map, unwrap_or}
use Rattle.mrt_graph.specs.declared.cert.CertFile.{CertFile}
use Rattle.mrt_graph.specs.declared.cert.CertNode.{CertNode}
use Rattle.mrt_graph.specs.declared.link.Element.TheVariants as elements
use Rattle.mrt_graph.specs.declared.link.Link.{Link}
use Rattle.mrt_graph.specs.Accepted.{Accepted}
use Rattle.mrt_graph.specs.Certificate.{Certificate}
use Rattle.mrt_graph.specs.CertFields.{block_of, head_of}
use Rattle.mrt_graph.specs.Rules.{GraphRule}
use Rattle.mrt_graph.specs.Topology.{Topology}
use Rattle.mrt_graph.specs.Uses.{Uses}
use Rattle.mrt_graph.specs.Walk.{Walk}
use Rattle.mrt_graph.proofs.AcceptedBlocks.{blocks}
use Rattle.mrt_graph.proofs.Blocks.{Words, Blocks, Member, Below, Here, Up}
use Rattle.mrt_graph.proofs.Hops.{Round}
use Rattle.mrt_graph.proofs.ListTests.{there}
use Rattle.mrt_graph.proofs.Members.{Has}
use Rattle.mrt_graph.proofs.RowFacts.{Rows}
use Rattle.mrt_graph.proofs.RowsHold.{rows_hold}
use Rattle.mrt_graph.proofs.Separate.{below_above, head_not_below, leaves}
use Rattle.mrt_graph.proofs.TestFacts.{number_is}
use Rattle.mrt_graph.proofs.Trails.{nodes_on}
use Rattle.mrt_graph.proofs.WordsOf.{words_of}
use Rattle.mrt_survey.specs.BlockHeads.{HeadsBlocks, AsMember, AsRoot, IsHeadOf}
use Rattle.mrt_survey.specs.Separating.{SeparatesTwo}
use Rattle.mrt_survey.proofs.Rounds.{TwoBlocks, round_or_head, round_or_two}
use Rattle.mrt_survey.proofs.WalkTrails.{no_round, on_walks}

-- a number of a node that is there
number_there : (f : CertNode → ℕ) (nodes : List CertNode) (a : ℕ) → a < length nodes
    → option_map f (slice_get nodes a) ≡ Some (unwrap_or (option_map f (slice_get nodes a)) 0)
number_there f nodes a within = let node = there nodes a within in rw node.1 refl

-- a node of which something is told is there
pub told_there : (f : CertNode → ℕ) (nodes : List CertNode) (a k : ℕ) → option_map f (slice_get nodes a) ≡ Some k → a < length nodes
told_there f nodes a k is = go (slice_get nodes a) refl is
  where
    go : (o : Option CertNode) → slice_get nodes a ≡ o → option_map f o ≡ Some k → a < length nodes
    go None found is = cc
    go (Some node) found is = slice_get_within nodes a node found

module _ (links : List Link) (root : ℕ) (c : Certificate) (b : Blocks (words_of links root c)) (r : Rows (words_of links root c)) where
  abbrev w : Words
  w = words_of links root c

  head_there : (a : ℕ) → a < w.count → head_of c a ≡ Some (w.head a)
  head_there a within = number_there (λ node. node.head) c.nodes a within

  is_head : (a x : ℕ) → a < w.count → a ≢ x → w.head a ≡ x → IsHeadOf c x a
  is_head a x within other head = record { other = other; head = head_there a within ∙ ap (λ (h : ℕ). Some h) head }

  -- of what is the head of another node, as the words have it
  record HeadOf (x a : ℕ) : Type 0 where
    within : a < w.count
    other : a ≢ x
    head : w.head a ≡ x

  head_words : (x a : ℕ) → IsHeadOf c x a → HeadOf x a
  head_words x a is = record {
    within = told_there (λ node. node.head) c.nodes a x is.head;
    other = is.other;
    head = number_is (head_of c a) x is.head;
  }

  -- the head of a is on each walk from a to a node that is not below the block of a
  on_the_way : (a t : ℕ) → Member w a → (Below w a t → ⊥) → (x : ℕ) → w.head a ≡ x
      → (walk : List ℕ) → Walk links a walk t → Uses links a walk (elements.Node x)
  on_the_way a t member out x head =
      on_walks links a t x (λ hops trail. elim (leaves w b a a t hops member trail (Here a refl)) [
        | inl crosses ↦ subst (Has (nodes_on a hops)) head crosses.head_met
        | inr below ↦ absurd (out below)
      ])

  not_root_there : (x a : ℕ) → x ≢ root → HeadOf x a → Member w a
  not_root_there x a not_root head = record {
    within = head.within;
    not_root = λ same. not_root (sym head.head ∙ ap w.head same ∙ b.root_head);
  }

  -- a member that is the head of another node separates that node and its own head
  member_separates : (x a : ℕ) → x ≢ root → HeadOf x a → SeparatesTwo links w.count x
  member_separates x a not_root head =
      let a_member = not_root_there x a not_root head in
      let x_within : x < w.count = subst (λ (h : ℕ). h < w.count) head.head (b.head_within a head.within) in
      let up = b.head_lower x (record { within = x_within; not_root = not_root }) in
      let order : w.order (w.head a) ≡ w.order x = ap w.order head.head in
      let low = b.head_lower a a_member in
      let out : Below w a (w.head x) → ⊥ =
      (λ below. omega (arith, below_above w b a (w.head x) a_member (b.head_within x x_within) below, up, order)) in
      record {
        s = a;
        t = w.head x;
        s_within = head.within;
        t_within = b.head_within x x_within;
        separates = record {
          between = ((λ same. head.other (sym same)), (λ same. omega (arith, up, ap w.order same)));
          on_every_walk = on_the_way a (w.head x) a_member out x head.head;
        };
      }

  root_member : (a : ℕ) → HeadOf root a → Member w a
  root_member a head = record { within = head.within; not_root = head.other }

  -- the root separates members of two blocks of which it is the head
  root_separates : (a d : ℕ) → HeadOf root a → HeadOf root d → w.block a ≢ w.block d → SeparatesTwo links w.count root
  root_separates a d first second apart = record {
    s = a;
    t = d;
    s_within = first.within;
    t_within = second.within;
    separates = record {
      between = ((λ same. first.other (sym same)), (λ same. second.other (sym same)));
      on_every_walk = on_the_way a d (root_member a first) (out d refl) root first.head;
    };
  }
    where
      out : (y : ℕ) → y ≡ d → Below w a y → ⊥
      out y is (Here _ same) = apart (sym same ∙ ap w.block is)
      out y is (Up _ up) =
          head_not_below w b a (root_member a first)
          (subst (Below w a) (ap w.head is ∙ second.head ∙ sym first.head) up)

  block_there : (a : ℕ) → a < w.count → block_of c a ≡ Some (w.block a)
  block_there a within = number_there (λ node. node.block) c.nodes a within

  heads_separate : (x : ℕ) → HeadsBlocks c root x → SeparatesTwo links w.count x
  heads_separate x (AsMember _ a not_root head) = member_separates x a not_root (head_words x a head)
  heads_separate x (AsRoot two) =
      let first = head_words root two.a two.first in
      let second = head_words root two.b two.second in
      root_separates two.a two.b first second
      (λ same. two.apart (block_there two.a first.within ∙ ap (λ (k : ℕ). Some k) same ∙ sym (block_there two.b second.within)))

  member_heads : (x a : ℕ) → x ≢ root → a < w.count → a ≢ x → w.head a ≡ x → HeadsBlocks c root x
  member_heads x a not_root within other head = AsMember x a not_root (is_head a x within other head)

  same_block : (a d : ℕ) → a < w.count → d < w.count → block_of c a ≡ block_of c d → w.block a ≡ w.block d
  same_block a d a_within d_within same = ap (λ (o : Option ℕ). unwrap_or o 0) same

  two_heads : TwoBlocks w b r → HeadsBlocks c root root
  two_heads two = AsRoot (record {
    a = two.one;
    b = two.two;
    first = is_head two.one root two.one_member.within two.one_member.not_root two.one_head;
    second = is_head two.two root two.two_member.within two.two_member.not_root two.two_head;
    apart = λ same. two.apart (same_block two.one two.two two.one_member.within two.two_member.within same);
  })

  separating_head : (x : ℕ) → SeparatesTwo links w.count x → HeadsBlocks c root x
  separating_head x two =
      let between = two.separates.between in
      elim (cases_eq x root) [
        | inr not_root ↦ elim (round_or_head w b r x two.s two.t not_root two.s_within two.t_within between.0 between.1) [
          | inl around ↦ absurd (no_round links two.s two.t x two.separates around)
          | inr found ↦ member_heads x found.a not_root found.within found.other found.head
        ]
        | inl same ↦
            elim (round_or_two w b r two.s two.t two.s_within two.t_within
            (λ s_root. between.0 (same ∙ sym s_root)) (λ t_root. between.1 (same ∙ sym t_root))) [
              | inl around ↦ absurd (no_round links two.s two.t x two.separates (subst (λ (y : ℕ). Round links y two.s two.t) (sym same) around))
              | inr blocks ↦ subst (HeadsBlocks c root) (sym same) (two_heads blocks)
            ]
      ]

pub separating_heads : (g : Topology) (root : ℕ) (file : CertFile) → Accepted g root file → (x : ℕ)
    → (SeparatesTwo g.links (length g.ids) x) ↔ (HeadsBlocks file.cert root x)
separating_heads g root file accepted x =
    let b = blocks g root file accepted in
    let r = rows_hold g root file accepted b.root_within in
    subst (λ (n : ℕ). (SeparatesTwo g.links n x) ↔ (HeadsBlocks file.cert root x)) (accepted GraphRule).counts.nodes
    (separating_head g.links root file.cert b r x, heads_separate g.links root file.cert b r x)
