-- Walks that go round a node, along the heads.
use Rattle.std.proofs.Common.{◌≡◌, ◌≢◌, ◌⊎◌, ◌<◌, ℕ, zero, suc, [], inl, inr, refl, sym, subst, arith}
use Rattle.std.proofs.lemmas.Bool.{cases_eq}
use Rattle.mrt_graph.proofs.Blocks.{Words, Blocks, Related, InOne, Under, Over, Member}
use Rattle.mrt_graph.proofs.Hops.{Round, rounds_join}
use Rattle.mrt_graph.proofs.RowFacts.{Rows}
use Rattle.mrt_survey.proofs.BothColors.{near_round}

-- walks both ways
pub record Ways (w : Words) (x s t : ℕ) : Type 0 where
  pub there : Round w.links x s t
  pub back : Round w.links x t s

-- a node whose head is x
pub record HasBelow (w : Words) (x : ℕ) : Type 0 where
  pub a : ℕ
  pub within : a < w.count
  pub other : a ≢ x
  pub head : w.head a ≡ x

-- a node whose head is the root, and that is joined with s round the root
pub record Highest (w : Words) (s : ℕ) : Type 0 where
  pub a : ℕ
  pub member : Member w a
  pub head : w.head a ≡ w.root
  pub ways : Ways w w.root s a

module _ (w : Words) (b : Blocks w) (r : Rows w) where
  still : (x s : ℕ) → x ≢ s → Round w.links x s s
  still x s other = record { hops = []; trail = refl; without = λ h. elim h [ inl same ↦ other (sym same) | inr none ↦ none ] }

  turned : (s t : ℕ) → Related w s t → Related w t s
  turned s t (InOne same) = InOne (sym same)
  turned s t (Under under) = Over under
  turned s t (Over over) = Under over

  near_ways : (x s t : ℕ) → s < w.count → t < w.count → x ≢ s → x ≢ t → Related w s t → Ways w x s t
  near_ways x s t s_within t_within not_s not_t related = elim (cases_eq s t) [
    | inl same ↦ subst (λ (y : ℕ). Ways w x s y) same (record { there = still x s not_s; back = still x s not_s })
    | inr differ ↦ record {
      there = near_round w b r s t x s_within t_within differ related not_s not_t;
      back = near_round w b r t s x t_within s_within (λ same. differ (sym same)) (turned s t related) not_t not_s;
    }
  ]

  joined : (x s v t : ℕ) → Ways w x s v → Ways w x v t → Ways w x s t
  joined x s v t first second = record {
    there = rounds_join w.links x s v t first.there second.there;
    back = rounds_join w.links x t v s second.back first.back;
  }

  -- round a node that is not the root each other node is joined with the root, or the node is a head
  to_root : (bound x s : ℕ) → x ≢ w.root → s < w.count → x ≢ s → w.order s < bound → Ways w x s w.root ⊎ HasBelow w x
  to_root zero x s not_root within not_s below = absurd (omega (arith, below))
  to_root (suc bound) x s not_root within not_s below = elim (cases_eq s w.root) [
    | inl root ↦ inl (subst (λ (y : ℕ). Ways w x s y) root (record { there = still x s not_s; back = still x s not_s }))
    | inr other ↦ elim (cases_eq (w.head s) x) [
      | inl head ↦ inr (record { a = s; within = within; other = λ same. not_s (sym same); head = head })
      | inr not_head ↦
          let not_x : x ≢ w.head s = λ same. not_head (sym same) in
          let head_within = b.head_within s within in
          let up = b.head_lower s (record { within = within; not_root = other }) in
          elim (to_root bound x (w.head s) not_root head_within not_x (omega (arith, below, up))) [
            | inl rest ↦ inl (joined x s (w.head s) w.root (near_ways x s (w.head s) within head_within not_s not_x (Under refl)) rest)
            | inr found ↦ inr found
          ]
    ]
  ]

  -- round the root each other node is joined with one whose head is the root
  to_highest : (bound s : ℕ) → s < w.count → s ≢ w.root → w.order s < bound → Highest w s
  to_highest zero s within other below = absurd (omega (arith, below))
  to_highest (suc bound) s within other below = elim (cases_eq (w.head s) w.root) [
    | inl head ↦
        let not_s : w.root ≢ s = λ same. other (sym same) in
        record {
          a = s;
          member = record { within = within; not_root = other };
          head = head;
          ways = record { there = still w.root s not_s; back = still w.root s not_s };
        }
    | inr not_head ↦
        let head_within = b.head_within s within in
        let up = b.head_lower s (record { within = within; not_root = other }) in
        let rest = to_highest bound (w.head s) head_within not_head (omega (arith, below, up)) in
        record {
          a = rest.a;
          member = rest.member;
          head = rest.head;
          ways = joined w.root s (w.head s) rest.a
              (near_ways w.root s (w.head s) within head_within (λ same. other (sym same)) (λ same. not_head (sym same)) (Under refl)) rest.ways;
        }
  ]

  -- round a node that is no head each two others are joined
  pub round_or_head : (x s t : ℕ) → x ≢ w.root → s < w.count → t < w.count → x ≢ s → x ≢ t → Round w.links x s t ⊎ HasBelow w x
  round_or_head x s t not_root s_within t_within not_s not_t =
      elim (to_root (suc (w.order s)) x s not_root s_within not_s (omega arith)) [
        | inr found ↦ inr found
        | inl first ↦ elim (to_root (suc (w.order t)) x t not_root t_within not_t (omega arith)) [
          | inr found ↦ inr found
          | inl second ↦ inl (rounds_join w.links x s w.root t first.there second.back)
        ]
      ]

  -- two blocks with the root as their head
  pub record TwoBlocks : Type 0 where
    pub one : ℕ
    pub one_member : Member w one
    pub one_head : w.head one ≡ w.root
    pub two : ℕ
    pub two_member : Member w two
    pub two_head : w.head two ≡ w.root
    pub apart : w.block one ≢ w.block two

  -- round the root, where it is the head of one block, each two others are joined
  pub round_or_two : (s t : ℕ) → s < w.count → t < w.count → s ≢ w.root → t ≢ w.root → Round w.links w.root s t ⊎ TwoBlocks
  round_or_two s t s_within t_within s_other t_other =
      let first = to_highest (suc (w.order s)) s s_within s_other (omega arith) in
      let second = to_highest (suc (w.order t)) t t_within t_other (omega arith) in
      elim (cases_eq (w.block first.a) (w.block second.a)) [
        | inr apart ↦ inr (record {
          one = first.a;
          one_member = first.member;
          one_head = first.head;
          two = second.a;
          two_member = second.member;
          two_head = second.head;
          apart = apart;
        })
        | inl same ↦
            let between = near_ways w.root first.a second.a first.member.within second.member.within
            (λ root. first.member.not_root (sym root)) (λ root. second.member.not_root (sym root)) (InOne same) in
            inl (rounds_join w.links w.root s first.a t first.ways.there
            (rounds_join w.links w.root first.a second.a t between.there second.ways.back))
      ]
