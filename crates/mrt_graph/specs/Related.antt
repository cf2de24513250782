-- What two nodes are to each other, which nodes have a block in common, and the carrier for those that have none.
use Rattle.std.specs.Prelude.{◌≡◌, ◌≢◌, ◌==◌, ◌&&◌, ◌||◌, ℕ, Bool, true, false, Option, Some, if◌then◌else◌}
use Rattle.mrt_graph.specs.declared.gadag.Place.{Place}
use Rattle.mrt_graph.specs.declared.related.Relation.{Relation}
use Rattle.mrt_graph.specs.declared.related.Relation.TheVariants.{OneBlock, ToHead, FromHead, Apart}
use Rattle.mrt_graph.specs.BothThere.{are_different, are_equal}
use Rattle.mrt_graph.specs.Certificate.{Certificate}
use Rattle.mrt_graph.specs.CertFields.{head_of, block_of}

-- what s is to another node t, by the heads and the blocks of both: they lie in one block; or they do not, and the head
-- of s is t; or neither of these, and the head of t is s; or none of the three
abbrev pub IsRelation : ℕ → Place → ℕ → Place → Relation → Type 0
IsRelation s here t there OneBlock = here.block ≡ there.block
IsRelation s here t there ToHead = (here.block ≢ there.block) × (here.head ≡ t)
IsRelation s here t there FromHead = (here.block ≢ there.block) × (here.head ≢ t) × (there.head ≡ s)
IsRelation s here t there Apart = (here.block ≢ there.block) × (here.head ≢ t) × (there.head ≢ s)

-- whether it is the last of these: none of the three
abbrev pub is_apart : Relation → Bool
is_apart OneBlock = false
is_apart ToHead = false
is_apart FromHead = false
is_apart Apart = true

-- two nodes are related where they have one block, or one of them is the other's head; so they are not where both are
-- there, have two blocks, and neither is the other's head
abbrev pub are_unrelated : Certificate → ℕ → ℕ → Bool
are_unrelated c s t =
    are_different (block_of c s) (block_of c t)
    && (are_different (head_of c s) (Some t) && are_different (head_of c t) (Some s))

-- k is the common block of s and t: the block of both; or that of s, whose head is t; or that of t, whose head is s
abbrev pub is_common_block : Certificate → ℕ → ℕ → Option ℕ → Bool
is_common_block c s t k =
    (are_equal (block_of c s) (block_of c t) && are_equal k (block_of c s))
    || ((are_equal (head_of c s) (Some t) && are_equal k (block_of c s))
    || (are_equal (head_of c t) (Some s) && are_equal k (block_of c t)))

-- the node for which s has the links that it has for t, where they have no block in common: the head of t or, where t is
-- the root, the head of s
abbrev pub carrier : Certificate → ℕ → ℕ → ℕ → Option ℕ
carrier c root s t = if t == root then head_of c s else head_of c t
