-- Loop-free alternates (RFC 5286, sections 3.1 and 3.2).
use Rattle.std.specs.Prelude.{◌≡◌, ◌≢◌, ◌<◌, ◌+◌, ◌↔◌, ℕ, Bool, true, false, List, Option, Some, None, IsTrue, length, slice_get}
use Rattle.std.specs.Option.{option_cmp, option_map}
use Rattle.std.specs.Ordering.{is_gt, nat_cmp, on, then_cmp}
use Rattle.std.specs.declared.cmp.Ordering.{Ordering}
use Rattle.area_graph.specs.declared.area_types.Arc.{Arc}
use Rattle.area_graph.specs.Parts.{AreaParts}
use Rattle.primary_alt.specs.declared.shortest.Primary.{Primary}
use Rattle.primary_alt.specs.Distance.{IsDistance}
use Rattle.primary_alt.specs.Primaries.{IsPrimary}
use Rattle.lfa_alt.specs.declared.alternate.FreeCandidate.{FreeCandidate}
use Rattle.lfa_alt.specs.declared.alternate.Lfa.{Lfa}
use Rattle.lfa_alt.specs.Candidates.{Candidate, IsCandidate}

-- dist(n, t) < dist(n, x) + dist(x, t): n has a distance to t, and it is less than the cost of the path over x. Where no walk leads, a
-- distance counts as greater than any number
pub record IsNearerThanOver (arcs : List Arc) (x n t : ℕ) : Type 0 where
  pub rest : ℕ
  pub near : IsDistance arcs n t rest
  pub less : (out back : ℕ) → IsDistance arcs n x out → IsDistance arcs x t back → rest < out + back

-- a candidate whose next is n protects the primary's next e: e is not t, and dist(n, t) < dist(n, e) + dist(e, t)
-- (inequality 3: the condition on nodes)
pub record Protects (arcs : List Arc) (t : ℕ) (primary : Primary) (n : ℕ) : Type 0 where
  pub further : primary.next ≢ t
  pub nearer : IsNearerThanOver arcs primary.next n t

-- what is told of a loop-free candidate: its arcs and its next, whether it protects the primary's next, and the cost of
-- the path over it, of which so much is left at its next
abbrev pub free_choice : Candidate → Bool → ℕ → FreeCandidate
free_choice candidate node rest =
    record { first = candidate.first; second = candidate.second; next = candidate.next; node = node; cost = candidate.metric + rest }

-- a candidate is loop-free: dist(n, t) < dist(n, s) + dist(s, t), n being its next (inequality 1: the basic condition).
-- What is told of it tells the sum of its arcs' metrics and dist(n, t)
pub record IsLoopFreeBy (area : AreaParts) (s t : ℕ) (primary : Primary) (candidate : Candidate) (choice : FreeCandidate)
    : Type 0 where
  pub loop_free : IsNearerThanOver area.arcs s candidate.next t
  pub node : Bool
  pub node_is : IsTrue node ↔ Protects area.arcs t primary candidate.next
  pub is : choice ≡ free_choice candidate node loop_free.rest

-- what is told of one of the loop-free candidates of s for t
pub record IsLoopFree (area : AreaParts) (s t : ℕ) (primary : Primary) (choice : FreeCandidate) : Type 0 where
  pub candidate : Candidate
  pub is : IsCandidate area s t primary candidate
  pub loop_free : IsLoopFreeBy area s t primary candidate choice

-- one that protects the primary's next comes before one that does not
abbrev pub rank_of : Bool → ℕ
rank_of true = 0
rank_of false = 1

-- the order of choice: one that protects the primary's next before one that does not; then by cost; then by first arc;
-- then by second arc. Those of one first arc that serve t all have a second arc, or none has
abbrev pub candidate_cmp : FreeCandidate → FreeCandidate → Ordering
candidate_cmp =
    then_cmp
    (then_cmp (then_cmp (on (λ choice. rank_of choice.node) nat_cmp) (on (λ choice. choice.cost) nat_cmp))
    (on (λ choice. choice.first) nat_cmp))
    (on (λ choice. choice.second) (option_cmp nat_cmp))

-- the alternate that a loop-free candidate makes
abbrev pub alternate_of : FreeCandidate → Lfa
alternate_of choice = record { first = choice.first; second = choice.second; next = choice.next; node = choice.node }

-- of these candidates the first one, before which no other comes; none where there is none
pub data IsBest (Is : FreeCandidate → Type 0) : Option FreeCandidate → Type 0 where
  NoneIs : ((choice : FreeCandidate) → ¬ Is choice) → IsBest Is None
  TheBest : (choice : FreeCandidate) → Is choice
      → ((other : FreeCandidate) → Is other → is_gt (candidate_cmp choice other) ≡ false) → IsBest Is (Some choice)

-- the loop-free alternate of router s for t: the first one of the loop-free candidates. There is none where t has no
-- primary, as where s is t, and where no candidate is loop-free
pub data IsLfa (area : AreaParts) (s t : ℕ) : Option Lfa → Type 0 where
  NoPrimary : IsPrimary area s t None → IsLfa area s t None
  ByPrimary : (primary : Primary) (best : Option FreeCandidate) → IsPrimary area s t (Some primary)
      → IsBest (IsLoopFree area s t primary) best → IsLfa area s t (option_map alternate_of best)

-- the loop-free alternates of router s for all nodes, by number
pub record AreLfas (area : AreaParts) (s : ℕ) (entries : List (Option Lfa)) : Type 0 where
  pub one_each : length entries ≡ length area.ids
  pub each : (t : ℕ) (entry : Option Lfa) → slice_get entries t ≡ Some entry → IsLfa area s t entry
