-- What is known of the rules on rows after some of the rows.
use Rattle.std.specs.Prelude.{◌≡◌, ◌⊎◌, ◌<◌, ◌==◌, ◌&&◌, ◌||◌, ℕ, Bool, true, false, List, Option, Some, None, length, nat_lt, if◌then◌else◌}
use Rattle.std.specs.List.{range_with_len}
use Rattle.std.specs.Option.{MatchOption}
use Rattle.cert_checker.specs.declared.fault.Fault.{Fault}
use Rattle.mrt_graph.specs.Certificate.{Certificate}
use Rattle.mrt_graph.specs.steps.RowRules.{rows_tagged}
use Rattle.mrt_graph.specs.Rules.{Rule, TagRule, rule_number}
use Rattle.mrt_graph.specs.Topology.{Topology}

-- what is asked of the row of s for t: each rule on a tag asks something of rows; the first six ask nothing, and the
-- fourteenth follows from others
abbrev pub row_test : Topology → ℕ → Certificate → Rule → ℕ → ℕ → Bool
row_test g root c (TagRule tag) s t = rows_tagged tag g.links c root s t
row_test g root c _ s t = true

-- the first rule that fails a test
pub record FailsFirst (test : Rule → Bool) (number : ℕ) : Type 0 where
  pub rule : Rule
  pub numbered : rule_number rule ≡ number
  pub fails : test rule ≡ false
  pub earlier : (other : Rule) → rule_number other < number → test other ≡ true

-- a and b come before x and y
abbrev pub Precedes : ℕ → ℕ → ℕ → ℕ → Type 0
Precedes a b x y = (a < x) ⊎ ((a ≡ x) × (b < y))

-- the first fault among the pairs that are read
pub record FirstRead (test : Rule → ℕ → ℕ → Bool) (n : ℕ) (read : ℕ → ℕ → Type 0) (fault : Fault) : Type 0 where
  pub rule : Rule
  pub numbered : rule_number rule ≡ fault.rule
  pub source : fault.a < n
  pub target : fault.b < n
  pub fails : test rule fault.a fault.b ≡ false
  pub before : (x y : ℕ) → read x y → Precedes x y fault.a fault.b → test rule x y ≡ true
  pub earlier : (other : Rule) → rule_number other < fault.rule → (x y : ℕ) → read x y → test other x y ≡ true

-- what is kept of the pairs that are read: their first fault; none where each rule holds
abbrev pub IsFirstSoFar : (Rule → ℕ → ℕ → Bool) → ℕ → (ℕ → ℕ → Type 0) → Option Fault → Type 0
IsFirstSoFar test n read kept = MatchOption kept ((rule : Rule) (x y : ℕ) → read x y → test rule x y ≡ true) (FirstRead test n read)

-- the same of a certificate's rows
abbrev pub KeptRows : Topology → ℕ → Certificate → (ℕ → ℕ → Type 0) → Option Fault → Type 0
KeptRows g root c read kept = IsFirstSoFar (row_test g root c) (length c.nodes) read kept

-- the rows of the sources below s
abbrev pub Before : Certificate → ℕ → ℕ → ℕ → Type 0
Before c s x y = (x < s) × (y < length c.nodes)

-- these, and the rows of s for some nodes
abbrev pub AndSome : Certificate → ℕ → (ℕ → Type 0) → ℕ → ℕ → Type 0
AndSome c s some x y = Before c s x y ⊎ ((x ≡ s) × some y)

-- a fault comes before another one: its rule is lesser, or it is that of the other and its place comes before
abbrev pub is_before : Fault → Fault → Bool
is_before fault other =
    nat_lt fault.rule other.rule
    || ((fault.rule == other.rule)
    && (nat_lt fault.a other.a || ((fault.a == other.a) && nat_lt fault.b other.b)))

-- the first of a fault and of what is kept
abbrev pub first_of : Option Fault → Fault → Fault
first_of None fault = fault
first_of (Some kept) fault = if is_before fault kept then fault else kept

-- what is kept after the row of s for t, of what was kept before
abbrev pub IsAfter : (Rule → ℕ → ℕ → Bool) → ℕ → ℕ → Option Fault → Option Fault → Type 0
IsAfter test s t before after =
    (((rule : Rule) → test rule s t ≡ true) × (after ≡ before))
    ⊎ ((number : ℕ) × FailsFirst (λ rule. test rule s t) number × (after ≡ Some (first_of before (record { rule = number; a = s; b = t }))))

-- the nodes that are listed; all n of them, where there is no list
abbrev pub targets_of : ℕ → Option (List ℕ) → List ℕ
targets_of n None = range_with_len 0 n
targets_of n (Some told) = told
