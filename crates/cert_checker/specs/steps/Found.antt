-- What a search for the first place where a test fails has found, and what a verdict says.
use Rattle.std.specs.Prelude.{ℕ, Bool, Option}
use Rattle.std.specs.Option.{MatchOption}
use Rattle.cert_checker.specs.declared.fault_at.FaultAt.{FaultAt}
use Rattle.mrt_graph.specs.Places.{Each, IsFirst, EachPair, IsFirstPair}
use Rattle.cert_checker.specs.declared.verdict.Verdict.{Verdict}
use Rattle.cert_checker.specs.declared.verdict.Verdict.TheVariants.{Yes, No}
use Rattle.mrt_graph.specs.declared.cert.CertFile.{CertFile}
use Rattle.mrt_graph.specs.Accepted.{Accepted}
use Rattle.mrt_graph.specs.FirstFault.{FirstFault}
use Rattle.mrt_graph.specs.Topology.{Topology}

-- the first number below n where the test fails; none where it holds at each
abbrev pub FoundFirst : (ℕ → Bool) → ℕ → Option ℕ → Type 0
FoundFirst test n found = MatchOption found (Each test n) (IsFirst test n)

-- the first two numbers below n where the test fails; none where it holds at each two
abbrev pub FoundPair : (ℕ → ℕ → Bool) → ℕ → Option FaultAt → Type 0
FoundPair test n found = MatchOption found (EachPair test n) (λ place. IsFirstPair test n place.a place.b)

-- yes of a file that is accepted; no with its first fault
abbrev pub Judged : Topology → ℕ → CertFile → Verdict → Type 0
Judged g root file Yes = Accepted g root file
Judged g root file (No rule a b) = FirstFault g root file rule a b
