-- A fault tells of the exit that it is of, and of no other.
use Rattle.std.proofs.Common.{◌≡◌, ◌<◌, ◌∙◌, ℕ, Bool, true, false, Option, Some, None, refl, sym, ap}
use Rattle.std.specs.Option.{option_and_then, option_map}
use Rattle.std.specs.Prelude.{nat_lt, if◌then◌else◌}
use Rattle.std.proofs.lemmas.Bool.{lt-ltb, ltb-true}
use Rattle.cert_format.specs.declared.error.CertKind.TheVariants as faults
use Rattle.flood.specs.declared.error.UpdateKind.TheVariants as updates
use Rattle.mrt_island.specs.declared.profile_error.ProfileKind.TheVariants as lines
use Rattle.ospf_lsa.specs.declared.error.LsaKind.TheVariants as records
use Rattle.mrt_exit.specs.declared.exit.DbKind.TheVariants.{Lsa, Conflict}
use Rattle.mrt_exit.specs.declared.exit.Exit.{Exit}
use Rattle.mrt_exit.specs.declared.exit.Exit.TheVariants as exits
use Rattle.mrt_exit.specs.declared.exit.What.TheVariants as whats
use Rattle.mrt_calls.specs.Faults.{IsWide, fault_of}
use Rattle.mrt_calls.specs.steps.FaultExits.{below, exit_in}
use Rattle.mrt_calls.specs.declared.fault.MrtFault.{MrtFault}

pub comes_back : (exit : Exit) → IsWide exit → exit_in (fault_of exit) ≡ Some exit
comes_back exits.Done wide = refl
comes_back (exits.No rule a b) wide = rw (lt-ltb rule 256 wide.0, lt-ltb a 65536 wide.1, lt-ltb b 65536 wide.2) refl
comes_back exits.Usage wide = refl
comes_back (exits.BadDatabase at (Lsa records.Truncated)) wide = refl
comes_back (exits.BadDatabase at (Lsa records.Length)) wide = refl
comes_back (exits.BadDatabase at (Lsa records.Checksum)) wide = refl
comes_back (exits.BadDatabase at (Lsa records.ReservedSequence)) wide = refl
comes_back (exits.BadDatabase at (Lsa records.IdMismatch)) wide = refl
comes_back (exits.BadDatabase at (Lsa records.Body)) wide = refl
comes_back (exits.BadDatabase at (Lsa records.ZeroMetric)) wide = refl
comes_back (exits.BadDatabase at (Conflict first)) wide = refl
comes_back (exits.BadProfile line lines.Bytes) wide = refl
comes_back (exits.BadProfile line lines.Words) wide = refl
comes_back (exits.BadProfile line lines.Address) wide = refl
comes_back (exits.BadProfile line lines.Number) wide = refl
comes_back (exits.BadProfile line lines.Repeated) wide = refl
comes_back (exits.BadCertificate at faults.Magic) wide = refl
comes_back (exits.BadCertificate at faults.Truncated) wide = refl
comes_back (exits.BadCertificate at faults.Range) wide = refl
comes_back (exits.BadCertificate at faults.Tag) wide = refl
comes_back (exits.BadCertificate at faults.Trailing) wide = refl
comes_back (exits.BadCertificate at faults.Heads) wide = refl
comes_back (exits.TooLarge whats.DatabaseFile size) wide = rw (lt-ltb size 4294967296 wide) refl
comes_back (exits.TooLarge whats.UpdatesFile size) wide = rw (lt-ltb size 4294967296 wide) refl
comes_back (exits.TooLarge whats.ProfileFile size) wide = rw (lt-ltb size 4294967296 wide) refl
comes_back (exits.TooLarge whats.CertificateFile size) wide = rw (lt-ltb size 4294967296 wide) refl
comes_back (exits.TooLarge whats.ScriptFile size) wide = rw (lt-ltb size 4294967296 wide) refl
comes_back (exits.TooLarge whats.AreaNodes size) wide = rw (lt-ltb size 4294967296 wide) refl
comes_back (exits.TooLarge whats.AreaArcs size) wide = rw (lt-ltb size 4294967296 wide) refl
comes_back (exits.NotThere number) wide = refl
comes_back (exits.ReadFault word) wide = rw (lt-ltb word 256 wide) refl
comes_back (exits.WriteFault taken) wide = refl
comes_back exits.NoMemory wide = refl
comes_back (exits.BadScript line) wide = refl
comes_back exits.NoCommonBlock wide = refl
comes_back (exits.BadUpdate at (updates.Lsa records.Truncated)) wide = refl
comes_back (exits.BadUpdate at (updates.Lsa records.Length)) wide = refl
comes_back (exits.BadUpdate at (updates.Lsa records.Checksum)) wide = refl
comes_back (exits.BadUpdate at (updates.Lsa records.ReservedSequence)) wide = refl
comes_back (exits.BadUpdate at (updates.Lsa records.IdMismatch)) wide = refl
comes_back (exits.BadUpdate at (updates.Lsa records.Body)) wide = refl
comes_back (exits.BadUpdate at (updates.Lsa records.ZeroMetric)) wide = refl
comes_back (exits.BadUpdate at updates.Truncated) wide = refl
comes_back (exits.BadUpdate at updates.Header) wide = refl
comes_back (exits.BadUpdate at updates.Length) wide = refl
comes_back (exits.BadUpdate at updates.Count) wide = refl

-- where no exit was found, the fault is of none
pub tells_none : (fault : MrtFault) (found : Option Exit) → found ≡ exit_in fault → found ≡ None
    → (exit : Exit) → IsWide exit → fault ≡ fault_of exit → ⊥
tells_none fault found is none exit wide same =
    some≢none exit (sym (comes_back exit wide) ∙ ap exit_in (sym same) ∙ sym is ∙ none)
  where
    some≢none : (exit : Exit) → ◌≡◌ {A = Option Exit} (Some exit) None → ⊥
    some≢none exit same = cc

-- where that of which one was found is another fault, it is of none too
pub tells_no_other : (fault : MrtFault) (found : Exit) → Some found ≡ exit_in fault → (fault_of found ≡ fault → ⊥)
    → (exit : Exit) → IsWide exit → fault ≡ fault_of exit → ⊥
tells_no_other fault found is other exit wide same =
    other (ap fault_of (one found exit (is ∙ ap exit_in same ∙ comes_back exit wide)) ∙ sym same)
  where
    one : (x y : Exit) → ◌≡◌ {A = Option Exit} (Some x) (Some y) → x ≡ y
    one x y same = cc

-- a number that was found below a limit is below it
module _ {X : Type 0} (limit number : ℕ) where
  below_then : (next : ℕ → Option X) (x : X) → option_and_then next (below limit number) ≡ Some x → (number < limit) × (next number ≡ Some x)
  below_then next x found = go (nat_lt number limit) refl found
    where
      go : (b : Bool) → nat_lt number limit ≡ b → option_and_then next (if b then Some number else None) ≡ Some x → (number < limit) × (next number ≡ Some x)
      go true is found = (ltb-true number limit is, found)
      go false is found = absurd cc

  below_map : (f : ℕ → X) (x : X) → option_map f (below limit number) ≡ Some x → number < limit
  below_map f x found = go (nat_lt number limit) refl found
    where
      go : (b : Bool) → nat_lt number limit ≡ b → option_map f (if b then Some number else None) ≡ Some x → number < limit
      go true is found = ltb-true number limit is
      go false is found = absurd cc

-- an exit that was found has the widths that it tells its numbers in
wide_back : (exit : Exit) → exit_in (fault_of exit) ≡ Some exit → IsWide exit
wide_back (exits.No rule a b) found =
    let one = below_then 256 rule (λ r. option_and_then (λ s. option_map (λ t. exits.No r s t) (below 65536 b)) (below 65536 a)) (exits.No rule a b) found in
    let two = below_then 65536 a (λ s. option_map (λ t. exits.No rule s t) (below 65536 b)) (exits.No rule a b) one.1 in
    (one.0, two.0, below_map 65536 b (λ t. exits.No rule a t) (exits.No rule a b) two.1)
wide_back (exits.TooLarge whats.DatabaseFile size) found = below_map 4294967296 size (λ s. exits.TooLarge whats.DatabaseFile s) _ found
wide_back (exits.TooLarge whats.UpdatesFile size) found = below_map 4294967296 size (λ s. exits.TooLarge whats.UpdatesFile s) _ found
wide_back (exits.TooLarge whats.ProfileFile size) found = below_map 4294967296 size (λ s. exits.TooLarge whats.ProfileFile s) _ found
wide_back (exits.TooLarge whats.CertificateFile size) found = below_map 4294967296 size (λ s. exits.TooLarge whats.CertificateFile s) _ found
wide_back (exits.TooLarge whats.ScriptFile size) found = below_map 4294967296 size (λ s. exits.TooLarge whats.ScriptFile s) _ found
wide_back (exits.TooLarge whats.AreaNodes size) found = below_map 4294967296 size (λ s. exits.TooLarge whats.AreaNodes s) _ found
wide_back (exits.TooLarge whats.AreaArcs size) found = below_map 4294967296 size (λ s. exits.TooLarge whats.AreaArcs s) _ found
wide_back (exits.ReadFault word) found = below_map 256 word (λ w. exits.ReadFault w) _ found
wide_back exit found = tt

pub told_wide : (fault : MrtFault) (found : Exit) → Some found ≡ exit_in fault → fault ≡ fault_of found → IsWide found
told_wide fault found is same = wide_back found (ap exit_in (sym same) ∙ sym is)
