-- Two certificates that were found, compared.
use Rattle.std.proofs.Common.{◌≡◌, ℕ, Bool, true, false, List, Some, None, length, refl, sym, subst}
use Rattle.std.specs.Prelude.{◌↔◌, IsTrue, if◌then◌else◌}
use Rattle.area_graph.specs.AreaInvariant.{IsArea}
use Rattle.area_graph.specs.AreaSize.{IsTooLarge}
use Rattle.area_graph.specs.Parts.{AreaParts}
use Rattle.flood.specs.declared.verdict.Verdict.{Verdict}
use Rattle.flood.specs.declared.verdict.Verdict.TheVariants as verdicts
use Rattle.lsdb.specs.Conflicts.{least_conflict}
use Rattle.lsdb.specs.Entries.{Database}
use Rattle.mrt_graph.specs.declared.cert.CertFile.{CertFile}
use Rattle.mrt_island.specs.declared.setting.Setting.{Setting}
use Rattle.cert_stream.specs.Stream.{Stream}
use Rattle.mrt_rows.specs.CertOf.{IsCertOf}
use Rattle.flood_verdict.specs.steps.Found.{IsFound}
use Rattle.flood_verdict.specs.Says.{IsIslandCert, Says, Tells, area_in}

-- what is found in one database is there in another one that is settled and has its area
pub same_told : (settings : List Setting) (its others : Database) (router : ℕ) (stream : Stream)
    → IsFound settings its router (Some stream) → least_conflict others.entries ≡ None → area_in its ≡ area_in others
    → Says settings its others router verdicts.Same
same_told settings its others router stream (file, computed, tells) settled area = (
  file,
  tells,
  record {
    settled = settled;
    within = subst (λ (a : AreaParts). IsTooLarge (length a.ids) (length a.arcs) → ⊥) area tells.within;
    area_kept = subst IsArea area tells.area_kept;
    told = subst (λ (a : AreaParts). IsIslandCert settings a router file) area tells.told;
  },
)

-- a test tells whether the certificates of two graphs and their roots are the same
abbrev pub IsTestOf : Stream → Stream → Bool → Type 0
IsTestOf one other same =
    (file second : CertFile) → IsCertOf one.graph one.root file → IsCertOf other.graph other.root second
    → IsTrue same ↔ (file ≡ second)

module _ (settings : List Setting) (its others : Database) (router : ℕ) (one other : Stream) (same : Bool)
    (first : IsFound settings its router (Some one)) (second : IsFound settings others router (Some other))
    (tells : IsTestOf one other same) where
  -- so what the test tells is what is said
  pub told : (verdict : Verdict) → verdict ≡ (if same then verdicts.Same else verdicts.Different)
      → Says settings its others router verdict
  told verdict is = subst (Says settings its others router) (sym is) (by same tells)
    where
      by : (b : Bool) → IsTestOf one other b
          → Says settings its others router (if b then verdicts.Same else verdicts.Different)
      by true tells =
          let equal = (tells first.0 second.0 first.1 second.1).0 refl in
          (first.0, first.2, subst (Tells settings others router) (sym equal) second.2)
      by false tells = (
        first.0,
        second.0,
        first.2,
        second.2,
        λ equal.
            let holds = (tells first.0 second.0 first.1 second.1).1 equal in absurd cc,
      )
