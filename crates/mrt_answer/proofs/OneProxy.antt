-- Two nodes of a graph have one text on a prefix that is attached to them, or no common block.
use Rattle.std.proofs.Common.{◌≡◌, ℕ, true, List, Ok, Err, refl, subst}
use Rattle.mrt_graph.specs.AcceptedFor.{IsAcceptedFor}
use Rattle.mrt_graph.specs.Certificate.{Certificate}
use Rattle.mrt_graph.specs.GraphInvariant.{IsTopology}
use Rattle.mrt_graph.specs.Related.{are_unrelated}
use Rattle.mrt_graph.specs.Topology.{Topology}
use Rattle.mrt_graph.specs.declared.cert.CertFile.{CertFile}
use Rattle.proxy_rows.specs.ProxyText.{IsProxyText}
use Rattle.mrt_exit.specs.AnswerSteps.{IsOne}
use Rattle.mrt_exit.specs.declared.exit.Exit.{Exit}
use Rattle.mrt_exit.specs.declared.exit.Exit.TheVariants.{NoCommonBlock}
use Rattle.mrt_exit.proofs.Stepping.{one_value_or_exit}
use Rattle.mrt_answer.specs.Texts.{IsComputedFile, proxied}

-- the laws of the layer below on texts
pub record ProxyLaws : Type 0 where
  pub text : (g : Topology) (root : ℕ) (c : Certificate) (a b : ℕ) (text other : List ℕ) → IsTopology g → IsAcceptedFor g c
      → IsProxyText g root c a b text → IsProxyText g root c a b other → text ≡ other
  pub related : (g : Topology) (root : ℕ) (c : Certificate) (a b : ℕ) (text : List ℕ) → IsTopology g → IsAcceptedFor g c
      → IsProxyText g root c a b text → are_unrelated c a b ≡ true → ⊥

-- the certificate that is computed for a graph is accepted for it
pub accepted_for : (graph : Topology) (root : ℕ) (file : CertFile) → IsComputedFile graph root file
    → IsAcceptedFor graph file.cert
accepted_for graph root file computed =
    record { root = root; version = file.version; number = file.root; accepted = computed.accepted }

pub one_proxied_of : ProxyLaws → (graph : Topology) (root a b : ℕ) → IsTopology graph
    → ((file other : CertFile) → IsComputedFile graph root file → IsComputedFile graph root other → file ≡ other)
    → IsOne (proxied graph root a b)
one_proxied_of laws graph root a b kept one_file = one_value_or_exit (proxied graph root a b) values ends no
  where
    values : (text other : List ℕ) → proxied graph root a b (Ok text) → proxied graph root a b (Ok other) → text ≡ other
    values text other one two =
        laws.text graph root two.file.cert a b text other kept (accepted_for graph root two.file two.certificate)
        (subst (λ (f : CertFile). IsProxyText graph root f.cert a b text)
        (one_file one.file two.file one.certificate two.certificate) one.spelled) two.spelled

    ends : (e d : Exit) → proxied graph root a b (Err e) → proxied graph root a b (Err d) → e ≡ d
    ends NoCommonBlock NoCommonBlock one two = refl
    ends NoCommonBlock d one two = absurd two
    ends e d one two = absurd one

    no : (text : List ℕ) (e : Exit) → proxied graph root a b (Ok text) → proxied graph root a b (Err e) → ⊥
    no text NoCommonBlock one two =
        laws.related graph root two.0.cert a b text kept (accepted_for graph root two.0 two.1)
        (subst (λ (f : CertFile). IsProxyText graph root f.cert a b text) (one_file one.file two.0 one.certificate two.1)
        one.spelled) two.2
    no text e one two = two
