-- What is said of a certificate that is accepted.
use Rattle.std.specs.Prelude.{◌≡◌, ℕ, List, length}
use Rattle.mrt_graph.specs.declared.cert.CertFile.{CertFile}
use Rattle.mrt_island.specs.declared.island.Island.{Island}
use Rattle.mrt_answer.specs.Input.{Input}
use Rattle.mrt_answer.specs.Islands.{island_in}
use Rattle.mrt_answer.specs.Reading.{certificate_of, input_of}
use Rattle.mrt_answer.specs.Texts.{judged}
use Rattle.mrt_exit.specs.AnswerSteps.{Step, such, ◌▸◌}
use Rattle.mrt_exit.specs.declared.exit.What.TheVariants.{CertificateFile}
use Rattle.mrt_args.specs.Files.{certificate_limit}
use Rattle.mrt_calls.specs.Areas.{area_within, within}
use Rattle.mrt_calls.specs.declared.area.MrtArea.{MrtArea}
use Rattle.mrt_calls.specs.declared.check.MrtVerdict.{MrtVerdict}

-- what is said of a certificate that is accepted for an island
abbrev pub verdict_on : Island → CertFile → Step MrtVerdict
verdict_on island file =
    judged island.graph island.root file ▸ λ done. such (λ verdict. verdict ≡ record {
      root = file.root;
      nodes = length island.graph.ids;
      links = length island.graph.links;
      reserved = 0;
    })

-- a certificate for the island of its root
abbrev pub checked_in : Input → CertFile → Step MrtVerdict
checked_in input file = island_in input file.root ▸ λ island. verdict_on island file

-- the verdict on bytes that spell a certificate, under an area that was read, and on those of files within their limits
abbrev pub verdict_on_spelling : Input → List ℕ → Step MrtVerdict
verdict_on_spelling input bytes = certificate_of bytes ▸ checked_in input

abbrev pub verdict_on_bytes : MrtArea → List ℕ → Step MrtVerdict
verdict_on_bytes area bytes =
    input_of area.lsas.data.now area.profile.data.now ▸ λ input. verdict_on_spelling input bytes

-- the verdict on any bytes: the files within their limits, in the order of the words of `check`, then their faults
abbrev pub verdict_of_within : MrtArea → List ℕ → Step MrtVerdict
verdict_of_within area bytes = within CertificateFile certificate_limit bytes ▸ λ done. verdict_on_bytes area bytes

abbrev pub verdict_in : MrtArea → List ℕ → Step MrtVerdict
verdict_in area bytes = area_within area ▸ λ done. verdict_of_within area bytes
