use Rattle.std.proofs.Common.{◌≡◌, map}
use Rattle.std.specs.List.{range_with_len}
use Rattle.ospf_lsa.specs.LsaText.{lsas_text}
use Rattle.mrt_survey.specs.MadeLsas.{lsa_of}
use Rattle.mrt_survey.proofs.database.generate.Given as goal

abbrev pub invariant-loop-before : goal.invariant-loop-before
invariant-loop-before l = l.bytes.items ≡ lsas_text (map (lsa_of l.links.items) (range_with_len 1 l.before))
