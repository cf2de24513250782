use Rattle.mrt_cmd.proofs.WrittenPasses.{written_passes}
use Rattle.mrt_cmd.proofs.run_law.what_was_written_passes.Goals as goal

pub returns : goal.returns
returns c =
    written_passes (record {
      check = c.what_is_certified_passes.ensures.check;
      upgrade = c.what_is_certified_passes.ensures.upgrade;
      short = c.what_is_certified_passes.ensures.short;
    })
