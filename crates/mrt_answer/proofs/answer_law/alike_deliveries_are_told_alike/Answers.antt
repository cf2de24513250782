use Rattle.mrt_answer.proofs.ToldAlike.{told_alike}
use Rattle.mrt_answer.proofs.answer_law.alike_deliveries_are_told_alike.Goals as goal

pub returns : goal.returns
returns c =
    told_alike (record {
      updates = c.bytes_are_updates_or_have_a_fault.ensures.one_list;
      settings = c.lines_are_settings_or_have_a_fault.ensures.one_list;
      script = c.lines_are_a_flood_script_or_have_a_fault.ensures.one_script;
    }) c.no_difference_is_told.ensures
