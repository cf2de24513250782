use Rattle.text_parts.proofs.WholeLists.{either_of, never_both_of, one_fault_of, one_text_of}
use Rattle.mrt_island.proofs.SettingsSaid.{profile_means}
use Rattle.mrt_island.proofs.profile_law.lines_are_settings_or_have_a_fault.Goals as goal

pub returns-clause-either : goal.returns-clause-either
returns-clause-either c = λ lines. either_of profile_means lines

pub returns-clause-never_both : goal.returns-clause-never_both
returns-clause-never_both c = λ lines. never_both_of profile_means lines

pub returns-clause-one_list : goal.returns-clause-one_list
returns-clause-one_list c = λ lines. one_text_of profile_means lines

pub returns-clause-one_fault : goal.returns-clause-one_fault
returns-clause-one_fault c = λ lines. one_fault_of profile_means lines
