use Rattle.fabric.proofs.OneText.{RunLaws, one_script_text, one_trace_text}
use Rattle.fabric.proofs.SomeText.{SomeLaws, script_there, trace_there}
use Rattle.fabric.proofs.run_law.one_text_each.Goals as goal

-- the laws of the layer below
laws : goal.After-packets_end → RunLaws
laws c = record { one_run = c.one_answer_each.ensures.one_run }

some_laws : goal.After-packets_end → SomeLaws
some_laws c = record {
  some = c.one_answer_each.ensures.some;
  told = c.one_answer_each.ensures.told;
  going = c.packets_end.ensures.going;
}

pub returns-clause-some_script : goal.returns-clause-some_script
returns-clause-some_script c = script_there (some_laws c)

pub returns-clause-some_trace : goal.returns-clause-some_trace
returns-clause-some_trace c = trace_there (some_laws c)

pub returns-clause-script : goal.returns-clause-script
returns-clause-script c = one_script_text (laws c)

pub returns-clause-trace : goal.returns-clause-trace
returns-clause-trace c = one_trace_text (laws c)
