use Rattle.mrt_io.proofs.mem_sink.MemSinkSink.put.Goals as goal

pub returns-clause-taken : goal.returns-clause-taken
returns-clause-taken c = rw (← c.refuses-refused.ensures.value, c.if-refused.false, ← c.self.view_is) (cc)
