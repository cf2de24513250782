-- Which exits come of the bytes of files: no only of a task that asks for a verdict, and never done, the usage, a fault of a device or
-- want of memory.
use Rattle.std.proofs.Common.{ℕ, List, inl, inr}
use Rattle.ospf_lsa.specs.declared.lsa.Lsa.{Lsa}
use Rattle.mrt_graph.specs.Topology.{Topology}
use Rattle.mrt_graph.specs.declared.cert.CertFile.{CertFile}
use Rattle.mrt_graph.specs.declared.node_id.NodeId.{NodeId}
use Rattle.mrt_exit.specs.steps.AnswerSteps.{EndsAs}
use Rattle.mrt_exit.specs.declared.exit.Exit.{Exit}
use Rattle.mrt_exit.specs.declared.exit.Exit.TheVariants as exits
use Rattle.mrt_args.specs.FileBytes.{FileBytes}
use Rattle.mrt_args.specs.declared.task.RouterTask.{RouterTask}
use Rattle.mrt_args.specs.declared.task.RouterTask.TheVariants.{Certify, Table, Trace, Lfa, Order, Proxy}
use Rattle.mrt_args.specs.declared.task.Task.TheVariants.{Check, Upgrade, Fabric, OfRouter}
use Rattle.mrt_args.specs.Form.{Task, AsksVerdictTask}
use Rattle.mrt_answer.specs.Forms.{flooded, of_router, of_task, over}
use Rattle.mrt_answer.specs.Input.{Input, area, policy}
use Rattle.mrt_answer.specs.Islands.{area_of, island_in, island_of, place_of}
use Rattle.mrt_answer.specs.Texts.{judged, proxied}
use Rattle.mrt_answer.specs.Reading.{certificate_of, database_of, deliveries_of, input_of, profile_of, script_of, updates_of}

-- the exits that may come where a file may be missing, and where a verdict is asked for
abbrev pub MaySay : Type 0 → Type 0 → Exit → Type 0
MaySay Missing Verdict (exits.ReadFault word) = Missing
MaySay Missing Verdict (exits.No rule a b) = Verdict
MaySay Missing Verdict exits.Done = ⊥
MaySay Missing Verdict exits.Usage = ⊥
MaySay Missing Verdict (exits.WriteFault taken) = ⊥
MaySay Missing Verdict exits.NoMemory = ⊥
MaySay Missing Verdict _ = Unit {0}

module _ (Missing Verdict : Type 0) where
  -- what may be said here
  abbrev Says : Exit → Type 0
  Says = MaySay Missing Verdict

  by_profile : (bytes : List ℕ) → EndsAs Says (profile_of bytes)
  by_profile bytes (exits.BadProfile line kind) said = tt
  by_profile bytes exit said = absurd said

  by_input : (database profile : List ℕ) → EndsAs Says (input_of database profile)
  by_input database profile exit (inl said) = by_database exit said
    where
      by_database : EndsAs Says (database_of database)
      by_database (exits.BadDatabase at kind) said = tt
      by_database exit said = absurd said
  by_input database profile exit (inr (newest, is, inl said)) = by_profile profile exit said
  by_input database profile exit (inr (newest, is, inr (settings, too, said))) = absurd said

  by_area : (newest : List Lsa) → EndsAs Says (area_of newest)
  by_area newest (exits.TooLarge what size) said = tt
  by_area newest exit said = absurd said

  by_island : (input : Input) (number : ℕ) → EndsAs Says (island_in input number)
  by_island input number exit (inl said) = by_area input.newest exit said
  by_island input number exit (inr (area, is, said)) = in_area exit said
    where
      in_area : EndsAs Says (island_of (policy input) area number)
      in_area (exits.NotThere missing) said = tt
      in_area exit said = absurd said

  by_place : (ids : List NodeId) (number : ℕ) → EndsAs Says (place_of ids number)
  by_place ids number (exits.NotThere missing) said = tt
  by_place ids number exit said = absurd said

  by_router : (asked : RouterTask) (input : Input) → EndsAs Says (of_router asked input)
  by_router (Certify router) input exit (inl said) = by_island input router exit said
  by_router (Certify router) input exit (inr (island, is, said)) = absurd said
  by_router (Table router) input exit (inl said) = by_island input router exit said
  by_router (Table router) input exit (inr (island, is, inl said)) = absurd said
  by_router (Table router) input exit (inr (island, is, inr (source, at, inl said))) = absurd said
  by_router (Table router) input exit (inr (island, is, inr (source, at, inr (spot, too, said)))) = absurd said
  by_router (Trace trace) input exit (inl said) = by_island input trace.from exit said
  by_router (Trace trace) input exit (inr (island, is, said)) = absurd said
  by_router (Lfa router) input exit (inl said) = by_area input.newest exit said
  by_router (Lfa router) input exit (inr (of, is, inl said)) = by_place of.ids router exit said
  by_router (Lfa router) input exit (inr (of, is, inr (spot, at, said))) = absurd said
  by_router (Order router) input exit (inl said) = by_island input router exit said
  by_router (Order router) input exit (inr (island, is, inl said)) = absurd said
  by_router (Order router) input exit (inr (island, is, inr (source, at, said))) = absurd said
  by_router (Proxy router first second) input exit (inl said) = by_island input router exit said
  by_router (Proxy router first second) input exit (inr (island, is, inl said)) = by_place island.graph.ids first exit said
  by_router (Proxy router first second) input exit (inr (island, is, inr (a, at, inl said))) = by_place island.graph.ids second exit said
  by_router (Proxy router first second) input exit (inr (island, is, inr (a, at, inr (b, too, said)))) = by_proxied exit said
    where
      by_proxied : EndsAs Says (proxied island.graph island.root a b)
      by_proxied exits.NoCommonBlock said = tt
      by_proxied exit said = absurd said

  by_certificate : (bytes : List ℕ) → EndsAs Says (certificate_of bytes)
  by_certificate bytes (exits.BadCertificate at kind) said = tt
  by_certificate bytes exit said = absurd said

  by_verdict : Verdict → (graph : Topology) (root : ℕ) (file : CertFile) → EndsAs Says (judged graph root file)
  by_verdict asks graph root file (exits.No rule a b) said = asks
  by_verdict asks graph root file exit said = absurd said

  pub flooded_says : (bytes : FileBytes) → EndsAs Says (flooded bytes)
  flooded_says bytes exit (inl said) = by_updates exit said
    where
      by_updates : EndsAs Says (updates_of bytes.first)
      by_updates (exits.BadUpdate at kind) said = tt
      by_updates exit said = absurd said
  flooded_says bytes exit (inr (updates, are, inl said)) = by_profile bytes.profile exit said
  flooded_says bytes exit (inr (updates, are, inr (settings, is, inl said))) = by_deliveries exit said
    where
      by_deliveries : EndsAs Says (deliveries_of bytes.last)
      by_deliveries (exits.BadScript line) said = tt
      by_deliveries exit said = absurd said
  flooded_says bytes exit (inr (updates, are, inr (settings, is, inr (script, too, said)))) = absurd said

by_task : (Missing : Type 0) (task : Task) (input : Input) (last : List ℕ) → EndsAs (MaySay Missing (AsksVerdictTask task)) (of_task task input last)
by_task Missing (Check certificate) input last exit (inl said) = by_certificate Missing _ last exit said
by_task Missing (Check certificate) input last exit (inr (file, is, inl said)) = by_island Missing _ input file.root exit said
by_task Missing (Check certificate) input last exit (inr (file, is, inr (island, its, inl said))) =
    by_verdict Missing _ tt island.graph island.root file exit said
by_task Missing (Check certificate) input last exit (inr (file, is, inr (island, its, inr (done, accepted, said)))) = absurd said
by_task Missing (Upgrade certificate) input last exit (inl said) = by_certificate Missing _ last exit said
by_task Missing (Upgrade certificate) input last exit (inr (file, is, inl said)) = by_island Missing _ input file.root exit said
by_task Missing (Upgrade certificate) input last exit (inr (file, is, inr (island, its, inl said))) =
    by_verdict Missing _ tt island.graph island.root file exit said
by_task Missing (Upgrade certificate) input last exit (inr (file, is, inr (island, its, inr (done, accepted, said)))) = absurd said
by_task Missing (Fabric name) input last exit (inl said) = by_script exit said
  where
    by_script : EndsAs (MaySay Missing ⊥) (script_of last)
    by_script (exits.BadScript line) said = tt
    by_script exit said = absurd said
by_task Missing (Fabric name) input last exit (inr (script, is, inl said)) = by_island Missing _ input script.router exit said
by_task Missing (Fabric name) input last exit (inr (script, is, inr (island, its, said))) = absurd said
by_task Missing (OfRouter asked) input last exit said = by_router Missing ⊥ asked input exit said

pub over_says : (Missing : Type 0) (task : Task) (bytes : FileBytes) → EndsAs (MaySay Missing (AsksVerdictTask task)) (over task bytes)
over_says Missing task bytes exit (inl said) = by_input Missing (AsksVerdictTask task) bytes.first bytes.profile exit said
over_says Missing task bytes exit (inr (input, is, said)) = by_task Missing task input bytes.last exit said
