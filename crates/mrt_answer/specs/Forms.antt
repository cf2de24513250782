-- What comes of each form, step by step: the order of the refusals is that of the steps.
use Rattle.std.specs.Prelude.{◌≡◌, ℕ, List, length}
use Rattle.std.specs.List.{AllByRecursion}
use Rattle.fabric_script.specs.declared.script.Script.{Script}
use Rattle.fabric_script.specs.declared.trace.Trace.{Trace as PacketTrace}
use Rattle.flood.specs.FloodState.{started}
use Rattle.flood.specs.Receiving.{MayFlood}
use Rattle.flood.specs.declared.update.Update.{Update}
use Rattle.flood.specs.declared.script.FloodScript.{FloodScript}
use Rattle.mrt_island.specs.declared.setting.Setting.{Setting}
use Rattle.flood.specs.FloodTexts.{IsFloodText}
use Rattle.flood_verdict.specs.Says.{Says}
use Rattle.lfa_alt.specs.LfaText.{IsLfaText}
use Rattle.mrt_exit.specs.AnswerSteps.{Step, such, ◌▸◌}
use Rattle.mrt_graph.specs.Topology.{Topology}
use Rattle.mrt_graph.specs.declared.cert.CertFile.{CertFile}
use Rattle.mrt_args.specs.FileBytes.{FileBytes}
use Rattle.order_repair.specs.OrderText.{IsTextFrom}
use Rattle.mrt_args.specs.Form.{Task}
use Rattle.mrt_args.specs.declared.task.RouterTask.{RouterTask}
use Rattle.mrt_args.specs.declared.task.RouterTask.TheVariants.{Certify, Table, Trace, Lfa, Order, Proxy}
use Rattle.mrt_args.specs.declared.task.Task.TheVariants.{Check, Fabric, Upgrade, OfRouter}
use Rattle.mrt_answer.specs.Texts.{IsComputed, IsScriptIn, IsTableOf, IsTraceIn, IsUpgrade, accepted_line, judged, proxied}
use Rattle.area_graph.specs.Parts.{AreaParts}
use Rattle.mrt_island.specs.declared.island.Island.{Island}
use Rattle.mrt_answer.specs.Input.{Input, area}
use Rattle.mrt_answer.specs.Islands.{area_of, island_in, own_place, place_of}
use Rattle.mrt_answer.specs.Reading.{certificate_of, deliveries_of, input_of, profile_of, script_of, updates_of}

-- the table of a router of an island, in the island and in its area
abbrev pub table_in : AreaParts → Island → ℕ → Step (List ℕ)
table_in area island router =
    own_place island.graph.ids router ▸ λ source. own_place area.ids router ▸ λ spot. such (IsTableOf area island source spot)

-- the certificate of a router's island
abbrev pub certified : Input → ℕ → Step (List ℕ)
certified input router = island_in input router ▸ λ island. such (IsComputed island.graph island.root)

-- the table of a router: by its place in its island, and by its place in the area
abbrev pub tabled : Input → ℕ → Step (List ℕ)
tabled input router = island_in input router ▸ λ island. table_in (area input) island router

-- a packet's trace, in the island of the router where it enters
abbrev pub traced : Input → PacketTrace → Step (List ℕ)
traced input trace = island_in input trace.from ▸ λ island. such (IsTraceIn (area input) island trace)

-- the answers to a script of events, in the island of its router
abbrev pub scripted : Input → Script → Step (List ℕ)
scripted input script =
    island_in input script.router ▸ λ island. such (IsScriptIn (area input) island script)

-- the loop-free alternates of a router of an area
abbrev pub loop_free_in : AreaParts → ℕ → Step (List ℕ)
loop_free_in area router = place_of area.ids router ▸ λ spot. such (IsLfaText area spot)

abbrev pub loop_free : Input → ℕ → Step (List ℕ)
loop_free input router = area_of input.newest ▸ λ area. loop_free_in area router

-- the repairs by order of a router of a graph, and of one in its island
abbrev pub ordered_in : Topology → ℕ → ℕ → Step (List ℕ)
ordered_in graph root router = own_place graph.ids router ▸ λ source. such (IsTextFrom graph root source)

abbrev pub ordered : Input → ℕ → Step (List ℕ)
ordered input router = island_in input router ▸ λ island. ordered_in island.graph island.root router

-- the rows for a prefix that is attached to two routers of a graph, and of a router's island
abbrev pub proxied_in : Topology → ℕ → ℕ → ℕ → Step (List ℕ)
proxied_in graph root first second =
    place_of graph.ids first ▸ λ a. place_of graph.ids second ▸ λ b. proxied graph root a b

abbrev pub proxied_for : Input → ℕ → ℕ → ℕ → Step (List ℕ)
proxied_for input router first second =
    island_in input router ▸ λ island. proxied_in island.graph island.root first second

-- the yes to a certificate for a graph and its root, and for the island of its root
abbrev pub said_yes : Topology → ℕ → CertFile → Step (List ℕ)
said_yes graph root file =
    judged graph root file ▸ λ done. such (λ text. text ≡ accepted_line file.root (length graph.ids) (length graph.links))

abbrev pub checked : Input → CertFile → Step (List ℕ)
checked input file = island_in input file.root ▸ λ island. said_yes island.graph island.root file

-- a certificate that is accepted for a graph and its root, in version 2, and for the island of its root
abbrev pub upgraded_in : Topology → ℕ → CertFile → Step (List ℕ)
upgraded_in graph root file = judged graph root file ▸ λ done. such (IsUpgrade graph root file)

abbrev pub upgraded_to : Input → CertFile → Step (List ℕ)
upgraded_to input file = island_in input file.root ▸ λ island. upgraded_in island.graph island.root file

-- a task of a router
abbrev pub of_router : RouterTask → Input → Step (List ℕ)
of_router (Certify router) input = certified input router
of_router (Table router) input = tabled input router
of_router (Trace trace) input = traced input trace
of_router (Lfa router) input = loop_free input router
of_router (Order router) input = ordered input router
of_router (Proxy router first second) input = proxied_for input router first second

-- a task, the file of which has these bytes
abbrev pub of_task : Task → Input → List ℕ → Step (List ℕ)
of_task (Check certificate) input last = certificate_of last ▸ checked input
of_task (Upgrade certificate) input last = certificate_of last ▸ upgraded_to input
of_task (Fabric script) input last = script_of last ▸ scripted input
of_task (OfRouter asked) input last = of_router asked input

-- a task over the bytes of its files
abbrev pub over : Task → FileBytes → Step (List ℕ)
over task bytes = input_of bytes.first bytes.profile ▸ λ input. of_task task input bytes.last

-- the answers to the lines of a script of deliveries, one after another: the deliveries begin with these packets, whose LSAs may be
-- flooded, and with empty databases, and databases are compared under the profile
abbrev pub delivered : List Update → List Setting → FloodScript → Step (List ℕ)
delivered updates settings script =
    such (λ text. AllByRecursion MayFlood updates × IsFloodText (Says settings) (started updates script.routers) script.lines text)

-- a form over packets, over the bytes of its files
abbrev pub flooded : FileBytes → Step (List ℕ)
flooded bytes =
    updates_of bytes.first ▸ λ updates. profile_of bytes.profile ▸ λ settings. deliveries_of bytes.last ▸ delivered updates settings
