-- What the entries of a database give a form.
use Rattle.std.specs.Prelude.{List, map}
use Rattle.lsdb.specs.Entries.{Entry}
use Rattle.mrt_island.specs.declared.setting.Setting.{Setting}
use Rattle.mrt_answer.specs.Input.{Input}

-- what a database with these entries, and a profile with these settings, hold
abbrev pub input_with : List Entry → List Setting → Input
input_with entries settings = record { newest = map (λ entry. entry.lsa) entries; settings = settings }
