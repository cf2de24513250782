-- What the devices in memory do.
use Rattle.std.specs.Prelude.{
  ◌≡◌,
  ◌<◌,
  ◌≤◌,
  ◌+◌,
  ◌-◌,
  ◌==◌,
  ◌&&◌,
  ◌||◌,
  ◌++◌,
  ℕ,
  Bool,
  List,
  [],
  ◌∷◌,
  Option,
  Some,
  None,
  All,
  length,
  min,
  take,
  drop,
  find,
  false,
  nat_lt,
  is_none,
  if◌then◌else◌,
}
use Rattle.std.specs.List.{AllByRecursion, list_any}
use Rattle.std.specs.Option.{option_map}
use Rattle.std.specs.Str.{bytes_eq}
use Rattle.mrt_io.specs.Counts.{last_count}
use Rattle.mrt_io.specs.Holding.{Files}

-- a shelf in memory: its files by name, the numbers of the calls that are to fail, how many calls and faults there were, and
-- what is left of the file that is open, if one is
pub record ShelfInMemory : Type 0 where
  pub files : List (List ℕ × List ℕ)
  pub fails : List ℕ
  pub calls : ℕ
  pub faults : ℕ
  pub left : Option (List ℕ)

-- the bytes of the first file of this name
abbrev pub file_of : List (List ℕ × List ℕ) → Files
file_of files name = option_map (λ file. file.1) (find (λ file. bytes_eq file.0 name) files)

-- no name stands twice
abbrev pub HasDistinctNames : List (List ℕ × List ℕ) → Type 0
HasDistinctNames [] = Unit {0}
HasDistinctNames (file ∷ files) =
    AllByRecursion (λ other. bytes_eq file.0 other.0 ≡ false) files × HasDistinctNames files

-- the call of this number is to fail
abbrev pub is_failing : ℕ → List ℕ → Bool
is_failing number fails = list_any (λ call. call == number) fails

-- no call from this number on is to fail
abbrev pub NoneFrom : ℕ → List ℕ → Type 0
NoneFrom number fails = All (λ call. call < number) fails

-- one more; a count stays at its last value
abbrev pub counted : ℕ → ℕ
counted count = min (count + 1) last_count

-- healthy: no call to come fails, and the count of faults can still rise
abbrev pub IsHealthyShelf : ShelfInMemory → Type 0
IsHealthyShelf shelf = NoneFrom shelf.calls shelf.fails × (shelf.faults < last_count)

-- the next read, of this name, or the opening of it fails: no file of this name is held, or the call is one that is to fail
abbrev pub is_read_fault : ShelfInMemory → List ℕ → Bool
is_read_fault shelf name = is_none (file_of shelf.files name) || is_failing shelf.calls shelf.fails

-- the shelf after a read of this name
abbrev pub shelf_after : ShelfInMemory → List ℕ → ShelfInMemory
shelf_after shelf name =
    if is_read_fault shelf name then record shelf { calls = counted shelf.calls; faults = counted shelf.faults }
    else record shelf { calls = counted shelf.calls }

-- the shelf after a call that opened this name, or failed: then nothing is open
abbrev pub shelf_opened : ShelfInMemory → List ℕ → ShelfInMemory
shelf_opened shelf name =
    if is_read_fault shelf name
    then record shelf { calls = counted shelf.calls; faults = counted shelf.faults; left = None }
    else record shelf { calls = counted shelf.calls; left = file_of shelf.files name }

-- how many bytes the next call takes into a piece of so many, if it does not fail: as many as there are in the piece, as are left,
-- and as a number of 32 bits can say
abbrev pub more_of : ShelfInMemory → ℕ → Option ℕ
more_of shelf room =
    if is_failing shelf.calls shelf.fails then None
    else option_map (λ left. min (min room (length left)) 4294967295) shelf.left

-- the shelf after a call that took so many bytes of what was left, or failed: then nothing is open
abbrev pub shelf_read_on : ShelfInMemory → Option ℕ → ShelfInMemory
shelf_read_on shelf None = record shelf { calls = counted shelf.calls; faults = counted shelf.faults; left = None }
shelf_read_on shelf (Some taken) =
    record shelf { calls = counted shelf.calls; left = option_map (drop taken) shelf.left }

-- a sink in memory: the bytes that it has, how many more there is room for, how many a call takes at most, the numbers of the
-- calls that are to fail, and how many calls and faults there were
pub record SinkInMemory : Type 0 where
  pub bytes : List ℕ
  pub room : ℕ
  pub step : ℕ
  pub fails : List ℕ
  pub calls : ℕ
  pub faults : ℕ

-- healthy for so many bytes: there is room for them, no call to come fails, and the count of faults can still rise
abbrev pub IsHealthyFor : SinkInMemory → ℕ → Type 0
IsHealthyFor sink n = NoneFrom sink.calls sink.fails × (n ≤ sink.room) × (sink.faults < last_count)

-- the next call, on this piece, fails: the piece is not empty and there is no room left, or the call is one that is to fail
abbrev pub is_refused : SinkInMemory → List ℕ → Bool
is_refused sink piece = ((sink.room == 0) && nat_lt 0 (length piece)) || is_failing sink.calls sink.fails

-- how many bytes of a piece a call takes, if it does not fail: as many as the piece, the step and the room allow
abbrev pub taken_of : SinkInMemory → List ℕ → Option ℕ
taken_of sink piece =
    if is_refused sink piece then None else Some (min (min (length piece) sink.step) sink.room)

-- the sink after a call that took so many bytes of a piece, or failed
abbrev pub sink_after : SinkInMemory → List ℕ → Option ℕ → SinkInMemory
sink_after sink piece None = record sink { calls = counted sink.calls; faults = counted sink.faults }
sink_after sink piece (Some taken) =
    record sink { bytes = sink.bytes ++ take taken piece; room = sink.room - taken; calls = counted sink.calls }
