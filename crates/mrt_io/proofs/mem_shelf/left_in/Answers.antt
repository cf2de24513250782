use Rattle.std.proofs.Common.{◌≡◌, ◌≤◌, ◌-◌, ◌∙◌, ℕ, List, Some, length, drop, refl, sym, ap, arith}
use Rattle.std.proofs.lemmas.List.{length-drop, take_all}
use Rattle.mrt_io.specs.Named.{named}
use Rattle.mrt_io.specs.steps.Opened.{bytes_at}
use Rattle.mrt_io.proofs.Places.{bytes_at_place, place_within}
use Rattle.mrt_io.proofs.mem_shelf.left_in.Goals.{After-deref}
use Rattle.mrt_io.proofs.mem_shelf.left_in.Goals as goal

pub bounds-files-opened : goal.bounds-files-opened
bounds-files-opened c =
    place_within c.args.files.now c.args.opened.place (λ bytes. c.args.opened.taken ≤ length bytes) c.requires

bytes_there : (c : After-deref) → bytes_at (named c.args.files.now) c.args.opened.place ≡ Some c.deref.result.now
bytes_there c =
    let within = place_within c.args.files.now c.args.opened.place (λ bytes. c.args.opened.taken ≤ length bytes) c.requires in
    bytes_at_place c.args.files.now c.args.opened.place c.index-files-opened.result within c.index-files-opened.is
    ∙ ap (λ (bytes : List ℕ). Some bytes) (rw (← c.index-files-opened.is) at (sym c.deref.ensures.value))

pub slice_bounds-result-count : goal.slice_bounds-result-count
slice_bounds-result-count c = rw (bytes_there c) at c.requires

pub returns : goal.returns
returns c =
    let there = bytes_there (goal.at.returns c).After-deref in
    let taken = rw there at c.requires in
    let left = take_all (length c.deref.result.now - c.args.opened.taken) (drop c.args.opened.taken c.deref.result.now) (omega (arith, length-drop {A = ℕ})) in
    record {
      left = rw (there, left) refl;
      fits = rw left (omega (arith, length-drop {A = ℕ}, taken, c.deref.ensures.len));
    }
