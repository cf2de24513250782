use Rattle.graph_tests.proofs.shelves.put_pieces.Given as goal

-- The file is open.
abbrev pub invariant-loop : goal.invariant-loop
invariant-loop g l = g.S.Shelf.is_open l.shelf
