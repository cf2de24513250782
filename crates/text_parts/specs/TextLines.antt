-- The lines of a text file, and the words of a line.
use Rattle.std.specs.Prelude.{ℕ, Bool, not, ◌==◌, ◌||◌, List, length, slice_index}
use Rattle.std.specs.List.{filter, list_all, slice_split}
use Rattle.std.specs.Str.Lines.{lines}

-- the lines of a text, the first of which has the number 1: each ends with a line feed or with the end of the text, one carriage
-- return before the line feed is dropped, and an empty last piece after the last line feed is no line
abbrev pub text_lines : List ℕ → List (List ℕ)
text_lines text = lines text

-- whether a byte is a space or a tab
abbrev pub is_blank : ℕ → Bool
is_blank byte = (byte == 32) || (byte == 9)

-- whether a line is passed over: its first byte is `#`, or it is of spaces and tabs alone
abbrev pub is_passed_over : List ℕ → Bool
is_passed_over line = (slice_index line 0 == 35) || list_all is_blank line

-- the words of a line: the pieces between single spaces and tabs, but those that are empty
abbrev pub words_of : List ℕ → List (List ℕ)
words_of line = filter (λ word. not (length word == 0)) (slice_split is_blank line)
