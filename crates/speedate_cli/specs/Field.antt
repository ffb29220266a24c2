-- What separates fields.
use Rattle.std.specs.Prelude.{ℕ, ◌==◌, ◌&&◌, ◌||◌, not, Bool, List, codes, length, slice_index, Option, Some, None, if◌then◌else◌}
use Rattle.speedate_cli.specs.Word.{is_word}

-- a quote, or a byte that ends a line
abbrev pub is_quote_or_end : ℕ → Bool
is_quote_or_end byte = (byte == 34) || ((byte == 10) || (byte == 13))

-- the byte between two fields, by its text: a tab is `\t` too
abbrev pub separator_of : List ℕ → Option ℕ
separator_of text =
    if is_word text (codes "\\t") then Some 9
    else if (length text == 1) && not (is_quote_or_end (slice_index text 0))
    then Some (slice_index text 0)
    else None
