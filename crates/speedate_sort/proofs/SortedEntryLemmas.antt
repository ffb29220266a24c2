-- Lines in the order of the values of their entries are entries in the order of their values.
use Rattle.std.proofs.Common.{◌≡◌, ◌∙◌, ap, arith, refl, ℤ, List, [], ◌∷◌, ◌++◌, append_assoc, if◌then◌else◌}
use Rattle.std.specs.List.{AllByRecursion as Each}
use Rattle.std.proofs.lemmas.Bool.{cond_both}
use Rattle.speedate_scan.specs.Scan.{is_value}
use Rattle.speedate_scan.specs.Entries.{Entry, Marked, entries, entry_and, lines_text, up_to_value}
use Rattle.speedate_sort.specs.Base.{LineKind}
use Rattle.speedate_sort.specs.Sort.{Keyed, all_text, if_kept, in_order, instant_after}
use Rattle.speedate_sort.specs.Sort.{is_earlier_entry, keyed, sorted_entries, sorted_text, texts}
use Rattle.speedate_sort.proofs.OrderLemmas.{HasKey, blocks, blocks-in_order}

-- the lines of an entry that are not left out
abbrev kept_lines : ℤ → List Marked → List Keyed
kept_lines instant [] = []
kept_lines instant (line ∷ lines) =
    if_kept line.kept instant line.printed ++ kept_lines instant lines

abbrev of_entry : Entry → ℤ
of_entry entry = entry.instant

abbrev of_line : Keyed → ℤ
of_line line = line.instant

abbrev block : Entry → List Keyed
block entry = kept_lines entry.instant entry.lines

abbrev all_blocks : List Entry → List Keyed
all_blocks es = blocks of_entry of_line block es

-- the texts of lines, of those of an entry, and of those of entries
texts-append : (lines others : List Keyed) → texts (lines ++ others) ≡ texts lines ++ texts others
texts-append [] others = refl
texts-append (line ∷ lines) others = simp (texts-append lines others, append_assoc)

text-kept : (instant : ℤ) (lines : List Marked)
    → texts (kept_lines instant lines) ≡ lines_text lines
text-kept instant [] = refl
text-kept instant (line ∷ lines) = grind (arith, text-kept instant lines)

text-blocks : (es : List Entry) → texts (all_blocks es) ≡ all_text es
text-blocks [] = refl
text-blocks (entry ∷ es) = simp (texts-append, text-kept, text-blocks es)

-- by what the first line is
one_kept : (what : LineKind) (instant : ℤ) (line : Marked) (lines : List Marked)
    → if_kept line.kept (instant_after instant what) line.printed
    ++ (kept_lines (instant_after instant what) (up_to_value lines) ++ all_blocks (entries lines))
    ≡ kept_lines instant (if is_value what then [] else line ∷ up_to_value lines)
    ++ all_blocks (entry_and what line lines (entries lines))
one_kept (LineKind.Value found) instant line lines = simp append_assoc
one_kept other instant line lines = simp append_assoc

-- lines with the values of their entries are entries
keyed-blocks : (instant : ℤ) (lines : List Marked)
    → keyed instant lines ≡ kept_lines instant (up_to_value lines) ++ all_blocks (entries lines)
keyed-blocks instant [] = refl
keyed-blocks instant (line ∷ lines) =
    let next : ℤ = instant_after instant line.what in
    rw (keyed-blocks next lines) (one_kept line.what instant line lines)

-- the lines of an entry have its value
key_kept : (instant : ℤ) (lines : List Marked)
    → Each (HasKey of_entry of_line block instant) (kept_lines instant lines)
key_kept instant [] = tt
key_kept instant (line ∷ lines) = cond_both line.kept _ _
    (λ l. Each (HasKey of_entry of_line block instant) (l ++ kept_lines instant lines))
    (λ kept. (refl, key_kept instant lines))
    (λ left. key_kept instant lines)

-- lines in order are entries in order, each whole
pub entries_whole : (instant : ℤ) (lines : List Marked)
    → sorted_text (keyed instant lines) ≡ sorted_entries instant lines
entries_whole instant lines =
    let first : Entry = record { instant = instant; lines = up_to_value lines } in
    let all : List Entry = first ∷ entries lines in
    ap sorted_text (keyed-blocks instant lines)
    ∙ ap texts (blocks-in_order of_entry of_line block (λ e. key_kept e.instant e.lines) all)
    ∙ text-blocks (in_order is_earlier_entry all)
