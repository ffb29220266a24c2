-- What the machines of `check` and `convert` print of lines.
use Rattle.std.proofs.Common.{◌≡◌, ℕ, Bool, true, false, List, [], ◌∷◌, ◌++◌, refl, append_assoc, take}
use Rattle.std.proofs.lemmas.List.{append-nil}
use Rattle.std.specs.Prelude.{Option, Some, None, if◌then◌else◌}
use Rattle.speedate_stream.specs.Machine.{head, lines_output, rest_of}
use Rattle.speedate_scan.specs.Scan.{keeps, line_of, passed}
use Rattle.speedate_commands.specs.Base.{Found, LineKind}
use Rattle.speedate_commands.specs.Check.{Check, check_after, check_lines, check_machine, cut_value}
use Rattle.speedate_commands.specs.Convert.{Convert, convert_line, convert_lines, convert_machine}
use Rattle.speedate_commands.specs.Convert.{convert_rest, convert_text, converted, line_prefix}
use Rattle.speedate_commands.specs.Convert.{text_of, written_of}

-- `check` prints the reports of the lines
pub check_prints : (check : Check) (lines : List (List ℕ))
    → lines_output check_machine check lines ≡ check_lines check lines
check_prints check [] = refl
check_prints check (line ∷ lines) =
    let what : LineKind = line_of check.order.scan (head line) in
    let cut : Option Found = cut_value check (head line) what in
    rw (append-nil, check_prints (check_after check what cut) lines) refl

-- a line that is printed as it is, if it is printed
as_it_is : (test : Bool) (prefix line : List ℕ)
    → (if test then prefix ++ [] else []) ++ rest_of (if test then Some 0 else None) line
    ≡ (if test then prefix ++ rest_of (Some 0) line else [])
as_it_is true prefix line = rw (append-nil prefix) refl
as_it_is false prefix line = refl

joined : (a b c d : List ℕ) → (a ++ (b ++ c)) ++ d ≡ ((a ++ b) ++ c) ++ d
joined a b c d = simp append_assoc

one_line : (convert : Convert) (line : List ℕ) (what : LineKind)
    → convert_text convert (head line) what ++ rest_of (convert_rest convert what) line
    ≡ converted convert line what
one_line convert line (LineKind.Value found) =
    joined (line_prefix convert) (take found.from (head line))
    (text_of convert (head line) found (written_of convert (head line) (LineKind.Value found)))
    (rest_of (Some found.to) line)
one_line convert line what = as_it_is (keeps convert.scan what) (line_prefix convert) line

-- `convert` prints each line with its value written anew
pub convert_prints : (convert : Convert) (lines : List (List ℕ))
    → lines_output convert_machine convert lines ≡ convert_lines convert lines
convert_prints convert [] = refl
convert_prints convert (line ∷ lines) =
    let what : LineKind = convert_line convert (head line) in
    let later = convert_prints (record convert { scan = passed convert.scan what }) lines in
    rw (one_line convert line what, later) refl
