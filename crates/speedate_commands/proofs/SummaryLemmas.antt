-- A run of `summary` adds its lines up, and prints none.
use Rattle.std.proofs.Common.{◌≡◌, ℕ, List, [], ◌∷◌, refl}
use Rattle.speedate_stream.specs.Machine.{head, lines_output, state_after}
use Rattle.speedate_scan.specs.Scan.{line_of}
use Rattle.speedate_commands.specs.Summary.{Summary, summary_after, summary_machine, summary_of}

pub summary_adds : (summary : Summary) (all : List (List ℕ))
    → state_after summary_machine summary all ≡ summary_of summary all
summary_adds summary [] = refl
summary_adds summary (line ∷ others) =
    summary_adds (summary_after summary (line_of summary.order.scan (head line))) others

pub summary_prints_none : (summary : Summary) (all : List (List ℕ))
    → lines_output summary_machine summary all ≡ []
summary_prints_none summary [] = refl
summary_prints_none summary (line ∷ others) =
    summary_prints_none (summary_after summary (line_of summary.order.scan (head line))) others
