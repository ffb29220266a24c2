-- A run over files, one after the other.
use Rattle.std.proofs.Common.{◌≡◌, ℕ, List, [], ◌∷◌, true, inl, Option, Result, Ok, Err, OnOk, refl, subst}
use Rattle.std.specs.Borrow.{Bor}
use Rattle.speedate_stream.specs.Machine.{Machine}
use Rattle.speedate_stream.specs.Run.{PrintsBeginning, PrintsProgress}
use Rattle.speedate_stream.specs.declared.run.RunError.{RunError}
use Rattle.speedate_scan.specs.declared.scan.Scan.{Scan}
use Rattle.speedate_commands.specs.declared.command.About.{About}
use Rattle.speedate_commands.specs.Runs.{EndsSaying}
use Rattle.speedate_cli.specs.Files.{Prints, RunsFiles, is_over}

module _ {S : Type 0} (machine : Machine S) (scan : S → Scan) (begun : S → Bor (List ℕ) → S)
    (Says : S → List (List ℕ) → S → List ℕ → Type 0) (about : S → About) where
  -- what was printed of a file, by which end failed, if one did
  prints_by : (result : Result (Unit {0}) RunError) (before after : S)
      (unread rest old new : Option (List ℕ))
      → OnOk result (EndsSaying machine Says before after unread rest old new)
      → (result ≡ Err RunError.Read → PrintsProgress machine before after unread rest old new)
      → (result ≡ Err RunError.Write → PrintsBeginning machine before unread rest old new)
      → Prints machine scan begun Says about result before after unread rest old new
  prints_by (Ok done) before after unread rest old new ended read write = ended
  prints_by (Err RunError.Read) before after unread rest old new ended read write = read refl
  prints_by (Err RunError.Write) before after unread rest old new ended read write = write refl

  pub prints_from : (result : Result (Unit {0}) RunError) (before after : S)
      (unread given rest old new : Option (List ℕ)) → given ≡ unread
      → OnOk result (EndsSaying machine Says before after given rest old new)
      → (result ≡ Err RunError.Read → PrintsProgress machine before after given rest old new)
      → (result ≡ Err RunError.Write → PrintsBeginning machine before given rest old new)
      → Prints machine scan begun Says about result before after unread rest old new
  prints_from result before after unread given rest old new same ended read write =
      subst (λ (from : Option (List ℕ)).
      Prints machine scan begun Says about result before after from rest old new) same
      (prints_by result before after given rest old new ended read write)

  -- a run that is over opens no further file
  pub runs_none : (contents : List ℕ → Option (List ℕ)) (names : List (Bor (List ℕ))) (state : S)
      (sent : Option (List ℕ)) (status : ℕ)
      → is_over machine scan begun Says about state status ≡ true
      → RunsFiles machine scan begun Says about contents names state state sent sent status status
  runs_none contents [] state sent status over = (refl, (refl, refl))
  runs_none contents (name ∷ names) state sent status over = inl (over, (refl, (refl, refl)))
