-- Reports of lines before which others were not read.
use Rattle.std.proofs.Common.{◌≡◌, refl, ℕ, zero, suc, ◌<◌, ◌≤◌, List, [], ◌∷◌, get_or, set, arith}
use Rattle.speedate.specs.Base.{ParseError}
use Rattle.speedate_commands.specs.Base.{Report, Why}
use Rattle.speedate_commands.specs.InOrder.{later, moved}

-- what a report is read as where there is none
abbrev pub nothing : Report
nothing = record { number = 0; bad = record { place = 0; why = Why.Parse ParseError.TooShort } }

pub moved-kept : (count first skipped : ℕ) (reports : List Report) → count < first
    → moved count first skipped reports ≡ moved (suc count) first skipped reports
moved-kept count zero skipped reports before = absurd (omega (arith, before))
moved-kept zero (suc first) skipped [] before = refl
moved-kept zero (suc first) skipped (report ∷ reports) before = refl
moved-kept (suc count) (suc first) skipped [] before = refl
moved-kept (suc count) (suc first) skipped (report ∷ reports) before =
    rw (moved-kept count first skipped reports (omega (arith, before))) refl

pub moved-next : (count first skipped : ℕ) (reports : List Report) (d : Report) → first ≤ count
    → set (moved count first skipped reports) count
    (later skipped (get_or (moved count first skipped reports) count d))
    ≡ moved (suc count) first skipped reports
moved-next zero first skipped [] d from = refl
moved-next zero zero skipped (report ∷ reports) d from = refl
moved-next zero (suc first) skipped (report ∷ reports) d from = absurd (omega (arith, from))
moved-next (suc count) first skipped [] d from = refl
moved-next (suc count) zero skipped (report ∷ reports) d from =
    rw (moved-next count zero skipped reports d (omega arith)) refl
moved-next (suc count) (suc first) skipped (report ∷ reports) d from =
    rw (moved-next count first skipped reports d (omega (arith, from))) refl
