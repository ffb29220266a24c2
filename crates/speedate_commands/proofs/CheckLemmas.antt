-- What `check` does with a line where no values are compared and all fit.
use Rattle.std.proofs.Common.{◌≡◌, ◌∙◌, ℕ, ℤ, ◌++◌, Bool, true, false, List, [], refl, sym, ap, append-nil, if◌then◌else◌, arith}
use Rattle.std.proofs.lemmas.Bool.{and_parts, true≢false}
use Rattle.std.specs.Prelude.{Option, Some, None, is_some, int_lt, ◌&&◌, ◌||◌}
use Rattle.speedate_scan.specs.Scan.{bad_of, counted, first_after, first_found, is_found}
use Rattle.speedate_scan.specs.Scan.{is_stopped, line_of, passed, settled, valued}
use Rattle.speedate_scan.specs.declared.scan.First.{First}
use Rattle.speedate_commands.specs.Base.{Bad, Found, LineKind, Offsets, Scan}
use Rattle.speedate_commands.specs.Check.{Check, bad_report, check_after, check_machine, compares}
use Rattle.speedate_commands.specs.Check.{cut_value, is_after_gap, is_plain, line_text, takes_any}
use Rattle.speedate_commands.specs.Check.{value_report}
use Rattle.speedate_commands.specs.Order.{Latest}
use Rattle.speedate_commands.proofs.KindLemmas.{MayBe, line_of_may}

-- What is plain.

-- no values are compared, all fit, the first one came, and the run goes on
record IsPlain (check : Check) : Type 0 where
  alone : compares check ≡ false
  any : takes_any check.order.scan.offsets ≡ true
  came : is_found check.order.scan.first ≡ true
  goes_on : is_stopped check.order.scan.stop ≡ false

plain : (check : Check) → is_plain check ≡ true → IsPlain check
plain check is =
    record {
      alone = grind (arith, is);
      any = grind (arith, is);
      came = grind (arith, is);
      goes_on = grind (arith, is);
    }

any_of : (offsets : Offsets) → takes_any offsets ≡ true → offsets ≡ Offsets.Any
any_of Offsets.Any is = refl
any_of offsets is = cc

pub plain_offsets : (check : Check) → is_plain check ≡ true
    → check.order.scan.offsets ≡ Offsets.Any
plain_offsets check is = any_of check.order.scan.offsets (plain check is).any

-- What is said of a value by itself, which is nothing.

no_report : (late : Bool) (gap : Option ℤ) (instant : ℤ) (latest : Latest) (first second : List ℕ)
    → (late || is_some gap) ≡ false
    → (if late && int_lt instant latest.instant then first
    else if is_after_gap gap instant (Some latest) then second else []) ≡ []
no_report late gap instant latest first second is = grind arith

no_value_report : (check : Check) (instant : ℤ) (latest : Option Latest) → compares check ≡ false
    → value_report check instant latest ≡ []
no_value_report check instant None is = refl
no_value_report check instant (Some latest) is =
    no_report check.reports_late check.gap instant latest _ _ is

-- nothing is said of a line that is not bad
silent : (check : Check) (line : LineKind) → compares check ≡ false → bad_of line ≡ None
    → line_text check line ≡ []
silent check (LineKind.Value found) is none =
    no_value_report check found.instant check.order.latest is
silent check (LineKind.Bad bad) is none = cc
silent check line is none = refl

-- no value is compared of which only the digits are bad
no_cut : (check : Check) (head : List ℕ) (line : LineKind) → compares check ≡ false
    → cut_value check head line ≡ None
no_cut check head line is = rw is refl

pub plain_text : (check : Check) (line items : List ℕ) → is_plain check ≡ true
    → bad_of (line_of check.order.scan line) ≡ None
    → items ≡ items ++ check_machine.text check line
plain_text check line items is none =
    let what : LineKind = line_of check.order.scan line in
    let parts = plain check is in
    rw (no_cut check line what parts.alone, silent check what parts.alone none)
    (sym (append-nil items))

-- a line about which something is bad is a bad one
bad_line : (line : LineKind) (bad : Bad) → bad_of line ≡ Some bad → LineKind.Bad bad ≡ line
bad_line (LineKind.Bad other) bad is = cc
bad_line line bad is = cc

pub plain_bad_text : (check : Check) (line items : List ℕ) (bad : Bad) → is_plain check ≡ true
    → bad_of (line_of check.order.scan line) ≡ Some bad
    → items ++ bad_report check.order.scan bad ≡ items ++ check_machine.text check line
plain_bad_text check line items bad is found =
    let what : LineKind = line_of check.order.scan line in
    rw (no_cut check line what (plain check is).alone, ← bad_line what bad found, append-nil) refl

-- What is known after a line.

-- once the first value has come, nothing changes what is known of it
found_stays : (first : First) → is_found first ≡ true → first_found first ≡ first
found_stays first came =
    let parts = and_parts first.has_value first.has_entry came in
    λ i. record first { has_value = sym parts.0 i; has_entry = sym parts.1 i }

undated_stays : (first : First) → is_found first ≡ true → first_after first LineKind.Undated ≡ first
undated_stays first came = rw (and_parts first.has_value first.has_entry came).1 refl

any_stays : (scan : Scan) (found : Found) → scan.offsets ≡ Offsets.Any
    → is_found scan.first ≡ true
    → counted scan ≡ record (valued scan) { offsets = settled scan.offsets found }
any_stays scan found any came =
    rw (found_stays scan.first came)
    (ap (λ (offsets : Offsets). record (counted scan) { offsets = offsets })
    (any ∙ ap (λ (offsets : Offsets). settled offsets found) (sym any)))

-- a line that is not bad is counted, and no more
line_passed : (check : Check) (line : LineKind) → IsPlain check → MayBe check.order.scan line
    → bad_of line ≡ None → counted check.order.scan ≡ passed check.order.scan line
unfolding passed
line_passed check (LineKind.Value found) is may none =
    any_stays check.order.scan found (any_of check.order.scan.offsets is.any) is.came
line_passed check (LineKind.Bad bad) is may none = cc
line_passed check LineKind.Late is may none = absurd (true≢false (sym may ∙ is.goes_on))
line_passed check LineKind.Header is may none = refl
line_passed check LineKind.Unfit is may none = absurd (true≢false (sym is.any ∙ may))
line_passed check LineKind.Undated is may none =
    ap (λ (first : First). record (counted check.order.scan) { first = first })
    (sym (undated_stays check.order.scan.first is.came))

abbrev with_scan : Check → Scan → Check
with_scan check scan = record check { order = record check.order { scan = scan } }

line_after : (check : Check) (line : LineKind) (cut : Option Found) → compares check ≡ false
    → with_scan check (passed check.order.scan line) ≡ check_after check line cut
line_after check line cut is = rw is refl

pub plain_after : (check : Check) (line : List ℕ) → is_plain check ≡ true
    → bad_of (line_of check.order.scan line) ≡ None
    → with_scan check (counted check.order.scan) ≡ check_machine.after check line
plain_after check line is none =
    let parts = plain check is in
    let what : LineKind = line_of check.order.scan line in
    ap (with_scan check) (line_passed check what parts (line_of_may check.order.scan line) none)
    ∙ line_after check what (cut_value check line what) parts.alone

pub plain_bad_after : (check : Check) (line : List ℕ) (bad : Bad) → is_plain check ≡ true
    → bad_of (line_of check.order.scan line) ≡ Some bad
    → with_scan check (passed check.order.scan (LineKind.Bad bad)) ≡ check_machine.after check line
plain_bad_after check line bad is found =
    let what : LineKind = line_of check.order.scan line in
    ap (λ (one : LineKind). with_scan check (passed check.order.scan one)) (bad_line what bad found)
    ∙ line_after check what (cut_value check line what) (plain check is).alone
