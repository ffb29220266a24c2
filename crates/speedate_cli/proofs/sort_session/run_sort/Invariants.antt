use Rattle.std.proofs.Common.{◌≡◌, true}
use Rattle.speedate_scan.specs.Scan.{is_stopped}
use Rattle.speedate_cli.proofs.sort_session.run_sort.Given as goal

-- nothing is known but what was, if the run had ended before
abbrev pub invariant-loop-name : goal.invariant-loop-name
invariant-loop-name l = record {
  stopped : is_stopped l.initial.keys.scan.stop ≡ true → l.keys ≡ l.initial.keys;
}
