-- A run of a machine says of the lines of its input what the command says of them.
use Rattle.std.proofs.Common.{ℕ, List, Option, inl, inr, subst, sym}
use Rattle.speedate.specs.Lines.{lines}
use Rattle.speedate_stream.specs.Machine.{Machine, lines_output, state_after}
use Rattle.speedate_stream.specs.Run.{Ends}
use Rattle.speedate_commands.specs.Runs.{EndsSaying}

pub ends_saying : {S : Type 0} (m : Machine S) (Says : S → List (List ℕ) → S → List ℕ → Type 0)
    (before after : S) (unread_old unread_new old new : Option (List ℕ))
    → ((all : List (List ℕ)) → Says before all (state_after m before all)
    (lines_output m before all))
    → Ends m before after unread_old unread_new old new
    → EndsSaying m Says before after unread_old unread_new old new
ends_saying m Says before after unread_old unread_new old new law ends = elim ends [
  | inl prints ↦ inl (record {
    text = prints.text;
    consumed = prints.consumed;
    ended = prints.ended;
    printed = lines_output m before (lines prints.text);
    said = subst (λ state. Says before (lines prints.text) state
        (lines_output m before (lines prints.text))) (sym prints.state) (law (lines prints.text));
    sent = prints.sent;
  })
  | inr stopped ↦ inr stopped
]
