use Rattle.std.proofs.Common.{rules, ◌<◌, ◌++◌, ◌+◌, ℕ, List, Option, drop, get_or, length, refl}
use Rattle.std.proofs.Math.Bool.{or-false}
use Rattle.speedate_stream.specs.Run.{AppendsBut}
use Rattle.speedate_stream.proofs.SentLemmas.{AppendsBut-more, AppendsBut-same, AppendsBut-trans}
use Rattle.speedate_stream.proofs.SentLemmas.{OnlyWrites-failed}
use Rattle.speedate_sort.specs.Sort.{Place, lines_at, part, texts}
use Rattle.speedate_sort.proofs.SortLemmas.{OnlyWrites-after, left-end, left-step}
use Rattle.speedate_sort.proofs.sort.write_places.Goals as goal

abbrev text_at : List ℕ → List Place → List ℕ
text_at text places = texts (lines_at text places)

-- the line at the next place is left to be written, and then the lines at the others
next : {a b : Option (List ℕ)} {bytes : List ℕ} (text : List ℕ) (places : List Place)
    (index : ℕ) (default : Place) (waiting : List ℕ) → index < length places
    → AppendsBut (waiting ++ text_at text (drop index places)) a b bytes
    → AppendsBut ((waiting
    ++ part text (get_or places index default).from (get_or places index default).to)
    ++ text_at text (drop (index + 1) places)) a b bytes
next text places index default waiting below sent =
    AppendsBut-same sent (left-step (λ place. part text place.from place.to) (text_at text)
    (λ x xs. refl) waiting places index default below)

pub returns-in_err-pass : goal.returns-in_err-pass
returns-in_err-pass g c =
    let before = c.loop-place.invariant in
    let index = c.loop-place.place-index in
    record {
      sent = OnlyWrites-failed (text_at c.args.text.now (drop (index + 1) c.args.places.now)) _
          (search rules)
          (next c.args.text.now c.args.places.now index _ c.loop-place.pending.items
          c.loop-place-test.true before.sent)
          before.failed before.unflushed c.in_err-pass.ensures.sent;
    }

pub loop-place-preserved : goal.loop-place-preserved
loop-place-preserved g c =
    let index = c.loop-place.place-index in
    record {
      sent = AppendsBut-trans
          (next c.args.text.now c.args.places.now index _ c.loop-place.pending.items
          c.loop-place-test.true c.loop-place.invariant.sent)
          (AppendsBut-more (text_at c.args.text.now (drop (index + 1) c.args.places.now))
          c.in_ok-pass.ensures.sent.writes.sent);
      failed = search (rules, or-false);
      unflushed = search rules;
    }

pub returns : goal.returns
returns g c =
    let before = c.loop-place.invariant in
    let left = left-end (text_at c.args.text.now) refl c.loop-place.pending.items
    c.args.places.now c.loop-place.place-index c.loop-place-test.false in
    record {
      sent = OnlyWrites-after before.failed before.unflushed (AppendsBut-same before.sent left)
          c.send.ensures.sent;
    }
