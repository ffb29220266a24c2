use Rattle.std.proofs.Common.{rules, ◌≡◌, sym, ℕ, List, drop, length}
use Rattle.speedate_sort.specs.Sort.{Place}
use Rattle.speedate_sort.proofs.SortLemmas.{lines_at-read, ok_part, unread_part}
use Rattle.speedate_sort.proofs.sort.KeyedLines.add_bare.Goals as goal

pub returns-else-is_err-clause-added : goal.returns-else-is_err-clause-added
returns-else-is_err-clause-added g c =
    let old : List ℕ = c.self.inside.text.items in
    let new : List ℕ = c.read_all.new.text.items in
    let places : List Place = c.self.inside.places.items in
    let from = c.len-from.result in
    let long : from ≡ length old = search rules in
    let no_err = sym c.if-is_err.ensures.value in
    record {
      text = drop from new;
      consumed = rw long (c.in-Ok.ensures.read);
      keys = ok_part c.place_all.result no_err c.place_all.ensures.keys;
      lines = rw (
        lines_at-read old new places c.in-Ok.ensures.kept c.self.invariant,
        c.self.view_is,
      ) at (ok_part c.place_all.result no_err c.place_all.ensures.placed);
    }

pub returns-else-is_err-2-clause-read_failed : goal.returns-else-is_err-2-clause-read_failed
returns-else-is_err-2-clause-read_failed g c =
    let old : List ℕ = c.self.inside.text.items in
    let new : List ℕ = c.read_all.new.text.items in
    let places : List Place = c.self.inside.places.items in
    let from = c.len-from.result in
    let long : from ≡ length old = search rules in
    let no_err = sym c.if-is_err-2.ensures.value in
    λ failed. record {
      text = drop from new;
      consumed = rw long
          (unread_part c.in-Err-Read.field-0 (search rules) c.in-Err-Read.ensures.read);
      keys = rw (c.deref.ensures.value) at (ok_part c.place_complete.result no_err
          c.place_complete.ensures.keys);
      lines = rw (
        c.deref.ensures.value,
        lines_at-read old new places c.in-Err-Read.ensures.kept c.self.invariant,
        c.self.view_is,
      ) at (ok_part c.place_complete.result no_err c.place_complete.ensures.placed);
    }
