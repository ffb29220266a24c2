use Rattle.std.proofs.Common.{sym}
use Rattle.std.proofs.lemmas.List.Sorted.{All-permutation}
use Rattle.speedate_stream.proofs.SentLemmas.{Appends-all}
use Rattle.speedate_sort.specs.Sort.{IsPlaced}
use Rattle.speedate_sort.proofs.SortLemmas.{err_part, ok_part, texts-in_order}
use Rattle.speedate_sort.proofs.SortedEntryLemmas.{entries_whole}
use Rattle.speedate_sort.proofs.sort.KeyedLines.print.Goals as goal

pub invariant_of-self : goal.invariant_of-self
invariant_of-self g c =
    All-permutation (IsPlaced c.self.inside.text.items) _ _ c.sort_places.ensures.permutation
    c.self.invariant

pub print_places-requires : goal.print_places-requires
print_places-requires g c = record {
  within = rw (c.deref-2.ensures.value, c.deref.ensures.value)
      (All-permutation (IsPlaced c.self.inside.text.items) _ _ c.sort_places.ensures.permutation
      c.self.invariant);
}

pub invariant_of-self-then-is_err-2 : goal.invariant_of-self-then-is_err-2
invariant_of-self-then-is_err-2 g c =
    All-permutation (IsPlaced c.self.inside.text.items) _ _ c.sort_places.ensures.permutation
    c.self.invariant

pub returns-then-is_err-2-clause-write_failed : goal.returns-then-is_err-2-clause-write_failed
returns-then-is_err-2-clause-write_failed g c =
    let same = texts-in_order c.sort_places.result c.self.inside.text.items _
    c.self.inside.places.items _ _ _ c.if-is_err.ensures.value c.sort_places.ensures.sorted
    c.deref.ensures.value c.deref-2.ensures.value c.self.view_is in
    λ failed. rw same at (err_part c.print_places.result (sym c.if-is_err-2.ensures.value)
    c.print_places.ensures.printed.beginning)

pub invariant_of-self-2 : goal.invariant_of-self-2
invariant_of-self-2 g c =
    All-permutation (IsPlaced c.self.inside.text.items) _ _ c.sort_places.ensures.permutation
    c.self.invariant

pub returns-clause-sorted : goal.returns-clause-sorted
returns-clause-sorted g c =
    let same = texts-in_order c.sort_places.result c.self.inside.text.items _
    c.self.inside.places.items _ _ _ c.if-is_err.ensures.value c.sort_places.ensures.sorted
    c.deref.ensures.value c.deref-2.ensures.value c.self.view_is in
    rw same at (Appends-all (ok_part c.print_places.result (sym c.if-is_err-2.ensures.value)
    c.print_places.ensures.printed.sent))

pub returns-clause-entries : goal.returns-clause-entries
returns-clause-entries g c = λ instant lines is.
    rw (is, entries_whole instant lines) at (returns-clause-sorted g c)
