use Rattle.std.proofs.Common.{sym, refl, true}
use Rattle.speedate_civil.proofs.OffsetLemmas.{none-read, utc-read}
use Rattle.speedate_civil.proofs.time.offset.unsigned_offset.Goals as goal

pub returns-then-is_utc-clause-offset : goal.returns-then-is_utc-clause-offset
returns-then-is_utc-clause-offset c =
    utc-read true c.args.bytes.now c.args.place _ c.byte_at-first.ensures.byte
    (sym c.if-is_utc.ensures.value)

pub returns-clause-offset : goal.returns-clause-offset
returns-clause-offset c =
    none-read true c.args.bytes.now c.args.place _ c.byte_at-first.ensures.byte
    (sym c.if-is_sign.ensures.value)
    (sym c.if-is_utc.ensures.value) c.if-first.false refl
