use Rattle.std.proofs.Common.{nat_eq, lit≤, w8}
use Rattle.std.proofs.lemmas.Simd.{bitmask_splat}
use Rattle.speedate_base.proofs.lines.line_feeds.Goals as goal

pub returns : goal.returns
returns c = record { marks = bitmask_splat w8 nat_eq c.args.lanes 16 10 c.fits-lanes.0 (lit≤ tt) }
