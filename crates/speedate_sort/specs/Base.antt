-- Types of `speedate_scan`.
pub use Rattle.speedate_scan.specs.declared.scan.LineKind.{LineKind}
pub use Rattle.speedate_scan.specs.declared.scan.Offsets.{Offsets}
pub use Rattle.speedate_scan.specs.declared.scan.Scan.{Scan}
pub use Rattle.speedate_scan.specs.declared.print.Prefix.{Prefix}
