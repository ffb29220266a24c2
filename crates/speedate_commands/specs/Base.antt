-- Types of `speedate_scan`.
pub use Rattle.speedate_scan.specs.declared.reading.Bad.{Bad}
pub use Rattle.speedate_scan.specs.declared.reading.Found.{Found}
pub use Rattle.speedate_scan.specs.declared.reading.Reader.{Reader}
pub use Rattle.speedate_scan.specs.declared.reading.Reading.{Reading}
pub use Rattle.speedate_scan.specs.declared.reading.Why.{Why}
pub use Rattle.speedate_scan.specs.declared.form.Form.{Form}
pub use Rattle.speedate_scan.specs.declared.scan.LineKind.{LineKind}
pub use Rattle.speedate_scan.specs.declared.scan.Offsets.{Offsets}
pub use Rattle.speedate_scan.specs.declared.scan.Report.{Report}
pub use Rattle.speedate_scan.specs.declared.scan.Scan.{Scan}
pub use Rattle.speedate_scan.specs.declared.scan.Stop.{Stop}
pub use Rattle.speedate_scan.specs.declared.scan.UndatedLines.{UndatedLines}
pub use Rattle.speedate_scan.specs.declared.print.Prefix.{Prefix}
