-- The errors of `speedate_base`, its configurations, and what these choose: this crate and those
-- above it take them from here.
pub use Rattle.speedate_base.specs.declared.faults.ParseError.{ParseError}
pub use Rattle.speedate_base.specs.declared.faults.config_error.ConfigError.{ConfigError}
pub use Rattle.speedate_base.specs.declared.faults.expected.CallKind.{CallKind}
pub use Rattle.speedate_base.specs.declared.config.MicrosecondsPrecisionOverflowBehavior.{
  MicrosecondsPrecisionOverflowBehavior as Behavior,
}
pub use Rattle.speedate_base.specs.declared.config.TimestampUnit.{TimestampUnit}
pub use Rattle.speedate_base.specs.declared.config.IsoOrder.{IsoOrder}
pub use Rattle.speedate_base.specs.declared.config.DateConfig.{DateConfig}
pub use Rattle.speedate_base.specs.declared.config.TimeConfig.{TimeConfig}
pub use Rattle.speedate_base.specs.declared.config.date_time.DateTimeConfig.{DateTimeConfig}
