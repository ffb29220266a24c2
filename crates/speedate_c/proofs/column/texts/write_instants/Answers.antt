use Rattle.std.proofs.Common.{rules, ◌≡◌, SFits, w32, to_z, of_z, arith}
use Rattle.std.proofs.lemmas.Int.{ints}
use Rattle.speedate.specs.Column.{date_time_number, date_time_place}
use Rattle.speedate.specs.ColumnText.{least_of_64_bits}
use Rattle.speedate.specs.Config.{choices}
use Rattle.speedate_c.specs.Column.{date_time_call, date_time_number_by}
use Rattle.speedate_c.proofs.ColumnCallLemmas.{IsTextsCall-same}
use Rattle.speedate_c.proofs.column.texts.write_instants.Goals as goal

pub returns : goal.returns
returns c =
    let chosen = choices c.args.config.now in
    let column = c.args.column.now in
    let reader = c.date_time_reader-reader.result in
    let code_fits : SFits w32 c.write_texts.result = search rules in
    let code : c.write_texts.result ≡ to_z w32 (of_z w32 c.write_texts.result) =
    omega (arith, ints) in
    record {
      texts =
          IsTextsCall-same
          (date_time_call (date_time_number_by chosen column) chosen column.parser)
          (date_time_number reader) (date_time_place reader.parser)
          c.date_time_kind-kind.result column least_of_64_bits c.args.bytes.now
          c.args.offsets.now c.args.out.now c.write_texts.new.out c.args.errors.now
          c.write_texts.new.errors c.args.progress.now c.write_texts.new.progress
          c.write_texts.result (to_z w32 (of_z w32 c.write_texts.result))
          c.date_time_reader-reader.ensures.reads c.date_time_reader-reader.ensures.places
          c.date_time_kind-kind.ensures.kind code c.write_texts.ensures.texts;
    }
