use Rattle.std.proofs.Common.{◌≡◌, arith}
use Rattle.records.specs.Fields.{number, value_record}
use Rattle.records.proofs.Lookups.{byte_in}
use Rattle.records.proofs.record.Record.value.Goals as goal

pub returns : goal.returns
unfolding number value_record
returns c =
    let r = c.args.self.bytes.now in
    let b = byte_in r 12 2 c.bytes_at.result c.bytes_at.ensures in
    let packed : c.from_le_bytes-packed.result ≡ number r 12 2 = omega (arith, c.from_le_bytes-packed.ensures, b 0 (omega arith), b 1 (omega arith)) in
    cc
