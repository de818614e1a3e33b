use Rattle.std.proofs.Common.{◌≡◌, ap, ◌∙◌, arith, rules, w64, to_z, of_z}
use Rattle.std.specs.Int.{from_le_bytes}
use Rattle.ir.specs.Bitvectors.{signed}
use Rattle.records.specs.Fields.{number, inst_record}
use Rattle.records.proofs.Lookups.{byte_in}
use Rattle.records.proofs.record.Record.inst.Goals as goal

pub returns : goal.returns
unfolding number inst_record signed
returns c =
    let r = c.args.self.bytes.now in
    let b = byte_in r 8 8 c.bytes_at.result c.bytes_at.ensures in
    let n : from_le_bytes w64 c.bytes_at.result ≡ number r 8 8 =
    omega (arith, b 0 (omega arith), b 1 (omega arith), b 2 (omega arith), b 3 (omega arith), b 4 (omega arith), b 5 (omega arith), b 6 (omega arith), b 7 (omega arith)) in
    let z : c.from_le_bytes.result ≡ signed 64 (number r 8 8) = c.from_le_bytes.ensures ∙ ap (to_z w64) n in
    let imm : to_z w64 (of_z w64 c.from_le_bytes.result) ≡ signed 64 (number r 8 8) = search rules in
    cc
