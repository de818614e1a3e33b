use Rattle.ir.proofs.OneToOne.{opcode_codes, intcc_codes, type_bits_lem, cause_numbers}
use Rattle.ir.proofs.codes.codes_stand.Goals as goal

pub returns : goal.returns
returns c = record { opcodes = opcode_codes; conditions = intcc_codes; types = type_bits_lem; causes = cause_numbers }
