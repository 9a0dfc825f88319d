use Rattle.std.proofs.Common.{◌≡◌, ◌++◌, take, length}
use Rattle.std.specs.Prelude.{decimal, codes, All}
use Rattle.std.specs.List.{flat_map}
use Rattle.std.specs.String.{string_bytes}
use Rattle.bpf_isa.specs.Numeric.{packed_text, IsPacked}
use Rattle.bpf_isa.proofs.numeric.writing.write_numeric.Given as goal

abbrev pub invariant-loop-insn : goal.invariant-loop-insn
invariant-loop-insn l = record {
  text : string_bytes l.text ≡ decimal (length l.insns) ++ codes "," ++ flat_map packed_text (take l.insn-index l.insns);
  fits : All IsPacked (take l.insn-index l.insns);
}
