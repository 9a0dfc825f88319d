-- The texts up to the index hold the filters that were appended.
use Rattle.std.proofs.Common.{◌≡◌, ◌+◌, ◌++◌, List, map, string_bytes, take, vec_capacity, vec_len}
use Rattle.bpf_isa.specs.declared.packed.Packed.{Packed}
use Rattle.run_inputs.specs.Inputs.{AreFilters}
use Rattle.run_inputs.proofs.inputs.load_table_filters.Given as goal

abbrev pub invariant-loop-index : goal.invariant-loop-index
invariant-loop-index l = record {
  filters : (ps : List (List Packed)) × AreFilters (map string_bytes (take l.index l.texts)) ps × (l.programs.items ≡ l.fn.programs.items ++ ps);
  len : vec_len l.programs ≡ vec_len l.fn.programs + l.index;
  capacity : vec_capacity l.programs ≡ vec_capacity l.fn.programs;
}
