-- The bytes that a device over memory holds, and where it stands in its script.
use Rattle.std.specs.Prelude.{ℕ, min, List, length}
use Rattle.pcap_io.specs.declared.script.ScriptState.{ScriptState}

-- a source: the bytes that it has left
pub record Supply : Type 0 where
  pub rest : List ℕ
  pub state : ScriptState

-- a sink: the bytes that it took
pub record Store : Type 0 where
  pub bytes : List ℕ
  pub state : ScriptState

-- how many bytes a read into the buffer asks for: no more than there are
abbrev pub asked : Supply → List ℕ → ℕ
asked s buffer = min (length buffer) (length s.rest)
