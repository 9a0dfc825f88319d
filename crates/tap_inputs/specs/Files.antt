-- The files of a recording that are read one after another.
use Rattle.std.specs.Prelude.{ℕ, ◌-◌, vec_len}
use Rattle.tap_inputs.specs.declared.recordings.FileList.{FileList}

-- how many of them are still to come
abbrev pub left_of : FileList → ℕ
left_of list = vec_len list.tap.now.files - list.begun
