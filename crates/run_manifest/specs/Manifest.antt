-- Which bytes may be those of a file that a manifest has (this project's profile).
use Rattle.std.specs.Prelude.{ℕ, Bool, true, ◌&&◌, ◌==◌, List, Option, Some, option_map, string_bytes}
use Rattle.std.specs.Str.{bytes_eq}
use Rattle.hex.specs.Hex.{encode_lower}
use Rattle.run_manifest.specs.declared.digesting.Sum.{Sum}
use Rattle.run_manifest.specs.declared.manifest.FileRecord.{FileRecord}

-- one digest, where both are known
abbrev pub digests_agree : Option (List ℕ) → Option (List ℕ) → Bool
digests_agree (Some own) (Some found) = bytes_eq own found
digests_agree _ _ = true

-- as many bytes, and the digest in hexadecimal where both are known
abbrev pub may_be_of : FileRecord → Sum → Bool
may_be_of file sum = (file.bytes == sum.bytes) && digests_agree (option_map string_bytes file.sha256) (option_map encode_lower sum.sha256)
