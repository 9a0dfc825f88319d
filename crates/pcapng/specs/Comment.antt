-- A comment, as contracts see it.
use Rattle.std.specs.Prelude.{ℕ, List, Option}
use Rattle.std.specs.Option.{option_map}
use Rattle.pcapng.specs.declared.comment.Comment.{Comment}

-- its text
abbrev pub comment_text : Comment → List ℕ
comment_text comment = comment.text.now

-- the text of a packet's comment, where it has one
abbrev pub text_of : Option Comment → Option (List ℕ)
text_of comment = option_map comment_text comment
