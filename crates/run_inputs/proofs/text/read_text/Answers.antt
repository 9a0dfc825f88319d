use Rattle.std.proofs.Common.{sym, subst}
use Rattle.std.proofs.lemmas.Str.{IsUtf8-string_bytes}
use Rattle.run_inputs.specs.Text.{IsWhole}
use Rattle.run_inputs.proofs.text.read_text.Goals as goal

-- src/text.rt:76:1
pub returns-in-Ok-clause-whole : goal.returns-in-Ok-clause-whole
returns-in-Ok-clause-whole g c = (
  subst (λ bytes. IsWhole (g.S.TapSource.remaining c.args.source.now) (g.S.TapSource.remaining c.read_bytes.new.source) bytes.items)
      (sym c.in-Ok.ensures.ok) c.in_ok-bytes.ensures.whole,
  IsUtf8-string_bytes c.in-Ok.text,
)
