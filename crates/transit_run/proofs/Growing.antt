-- Calls that add lines, one after the other.
use Rattle.std.proofs.Common.{◌≡◌, ℕ, List, [], ◌∷◌, ◌++◌, flat_map, refl, sym, ap, ◌∙◌, subst, append_assoc}
use Rattle.std.proofs.lemmas.List.{append-nil}
use Rattle.transit_run.specs.Counts.{IsCountOf}
use Rattle.transit_run.specs.Ledger.{Adds, Grows, IsEmpty}
use Rattle.transit_run.specs.Line.{line_text, lines_text}
use Rattle.transit_run.specs.declared.counts.Counts.{Counts}
use Rattle.transit_run.specs.declared.ledger.Ledger.{Ledger}
use Rattle.transit_run.specs.declared.line.Line.{Line}

pub adds_none : (old new : Ledger) → new.text.items ≡ old.text.items →
    ((lines : List Line) → IsCountOf old.counts lines → IsCountOf new.counts lines) → Adds old new []
adds_none old new text counts = record {
  text = text ∙ sym (append-nil old.text.items);
  counts = λ lines h. subst (λ (all : List Line). IsCountOf new.counts all) (sym (append-nil lines)) (counts lines h);
}

pub adds_one : (old new : Ledger) (line : Line) → new.text.items ≡ old.text.items ++ line_text line →
    ((lines : List Line) → IsCountOf old.counts lines → IsCountOf new.counts (lines ++ line ∷ [])) → Adds old new (line ∷ [])
adds_one old new line text counts = record {
  text = text ∙ ap (λ (bytes : List ℕ). old.text.items ++ bytes) (sym (append-nil (line_text line)));
  counts = counts;
}

lines_append : (one two : List Line) → lines_text (one ++ two) ≡ lines_text one ++ lines_text two
lines_append [] two = refl
lines_append (line ∷ one) two =
    ap (λ (bytes : List ℕ). line_text line ++ bytes) (lines_append one two) ∙ sym (append_assoc (line_text line) (lines_text one) (lines_text two))

pub adds_then : (a b c : Ledger) (one two : List Line) → Adds a b one → Adds b c two → Adds a c (one ++ two)
adds_then a b c one two s t = record {
  text = t.text ∙ ap (λ (bytes : List ℕ). bytes ++ lines_text two) s.text
      ∙ append_assoc a.text.items (lines_text one) (lines_text two)
      ∙ ap (λ (bytes : List ℕ). a.text.items ++ bytes) (sym (lines_append one two));
  counts = λ lines h. subst (λ (all : List Line). IsCountOf c.counts all) (append_assoc lines one two) (t.counts (lines ++ one) (s.counts lines h));
}

pub grows_not : (a : Ledger) → Grows a a
grows_not a = record { more = []; adds = adds_none a a refl (λ lines h. h) }

pub grows_by : (a b : Ledger) (more : List Line) → Adds a b more → Grows a b
grows_by a b lines s = record { more = lines; adds = s }

pub grows_then : (a b c : Ledger) → Grows a b → Grows b c → Grows a c
grows_then a b c s t = record { more = s.more ++ t.more; adds = adds_then a b c s.more t.more s.adds t.adds }

pub empty_still : (a b : Ledger) → IsEmpty a → Adds a b [] → IsEmpty b
empty_still a b s t = record { text = t.text ∙ append-nil a.text.items ∙ s.text; counts = t.counts [] s.counts }
