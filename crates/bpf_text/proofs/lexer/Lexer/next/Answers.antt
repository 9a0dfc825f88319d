use Rattle.std.proofs.Common.{◌≡◌, ◌∷◌, ◌+◌, true, false, ap, sym, ◌∙◌, drop}
use Rattle.std.specs.List.{prefix_len}
use Rattle.std.proofs.lemmas.Result.{err_from_is_err_and}
use Rattle.bpf_text.specs.Tokens.{next_token, items_at, is_word_byte, is_mark, Lexed}
use Rattle.bpf_text.specs.Views.{items, token_of}
use Rattle.bpf_text.proofs.Tokens.{next_at_end, next_word, next_mark, next_bad}
use Rattle.bpf_text.proofs.lexer.Lexer.next.Goals as goal

pub returns-in_default : goal.returns-in_default
returns-in_default c = ap next_token (sym c.skip_blanks.ensures.items) ∙ next_at_end c.skip_blanks.new.self.text.now c.skip_blanks.new.self.at c.in_default.ensures

pub returns-in_err-token : goal.returns-in_err-token
returns-in_err-token c =
    let p = err_from_is_err_and c.from_residual.result c.from_residual.ensures.1 in
    let is : is_word_byte c.in-Some.first ≡ true = cc in
    rw (p.1, p.2)
    (ap next_token (sym c.skip_blanks.ensures.items) ∙ next_word c.skip_blanks.new.self.text.now c.skip_blanks.new.self.at c.in-Some.first _ _ c.in-Some.ensures.0 c.skip_blanks.ensures.none c.in-Some.ensures.1 is c.word.ensures.word c.in_err-token.ensures)

pub returns-in_ok-token : goal.returns-in_ok-token
returns-in_ok-token c =
    let text = c.skip_blanks.new.self.text.now in
    let at = c.skip_blanks.new.self.at in
    let is : is_word_byte c.in-Some.first ≡ true = cc in
    let left : items_at text (at + prefix_len is_word_byte (drop at text)) ≡ items c.word.new.self = cc (c.word.ensures.text, c.word.ensures.at) in
    ap next_token (sym c.skip_blanks.ensures.items)
    ∙ next_word text at c.in-Some.first _ _ c.in-Some.ensures.0 c.skip_blanks.ensures.none c.in-Some.ensures.1 is c.word.ensures.word c.in_ok-token.ensures
    ∙ ap (λ is. next_token (Lexed (record { at = at; token = token_of c.in_ok-token.token }) ∷ is)) left

pub returns-then-is_mark : goal.returns-then-is_mark
returns-then-is_mark c =
    let word : is_word_byte c.in-Some.first ≡ false = cc in
    let mark : is_mark c.in-Some.first ≡ true = cc in
    ap next_token (sym c.skip_blanks.ensures.items) ∙ next_mark c.skip_blanks.new.self.text.now c.skip_blanks.new.self.at c.in-Some.first c.in-Some.ensures.0 c.skip_blanks.ensures.none c.in-Some.ensures.1 word mark

pub returns-else-is_mark : goal.returns-else-is_mark
returns-else-is_mark c =
    let word : is_word_byte c.in-Some.first ≡ false = cc in
    let mark : is_mark c.in-Some.first ≡ false = cc in
    ap next_token (sym c.skip_blanks.ensures.items) ∙ next_bad c.skip_blanks.new.self.text.now c.skip_blanks.new.self.at c.in-Some.first c.in-Some.ensures.0 c.skip_blanks.ensures.none c.in-Some.ensures.1 word mark
