use Rattle.std.proofs.Common.{ap, sym, arith}
use Rattle.std.proofs.lemmas.Bool.Decides.{nat_tests}
use Rattle.bpf_text.specs.Keywords.{keywords, with_first}
use Rattle.bpf_text.proofs.Keywords.{no_keyword_with}
use Rattle.bpf_text.proofs.keyword.keywords_with.Goals as goal

pub returns-in-97 : goal.returns-in-97
unfolding keywords
returns-in-97 c = ap (λ l. with_first l keywords) (sym c.in-97.is)

pub returns-in-100 : goal.returns-in-100
unfolding keywords
returns-in-100 c = ap (λ l. with_first l keywords) (sym c.in-100.is)

pub returns-in-106 : goal.returns-in-106
unfolding keywords
returns-in-106 c = ap (λ l. with_first l keywords) (sym c.in-106.is)

pub returns-in-108 : goal.returns-in-108
unfolding keywords
returns-in-108 c = ap (λ l. with_first l keywords) (sym c.in-108.is)

pub returns-in-109 : goal.returns-in-109
unfolding keywords
returns-in-109 c = ap (λ l. with_first l keywords) (sym c.in-109.is)

pub returns-in-110 : goal.returns-in-110
unfolding keywords
returns-in-110 c = ap (λ l. with_first l keywords) (sym c.in-110.is)

pub returns-in-111 : goal.returns-in-111
unfolding keywords
returns-in-111 c = ap (λ l. with_first l keywords) (sym c.in-111.is)

pub returns-in-114 : goal.returns-in-114
unfolding keywords
returns-in-114 c = ap (λ l. with_first l keywords) (sym c.in-114.is)

pub returns-in-115 : goal.returns-in-115
unfolding keywords
returns-in-115 c = ap (λ l. with_first l keywords) (sym c.in-115.is)

pub returns-in-116 : goal.returns-in-116
unfolding keywords
returns-in-116 c = ap (λ l. with_first l keywords) (sym c.in-116.is)

pub returns-in-120 : goal.returns-in-120
unfolding keywords
returns-in-120 c = ap (λ l. with_first l keywords) (sym c.in-120.is)

pub returns-in_default : goal.returns-in_default
returns-in_default c = sym (no_keyword_with c.args.first (grind (arith, nat_tests)))
