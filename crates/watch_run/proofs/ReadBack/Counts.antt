-- The lines of counts.
use Rattle.std.proofs.Common.{◌≡◌, ◌∙◌, ℕ, zero, suc, ◌+◌, ◌^◌, ◌<◌, ◌≤◌, Bool, true, ◌&&◌, IsTrue, nat_lt, nat_le, leb-true, ltb-true, List, [], ◌∷◌, ◌++◌, length, take, codes, refl, sym, ap, arith, append_assoc, length-take}
use Rattle.std.specs.Fmt.{decimal}
use Rattle.std.specs.List.{AllByRecursion, count_by, filter, list_all}
use Rattle.std.proofs.lemmas.Bool.Decides.{nat_tests}
use Rattle.std.proofs.lemmas.List.Sums.{count_by-le-length, length-filter}
use Rattle.ledger_text.proofs.Decimals.{both_true, first_true, second_true}
use Rattle.ledger_text.specs.Fields.{fields_of, first_field}
use Rattle.ledger_text.specs.Order.{IsCounts, counts_word}
use Rattle.ledger_text.specs.declared.bounds.TheConstants.{BLOCK_LEN}
use Rattle.ledger_text.specs.declared.order.Counts.{Counts}
use Rattle.ledger_text.specs.declared.order.Counts.TheVariants.{Link, Filter, Tap, Total}
use Rattle.pcap_io.specs.Word.{frames_before, reason_word}
use Rattle.pcap_io.specs.declared.recording.BadReason.{BadReason}
use Rattle.pcap_io.specs.declared.recording.BadReason.TheVariants as reason
use Rattle.pcap_io.specs.declared.recording.Ending.{Ending}
use Rattle.pcap_io.specs.declared.recording.Ending.TheVariants as ending
use Rattle.afdx_frame.specs.Frame.{network_letter}
use Rattle.afdx_frame.specs.declared.key.Network.{Network}
use Rattle.verdict_ledger.specs.Entry.{Entry}
use Rattle.verdict_ledger.specs.Tally.{counts_of, is_entry_of, link_counts, totals_of}
use Rattle.verdict_ledger.specs.Text.{classes_text, count_field, ending_text, filter_line, judged_text, link_line, number_field, tap_line, total_line, word_field}
use Rattle.vl_config.specs.Link.{VirtualLink, is_name, is_name_byte}
use Rattle.watch_run.proofs.ReadBack.Texts.{IsPart, is_plain, join_parts, letter_part, number_part, word_part}
use Rattle.watch_run.specs.ReadBack.{IsNamed}

-- the bytes are a text of at most so many, and a newline
pub record IsEnded (most : ℕ) (bytes : List ℕ) : Type 0 where
  pub text : List ℕ
  pub is : bytes ≡ text ++ 10 ∷ []
  pub part : IsPart most text

-- a line of counts of this kind, and its newline
pub record IsCountsLine (kind : Counts) (bytes : List ℕ) : Type 0 where
  pub text : List ℕ
  pub is : bytes ≡ text ++ 10 ∷ []
  pub plain : is_plain text ≡ true
  pub short : length text < BLOCK_LEN
  pub stands : IsCounts text kind

newline : IsEnded 0 (codes "\n")
newline = record { text = []; is = refl; part = word_part 0 [] refl refl }

more : (m n : ℕ) (xs ys : List ℕ) → IsPart m xs → IsEnded n ys → IsEnded (m + n) (xs ++ ys)
more m n xs ys p q = record {
  text = xs ++ q.text;
  is = ap (λ (l : List ℕ). xs ++ l) q.is ∙ sym (append_assoc xs q.text (10 ∷ []));
  part = join_parts m n xs q.text p q.part;
}

-- ---- fields

-- the first field is the word
first_word : (kind : Counts) (rest : List ℕ) → counts_word kind ≡ first_field (fields_of (counts_word kind ++ 32 ∷ rest))
first_word Link rest = refl
first_word Filter rest = refl
first_word Tap rest = refl
first_word Total rest = refl

word_of : (kind : Counts) → IsPart 6 (counts_word kind)
word_of Link = word_part 6 _ refl refl
word_of Filter = word_part 6 _ refl refl
word_of Tap = word_part 6 _ refl refl
word_of Total = word_part 6 _ refl refl

-- a line of a word, a space, and what follows it
begins : (kind : Counts) (m n : ℕ) (xs ys : List ℕ) → IsPart m xs → IsEnded n ys → nat_lt (m + n) 65000 ≡ true
    → IsCountsLine kind (counts_word kind ++ ((32 ∷ xs) ++ ys))
begins kind m n xs ys p q few =
    let rest : IsPart (1 + (m + n)) ((32 ∷ []) ++ (xs ++ q.text)) = join_parts 1 (m + n) (32 ∷ []) (xs ++ q.text) (word_part 1 _ refl refl) (join_parts m n xs q.text p q.part) in
    let all : IsPart (6 + (1 + (m + n))) (counts_word kind ++ 32 ∷ (xs ++ q.text)) = join_parts 6 (1 + (m + n)) (counts_word kind) (32 ∷ (xs ++ q.text)) (word_of kind) rest in
    let bound : m + n < 65000 = ltb-true (m + n) 65000 few in
    record {
      text = counts_word kind ++ 32 ∷ (xs ++ q.text);
      is = ap (λ (l : List ℕ). counts_word kind ++ 32 ∷ (xs ++ l)) q.is
          ∙ ap (λ (l : List ℕ). counts_word kind ++ 32 ∷ l) (sym (append_assoc xs q.text (10 ∷ [])))
          ∙ sym (append_assoc (counts_word kind) (32 ∷ (xs ++ q.text)) (10 ∷ []));
      plain = all.plain;
      short = omega (arith, all.few, bound);
      stands = first_word kind (xs ++ q.text);
    }

spaced : (m : ℕ) (xs : List ℕ) → IsPart m xs → IsPart (1 + m) (word_field xs)
spaced m xs p = join_parts 1 m (codes " ") xs (word_part 1 _ refl refl) p

-- a word of at most 14 letters, and a count
field : (word : List ℕ) (n : ℕ) → IsPart 14 word → n < 2 ^ 64 → IsPart 35 (count_field word n)
unfolding count_field
field word n p few = join_parts 14 21 word (number_field n) p (spaced 20 (decimal n) (number_part n few))

judged : (toolong excess out copy delivered : ℕ) → toolong < 2 ^ 64 → excess < 2 ^ 64 → out < 2 ^ 64 → copy < 2 ^ 64 → delivered < 2 ^ 64
    → IsEnded 175 (judged_text toolong excess out copy delivered)
unfolding judged_text
judged toolong excess out copy delivered a b d e f =
    more 35 140 _ _ (field _ toolong (word_part 14 _ refl refl) a)
    (more 35 105 _ _ (field _ excess (word_part 14 _ refl refl) b)
    (more 35 70 _ _ (field _ out (word_part 14 _ refl refl) d)
    (more 35 35 _ _ (field _ copy (word_part 14 _ refl refl) e)
    (more 35 0 _ _ (field _ delivered (word_part 14 _ refl refl) f) newline))))

-- ---- counts of entries

few_of : (p : Entry → Bool) (entries : List Entry) → length entries < 2 ^ 64 → count_by p entries < 2 ^ 64
few_of p entries few = omega (arith, count_by-le-length p entries, few)

few_kept : (p : Entry → Bool) (entries : List Entry) → length entries < 2 ^ 64 → length (filter p entries) < 2 ^ 64
few_kept p entries few = omega (arith, length-filter p entries, few_of p entries few)

-- ---- the line of a link

name_plain : (xs : List ℕ) → list_all is_name_byte xs ≡ true → is_plain xs ≡ true
name_plain [] h = refl
name_plain (x ∷ xs) h = both_true (nat_lt 31 x) (is_plain xs) (byte_plain x (first_true (is_name_byte x) (list_all is_name_byte xs) h)) (name_plain xs (second_true (is_name_byte x) (list_all is_name_byte xs) h))
  where
    byte_plain : (b : ℕ) → is_name_byte b ≡ true → nat_lt 31 b ≡ true
    byte_plain b h = grind (arith, nat_tests)

name_part : (name : List ℕ) → IsTrue (is_name name) → IsPart 32 name
name_part name h =
    let size = nat_le 1 (length name) && nat_le (length name) 32 in
    record {
      plain = name_plain name (second_true size (list_all is_name_byte name) h);
      few = leb-true (length name) 32 (second_true (nat_le 1 (length name)) (nat_le (length name) 32) (first_true size (list_all is_name_byte name) h));
    }

pub link_is_counts : (link : VirtualLink) (entries : List Entry) → IsNamed link → length entries < 2 ^ 64
    → IsCountsLine Link (link_line link (link_counts entries link.id))
unfolding link_line count_field counts_of
link_is_counts link entries named few =
    let kept = filter (is_entry_of link.id) entries in
    let small = few_kept (is_entry_of link.id) entries few in
    begins Link 20 243 (decimal link.id.0) _ (number_part link.id.0 (omega (arith, named.id)))
    (more 33 210 _ _ (spaced 32 link.name (name_part link.name named.name))
    (more 35 175 _ _ (field (codes " frames") (length kept) (word_part 14 _ refl refl) small)
    (judged _ _ _ _ _ (few_of _ kept small) (few_of _ kept small) (few_of _ kept small) (few_of _ kept small) (few_of _ kept small))))
    refl

-- ---- the lines of filters and taps, and the total

pub filter_is_counts : (filter accepted : ℕ) → filter < 2 ^ 64 → accepted < 2 ^ 64 → IsCountsLine Filter (filter_line filter accepted)
unfolding filter_line count_field
filter_is_counts filter accepted few count =
    begins Filter 20 35 (decimal filter) _ (number_part filter few)
    (more 35 0 _ _ (field (codes " accepted") accepted (word_part 14 _ refl refl) count) newline)
    refl

reason_part : (r : BadReason) → IsPart 20 (reason_word r)
reason_part reason.Length = word_part 20 _ refl refl
reason_part reason.Fraction = word_part 20 _ refl refl
reason_part (reason.StampBack by) = word_part 20 _ refl refl
reason_part reason.TooMany = word_part 20 _ refl refl
reason_part reason.BlockLength = word_part 20 _ refl refl
reason_part reason.BlockLengthsDiffer = word_part 20 _ refl refl
reason_part reason.BlockBounds = word_part 20 _ refl refl
reason_part reason.UnknownInterface = word_part 20 _ refl refl
reason_part reason.Section = word_part 20 _ refl refl
reason_part reason.SimplePacket = word_part 20 _ refl refl
reason_part reason.StampRange = word_part 20 _ refl refl
reason_part reason.SeveralInterfaces = word_part 20 _ refl refl
reason_part reason.TooManyInterfaces = word_part 20 _ refl refl
reason_part reason.NoSuchInterface = word_part 20 _ refl refl
reason_part reason.FileHeader = word_part 20 _ refl refl
reason_part reason.NextFile = word_part 20 _ refl refl

wider : (xs : List ℕ) → IsPart 35 xs → IsPart 56 xs
wider xs p = record { plain = p.plain; few = omega (arith, p.few) }

ending_part : (e : Ending) → frames_before e < 2 ^ 64 → IsPart 56 (ending_text e)
ending_part (ending.Clean n) few = wider _ (field (codes " clean") n (word_part 14 _ refl refl) few)
ending_part (ending.Cut n) few = wider _ (field (codes " cut") n (word_part 14 _ refl refl) few)
ending_part (ending.Bad n reason) few =
    join_parts 35 21 _ _ (field (codes " bad") n (word_part 14 _ refl refl) few) (spaced 20 (reason_word reason) (reason_part reason))

pub tap_is_counts : (network : Network) (e : Ending) → frames_before e < 2 ^ 64 → IsCountsLine Tap (tap_line network e)
unfolding tap_line
tap_is_counts network e few =
    begins Tap 1 56 (network_letter network) _ (letter_part network) (more 56 0 _ _ (ending_part e few) newline) refl

classes : (cut runt oversize foreign unconfigured : ℕ) → cut < 2 ^ 64 → runt < 2 ^ 64 → oversize < 2 ^ 64 → foreign < 2 ^ 64 → unconfigured < 2 ^ 64
    → IsPart 175 (count_field (codes " cut") cut ++ (count_field (codes " runt") runt ++ (count_field (codes " oversize") oversize
    ++ (count_field (codes " foreign") foreign ++ count_field (codes " unconfigured") unconfigured))))
classes cut runt oversize foreign unconfigured a b d e f =
    join_parts 35 140 _ _ (field _ cut (word_part 14 _ refl refl) a)
    (join_parts 35 105 _ _ (field _ runt (word_part 14 _ refl refl) b)
    (join_parts 35 70 _ _ (field _ oversize (word_part 14 _ refl refl) d)
    (join_parts 35 35 _ _ (field _ foreign (word_part 14 _ refl refl) e) (field _ unconfigured (word_part 14 _ refl refl) f))))

pub total_is_counts : (entries : List Entry) → length entries < 2 ^ 64 → IsCountsLine Total (total_line (totals_of entries))
unfolding total_line classes_text totals_of count_field
total_is_counts entries few =
    begins Total 27 385 (codes "frames" ++ number_field (length entries)) _
    (join_parts 6 21 (codes "frames") (number_field (length entries)) (word_part 6 _ refl refl) (spaced 20 (decimal (length entries)) (number_part (length entries) few)))
    (more 35 350 _ _ (field (codes " accepted") _ (word_part 14 _ refl refl) (few_of _ entries few))
    (more 175 175 _ _ (classes _ _ _ _ _ (few_of _ entries few) (few_of _ entries few) (few_of _ entries few) (few_of _ entries few) (few_of _ entries few))
    (judged _ _ _ _ _ (few_of _ entries few) (few_of _ entries few) (few_of _ entries few) (few_of _ entries few) (few_of _ entries few))))
    refl

-- ---- the counts of filters

abbrev pub AreFew : List ℕ → Type 0
AreFew counts = AllByRecursion (λ n. n < 2 ^ 64) counts

few_taken : (n : ℕ) (counts : List ℕ) → AreFew counts → AreFew (take n counts)
few_taken zero counts h = tt
few_taken (suc n) [] h = tt
few_taken (suc n) (x ∷ counts) h = (h.0, few_taken n counts h.1)

pub filters_few : (n : ℕ) (entries : List Entry) → length entries < 2 ^ 64 → AreFew (take n (totals_of entries).filters)
unfolding totals_of
filters_few n entries few =
    let one = λ (p : Entry → Bool). few_of p entries few in
    few_taken n _ (one _, (one _, (one _, (one _, (one _, (one _, (one _, (one _, tt))))))))

pub filters_taken : (n : ℕ) (entries : List Entry) → length (take n (totals_of entries).filters) ≤ 8
unfolding totals_of
filters_taken n entries = omega (arith, length-take n (totals_of entries).filters)
