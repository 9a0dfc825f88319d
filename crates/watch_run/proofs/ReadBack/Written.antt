-- A written ledger, line by line from its end to its head.
use Rattle.std.proofs.Common.{◌≡◌, ℕ, ◌+◌, ◌^◌, ◌<◌, Bool, true, false, List, [], ◌∷◌, ◌++◌, length, map, take, Some, refl, sym, ap, subst, arith, append_assoc, append-nil}
use Rattle.std.proofs.lemmas.Bool.{false≢true}
use Rattle.std.specs.List.{AllByRecursion, join_with_byte}
use Rattle.afdx_frame.specs.declared.key.Network.TheVariants.{A, B}
use Rattle.ledger_text.proofs.Texts.{entry_text, reads_back}
use Rattle.ledger_text.specs.FrameText.{IsFrameLine, frame_fields, shown, version_of}
use Rattle.ledger_text.specs.Ledger.{ReadLine, ReadsLines, TakesLine}
use Rattle.ledger_text.specs.Order.{IsCounts, IsLineAt, head_line, may_follow}
use Rattle.ledger_text.specs.Places.{stage_after}
use Rattle.ledger_text.specs.declared.bounds.TheConstants.{BLOCK_LEN}
use Rattle.ledger_text.specs.declared.order.Counts.{Counts}
use Rattle.ledger_text.specs.declared.order.Counts.TheVariants as counts
use Rattle.ledger_text.specs.declared.order.LedgerLine.{LedgerLine}
use Rattle.ledger_text.specs.declared.order.LedgerLine.TheVariants as lines
use Rattle.ledger_text.specs.declared.order.LedgerStage.{LedgerStage}
use Rattle.ledger_text.specs.declared.order.LedgerStage.TheVariants as stages
use Rattle.pcap_io.specs.declared.recording.Ending.{Ending}
use Rattle.verdict_ledger.specs.Entry.{Entry}
use Rattle.verdict_ledger.specs.Tally.{link_counts, totals_of}
use Rattle.verdict_ledger.specs.declared.version.LedgerVersion.{LedgerVersion}
use Rattle.verdict_ledger.specs.declared.version.LedgerVersion.TheVariants.{Two, Three}
use Rattle.verdict_ledger.specs.Text.{end_text, filter_line, filter_lines, ledger_head, ledger_text, line_text, lines_text, link_line, link_lines, rest_text, tap_line, total_line}
use Rattle.vl_config.specs.Document.{VlTable}
use Rattle.vl_config.specs.Link.{VirtualLink}
use Rattle.watch_run.proofs.ReadBack.Counts.{AreFew, IsCountsLine, filter_is_counts, filters_few, filters_taken, link_is_counts, tap_is_counts, total_is_counts}
use Rattle.watch_run.proofs.ReadBack.Texts.{frame_part, is_plain, no_newline}
use Rattle.pcap_io.specs.Word.{frames_before}
use Rattle.watch_run.specs.ReadBack.{AreWritable, IsNamed, written_lines}

-- the bytes are lines that say this, the first of which stands here, up to that of all frames
abbrev Whole : LedgerStage → List ℕ → List LedgerLine → Type 0
Whole stage bytes said =
    (rs : List ReadLine) × (map (λ r. r.line) rs ≡ said) × ReadsLines stage (Some bytes) rs (stages.Counts counts.Total) (Some [])

-- one line more before them
line_before : (stage : LedgerStage) (text bytes rest : List ℕ) (line : LedgerLine) (said : List LedgerLine) → bytes ≡ text ++ 10 ∷ [] → is_plain text ≡ true
    → length text < BLOCK_LEN → IsLineAt stage text line → Whole (stage_after line) rest said → Whole stage (bytes ++ rest) (line ∷ said)
line_before stage text bytes rest line said is plain short stands (rs, same, reads) =
    let first : TakesLine stage (Some (bytes ++ rest)) (Some rest) (record { text = text; line = line }) = record {
      one = no_newline text plain;
      short = short;
      gone = ap (λ (l : List ℕ). l ++ rest) is;
      stands = stands;
    } in
    (record { text = text; line = line } ∷ rs, ap (λ (l : List LedgerLine). line ∷ l) same, (Some rest, first, reads))

-- a line of counts may stand there
abbrev permits : LedgerStage → Counts → Bool
permits stages.Head kind = false
permits (stages.Frames version) kind = true
permits (stages.Counts last) kind = may_follow last kind

stands_there : (stage : LedgerStage) (kind : Counts) (text : List ℕ) → permits stage kind ≡ true → IsCounts text kind → IsLineAt stage text (lines.Counts kind)
stands_there stages.Head kind text h is = absurd (false≢true h)
stands_there (stages.Frames version) kind text h is = is
stands_there (stages.Counts last) kind text h is = (is, h)

counts_before : (stage : LedgerStage) (kind : Counts) (bytes rest : List ℕ) (said : List LedgerLine) → permits stage kind ≡ true → IsCountsLine kind bytes
    → Whole (stages.Counts kind) rest said → Whole stage (bytes ++ rest) (lines.Counts kind ∷ said)
counts_before stage kind bytes rest said may line whole =
    line_before stage line.text bytes rest (lines.Counts kind) said line.is line.plain line.short (stands_there stage kind line.text may line.stands) whole

-- ---- the taps and the total

abbrev last_lines : List LedgerLine
last_lines = lines.Counts counts.Tap ∷ lines.Counts counts.Tap ∷ lines.Counts counts.Total ∷ []

taps_and_total : (stage : LedgerStage) (entries : List Entry) (a b : Ending) → permits stage counts.Tap ≡ true → length entries < 2 ^ 64 → frames_before a < 2 ^ 64
    → frames_before b < 2 ^ 64 → Whole stage (tap_line A a ++ (tap_line B b ++ total_line (totals_of entries))) last_lines
taps_and_total stage entries a b may few few_a few_b =
    let none : Whole (stages.Counts counts.Total) [] [] = ([], refl, (refl, refl)) in
    let total = total_line (totals_of entries) in
    let ended : Whole (stages.Counts counts.Tap) (total ++ []) (lines.Counts counts.Total ∷ []) =
    counts_before (stages.Counts counts.Tap) counts.Total total [] [] refl (total_is_counts entries few) none in
    let last : Whole (stages.Counts counts.Tap) total (lines.Counts counts.Total ∷ []) =
    subst (λ (l : List ℕ). Whole (stages.Counts counts.Tap) l (lines.Counts counts.Total ∷ [])) (append-nil total) ended in
    counts_before stage counts.Tap (tap_line A a) _ _ may (tap_is_counts A a few_a)
    (counts_before (stages.Counts counts.Tap) counts.Tap (tap_line B b) _ _ refl (tap_is_counts B b few_b) last)

-- ---- the filters and the links before them

taps_follow : (stage : LedgerStage) → permits stage counts.Filter ≡ true → permits stage counts.Tap ≡ true
taps_follow stages.Head h = absurd (false≢true h)
taps_follow (stages.Frames version) h = refl
taps_follow (stages.Counts counts.Link) h = refl
taps_follow (stages.Counts counts.Filter) h = refl
taps_follow (stages.Counts counts.Tap) h = refl
taps_follow (stages.Counts counts.Total) h = absurd (false≢true h)

filters_follow : (stage : LedgerStage) → permits stage counts.Link ≡ true → permits stage counts.Filter ≡ true
filters_follow stages.Head h = absurd (false≢true h)
filters_follow (stages.Frames version) h = refl
filters_follow (stages.Counts counts.Link) h = refl
filters_follow (stages.Counts counts.Filter) h = absurd (false≢true h)
filters_follow (stages.Counts counts.Tap) h = absurd (false≢true h)
filters_follow (stages.Counts counts.Total) h = absurd (false≢true h)

filters_before : (stage : LedgerStage) (filter : ℕ) (accepted : List ℕ) (rest : List ℕ) → permits stage counts.Filter ≡ true → AreFew accepted
    → filter + length accepted < 2 ^ 64 → ((after : LedgerStage) → permits after counts.Tap ≡ true → Whole after rest last_lines)
    → Whole stage (filter_lines filter accepted ++ rest) (map (λ n. lines.Counts counts.Filter) accepted ++ last_lines)
filters_before stage filter [] rest may few below ends = ends stage (taps_follow stage may)
filters_before stage filter (n ∷ accepted) rest may few below ends =
    let others : Whole (stages.Counts counts.Filter) (filter_lines (filter + 1) accepted ++ rest) (map (λ n. lines.Counts counts.Filter) accepted ++ last_lines) =
    filters_before (stages.Counts counts.Filter) (filter + 1) accepted rest refl few.1 (omega (arith, below)) ends in
    subst (λ (l : List ℕ). Whole stage l (lines.Counts counts.Filter ∷ (map (λ n. lines.Counts counts.Filter) accepted ++ last_lines)))
    (sym (append_assoc (filter_line filter n) (filter_lines (filter + 1) accepted) rest))
    (counts_before stage counts.Filter (filter_line filter n) (filter_lines (filter + 1) accepted ++ rest) _ may (filter_is_counts filter n (omega (arith, below)) few.0) others)

links_before : (stage : LedgerStage) (entries : List Entry) (links : List VirtualLink) (rest : List ℕ) (said : List LedgerLine) → permits stage counts.Link ≡ true
    → length entries < 2 ^ 64 → AllByRecursion IsNamed links → ((after : LedgerStage) → permits after counts.Filter ≡ true → Whole after rest said)
    → Whole stage (link_lines (link_counts entries) links ++ rest) (map (λ link. lines.Counts counts.Link) links ++ said)
links_before stage entries [] rest said may few named ends = ends stage (filters_follow stage may)
links_before stage entries (link ∷ links) rest said may few named ends =
    let others : Whole (stages.Counts counts.Link) (link_lines (link_counts entries) links ++ rest) (map (λ link. lines.Counts counts.Link) links ++ said) =
    links_before (stages.Counts counts.Link) entries links rest said refl few named.1 ends in
    subst (λ (l : List ℕ). Whole stage l (lines.Counts counts.Link ∷ (map (λ link. lines.Counts counts.Link) links ++ said)))
    (sym (append_assoc (link_line link (link_counts entries link.id)) (link_lines (link_counts entries) links) rest))
    (counts_before stage counts.Link (link_line link (link_counts entries link.id)) (link_lines (link_counts entries) links ++ rest) _ may
    (link_is_counts link entries named.0 few) others)

-- ---- the frames before them, and the head

same_version : (version : LedgerVersion) (e : Entry) → version_of (shown version e) ≡ version
same_version Two e = refl
same_version Three e = refl

frame_lines_before : (version : LedgerVersion) (entries : List Entry) (rest : List ℕ) (said : List LedgerLine)
    → AllByRecursion (λ e. IsFrameLine version (shown version e)) entries → Whole (stages.Frames version) rest said
    → Whole (stages.Frames version) (lines_text version entries ++ rest) (map (λ e. lines.Frame (shown version e)) entries ++ said)
frame_lines_before version [] rest said h whole = whole
frame_lines_before version (e ∷ entries) rest said h whole =
    let stage = stages.Frames version in
    let text = join_with_byte 32 (frame_fields (shown version e)) in
    let part = frame_part version (shown version e) h.0 in
    let others : Whole stage (lines_text version entries ++ rest) (map (λ e. lines.Frame (shown version e)) entries ++ said) =
    frame_lines_before version entries rest said h.1 whole in
    let after : Whole (stage_after (lines.Frame (shown version e))) (lines_text version entries ++ rest) (map (λ e. lines.Frame (shown version e)) entries ++ said) =
    subst (λ (n : LedgerVersion). Whole (stages.Frames n) (lines_text version entries ++ rest) (map (λ e. lines.Frame (shown version e)) entries ++ said))
    (sym (same_version version e)) others in
    subst (λ (l : List ℕ). Whole stage l (lines.Frame (shown version e) ∷ (map (λ e. lines.Frame (shown version e)) entries ++ said)))
    (sym (append_assoc (line_text version e) (lines_text version entries) rest))
    (line_before stage text (line_text version e) (lines_text version entries ++ rest) (lines.Frame (shown version e)) _ (entry_text version e) part.plain
    (omega (arith, part.few)) (reads_back version e text h.0 (entry_text version e)) after)

head_before : (version : LedgerVersion) (rest : List ℕ) (said : List LedgerLine) → Whole (stages.Frames version) rest said
    → Whole stages.Head (ledger_head version ++ rest) (lines.Head version ∷ said)
unfolding ledger_head
head_before Two rest said whole = line_before stages.Head (head_line Two) (head_line Two ++ 10 ∷ []) rest (lines.Head Two) said refl refl (omega arith) refl whole
head_before Three rest said whole = line_before stages.Head (head_line Three) (head_line Three ++ 10 ∷ []) rest (lines.Head Three) said refl refl (omega arith) refl whole

pub written : (version : LedgerVersion) (vl_table : VlTable) (filters : ℕ) (entries : List Entry) (a b : Ending) → AreWritable version vl_table.links entries a b
    → Whole stages.Head (ledger_text version vl_table filters entries a b) (written_lines version vl_table filters entries)
written version vl_table filters entries a b h =
    let accepted = take filters (totals_of entries).filters in
    let ends = λ (stage : LedgerStage) (may : permits stage counts.Tap ≡ true). taps_and_total stage entries a b may h.few h.few_a h.few_b in
    let after_links = λ (stage : LedgerStage) (may : permits stage counts.Filter ≡ true).
    filters_before stage 0 accepted _ may (filters_few filters entries h.few) (omega (arith, filters_taken filters entries)) ends in
    let after_frames = links_before (stages.Frames version) entries vl_table.links (end_text (totals_of entries) filters a b) _ refl h.few h.named after_links in
    head_before version _ _ (frame_lines_before version entries (rest_text vl_table filters entries a b) _ h.shown after_frames)
