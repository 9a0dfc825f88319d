-- The text that is written of a round, out of that of its chunks.
use Rattle.std.proofs.Common.{◌≡◌, ℕ, ◌+◌, ◌-◌, ◌≤◌, true, List, [], ◌∷◌, ◌++◌, length, map, take, drop, slice_range, sym, ap, ◌∙◌, arith}
use Rattle.std.proofs.lemmas.List.{length-map, length-take-le, map-append, take-append-drop, take_all}
use Rattle.std.proofs.Math.Seq.{take-append-add}
use Rattle.std.proofs.lemmas.List.Concat.{flat_map-append}
use Rattle.afdx_frame.specs.Frame.{Frame}
use Rattle.filter_workers.specs.Filters.{mask_by}
use Rattle.watch_run.specs.Entries.{AreEntries, AreJoined, AreNone}
use Rattle.watch_run.specs.Filters.{Making, entry_packet, keep_by, packets_of}
use Rattle.watch_run.specs.Shared.{AreChunks, IsChunk}
use Rattle.watch_run.specs.declared.entries.Entries.{Entries}
use Rattle.watch_run.specs.declared.shared.ChunkEntries.{ChunkEntries}
use Rattle.watch_run.proofs.Writing.{entries_append}
use Rattle.verdict_ledger.specs.Entry.{entries_of}
use Rattle.verdict_ledger.specs.Text.{line_text, lines_text}
use Rattle.vl_judge.specs.Judgement.{Judgement}
use Rattle.worker_pool.specs.Chunks.{AreBatches, chunk_end}

-- nothing is written of no frames
pub none_written : (ps : Making) (entries : Entries) → AreNone entries → AreEntries ps [] [] entries
none_written ps entries none = record {
  keeps_are = none.keeps_are;
  masks_are = none.masks_are;
  packets_are = none.packets_are;
  lines_are = none.lines_are;
}

-- all that is written of some frames, and then of more
pub both_written : (ps : Making) (fs gs : List Frame) (vs ws : List Judgement) (first more both : Entries) → length vs ≡ length fs →
    AreEntries ps fs vs first → AreEntries ps gs ws more → AreJoined first more both → AreEntries ps (fs ++ gs) (vs ++ ws) both
both_written ps fs gs vs ws first more both judged one two joined =
    let keeps = ap length one.keeps_are ∙ length-map fs (keep_by ps.filters) in
    let masks = ap length one.masks_are ∙ length-map fs (mask_by ps.filters) in
    let whole = sym (entries_append fs gs vs ws first.keeps.items more.keeps.items first.masks.items more.masks.items judged keeps masks)
    ∙ (ap (λ ks. entries_of (fs ++ gs) (vs ++ ws) ks (first.masks.items ++ more.masks.items)) (sym joined.keeps_are)
    ∙ ap (λ ms. entries_of (fs ++ gs) (vs ++ ws) both.keeps.items ms) (sym joined.masks_are)) in
    record {
      keeps_are = joined.keeps_are ∙ (ap (λ l. l ++ more.keeps.items) one.keeps_are ∙ (ap (λ l. map (keep_by ps.filters) fs ++ l) two.keeps_are ∙ sym (map-append (keep_by ps.filters) fs gs)));
      masks_are = joined.masks_are ∙ (ap (λ l. l ++ more.masks.items) one.masks_are ∙ (ap (λ l. map (mask_by ps.filters) fs ++ l) two.masks_are ∙ sym (map-append (mask_by ps.filters) fs gs)));
      packets_are = joined.packets_are
          ∙ (ap (λ l. l ++ more.packets.items) one.packets_are
          ∙ (ap (λ l. packets_of ps.format (entries_of fs vs first.keeps.items first.masks.items) ++ l) two.packets_are
          ∙ (sym (flat_map-append (entry_packet ps.format) (entries_of fs vs first.keeps.items first.masks.items) (entries_of gs ws more.keeps.items more.masks.items))
          ∙ ap (packets_of ps.format) whole)));
      lines_are = joined.lines_are
          ∙ (ap (λ l. l ++ more.lines.items) one.lines_are
          ∙ (ap (λ l. lines_text ps.version (entries_of fs vs first.keeps.items first.masks.items) ++ l) two.lines_are
          ∙ (sym (flat_map-append (line_text ps.version) (entries_of fs vs first.keeps.items first.masks.items) (entries_of gs ws more.keeps.items more.masks.items))
          ∙ ap (lines_text ps.version) whole)));
    }

-- a list up to one index, and on up to another
longer_front : {X : Type 0} (from to : ℕ) (xs : List X) → from ≤ to → from ≤ length xs → take from xs ++ slice_range xs from to ≡ take to xs
longer_front from to xs le within =
    let front = take from xs in
    let size : length front ≡ from = length-take-le from xs within in
    let all : from + (to - from) ≡ to = omega arith in
    sym (rw all at (ap (take (from + (to - from))) (sym (take-append-drop from xs)) ∙ ap (λ (m : ℕ). take (m + (to - from)) (front ++ drop from xs)) (sym size)
    ∙ take-append-add front (drop from xs) (to - from)))

-- This is what is written of the frames before a number, and the rest of the chunks begins there.
pub record IsGathered (ps : Making) (frames : List Frame) (verdicts : List Judgement) (size : ℕ) (rest : List ChunkEntries) (entries : Entries) : Type 0 where
  pub from : ℕ
  pub within : from ≤ length frames
  pub written : AreEntries ps (take from frames) (take from verdicts) entries
  pub chunks : AreBatches (IsChunk ps frames verdicts) size (length frames) from rest

pub gathers_none : (ps : Making) (frames : List Frame) (verdicts : List Judgement) (size : ℕ) (chunks : List ChunkEntries) (entries : Entries) →
    AreChunks ps frames verdicts size chunks → AreNone entries → IsGathered ps frames verdicts size chunks entries
gathers_none ps frames verdicts size chunks entries are none = record {
  from = 0;
  within = omega arith;
  written = none_written ps entries none;
  chunks = are.are;
}

pub gathers_more : (ps : Making) (frames : List Frame) (verdicts : List Judgement) (size : ℕ) (rest after : List ChunkEntries) (chunk : ChunkEntries) (old new : Entries) →
    length verdicts ≡ length frames → rest ≡ chunk ∷ after → chunk.complete ≡ true → AreJoined old chunk.entries new →
    IsGathered ps frames verdicts size rest old → IsGathered ps frames verdicts size after new
gathers_more ps frames verdicts size rest after chunk old new judged same complete joined h =
    let n = h.from in
    let (less, is, others) = rw same at h.chunks in
    let to = chunk_end size (length frames) n in
    let upto : n ≤ to = omega (arith, less) in
    let both = both_written ps (take n frames) (slice_range frames n to) (take n verdicts) (slice_range verdicts n to) old chunk.entries new
    (length-take-le n verdicts (omega (arith, judged, h.within)) ∙ sym (length-take-le n frames h.within)) h.written (is complete) joined in
    record {
      from = to;
      within = omega arith;
      written = rw (longer_front n to frames upto h.within, longer_front n to verdicts upto (omega (arith, judged, h.within))) at both;
      chunks = others;
    }

pub gathers_all : (ps : Making) (frames : List Frame) (verdicts : List Judgement) (size : ℕ) (rest : List ChunkEntries) (entries : Entries) →
    length verdicts ≡ length frames → rest ≡ [] → IsGathered ps frames verdicts size rest entries → AreEntries ps frames verdicts entries
gathers_all ps frames verdicts size rest entries judged none h =
    let all : h.from ≡ length frames = rw none at h.chunks in
    rw (take_all h.from frames (omega (arith, all)), take_all h.from verdicts (omega (arith, all, judged))) at h.written
