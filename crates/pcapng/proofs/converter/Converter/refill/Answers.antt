use Rattle.std.proofs.Common.{rules, ◌≡◌, ℕ, ◌+◌, ◌-◌, ◌++◌, List, length, take, drop, slice_range, refl, sym, ap, ◌∙◌}
use Rattle.std.proofs.KnownBytes.{Keeps-refl, Keeps-trans}
use Rattle.std.proofs.lemmas.List.{take_at}
use Rattle.pcapng.proofs.Handed.{none_given, keeps_at, keeps_prepend}
use Rattle.pcapng.proofs.converter.Converter.refill.Goals as goal

pub returns-in_err-came-clause-given : goal.returns-in_err-came-clause-given
returns-in_err-came-clause-given g c =
    let v = c.args.self.now in
    none_given (slice_range v.header v.header_from v.header_to) (slice_range v.block.items v.body_from v.body_to) c.read_behind.new.block c.requires.given

pub returns-clause-given : goal.returns-clause-given
returns-clause-given g c =
    let v = c.args.self.now in
    none_given (slice_range v.header v.header_from v.header_to) (slice_range v.block.items v.body_from v.body_to) c.read_behind.new.block c.requires.given

pub returns-in_err-came-clause-kept : goal.returns-in_err-came-clause-kept
returns-in_err-came-clause-kept g c =
    let v = c.args.self.now in
    let n = v.end - v.start in
    let items = c.read_behind.new.block in
    let before : slice_range c.as_mut_slice.result.now 0 n ≡ slice_range v.block.items v.start v.end =
    ap (λ (l : List ℕ). slice_range l 0 n) c.as_mut_slice.ensures.value ∙ (c.grow.ensures.bytes ∙ c.move_to_front.ensures.bytes) in
    let size : length items ≡ c.grow.new.block.len = search rules in
    let text = take c.grow.new.block.len (items ++ drop (length items) c.grow.new.block.items) in
    let restored : text ≡ items = take_at items (drop (length items) c.grow.new.block.items) c.grow.new.block.len size in
    let same : slice_range text 0 n ≡ slice_range v.block.items v.start v.end = ap (λ (l : List ℕ). slice_range l 0 n) restored ∙ (c.in_err-came.ensures.kept ∙ before) in
    keeps_at _ _ _ _ _ _ _ _ _ _ (none_given (slice_range v.header v.header_from v.header_to) (slice_range v.block.items v.body_from v.body_to) items c.requires.given ∙ sym c.requires.given)
    refl refl (keeps_prepend _ _ _ _ same c.in_err-came.ensures.left)

pub returns-clause-kept : goal.returns-clause-kept
returns-clause-kept g c =
    let v = c.args.self.now in
    let n = v.end - v.start in
    let items = c.read_behind.new.block in
    let before : slice_range c.as_mut_slice.result.now 0 n ≡ slice_range v.block.items v.start v.end =
    ap (λ (l : List ℕ). slice_range l 0 n) c.as_mut_slice.ensures.value ∙ (c.grow.ensures.bytes ∙ c.move_to_front.ensures.bytes) in
    let size : length items ≡ c.grow.new.block.len = search rules in
    let text = take c.grow.new.block.len (items ++ drop (length items) c.grow.new.block.items) in
    let restored : text ≡ items = take_at items (drop (length items) c.grow.new.block.items) c.grow.new.block.len size in
    let more : slice_range text 0 (n + c.in_ok-came.came) ≡ slice_range items 0 (n + c.in_ok-came.came) = ap (λ (l : List ℕ). slice_range l 0 (n + c.in_ok-came.came)) restored in
    keeps_at _ _ _ _ _ _ _ _ _ _ (none_given (slice_range v.header v.header_from v.header_to) (slice_range v.block.items v.body_from v.body_to) items c.requires.given ∙ sym c.requires.given)
    refl refl (Keeps-trans _ _ _ (Keeps-trans _ _ _ (keeps_prepend _ _ _ _ before (Keeps-refl (g.S.TapSource.remaining c.args.source.now))) c.in_ok-came.ensures.read)
    (keeps_prepend _ _ _ _ more (Keeps-refl (g.S.TapSource.remaining c.read_behind.new.source))))
