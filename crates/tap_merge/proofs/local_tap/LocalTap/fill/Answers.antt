use Rattle.std.proofs.Common.{rules, List, sym, subst, ◌∙◌}
use Rattle.pcap_io.specs.Position.{Reading}
use Rattle.pcap_io.specs.Reader.{reading_of}
use Rattle.tap_queue.specs.Items.{Gives}
use Rattle.tap_queue.specs.Ring.{put_items, put_of, reader_of}
use Rattle.tap_queue.specs.declared.item.TapItem.{TapItem}
use Rattle.tap_queue.proofs.Given.{gives_append}
use Rattle.tap_merge.proofs.local_tap.LocalTap.fill.Goals as goal

pub returns-then-not-self-clause-read : goal.returns-then-not-self-clause-read
returns-then-not-self-clause-read g c =
    let old = c.args.self.now in
    let first : Reading = reading_of g.S.TapSource.remaining g.S.TapSource.failures g.S.TapSource.told old.promise.reader.value in
    let mid : Reading = reading_of g.S.TapSource.remaining g.S.TapSource.failures g.S.TapSource.told (reader_of old.fed) in
    let after : Reading = reading_of g.S.TapSource.remaining g.S.TapSource.failures g.S.TapSource.told (reader_of c.fill-self.new.fed) in
    let items = put_items (put_of old.fed) in
    let puts = c.fill-self.ensures.put in
    let going = sym old.ended ∙ c.if-not-self.true in (
      search rules,
      subst (λ (l : List TapItem). Gives first l after) (sym puts.put) (gives_append first mid after items puts.more c.requires.1 going puts.gives),
    )
