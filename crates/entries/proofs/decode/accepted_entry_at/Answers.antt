-- `entries::decode::accepted_entry_at` meets its contract: bits 1..0 tell a fault at both levels, and a page at level 2.
use mathlib.Core.Path.{sym, ◌∙◌, ap₂}
use Rattle.entries.specs.Meaning.{level_of}
use Rattle.entries.specs.Entries.{page}
use Rattle.entries.proofs.Decoding.{accepted_page_bit}
use Rattle.entries.proofs.decode.accepted_entry_at.Goals as goal

pub page_mapping-requires : goal.page_mapping-requires
page_mapping-requires c =
    let a = c.args in
    (accepted_page_bit (level_of a.level) a.mem.now a.j c.word-w.result c.word-w.ensures c.requires.j_value (sym c.has_page_bit.ensures ∙ c.if-has_page_bit.true)).0

pub returns-then-has_page_bit : goal.returns-then-has_page_bit
returns-then-has_page_bit c =
    let a = c.args in
    ap₂ page c.page_mapping.ensures.0 c.page_mapping.ensures.1
    ∙ (accepted_page_bit (level_of a.level) a.mem.now a.j c.word-w.result c.word-w.ensures c.requires.j_value (sym c.has_page_bit.ensures ∙ c.if-has_page_bit.true)).1
