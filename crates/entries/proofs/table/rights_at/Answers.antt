-- `entries::table::rights_at` meets its contract: the array is `tabulate (pair_of pageCode) 512`, which is computed and compared byte by byte, and one law of
-- packed tables carries the rule to the index.
use mathlib.Core.Path.{◌∙◌}
use Rattle.words.specs.Lists.{tabulate}
use Rattle.words.specs.Bounded.{num}
use Rattle.entries.specs.Rights.{may_read, may_write, may_execute, rights_of}
use Rattle.entries.specs.Entries.{l2_entry, is_page_form, is_large_form, code_of, word_code, page_code}
use Rattle.entries.proofs.Decoding.{page_code_bound}
use Rattle.entries.proofs.Packing.{pair_of, packed_at-tabulate}
use Rattle.entries.proofs.table.rights_at.Goals as goal

pub returns : goal.returns
unfolding tabulate pair_of page_code word_code code_of l2_entry is_page_form is_large_form rights_of may_read may_write may_execute num
returns c = c.packed_at.ensures ∙ packed_at-tabulate page_code page_code_bound 512 c.args.low c.requires
