-- `lines::put_byte` meets its contract: one store is a list of one byte stored.
use mathlib.Core.Path.{refl}
use Rattle.words.specs.Lists.{put_list}
use Rattle.lines.proofs.put_byte.Goals as goal

pub returns : goal.returns
unfolding put_list
returns c = record { bytes = refl; end = refl }
