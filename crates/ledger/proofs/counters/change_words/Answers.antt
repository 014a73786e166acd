use mathlib.Core.Path.{◌≡◌, refl, ◌∙◌, ap}
use native.Mathlib.Omega.{arith}
use lib.ListN.{length}
use Rattle.ledger.specs.Counters.{changed}
use Rattle.ledger.specs.Layout.{field_word}
use Rattle.ledger.specs.Meaning.{change_of}
use Rattle.ledger.proofs.Fields.{field_in_record}
use Rattle.ledger.proofs.Counting.{length-changed, changeable_next, changed_turn}
use Rattle.ledger.proofs.counters.change_words.Goals as goal

pub loop-i-init : goal.loop-i-init
unfolding changed
loop-i-init c = (omega arith, refl)

pub change_word-requires : goal.change_word-requires
change_word-requires c = let at = c.loop-i in let a = c.args in (omega (arith, ap length at.invariant.1, length-changed (change_of a.change) a.ledger.now (field_word a.field) a.b at.i), changeable_next _ _ _ _ at.i (field_in_record a.field) at.invariant.1 (c.requires.1 at.i (omega arith)))

pub loop-i-preserved : goal.loop-i-preserved
loop-i-preserved c = let at = c.loop-i in (omega arith, changed_turn _ _ _ _ at.i (field_in_record c.args.field) at.invariant.1 c.change_word.ensures)

pub shape_of-ledger : goal.shape_of-ledger
shape_of-ledger c = ap length c.loop-i.invariant.1 ∙ length-changed _ _ _ _ _

pub returns : goal.returns
returns c = let e : c.loop-i.i ≡ c.args.m = omega arith in rw e at c.loop-i.invariant.1
