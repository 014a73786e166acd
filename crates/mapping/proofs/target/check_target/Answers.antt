-- Each return is decided by the tests up to its own.
use mathlib.Core.Bool.{false}
use mathlib.Core.Path.{◌≡◌}
use native.Mathlib.Omega.{arith}
use Rattle.words.proofs.Bounded.{told}
use Rattle.rules.specs.Tables.{target_blocks}
use Rattle.rules.specs.Map.{unfit_target, clashing_target, unsigned_target}
use Rattle.ledger.specs.Regions.{store_of}
use Rattle.ledger.proofs.Judge.{decides, none, here, past}
use Rattle.mapping.specs.Meaning.{form_of}
use Rattle.mapping.proofs.Mappings.{map_spreads}
use Rattle.mapping.proofs.target.check_target.Goals as goal
use Rattle.mapping.proofs.target.check_target.Goals.{Else-executes, Else-is_clashing, Else-is_unsigned}

-- what has passed, by the place in the code
fit : (c : Else-executes) → (let a = c.args in unfit_target (store_of a.region.now) a.request.block a.request.index a.request.target (target_blocks (form_of a.form)) a.request.rights ≡ false)
unfolding unfit_target
fit c =
    let m = c.target_blocks-m.ensures.is in
    rw (told (rw m at c.is_outside.ensures) c.if-is_outside.false, told (rw m at c.writes_table.ensures) c.if-writes_table.false)
    (told (rw m at c.executes.ensures) c.if-executes.false)

alone : (c : Else-is_clashing) → (let a = c.args in clashing_target (store_of a.region.now) a.request.target (target_blocks (form_of a.form)) a.request.rights ≡ false)
alone c = told (rw c.target_blocks-m.ensures.is at c.is_clashing.ensures) c.if-is_clashing.false

known : (c : Else-is_unsigned) → (let a = c.args in unsigned_target a.golden.now (store_of a.region.now) a.request.target (target_blocks (form_of a.form)) a.request.rights ≡ false)
known c = told (rw c.target_blocks-m.ensures.is at c.is_unsigned.ensures) c.if-is_unsigned.false

pub returns-then-is_outside : goal.returns-then-is_outside
unfolding unfit_target
returns-then-is_outside c = decides (here (rw (told (rw c.target_blocks-m.ensures.is at c.is_outside.ensures) c.if-is_outside.true)))

pub returns-then-writes_table : goal.returns-then-writes_table
unfolding unfit_target
returns-then-writes_table c =
    let m = c.target_blocks-m.ensures.is in
    decides (here (rw (told (rw m at c.is_outside.ensures) c.if-is_outside.false, told (rw m at c.writes_table.ensures) c.if-writes_table.true)))

pub overflow_add-request : goal.overflow_add-request
overflow_add-request c = omega (arith, c.requires.holder_fits)

pub returns-then-executes : goal.returns-then-executes
unfolding unfit_target
returns-then-executes c =
    let m = c.target_blocks-m.ensures.is in
    decides (here (rw (told (rw m at c.is_outside.ensures) c.if-is_outside.false, told (rw m at c.writes_table.ensures) c.if-writes_table.false)
    (told (rw m at c.executes.ensures) c.if-executes.true)))

pub returns-then-is_clashing : goal.returns-then-is_clashing
returns-then-is_clashing c = decides (past (fit (goal.at.returns-then-is_clashing c).Else-executes) (here (told (rw c.target_blocks-m.ensures.is at c.is_clashing.ensures) c.if-is_clashing.true)))

pub returns-then-is_unsigned : goal.returns-then-is_unsigned
returns-then-is_unsigned c =
    let at = goal.at.returns-then-is_unsigned c in
    decides (past (fit at.Else-executes) (past (alone at.Else-is_clashing) (here (told (rw c.target_blocks-m.ensures.is at c.is_unsigned.ensures) c.if-is_unsigned.true))))

pub returns-then-blocks_overrun : goal.returns-then-blocks_overrun
returns-then-blocks_overrun c =
    let at = goal.at.returns-then-blocks_overrun c in
    let overrun = c.blocks_overrun.ensures _ _ (map_spreads (form_of c.args.form) c.args.request.target c.args.request.rights c.requires.e_value c.target_blocks-m.ensures.is) in
    decides (past (fit at.Else-executes) (past (alone at.Else-is_clashing) (past (known at.Else-is_unsigned) (here (told overrun c.if-blocks_overrun.true)))))

pub returns : goal.returns
returns c =
    let at = goal.at.returns c in
    let overrun = c.blocks_overrun.ensures _ _ (map_spreads (form_of c.args.form) c.args.request.target c.args.request.rights c.requires.e_value c.target_blocks-m.ensures.is) in
    decides (past (fit at.Else-executes) (past (alone at.Else-is_clashing) (past (known at.Else-is_unsigned) (past (told overrun c.if-blocks_overrun.false) none))))
